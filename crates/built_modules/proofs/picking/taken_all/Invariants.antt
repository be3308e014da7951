use Rattle.built_modules.proofs.Taking.{IsTaking}
use Rattle.built_modules.proofs.picking.taken_all.Given as goal

abbrev pub invariant-loop-place : goal.invariant-loop-place
invariant-loop-place g l = IsTaking l.places l.initial.slots.items l.place-index l.slots.items l.list
