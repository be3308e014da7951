use Rattle.std.proofs.Common.{◌≡◌, ◌==◌, drop, find}
use Rattle.build_core.specs.Slots.{slot_number}
use Rattle.board.proofs.outputs.output_in.Given as goal

-- the output is among those that are left where it is among all
abbrev pub invariant-loop-output : goal.invariant-loop-output
invariant-loop-output l = find (λ o. slot_number o.slot == slot_number l.slot) (drop l.output-index l.own) ≡ find (λ o. slot_number o.slot == slot_number l.slot) l.own
