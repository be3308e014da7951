use Rattle.std.proofs.Common.{◌≡◌, true, map, is_some, ap, sym, subst, ◌∙◌}
use Rattle.built_modules.specs.Picks.{slot_at}
use Rattle.built_modules.proofs.Taking.{all_there, picked_of}
use Rattle.built_modules.proofs.picking.picked.Goals as goal

pub taken_all-requires-clause-there : goal.taken_all-requires-clause-there
taken_all-requires-clause-there g c = λ m is. subst (λ slots. is_some (slot_at slots m) ≡ true) (sym c.in_ok-slots.ensures) (all_there c.args.items m (c.requires.below m is))

pub returns : goal.returns
returns g c = picked_of c.args.items c.args.places.now c.in_ok-list.list (c.in_ok-list.ensures ∙ ap (λ slots. map (slot_at slots) c.args.places.now) c.in_ok-slots.ensures)
