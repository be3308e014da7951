use Rattle.std.proofs.Common.{◌≡◌, drop}
use Rattle.std.specs.HashMap.{get}
use Rattle.std.specs.List.{position_from}
use Rattle.std.specs.Option.{option_or}
use Rattle.module_plan.proofs.places.places_of.Given as goal

-- the places so far, and those of the items that are left
abbrev pub invariant-loop-at : goal.invariant-loop-at
invariant-loop-at g l = (q : g.row.K.Denot) → option_or (get g.K.PartialEq.eq l.places q) (position_from (g.K.PartialEq.eq q) l.at (drop l.at l.items)) ≡ position_from (g.K.PartialEq.eq q) 0 l.items
