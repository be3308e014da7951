use Rattle.std.proofs.Common.{◌≡◌, ◌++◌, drop, zip}
use Rattle.std.specs.List.{list_any}
use Rattle.profiles.specs.Activation.{places_from}
use Rattle.profiles.specs.Judging.{is_placed}
use Rattle.profiles.proofs.activation.places.Given as goal

abbrev pub invariant-loop-at : goal.invariant-loop-at
invariant-loop-at l = l.list ++ places_from (is_placed l.judge l.any) l.at (zip (drop l.at l.chosen) (drop l.at l.profiles)) ≡ places_from (is_placed l.judge (list_any (λ b. b) l.chosen)) 0 (zip l.chosen l.profiles)
