use Rattle.std.proofs.Common.{◌≡◌, ◌++◌, ℕ, List, drop}
use Rattle.model_merge.specs.Names.{places_from, places_in}
use Rattle.model_merge.proofs.configuration.places_of.Given as goal

abbrev pub invariant-loop-place : goal.invariant-loop-place
invariant-loop-place l = (q : List ℕ) → places_in l.places q ++ places_from q l.place (drop l.place l.settings) ≡ places_from q 0 l.settings
