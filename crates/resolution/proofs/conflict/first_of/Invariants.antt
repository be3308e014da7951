use Rattle.std.proofs.Common.{◌≡◌, drop, find}
use Rattle.std.specs.HashSet.{contains}
use Rattle.model_merge.specs.Keyed.{same_key}
use Rattle.resolution.proofs.conflict.first_of.Given as goal

abbrev pub invariant-loop-place : goal.invariant-loop-place
invariant-loop-place l = find (λ w. contains same_key l.keys w.edge.key) l.winners ≡ find (λ w. contains same_key l.keys w.edge.key) (drop l.place l.winners)
