use Rattle.std.proofs.Common.{◌≡◌, ◌||◌, ◌++◌, drop, flat_map}
use Rattle.std.specs.HashSet.{contains}
use Rattle.mvn_base.specs.declared.key.Key.{Key}
use Rattle.model_merge.specs.Keyed.{same_key}
use Rattle.resolution.specs.Conflicts.{some_conflict}
use Rattle.resolution.proofs.conflict.conflicting.Given as goal

abbrev pub invariant-loop-edges : goal.invariant-loop-edges
invariant-loop-edges l = (key : Key) → (contains same_key l.keys key || some_conflict l.winners (flat_map (λ edges. edges) (drop l.edges-index l.below)) key)
    ≡ some_conflict l.winners (l.own ++ flat_map (λ edges. edges) l.below) key
