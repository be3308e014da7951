use Rattle.std.proofs.Common.{◌≡◌, ◌||◌, drop}
use Rattle.std.specs.HashSet.{contains}
use Rattle.mvn_base.specs.declared.key.Key.{Key}
use Rattle.model_merge.specs.Keyed.{same_key}
use Rattle.resolution.specs.Conflicts.{some_conflict}
use Rattle.resolution.proofs.keys.add_conflicts.Given as goal

abbrev pub invariant-loop-edge : goal.invariant-loop-edge
invariant-loop-edge l = (key : Key) → (contains same_key l.keys key || some_conflict l.winners (drop l.edge-index l.edges) key)
    ≡ (contains same_key l.initial.keys key || some_conflict l.winners l.edges key)
