use Rattle.std.specs.Prelude.{◌+◌, ◌-◌, ◌*◌}
use Rattle.turn_lock.proofs.tally.+halves.Given as goal

-- three steps for each worker: the halves have fewer
abbrev pub decreases-crew : goal.decreases-crew
decreases-crew g l = 3 * (l.reach - l.first)

abbrev pub decreases-fork : goal.decreases-fork
decreases-fork g l = 3 * (l.reach - l.first) - 1

abbrev pub decreases-fork-join_mut+arg2 : goal.decreases-fork-join_mut+arg2
decreases-fork-join_mut+arg2 g l = 3 * (l.middle - l.first) + 1

abbrev pub decreases-fork-join_mut+arg3 : goal.decreases-fork-join_mut+arg3
decreases-fork-join_mut+arg3 g l = 3 * (l.reach - l.middle) + 1
