use Rattle.std.specs.Prelude.{◌+◌, ◌-◌, ◌*◌}
use Rattle.bench_low.proofs.turns.plain.+crew+fn-crew-join+arg2+fn-crew-join+arg3.Given as goal

-- half of the workers in each call, and a call in each closure
abbrev pub decreases-crew : goal.decreases-crew
decreases-crew g l = 2 * (l.reach - l.first)

abbrev pub decreases-join+arg2 : goal.decreases-join+arg2
decreases-join+arg2 g l = 2 * (l.middle - l.first) + 1

abbrev pub decreases-join+arg3 : goal.decreases-join+arg3
decreases-join+arg3 g l = 2 * (l.reach - l.middle) + 1
