use Rattle.std.proofs.Common.{◌+◌, ◌-◌, ◌*◌, length}
use Rattle.crew.proofs.team.+halves.Given as goal

-- three steps for each hand: the halves have fewer hands
abbrev pub decreases-fork-join_mut+arg2 : goal.decreases-fork-join_mut+arg2
decreases-fork-join_mut+arg2 g l = 3 * length l.front.now + 1

abbrev pub decreases-fork-join_mut+arg3 : goal.decreases-fork-join_mut+arg3
decreases-fork-join_mut+arg3 g l = 3 * length l.back.now + 1

abbrev pub decreases-fork : goal.decreases-fork
decreases-fork g l = 3 * (length l.front.now + length l.back.now) - 1

abbrev pub decreases-run : goal.decreases-run
decreases-run g l = 3 * length l.hands.now
