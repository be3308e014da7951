use Rattle.std.specs.Prelude.{◌+◌, ◌*◌}
use Rattle.lineage.proofs.stored.+stored.Given as goal

abbrev pub decreases-joined_from : goal.decreases-joined_from
decreases-joined_from g l = 6 * l.left + 1

abbrev pub decreases-fresh : goal.decreases-fresh
decreases-fresh g l = 6 * l.left

abbrev pub decreases-entered : goal.decreases-entered
decreases-entered g l = 6 * l.left + 5

abbrev pub decreases-line : goal.decreases-line
decreases-line g l = 6 * l.left + 4

abbrev pub decreases-above : goal.decreases-above
decreases-above g l = 6 * l.left + 3

abbrev pub decreases-from_parent : goal.decreases-from_parent
decreases-from_parent g l = 6 * l.left + 2
