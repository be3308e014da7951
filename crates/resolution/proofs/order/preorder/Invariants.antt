use Rattle.std.proofs.Common.{◌≡◌, ◌++◌, length}
use Rattle.resolution.specs.Preorder.{preorder}
use Rattle.resolution.proofs.Trees.{waiting}
use Rattle.resolution.proofs.order.preorder.Given as goal

abbrev pub invariant-loop-place : goal.invariant-loop-place
invariant-loop-place l = l.order ++ waiting l.above l.stack.items ≡ preorder l.above

abbrev pub decreases-loop-place : goal.decreases-loop-place
decreases-loop-place l = length (waiting l.above l.stack.items)
