use Rattle.std.proofs.Common.{◌≡◌, ◌++◌, drop}
use Rattle.resolution.specs.Resolved.{aboves_from}
use Rattle.resolution.proofs.tree.aboves.Given as goal

abbrev pub invariant-loop-place : goal.invariant-loop-place
invariant-loop-place l = l.list ++ aboves_from l.place (drop l.place l.winners) ≡ aboves_from 0 l.winners
