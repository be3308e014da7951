use Rattle.std.proofs.Common.{◌≡◌, ◌++◌, drop, filter}
use Rattle.collector.specs.Nodes.{stands}
use Rattle.collector.proofs.put.side.Given as goal

abbrev pub invariant-loop-one : goal.invariant-loop-one
invariant-loop-one l = l.list ++ filter (stands l.bit l.right) (drop l.one-index l.items) ≡ filter (stands l.bit l.right) l.items
