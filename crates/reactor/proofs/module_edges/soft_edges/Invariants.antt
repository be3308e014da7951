use Rattle.std.proofs.Common.{◌≡◌, ◌++◌, drop}
use Rattle.reactor.specs.Edges.{soft_from}
use Rattle.reactor.proofs.module_edges.soft_edges.Given as goal

abbrev pub invariant-loop-number : goal.invariant-loop-number
invariant-loop-number l = l.edges.items ++ soft_from l.modules l.number (drop l.number l.modules) ≡ soft_from l.modules 0 l.modules
