use Rattle.std.proofs.Common.{◌≡◌, ◌++◌, drop, map}
use Rattle.reactor.specs.Edges.{firm_from}
use Rattle.reactor.specs.Upstreams.{winner_gavs}
use Rattle.reactor.proofs.edges.firm_edges.Given as goal

abbrev pub invariant-loop-number : goal.invariant-loop-number
invariant-loop-number l = l.edges.items ++ firm_from l.modules (map winner_gavs l.resolutions) l.number (drop l.number l.modules) ≡ firm_from l.modules (map winner_gavs l.resolutions) 0 l.modules
