use Rattle.std.proofs.Common.{◌≡◌, ◌++◌, drop, map}
use Rattle.reactor_order.specs.Graph.{Edges, IsGraph}
use Rattle.reactor.specs.Upstreams.{all_upstreams, upstream_places}
use Rattle.reactor.proofs.upstreams.places_of_all.Given as goal

abbrev pub invariant-loop-m : goal.invariant-loop-m
invariant-loop-m l = (edges : Edges) → IsGraph l.n edges l.lists → l.all ++ map (upstream_places edges l.selected) (drop l.m-index l.selected) ≡ all_upstreams edges l.selected
