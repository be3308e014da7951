use Rattle.std.proofs.Common.{◌≡◌, ◌-◌, List, ◌++◌, flat_map, map, take}
use Rattle.model_types.specs.declared.dependency.Dependency.{Dependency}
use Rattle.collector.specs.Edges.{direct_edges}
use Rattle.mediation.specs.Rows.{ArePlaced, edges_below}
use Rattle.mediation.specs.Libraries.{Libraries, graph_of, most_winners}
use Rattle.mediation.proofs.Lengths.{IsUpTo}
use Rattle.mediation.specs.Telling.{TellsOn}
use Rattle.mediation.proofs.levels.add_levels.Given as goal

-- the winners up to some length stand, and those from a place on are of that length
abbrev pub invariant-loop-from : goal.invariant-loop-from
invariant-loop-from g l = record {
  stand : (libraries : Libraries) (direct : List Dependency) → l.own ≡ direct_edges direct → g.L.Lookup.fits l.fn.lookup libraries
      → IsUpTo libraries (graph_of libraries l.managed direct) l.winners l.from;
  below : l.below ≡ map (edges_below l.managed) (take l.from l.winners);
  placed : ArePlaced l.winners (l.own ++ flat_map (λ edges. edges) l.below) l.places;
  fit : (libraries : Libraries) → g.L.Lookup.fits l.fn.lookup libraries → g.L.Lookup.fits l.lookup libraries;
  alike : TellsOn g.L.Lookup.tells_same l.fn.lookup l.lookup;
  faults : g.L.Lookup.faults l.lookup ≡ g.L.Lookup.faults l.fn.lookup;
}

abbrev pub decreases-loop-from : goal.decreases-loop-from
decreases-loop-from g l = most_winners - l.from
