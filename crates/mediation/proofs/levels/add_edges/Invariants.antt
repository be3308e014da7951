use Rattle.std.proofs.Common.{◌≡◌, List, ◌∷◌, ◌++◌, drop, map, take, Result}
use Rattle.collector.specs.declared.edge.Edge.{Edge}
use Rattle.mediation.specs.declared.fault.MediationFault.{MediationFault}
use Rattle.mediation.specs.declared.winner.Winner.{Winner}
use Rattle.mediation.specs.Libraries.{Libraries}
use Rattle.mediation.specs.Rows.{Adds, ArePlaced, IsPrefix, Leads, paths_of}
use Rattle.collector.specs.Winners.{Path}
use Rattle.mediation.specs.Telling.{TellsOn}
use Rattle.mediation.proofs.levels.add_edges.Given as goal

-- what the rest adds, all of it adds
abbrev pub invariant-loop-edge : goal.invariant-loop-edge
invariant-loop-edge g l = record {
  rest : (libraries : Libraries) (front : Path) → g.L.Lookup.fits l.initial.lookup libraries → Leads (paths_of l.initial.winners) l.above front
      → (new : List Winner) (result : Result (Unit {0}) MediationFault)
      → Adds libraries l.winners new (map (λ e. e ∷ front) (drop l.edge-index l.edges)) result
      → Adds libraries l.initial.winners new (map (λ e. e ∷ front) l.edges) result;
  leads : (libraries : Libraries) (front : Path) → g.L.Lookup.fits l.initial.lookup libraries → Leads (paths_of l.initial.winners) l.above front
      → Leads (paths_of l.winners) l.above front;
  keeps : IsPrefix l.initial.winners l.winners;
  placed : (done : List Edge) → ArePlaced l.initial.winners done l.initial.places → ArePlaced l.winners (done ++ take l.edge-index l.edges) l.places;
  fit : (libraries : Libraries) → g.L.Lookup.fits l.initial.lookup libraries → g.L.Lookup.fits l.lookup libraries;
  alike : TellsOn g.L.Lookup.tells_same l.initial.lookup l.lookup;
  faults : g.L.Lookup.faults l.lookup ≡ g.L.Lookup.faults l.initial.lookup;
}
