use Rattle.std.proofs.Common.{◌≡◌, ◌++◌, List, drop, take, map, flat_map, Result, All}
use Rattle.model_types.specs.declared.dependency.Dependency.{Dependency}
use Rattle.collector.specs.declared.edge.Edge.{Edge}
use Rattle.mediation.specs.declared.fault.MediationFault.{MediationFault}
use Rattle.mediation.specs.declared.winner.Winner.{Winner}
use Rattle.mediation.specs.Libraries.{Libraries, graph_of}
use Rattle.mediation.specs.Rows.{Adds, ArePlaced, IsPicked, IsPrefix, edges_below, paths_of}
use Rattle.collector.specs.Winners.{longer}
use Rattle.mediation.proofs.Places.{Stands}
use Rattle.mediation.specs.Telling.{TellsOn}
use Rattle.mediation.proofs.levels.add_level.Given as goal

-- what the rest of the level adds, the level adds
abbrev pub invariant-loop-place : goal.invariant-loop-place
invariant-loop-place g l = record {
  rest : (libraries : Libraries) (direct : List Dependency) → g.L.Lookup.fits l.initial.lookup libraries → All (IsPicked libraries) l.initial.winners
      → (new : List Winner) (result : Result (Unit {0}) MediationFault)
      → Adds libraries l.winners new (flat_map (longer (graph_of libraries l.managed direct)) (drop l.place (paths_of l.initial.winners))) result
      → Adds libraries l.initial.winners new (flat_map (longer (graph_of libraries l.managed direct)) (drop l.from (paths_of l.initial.winners))) result;
  versions : (libraries : Libraries) → g.L.Lookup.fits l.initial.lookup libraries → All (IsPicked libraries) l.initial.winners → All (IsPicked libraries) l.winners;
  before : (libraries : Libraries) → g.L.Lookup.fits l.initial.lookup libraries → All (IsPicked libraries) l.initial.winners → Stands l.initial.winners l.winners;
  keeps : IsPrefix l.initial.winners l.winners;
  below : l.initial.below ≡ map (edges_below l.managed) (take l.from l.initial.winners) → l.below ≡ map (edges_below l.managed) (take l.place l.initial.winners);
  placed : (done : List Edge) → ArePlaced l.initial.winners (done ++ flat_map (λ edges. edges) l.initial.below) l.initial.places → ArePlaced l.winners (done ++ flat_map (λ edges. edges) l.below) l.places;
  fit : (libraries : Libraries) → g.L.Lookup.fits l.initial.lookup libraries → g.L.Lookup.fits l.lookup libraries;
  alike : TellsOn g.L.Lookup.tells_same l.initial.lookup l.lookup;
  faults : g.L.Lookup.faults l.lookup ≡ g.L.Lookup.faults l.initial.lookup;
}
