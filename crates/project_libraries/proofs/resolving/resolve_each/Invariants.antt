use Rattle.std.proofs.Common.{◌≡◌, ◌≤◌, length, take}
use Rattle.mediation.specs.Libraries.{Libraries}
use Rattle.mediation.specs.Telling.{TellsOn}
use Rattle.project_libraries.specs.Resolving.{AreResolved}
use Rattle.project_libraries.proofs.resolving.resolve_each.Given as goal

-- the modules so far are resolved; there is a resolution for each of them, whatever the look-up tells
abbrev pub invariant-loop-at : goal.invariant-loop-at
invariant-loop-at g l = record {
  done : (libraries : Libraries) → g.L.Lookup.fits l.fn.lookup libraries → AreResolved libraries (take l.at l.models) l.list;
  fit : (libraries : Libraries) → g.L.Lookup.fits l.fn.lookup libraries → g.L.Lookup.fits l.lookup libraries;
  alike : TellsOn g.L.Lookup.tells_same l.fn.lookup l.lookup;
  long : length l.list ≡ l.at;
  few : l.at ≤ length l.models;
  faults : g.L.Lookup.faults l.lookup ≡ g.L.Lookup.faults l.fn.lookup;
}
