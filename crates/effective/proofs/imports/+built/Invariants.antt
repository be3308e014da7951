use Rattle.std.proofs.Common.{◌≡◌, ◌+◌, ◌*◌, true, drop}
use Rattle.profiles.specs.Judging.{TellsOn}
use Rattle.pom_source.specs.Worlds.{World}
use Rattle.effective.specs.Kept.{HoldsAll}
use Rattle.effective.specs.Serving.{serves}
use Rattle.effective.proofs.Standing.{OnTheWay}
use Rattle.effective.proofs.imports.+built.Given as goal

abbrev pub decreases-imported : goal.decreases-imported
decreases-imported g l = 8 * l.left + 1

abbrev pub decreases-fresh : goal.decreases-fresh
decreases-fresh g l = 8 * l.left

abbrev pub decreases-import_found : goal.decreases-import_found
decreases-import_found g l = 8 * l.left + 7

abbrev pub decreases-import_read : goal.decreases-import_read
decreases-import_read g l = 8 * l.left + 6

abbrev pub decreases-whole : goal.decreases-whole
decreases-whole g l = 8 * l.left + 5

abbrev pub decreases-over_full : goal.decreases-over_full
decreases-over_full g l = 8 * l.left + 4

abbrev pub decreases-imports : goal.decreases-imports
decreases-imports g l = 8 * l.left + 3

abbrev pub decreases-entry : goal.decreases-entry
decreases-entry g l = 8 * l.left + 2

abbrev pub invariant-imports-loop-item : goal.invariant-imports-loop-item
invariant-imports-loop-item g l = record {
  fit : (world : World) → g.P.PomSource.fits_poms l.initial.source world → g.P.PomSource.fits_poms l.source world;
  same : TellsOn g.P.Files.tells_same l.initial.source l.source;
  serves : serves l.left l.building l.done.below ≡ true;
  faults : g.P.Files.faults l.source ≡ g.P.Files.faults l.initial.source;
  holds : (world : World) → g.P.PomSource.fits_poms l.initial.source world → HoldsAll world l.given l.initial.store → HoldsAll world l.given l.store;
  way : (world : World) → g.P.PomSource.fits_poms l.initial.source world → HoldsAll world l.given l.initial.store → OnTheWay world l.given l.pom l.done (drop l.item-index l.item-items) l.item-items;
}
