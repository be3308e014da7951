use Rattle.std.proofs.Common.{◌≡◌, ◌≤◌, ◌+◌, ◌-◌, length}
use Rattle.mvn_base.specs.Limits.{most_modules}
use Rattle.profiles.specs.Judging.{TellsOn}
use Rattle.pom_source.specs.Worlds.{World}
use Rattle.lineage.specs.Stores.{Holds, KeepsLines, KeepsRead}
use Rattle.discovery.specs.Discovery.{collected}
use Rattle.discovery.proofs.discovery.collected.Given as goal

-- what is still to come is what was to come, and each turn found one
abbrev pub invariant-loop : goal.invariant-loop
invariant-loop g l = ((world : World) → g.P.PomSource.fits_poms l.initial.source world → g.P.PomSource.fits_poms l.source world) × TellsOn g.P.Files.tells_same l.initial.source l.source × (g.P.Files.faults l.source ≡ g.P.Files.faults l.initial.source) × KeepsRead l.initial.store l.store × KeepsLines l.initial.store l.store × ((world : World) → g.P.PomSource.fits_poms l.initial.source world → Holds world l.given l.initial.store → Holds world l.given l.store × (collected world l.given (most_modules - l.counter) l.progress.found l.progress.waiting ≡ collected world l.given most_modules l.initial.progress.found l.initial.progress.waiting)) × (length l.progress.found ≡ l.counter + length l.initial.progress.found) × (l.counter ≤ most_modules)
