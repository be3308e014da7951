use Rattle.std.proofs.Common.{◌≡◌, ◌++◌, drop}
use Rattle.classpaths.specs.Classpaths.{classpath, is_on, places_from}
use Rattle.classpaths.proofs.resolution.Resolution.classpath.Given as goal

abbrev pub invariant-loop-at : goal.invariant-loop-at
invariant-loop-at l = l.places ++ places_from (is_on l.kind) l.at (drop l.at l.self.winners) ≡ classpath l.kind l.self.winners
