-- When there is no POM that could be built. Project rule.
use Rattle.std.specs.Prelude.{◌≡◌, Bool, false, Result, Err, is_some}
use Rattle.mvn_base.specs.declared.refusal.PomId.{PomId}
use Rattle.mvn_base.specs.declared.refusal.PomId.TheVariants as ids
use Rattle.pom_source.specs.Answers.{Says}
use Rattle.pom_source.specs.Worlds.{World}
use Rattle.pom_source.specs.declared.fault.BuildFault.{BuildFault}
use Rattle.pom_source.specs.declared.fault.BuildFault.TheVariants.{Absent}

-- a world has a POM at the path, or of the coordinates
abbrev pub has_pom : World → PomId → Bool
has_pom world (ids.Path path) = is_some (world.by_path path)
has_pom world (ids.Gav gav) = is_some (world.by_gav gav)

-- an answer is that a POM is absent exactly where it isn't there; of a source that fails and of want of memory nothing is said
pub record IsAbsentExactly {A : Type 0} (there : Bool) (answer : Result A BuildFault) : Type 0 where
  pub only : answer ≡ Err Absent → there ≡ false
  pub always : there ≡ false → Says {A = A} (Err Absent) answer
