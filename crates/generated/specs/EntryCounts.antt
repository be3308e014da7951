-- How many entries classpaths have. Introduction to the Dependency Mechanism, "Dependency Scope".
use Rattle.std.specs.Prelude.{ℕ, List, length, sum_by}
use Rattle.classpaths.specs.Classpaths.{classpath}
use Rattle.classpaths.specs.declared.classpath.Kind.TheVariants as kinds
use Rattle.classpaths.specs.declared.resolution.Resolution.{Resolution}

-- the entries of a module's classpath for tests, and of all modules' together
abbrev pub entries : Resolution → ℕ
entries resolution = length (classpath kinds.Test resolution.winners)

abbrev pub entries_of : List Resolution → ℕ
entries_of resolutions = sum_by entries resolutions
