-- What is stated where a version may stand. POM Reference, "Dependency Version Requirement Specification".
use Rattle.std.specs.Prelude.{ℕ, List, Option, None, Some, Result, Ok, Err}
use Rattle.versions.specs.Requirements.{requirement}
use Rattle.versions.specs.declared.requirement.Requirement.{Requirement}
use Rattle.versions.specs.declared.requirement.Requirement.TheVariants as requirements
use Rattle.model_steps.specs.declared.kind.VersionKind.{VersionKind}
use Rattle.model_steps.specs.declared.kind.VersionKind.TheVariants.{Missing, Soft, Range, Unreadable}

abbrev pub kind_by : Result Requirement ℕ → VersionKind
kind_by (Ok (requirements.Soft version)) = Soft
kind_by (Ok (requirements.Hard intervals)) = Range
kind_by (Err place) = Unreadable

-- nothing, one version, a range, or a text that is neither
abbrev pub kind_of : Option (List ℕ) → VersionKind
kind_of None = Missing
kind_of (Some version) = kind_by (requirement version)
