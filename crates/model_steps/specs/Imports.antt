-- Which POM a managed entry of scope `import` stands for. Introduction to the Dependency Mechanism, "Importing Dependencies".
use Rattle.std.specs.Prelude.{[], codes, unwrap_or, Ok, Err, if◌then◌else◌}
use Rattle.std.specs.Str.{bytes_eq}
use Rattle.mvn_base.specs.Key.{key_text}
use Rattle.mvn_base.specs.declared.gav.Gav.{Gav}
use Rattle.mvn_base.specs.declared.refusal.PomId.{PomId}
use Rattle.mvn_base.specs.declared.rule.Rule.TheVariants.{BadRange, ImportNotPom, VersionMissing}
use Rattle.model_types.specs.declared.dependency.Dependency.{Dependency}
use Rattle.managed_deps.specs.Managed.{key_of}
use Rattle.pom_source.specs.Answers.{Built}
use Rattle.pom_source.specs.Refusals.{text_refused}
use Rattle.model_steps.specs.Kinds.{kind_of}
use Rattle.model_steps.specs.declared.kind.VersionKind.{VersionKind}
use Rattle.model_steps.specs.declared.kind.VersionKind.TheVariants.{Missing, Soft, Range, Unreadable}

-- the coordinates of a dependency; a version that is missing is empty
abbrev pub dependency_gav : Dependency → Gav
dependency_gav d = record { group = d.group; artifact = d.artifact; version = unwrap_or d.version [] }

-- those of an import, by what its version states
abbrev pub gav_by : PomId → Dependency → VersionKind → Built Gav
gav_by pom d Missing = Err (text_refused pom VersionMissing (key_text (key_of d)))
gav_by pom d Soft = Ok (dependency_gav d)
gav_by pom d Range = Err (text_refused pom BadRange (unwrap_or d.version []))
gav_by pom d Unreadable = Err (text_refused pom BadRange (unwrap_or d.version []))

-- the coordinates of the POM that an entry stands for: its type is `pom`, and its version is one version
unfoldable pub import_gav : PomId → Dependency → Built Gav
import_gav pom d =
    if bytes_eq d.kind (codes "pom") then gav_by pom d (kind_of d.version)
    else Err (text_refused pom ImportNotPom (key_text (key_of d)))
