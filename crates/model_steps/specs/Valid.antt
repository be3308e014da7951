-- Valid models: names, scopes and versions that are allowed. POM Reference.
use Rattle.std.specs.Prelude.{ℕ, Bool, true, false, not, ◌&&◌, ◌||◌, List, [], codes, Option, None, Some, unwrap_or}
use Rattle.std.specs.List.{list_all}
use Rattle.std.specs.Option.{is_some}
use Rattle.std.specs.Str.{bytes_eq}
use Rattle.mvn_base.specs.Names.{is_filled, is_group, is_name}
use Rattle.mvn_base.specs.declared.gav.Gav.{Gav}
use Rattle.mvn_base.specs.declared.refusal.PomId.{PomId}
use Rattle.model_types.specs.declared.dependency.Dependency.{Dependency}
use Rattle.model_types.specs.declared.model.Model.{Model}
use Rattle.managed_deps.specs.Managed.{is_import}
use Rattle.profiles.specs.Activation.{is_of_project}
use Rattle.model_steps.specs.Kinds.{kind_of}
use Rattle.model_steps.specs.Validation.{is_named, is_soft, may_be_scope}
use Rattle.model_steps.specs.declared.kind.VersionKind.{VersionKind}
use Rattle.model_steps.specs.declared.kind.VersionKind.TheVariants.{Missing, Soft, Range, Unreadable}

-- names that are allowed; a classifier may be empty
abbrev pub has_valid_names : VersionKind → Dependency → Bool
has_valid_names kind d =
    is_group d.group && is_name d.artifact && is_named kind (unwrap_or d.version []) && is_name d.kind
    && (not (is_filled d.classifier) || is_name d.classifier)

-- a scope that there is; in the project not `system`
abbrev pub is_valid_scope : Bool → Bool → Option (List ℕ) → Bool
is_valid_scope managed project None = true
is_valid_scope managed project (Some scope) =
    may_be_scope managed scope && not (project && bytes_eq scope (codes "system"))

-- what may be stated for a version; only a managed entry may have none
abbrev pub may_be_version : Bool → VersionKind → Bool
may_be_version managed Missing = managed
may_be_version managed Soft = true
may_be_version managed Range = true
may_be_version managed Unreadable = false

-- a dependency, or a managed entry
unfoldable pub is_valid_entry : Bool → PomId → Dependency → Bool
is_valid_entry managed pom d =
    has_valid_names (kind_of d.version) d && is_valid_scope managed (is_of_project pom) d.scope
    && may_be_version managed (kind_of d.version)

-- coordinates, with one version
unfoldable pub is_valid_gav : Gav → Bool
is_valid_gav gav =
    is_group gav.group && is_name gav.artifact && is_named (kind_of (Some gav.version)) gav.version
    && is_soft (kind_of (Some gav.version))

unfoldable pub is_valid : Model → Bool
is_valid m =
    is_valid_gav m.gav && list_all (is_valid_entry true m.pom) m.base.managed
    && list_all (is_valid_entry false m.pom) m.base.dependencies

-- each dependency has a scope
abbrev pub is_scoped : Model → Bool
is_scoped m = list_all (λ (d : Dependency). is_some d.scope) m.base.dependencies

-- no entry stands for what another POM manages
abbrev pub has_no_import : List Dependency → Bool
has_no_import entries = list_all (λ d. not (is_import d)) entries
