-- What is refused of an effective model: first of its coordinates, then of what is managed, then of its dependencies. POM Reference;
-- the order is a project rule.
use Rattle.std.specs.Prelude.{ℕ, Bool, true, false, not, ◌&&◌, ◌||◌, List, [], ◌∷◌, codes, Option, None, Some, unwrap_or, Ok, Err, if◌then◌else◌}
use Rattle.std.specs.Option.{option_or}
use Rattle.std.specs.Str.{bytes_eq}
use Rattle.mvn_base.specs.Key.{key_text}
use Rattle.mvn_base.specs.Names.{is_filled, is_group, is_name, is_version}
use Rattle.mvn_base.specs.declared.gav.Gav.{Gav}
use Rattle.mvn_base.specs.declared.refusal.PomId.{PomId}
use Rattle.mvn_base.specs.declared.rule.Rule.{Rule}
use Rattle.mvn_base.specs.declared.rule.Rule.TheVariants.{BadName, BadRange, BadScope, SystemScope, VersionMissing}
use Rattle.model_types.specs.declared.dependency.Dependency.{Dependency}
use Rattle.model_types.specs.declared.model.Model.{Model}
use Rattle.managed_deps.specs.Managed.{is_scope, key_of}
use Rattle.profiles.specs.Activation.{is_of_project}
use Rattle.pom_source.specs.Answers.{Built}
use Rattle.pom_source.specs.Refusals.{text_refused}
use Rattle.model_steps.specs.Kinds.{kind_of}
use Rattle.model_steps.specs.declared.kind.VersionKind.{VersionKind}
use Rattle.model_steps.specs.declared.kind.VersionKind.TheVariants.{Missing, Soft, Range, Unreadable}
use Rattle.model_steps.specs.declared.problem.Problem.{Problem}

-- a rule that isn't met, and the text that the refusal names
abbrev pub problem : Rule → List ℕ → Problem
problem rule place = record { rule = rule; place = place }

-- the first problem in a list
abbrev pub first_problem : (Dependency → Option Problem) → List Dependency → Option Problem
first_problem test [] = None
first_problem test (d ∷ ds) = option_or (test d) (first_problem test ds)

-- whether a text is named as a version may be, if it states one version
abbrev pub is_named : VersionKind → List ℕ → Bool
is_named Missing version = true
is_named Soft version = is_version version
is_named Range version = true
is_named Unreadable version = true

abbrev pub is_unreadable : VersionKind → Bool
is_unreadable Missing = false
is_unreadable Soft = false
is_unreadable Range = false
is_unreadable Unreadable = true

abbrev pub is_missing : VersionKind → Bool
is_missing Missing = true
is_missing Soft = false
is_missing Range = false
is_missing Unreadable = false

abbrev pub is_soft : VersionKind → Bool
is_soft Missing = false
is_soft Soft = true
is_soft Range = false
is_soft Unreadable = false

-- of the coordinates: a name that isn't allowed, or something else than one version
unfoldable pub gav_problem : VersionKind → Gav → Option Problem
gav_problem kind gav =
    if not (is_group gav.group) then Some (problem BadName gav.group)
    else if not (is_name gav.artifact) then Some (problem BadName gav.artifact)
    else if not (is_named kind gav.version) then Some (problem BadName gav.version)
    else if not (is_soft kind) then Some (problem BadRange gav.version)
    else None

-- of a dependency's names: one that isn't allowed
unfoldable pub name_problem : VersionKind → Dependency → Option Problem
name_problem kind d =
    if not (is_group d.group) then Some (problem BadName d.group)
    else if not (is_name d.artifact) then Some (problem BadName d.artifact)
    else if not (is_named kind (unwrap_or d.version [])) then Some (problem BadName (unwrap_or d.version []))
    else if not (is_name d.kind) then Some (problem BadName d.kind)
    else if is_filled d.classifier && not (is_name d.classifier) then Some (problem BadName d.classifier)
    else None

-- the scopes of dependencies; a managed entry may be of scope `import` too
abbrev pub is_own_scope : List ℕ → Bool
is_own_scope scope =
    bytes_eq scope (codes "compile") || bytes_eq scope (codes "provided") || bytes_eq scope (codes "runtime")
    || bytes_eq scope (codes "test") || bytes_eq scope (codes "system")

abbrev pub may_be_scope : Bool → List ℕ → Bool
may_be_scope managed scope = is_own_scope scope || (managed && bytes_eq scope (codes "import"))

abbrev pub scope_problem_of : Bool → Option (List ℕ) → Option Problem
scope_problem_of managed None = None
scope_problem_of managed (Some scope) = if may_be_scope managed scope then None else Some (problem BadScope scope)

-- of its scope: one that there isn't, or `system` in a POM of the project
unfoldable pub scope_problem : Bool → PomId → Dependency → Option Problem
scope_problem managed pom d =
    option_or (scope_problem_of managed d.scope)
    (if is_of_project pom && is_scope (codes "system") d.scope then Some (problem SystemScope (key_text (key_of d))) else None)

-- of its version: none in a dependency, or a text that can't be read
unfoldable pub version_problem : Bool → VersionKind → Dependency → Option Problem
version_problem managed kind d =
    if not managed && is_missing kind then Some (problem VersionMissing (key_text (key_of d)))
    else if is_unreadable kind then Some (problem BadRange (unwrap_or d.version []))
    else None

-- the first problem of a dependency or a managed entry
unfoldable pub item_problem : Bool → PomId → Dependency → Option Problem
item_problem managed pom d =
    option_or (name_problem (kind_of d.version) d)
    (option_or (scope_problem managed pom d) (version_problem managed (kind_of d.version) d))

-- the first problem of a model
unfoldable pub model_problem : Model → Option Problem
model_problem m =
    option_or (gav_problem (kind_of (Some m.gav.version)) m.gav)
    (option_or (first_problem (item_problem true m.pom) m.base.managed)
    (first_problem (item_problem false m.pom) m.base.dependencies))

abbrev pub unless : Option Problem → Model → Built Model
unless (Some p) m = Err (text_refused m.pom p.rule p.place)
unless None m = Ok m

-- a model, or the refusal of its first problem
abbrev pub checked : Model → Built Model
checked m = unless (model_problem m) m
