-- What the goals of a module use: which dependencies, and which files are fetched for them. Introduction to the Dependency Mechanism;
-- that nothing is fetched where no goal needs a classpath is a project rule.
use Rattle.std.specs.Prelude.{ℕ, Bool, true, false, not, ◌&&◌, List, [], ◌∷◌, codes, filter, map, Option, Some, None, if◌then◌else◌}
use Rattle.std.specs.List.{list_any, position_or_len}
use Rattle.std.specs.Str.{bytes_eq}
use Rattle.mvn_base.specs.FileName.{is_classifier}
use Rattle.mvn_base.specs.Gav.{gav_eq, lock_name}
use Rattle.mvn_base.specs.Names.{is_filled, is_group, is_name, is_version}
use Rattle.mvn_base.specs.Types.{type_rule}
use Rattle.mvn_base.specs.declared.gav.Gav.{Gav}
use Rattle.mvn_base.specs.declared.phase.Phase.{Phase}
use Rattle.goal_types.specs.declared.goal.GoalCall.{GoalCall}
use Rattle.goal_types.specs.declared.goal.Need.{Need}
use Rattle.goal_types.specs.declared.goal.Need.TheVariants as needs
use Rattle.goal_types.specs.declared.goal.Slot.{Slot}
use Rattle.goal_types.specs.declared.goal.Slot.TheVariants as slots
use Rattle.lifecycle.specs.Goals.{calls_through}
use Rattle.classpaths.specs.Classpaths.{classifier_of, fetch_list}
use Rattle.classpaths.specs.declared.resolution.Resolved.{Resolved}
use Rattle.module_plan.specs.declared.selected.SelectedModule.{SelectedModule}

-- ---- the modules that are built

abbrev pub gavs : List SelectedModule → List Gav
gavs modules = map (λ m. m.model.gav) modules

-- a coordinate is a selected module's
abbrev pub is_selected : List Gav → Gav → Bool
is_selected built gav = list_any (gav_eq gav) built

-- and which one's: its place in the order of the build
abbrev pub module_at : List Gav → Gav → ℕ
module_at built gav = position_or_len (gav_eq gav) built

-- ---- what a module's goals use

abbrev pub calls : Phase → SelectedModule → List GoalCall
calls phase m = calls_through phase m.model.packaging m.model.build.base.plugins

abbrev pub is_needed : Need → Bool
is_needed needs.Nothing = false
is_needed other = true

-- some goal needs a classpath
abbrev pub needs_path : List GoalCall → Bool
needs_path calls = list_any (λ (c : GoalCall). is_needed c.need) calls

-- the names of a dependency are valid, so that it has files
abbrev pub has_names : Resolved → Bool
has_names w =
    is_group w.gav.group && (is_name w.gav.artifact && (is_version w.gav.version && (is_name w.kind && is_classifier w.classifier)))

-- the dependencies that the goals use, in the order of the dependency tree: none where no goal needs a classpath
abbrev pub used_by : List GoalCall → List Resolved → List Resolved
used_by calls winners = if needs_path calls then filter has_names winners else []

abbrev pub used : Phase → SelectedModule → List Resolved
used phase m = used_by (calls phase m) m.resolution.winners

-- ---- what is fetched for it

-- the files of those that aren't built in this run
abbrev pub fetched_files : List Gav → List Resolved → List (List ℕ)
fetched_files built winners = fetch_list (is_selected built) winners

-- the locks that cover these files
abbrev pub fetched_locks : List Gav → List Resolved → List (List ℕ)
fetched_locks built winners =
    map (λ (w : Resolved). lock_name w.gav) (filter (λ (w : Resolved). not (is_selected built w.gav)) winners)

-- ---- what a dependency takes of a module

-- which output a classifier names
abbrev pub attached_slot : List ℕ → Option Slot
attached_slot classifier =
    if bytes_eq classifier (codes "tests") then Some slots.Tests
    else if bytes_eq classifier (codes "sources") then Some slots.Sources
    else if bytes_eq classifier (codes "javadoc") then Some slots.Javadoc
    else None

-- the types that a module's main output has
abbrev pub is_main_type : List ℕ → Bool
is_main_type kind =
    list_any (bytes_eq kind) (codes "jar" ∷ codes "ejb" ∷ codes "war" ∷ codes "ear" ∷ codes "rar" ∷ [])

-- which of a module's outputs a dependency is; of some there is none
abbrev pub slot_by : (kind classifier extension : List ℕ) → Option Slot
slot_by kind classifier extension =
    if is_filled classifier then (if bytes_eq extension (codes "jar") then attached_slot classifier else None)
    else (if is_main_type kind then Some slots.Main else None)

abbrev pub slot_of : Resolved → Option Slot
slot_of w = slot_by w.kind (classifier_of w (type_rule w.kind)) (type_rule w.kind).extension
