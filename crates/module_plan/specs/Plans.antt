-- The plan of the modules that are built. Guide to Working with Multiple Modules; the numbers and limits are project rules.
use Rattle.std.specs.Prelude.{◌≡◌, ◌≤◌, ℕ, ◌+◌, ◌*◌, ◌/◌, Bool, not, nat_lt, max, min, List, [], ◌∷◌, length, codes, filter, map, Option, Some, None, is_some, Ok, Err, if◌then◌else◌}
use Rattle.mvn_shared.specs.Files.{Files, file_at}
use Rattle.mvn_base.specs.Gav.{lock_name}
use Rattle.mvn_base.specs.Limits.{most_output}
use Rattle.mvn_base.specs.declared.gav.Gav.{Gav}
use Rattle.mvn_base.specs.declared.phase.Phase.{Phase}
use Rattle.mvn_base.specs.declared.refusal.PomId.{PomId}
use Rattle.mvn_base.specs.declared.refusal.PomId.TheVariants as ids
use Rattle.mvn_base.specs.declared.rule.Rule.TheVariants.{GraphTooLarge}
use Rattle.goal_types.specs.declared.goal.Slot.{Slot}
use Rattle.lifecycle.specs.Goals.{installs, unbound}
use Rattle.build_core.specs.declared.plan.Entry.{Entry}
use Rattle.build_core.specs.declared.plan.Origin.{Origin}
use Rattle.build_core.specs.declared.plan.Origin.TheVariants as origin
use Rattle.build_core.specs.declared.plan.OwnFile.{OwnFile}
use Rattle.build_core.specs.declared.plan.Plan.{Plan}
use Rattle.build_core.specs.declared.plan.PlanModule.{PlanModule}
use Rattle.classpaths.specs.Classpaths.{artifact_file, is_on}
use Rattle.classpaths.specs.declared.classpath.Kind.TheVariants as kinds
use Rattle.classpaths.specs.declared.resolution.Resolved.{Resolved}
use Rattle.pom_source.specs.Answers.{Built}
use Rattle.pom_source.specs.Refusals.{text_refused}
use Rattle.module_plan.specs.Numbers.{fetch_locks, fetch_names, number_of, numbers_of, plan_files, plan_names}
use Rattle.module_plan.specs.Outputs.{is_pom, outputs}
use Rattle.module_plan.specs.Uses.{calls, gavs, is_selected, module_at, slot_of, used}
use Rattle.module_plan.specs.declared.selected.Output.{Output}
use Rattle.module_plan.specs.declared.selected.Planned.{Planned}
use Rattle.module_plan.specs.declared.selected.SelectedModule.{SelectedModule}

-- ---- the entries of a module's classpaths

-- an output of the module at a place, or nothing
abbrev pub kept_output : ℕ → Option Slot → Origin
kept_output place None = origin.Nothing
kept_output place (Some slot) = origin.Module place slot

-- where the bytes of a dependency come from: the module that is built in this run, or else the repository
abbrev pub origin_of : (built : List Gav) → (files : List (List ℕ)) → Resolved → Origin
origin_of built files w =
    if is_selected built w.gav then kept_output (module_at built w.gav) (slot_of w)
    else origin.File (number_of files (artifact_file w))

abbrev pub entry_of : (built : List Gav) → (files : List (List ℕ)) → Resolved → Entry
entry_of built files w = record {
  name = artifact_file w;
  compile = is_on kinds.Compile w;
  runtime = is_on kinds.Runtime w;
  test = is_on kinds.Test w;
  origin = origin_of built files w;
}

-- those that are on some classpath: the one of tests has all that are on another
abbrev pub entries_of : (built : List Gav) → (files : List (List ℕ)) → List Resolved → List Entry
entries_of built files winners = map (entry_of built files) (filter (is_on kinds.Test) winners)

-- ---- a module

abbrev pub own_file : (files : List (List ℕ)) → Output → OwnFile
own_file files o = record { slot = o.slot; file = number_of files o.name }

-- the most bytes that the kept outputs of all modules may have together
abbrev pub most_outputs : ℕ
most_outputs = 2147483648

-- each module's part of it, of so many modules
abbrev pub budget_of : ℕ → ℕ
budget_of count = min most_output (most_outputs / max 1 count)

-- a module of the plan, by the coordinates of all and by the plan's names and files
unfoldable pub module_of : Phase → (built : List Gav) → (names files : List (List ℕ)) → SelectedModule → PlanModule
module_of phase built names files m = record {
  gav = m.model.gav;
  upstream = m.upstream;
  batch = numbers_of names (fetch_locks phase built m);
  fetch = numbers_of files (fetch_names phase built m);
  own_name = number_of names (lock_name m.model.gav);
  own = map (own_file files) (outputs m.model);
  pom = m.pom;
  goals = calls phase m;
  sources = m.sources;
  entries = entries_of built files (used phase m);
  budget = budget_of (length built);
  installs = installs phase m.model.build.base.plugins;
  needs_artifact = not (is_pom m.model);
}

-- ---- the plan

-- the greatest number of events of a module: six, four for each name of its batch, two for each file that is fetched and each of its
-- own, and one for each goal
abbrev pub events_of : PlanModule → ℕ
events_of m = 6 + 4 * length m.batch + 2 * length m.fetch + 2 * length m.own + length m.goals

abbrev pub all_events : List PlanModule → ℕ
all_events [] = 0
all_events (m ∷ modules) = events_of m + all_events modules

-- whether a file is in the local repository at the start
abbrev pub is_present : Files → List ℕ → Bool
is_present local name = is_some (file_at local name)

abbrev pub plan_modules : Phase → List SelectedModule → List PlanModule
plan_modules phase modules =
    map (module_of phase (gavs modules) (plan_names phase modules) (plan_files phase modules)) modules

-- the plan, by which of its files are there
unfoldable pub plan_with : Phase → (workers : ℕ) → (present : List Bool) → List SelectedModule → Plan
plan_with phase workers present modules = record {
  modules = plan_modules phase modules;
  names = plan_names phase modules;
  files = plan_files phase modules;
  present = present;
  workers = workers;
  events = all_events (plan_modules phase modules);
}

-- with what is shown of its modules
abbrev pub planned_with : Phase → (workers : ℕ) → (present : List Bool) → List SelectedModule → Planned
planned_with phase workers present modules = record {
  plan = plan_with phase workers present modules;
  models = map (λ (m : SelectedModule). m.model) modules;
  resolutions = map (λ (m : SelectedModule). m.resolution) modules;
  unbound = map (λ (m : SelectedModule). unbound m.model.build.base.plugins) modules;
}

-- the most events that a plan may have
abbrev pub most_events : ℕ
most_events = 4194304

abbrev pub root_id : PomId
root_id = ids.Path (codes "pom.xml")

-- which of the plan's files are there
abbrev pub present_in : (local : Files) → List (List ℕ) → List Bool
present_in local files = map (is_present local) files

-- refused where there are too many events
abbrev pub bounded : (events : ℕ) → Planned → Built Planned
bounded events p = if nat_lt most_events events then Err (text_refused root_id GraphTooLarge (codes "events")) else Ok p

-- the plan of the modules that are built, in the order of the build
abbrev pub numbered : Phase → (workers : ℕ) → (local : Files) → List SelectedModule → Built Planned
numbered phase workers local modules =
    bounded (all_events (plan_modules phase modules))
    (planned_with phase workers (present_in local (plan_files phase modules)) modules)

-- what any plan is, whatever is told of the repository: each of its files is said to be there or not, and its events are bounded
pub record IsNumbered (phase : Phase) (workers : ℕ) (modules : List SelectedModule) (p : Planned) : Type 0 where
  pub present : List Bool
  pub each : length present ≡ length (plan_files phase modules)
  pub is : p ≡ planned_with phase workers present modules
  pub few : p.plan.events ≤ most_events
