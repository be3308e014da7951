-- A module made ready, and what its entries in the plan are made from. Own words.
use Rattle.std.specs.Prelude.{ℕ, ◌+◌, ◌*◌, not, List, [], ◌∷◌, ◌++◌, flat_map, fold, length, map}
use Rattle.mvn_base.specs.Gav.{lock_name}
use Rattle.mvn_base.specs.declared.gav.Gav.{Gav}
use Rattle.mvn_base.specs.declared.phase.Phase.{Phase}
use Rattle.lifecycle.specs.Goals.{installs, unbound}
use Rattle.lifecycle.specs.declared.goal_list.GoalList.{GoalList}
use Rattle.build_core.specs.declared.plan.PlanModule.{PlanModule}
use Rattle.classpaths.specs.Classpaths.{with_name}
use Rattle.module_plan.specs.Numbers.{ascending, fetch_locks, fetch_names, number_of, numbers_of}
use Rattle.module_plan.specs.Outputs.{is_pom, outputs}
use Rattle.module_plan.specs.Plans.{budget_of, entries_of, own_file}
use Rattle.module_plan.specs.Uses.{calls, used_by}
use Rattle.module_plan.specs.declared.numbers.Numbers.{Numbers}
use Rattle.module_plan.specs.declared.numbers.Part.{Part}
use Rattle.module_plan.specs.declared.ready.Ready.{Ready}
use Rattle.module_plan.specs.declared.selected.Output.{Output}
use Rattle.module_plan.specs.declared.selected.SelectedModule.{SelectedModule}

abbrev pub goal_list : Phase → SelectedModule → GoalList
goal_list phase m = record {
  calls = calls phase m;
  unbound = unbound m.model.build.base.plugins;
  installs = installs phase m.model.build.base.plugins;
}

abbrev pub ready : Phase → List Gav → SelectedModule → Ready
ready phase built m = record {
  selected = m;
  goals = goal_list phase m;
  fetch = fetch_names phase built m;
  locks = fetch_locks phase built m;
  outputs = outputs m.model;
}

-- ---- the names and files of modules that are ready

abbrev pub ready_locks : Ready → List (List ℕ)
ready_locks r = lock_name r.selected.model.gav ∷ r.locks

abbrev pub ready_names : List Ready → List (List ℕ)
ready_names modules = ascending (flat_map ready_locks modules)

abbrev pub names_in : List Output → List (List ℕ)
names_in outputs = map (λ (o : Output). o.name) outputs

abbrev pub files_in : Ready → List (List ℕ)
files_in r = r.fetch ++ names_in r.outputs

abbrev pub ready_files : List Ready → List (List ℕ)
ready_files modules = fold with_name [] (flat_map files_in modules)

-- ---- the greatest number of events of modules that are ready: of one, and of all

abbrev pub ready_events : Ready → ℕ
ready_events r = 6 + 4 * length r.locks + 2 * length r.fetch + 2 * length r.outputs + length r.goals.calls

abbrev pub all_ready_events : List Ready → ℕ
all_ready_events [] = 0
all_ready_events (r ∷ modules) = ready_events r + all_ready_events modules

-- ---- the plan's module of one that is ready

abbrev pub numbers_with : (built : List Gav) → (names files : List (List ℕ)) → Ready → Numbers
numbers_with built names files r = record {
  batch = numbers_of names r.locks;
  fetch = numbers_of files r.fetch;
  own_name = number_of names (lock_name r.selected.model.gav);
  own = map (own_file files) r.outputs;
  entries = entries_of built files (used_by r.goals.calls r.selected.resolution.winners);
}

unfoldable pub module_with : Gav → Numbers → Ready → (count : ℕ) → PlanModule
module_with gav n r count = record {
  gav = gav;
  upstream = r.selected.upstream;
  batch = n.batch;
  fetch = n.fetch;
  own_name = n.own_name;
  own = n.own;
  pom = r.selected.pom;
  goals = r.goals.calls;
  sources = r.selected.sources;
  entries = n.entries;
  budget = budget_of count;
  installs = r.goals.installs;
  needs_artifact = not (is_pom r.selected.model);
}

-- with what is shown of it
abbrev pub part_with : Gav → Numbers → Ready → (count : ℕ) → Part
part_with gav n r count = record {
  planned = module_with gav n r count;
  model = r.selected.model;
  resolution = r.selected.resolution;
  unbound = r.goals.unbound;
}

abbrev pub part_of : (built : List Gav) → (names files : List (List ℕ)) → Ready → Part
part_of built names files r = part_with r.selected.model.gav (numbers_with built names files r) r (length built)
