-- The names, the files and the modules of a plan. Own words.
use Rattle.std.specs.Prelude.{ℕ, nat_lt, List, map, Option, Some, None, if◌then◌else◌}
use Rattle.mvn_base.specs.FileName.{IsValid}
use Rattle.mvn_base.specs.declared.gav.Gav.{Gav}
use Rattle.mvn_base.specs.declared.phase.Phase.{Phase}
use Rattle.lifecycle.specs.Goals.{unbound}
use Rattle.module_plan.specs.Numbers.{plan_files, plan_names}
use Rattle.module_plan.specs.Parts.{parts_of}
use Rattle.module_plan.specs.Plans.{all_events, most_events, plan_modules}
use Rattle.module_plan.specs.Ready.{all_ready_events, ready_files, ready_names}
use Rattle.module_plan.specs.declared.parts.Parts.{Parts}
use Rattle.module_plan.specs.declared.ready.Ready.{Ready}
use Rattle.module_plan.specs.declared.selected.SelectedModule.{SelectedModule}
use Rattle.plan_numbers.specs.declared.whole.Numbered.{Numbered}

-- the coordinates of a module are valid
abbrev pub HasGav : SelectedModule → Type 0
HasGav m = IsValid m.model.gav

abbrev pub all_parts : Phase → List SelectedModule → Parts
all_parts phase modules = record {
  modules = plan_modules phase modules;
  models = map (λ (m : SelectedModule). m.model) modules;
  resolutions = map (λ (m : SelectedModule). m.resolution) modules;
  unbound = map (λ (m : SelectedModule). unbound m.model.build.base.plugins) modules;
}

abbrev pub numbered_of : Phase → List SelectedModule → Numbered
numbered_of phase modules = record {
  names = plan_names phase modules;
  files = plan_files phase modules;
  parts = all_parts phase modules;
  events = all_events (plan_modules phase modules);
}

-- a number of events that a plan may have
abbrev pub counted : ℕ → Option ℕ
counted events = if nat_lt most_events events then None else Some events

-- nothing where there are too many events
abbrev pub numbered_if : Phase → List SelectedModule → Option Numbered
numbered_if phase modules = if nat_lt most_events (all_events (plan_modules phase modules)) then None else Some (numbered_of phase modules)

-- of modules that are ready, by the coordinates of all that are built
abbrev pub numbered_with : (built : List Gav) → List Ready → (events : ℕ) → Numbered
numbered_with built modules events = record {
  names = ready_names modules;
  files = ready_files modules;
  parts = parts_of built (ready_names modules) (ready_files modules) modules;
  events = events;
}

-- nothing where they have too many events
abbrev pub numbered_few : (built : List Gav) → List Ready → Option Numbered
numbered_few built modules =
    if nat_lt most_events (all_ready_events modules) then None else Some (numbered_with built modules (all_ready_events modules))
