-- What a core keeps of a plan. Own.
use Rattle.std.specs.Prelude.{ℕ, Bool, true, false, nat_eq, List, [], ◌∷◌, ◌++◌, length, map, filter_map, fold, Option, Some, None, if◌then◌else◌}
use Rattle.std.specs.List.{list_any}
use Rattle.build_core.specs.declared.plan.Plan.{Plan}
use Rattle.build_core.specs.declared.plan.PlanModule.{PlanModule}
use Rattle.build_core.specs.declared.plan.OwnFile.{OwnFile}
use Rattle.build_core.specs.declared.plan.Entry.{Entry}
use Rattle.build_core.specs.declared.plan.Origin.{Origin}
use Rattle.build_core.specs.declared.plan.Origin.TheVariants as origin
use Rattle.scripts.specs.declared.outline.Outline.{Outline}
use Rattle.scripts.specs.declared.outline.ModuleOutline.{ModuleOutline}

abbrev pub is_empty : List ℕ → Bool
is_empty [] = true
is_empty (x ∷ xs) = false

abbrev pub is_listed : ℕ → List ℕ → Bool
is_listed x xs = list_any (λ y. nat_eq y x) xs

-- a number behind others, unless it is one of them
abbrev pub once_more : List ℕ → ℕ → List ℕ
once_more met x = if is_listed x met then met else met ++ x ∷ []

abbrev pub file_of : Origin → Option ℕ
file_of (origin.File file) = Some file
file_of (origin.Module m s) = None
file_of origin.Nothing = None

abbrev pub files_of : List Entry → List ℕ
files_of entries = filter_map (λ (e : Entry). file_of e.origin) entries

-- the files that a module's entries come from, each once, by their first entries
abbrev pub files_read : PlanModule → List ℕ
files_read m = fold once_more [] (files_of m.entries)

abbrev pub module_outline : PlanModule → ModuleOutline
module_outline m = record {
  upstream = m.upstream;
  batch = m.batch;
  fetch = m.fetch;
  reads = files_read m;
  goals = length m.goals;
  own_name = m.own_name;
  own = map (λ (o : OwnFile). o.file) m.own;
  installs = m.installs;
  needs_artifact = m.needs_artifact;
}

abbrev pub outline_of : Plan → Outline
outline_of plan = record { modules = map module_outline plan.modules; names = length plan.names; present = plan.present; workers = plan.workers; events = plan.events }
