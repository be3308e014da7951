-- The entries of a module's classpaths while they are gathered, one after another. Project rule.
use Rattle.std.specs.Prelude.{ℕ, List, [], ◌∷◌, fold, take, Option, Some, None, if◌then◌else◌}
use Rattle.goal_types.specs.declared.goal.Need.{Need}
use Rattle.goal_types.specs.declared.goal.PathEntry.{PathEntry}
use Rattle.build_core.specs.OneThread.{is_needed}
use Rattle.build_core.specs.declared.plan.Entry.{Entry}
use Rattle.build_core.specs.declared.plan.PlanModule.{PlanModule}
use Rattle.scripts.specs.Outlines.{files_of, once_more}

-- the files that the first so many entries of a module come from, each once
abbrev pub files_before : PlanModule → (count : ℕ) → List ℕ
files_before m count = fold once_more [] (files_of (take count m.entries))

-- the files with that of an entry, if it comes from one
abbrev pub with_file : List ℕ → Option ℕ → List ℕ
with_file files None = files
with_file files (Some file) = once_more files file

-- those entries that a goal needs, of entries with their bytes: `paths` stand beside `entries`
abbrev pub needed_of : Need → List Entry → List PathEntry → List PathEntry
needed_of need [] paths = []
needed_of need (e ∷ entries) [] = []
needed_of need (e ∷ entries) (p ∷ paths) = if is_needed need e then p ∷ needed_of need entries paths else needed_of need entries paths
