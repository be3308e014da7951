-- The entries of a module's classpaths with their bytes, while a worker gathers them. Project rule.
use Rattle.std.specs.Prelude.{◌≡◌, ℕ, ◌+◌, List, length, slice_get, Option, IfSome}
use Rattle.goal_types.specs.declared.goal.PathEntry.{PathEntry}
use Rattle.build_core.specs.OneThread.{origin_bytes}
use Rattle.build_core.specs.declared.plan.Entry.{Entry}
use Rattle.run_law.specs.Gathered.{files_before}
use Rattle.crew_turns.specs.Parts.{IsPart}
use Rattle.crew_turns.specs.Seen.{Told}
use Rattle.crew_turns.specs.Tasks.{ModuleTask, stood_by}
use Rattle.crew_turns.specs.Stages.{IsReading}

-- these are the first so many entries with their bytes, as the run stands that the pass has seen, where the repository tells its files
abbrev pub ArePaths : ModuleTask → (count : ℕ) → List PathEntry → Told → Type 0
ArePaths t count paths pass = IfSome (stood_by t pass).files (λ files. IsPart t.plan files (stood_by t pass).outputs t.unit.entries count paths)

-- all of them
abbrev pub IsPath : ModuleTask → List PathEntry → Told → Type 0
IsPath t paths pass = ArePaths t (length t.unit.entries) paths pass

-- the worker has the first so many entries with their bytes, and has read their files, under the batch's locks
pub record IsGathered (t : ModuleTask) (count : ℕ) (paths : List PathEntry) (pass : Told) : Type 0 where
  pub at : IsReading t (length (files_before t.unit count)) pass
  pub are : ArePaths t count paths pass
  pub many : length paths ≡ count

-- the bytes of the entry at a place, and it is read
pub record HasBytes (t : ModuleTask) (at : ℕ) (bytes : Option (List ℕ)) (pass : Told) : Type 0 where
  pub stands : IsReading t (length (files_before t.unit (at + 1))) pass
  pub right : IfSome (stood_by t pass).files (λ files. IfSome (slice_get t.unit.entries at) (λ (e : Entry). bytes ≡ origin_bytes t.plan files (stood_by t pass).outputs e.origin))
