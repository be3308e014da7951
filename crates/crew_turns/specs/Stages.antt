-- Where a worker stands at each stage of a module that it builds. Project rule; Resolver, "Named Locks", for the two takings of a batch.
use Rattle.std.specs.Prelude.{◌≡◌, ℕ, ◌<◌, ◌≤◌, true, List, [], ◌∷◌, length, slice_get, Option, None, Some, is_some, option_and_then, option_map, IfSome}
use Rattle.goal_types.specs.declared.goal.OwnBytes.{OwnBytes}
use Rattle.build_core.specs.declared.mode.Mode.{Mode}
use Rattle.build_core.specs.declared.mode.Mode.TheVariants.{Shared, Exclusive}
use Rattle.build_core.specs.OneThread.{own_bytes}
use Rattle.build_core.specs.declared.plan.OwnFile.{OwnFile}
use Rattle.scripts.specs.ScriptPlaces.{rest_of}
use Rattle.scripts.specs.Scripts.{settled}
use Rattle.scripts.specs.Outlines.{is_empty}
use Rattle.event_core.specs.Worlds.{IsInstallable, IsWithin, is_good, was_published}
use Rattle.scripts.specs.declared.script_place.ScriptPlace.{ScriptPlace}
use Rattle.scripts.specs.declared.script_place.ScriptPlace.TheVariants as place
use Rattle.run_law.specs.Others.{HasAll}
use Rattle.crew_turns.specs.Seen.{Told, seen_by, there_by}
use Rattle.crew_turns.specs.Tasks.{ModuleTask, StandsAt, stood_by, unit_outline}

-- a batch is taken shared, and exclusively
abbrev pub taking : Mode → ScriptPlace
taking Shared = place.Sharing 0
taking Exclusive = place.Locking 0

-- before a batch is taken in a mode: no name is held; where there is none it is as if it were taken
abbrev pub IsToTake : ModuleTask → Mode → Told → Type 0
IsToTake t mode pass = StandsAt t (settled (there_by t.plan pass) true (rest_of (unit_outline t) (taking mode))) None [] pass

-- its batch is held, all files of its fetch list are there, and so many files were read
pub record IsReading (t : ModuleTask) (count : ℕ) (pass : Told) : Type 0 where
  pub at : StandsAt t (settled [] (is_empty t.unit.batch) (rest_of (unit_outline t) (place.Reading count))) None t.unit.batch pass
  pub all : HasAll t.plan (seen_by pass) t.unit

-- its batch is held, and a file is absent: by the mode it frees the batch, or fetches the file at this place of the list
abbrev pub LacksFile : ModuleTask → Mode → ℕ → Told → Type 0
LacksFile t Shared at pass = StandsAt t (rest_of (unit_outline t) place.Unsharing) None t.unit.batch pass
LacksFile t Exclusive at pass = (at < length t.unit.fetch) × StandsAt t (rest_of (unit_outline t) (place.Fetching at)) None t.unit.batch pass

-- by the first file that is absent, where there is one
abbrev pub IsTaken : ModuleTask → Mode → Option ℕ → Told → Type 0
IsTaken t mode None pass = IsReading t 0 pass
IsTaken t mode (Some at) pass = LacksFile t mode at pass

-- no name is held, the classpath is within its limit, and so many goals are answered, all well
pub record HasAnswered (t : ModuleTask) (count : ℕ) (last : Option ℕ) (pass : Told) : Type 0 where
  pub at : StandsAt t (settled [] true (rest_of (unit_outline t) (place.Answering count))) last [] pass
  pub all : HasAll t.plan (seen_by pass) t.unit
  pub within : IsWithin (stood_by t pass)
  pub good : is_good (stood_by t pass).goals ≡ true

-- its own name is held, and so many of its own files are behind it
pub record IsInstalling (t : ModuleTask) (count : ℕ) (pass : Told) : Type 0 where
  pub here : ℕ
  pub low : here ≤ count
  pub begun : 0 < count → 0 < here
  pub at : StandsAt t (rest_of (unit_outline t) (place.Installing here)) None (t.unit.own_name ∷ []) pass
  pub may : IsInstallable (stood_by t pass)

-- ---- own files

-- the own file at a place, the bytes that there are for it, and that it was published if there are any
abbrev pub own_file : ModuleTask → (at : ℕ) → Option ℕ
own_file t at = option_map (λ (o : OwnFile). o.file) (slice_get t.unit.own at)

abbrev pub own_at : ModuleTask → List OwnBytes → (at : ℕ) → Option (List ℕ)
own_at t own at = option_and_then (λ (o : OwnFile). own_bytes t.unit own o.slot) (slice_get t.unit.own at)

abbrev pub IsPut : ModuleTask → List OwnBytes → (at : ℕ) → Told → Type 0
IsPut t own at pass = is_some (own_at t own at) ≡ true → IfSome (own_file t at) (λ file. was_published (seen_by pass) file ≡ true)
