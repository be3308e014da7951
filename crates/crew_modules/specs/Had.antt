-- What a worker has of its module's classpath, one entry after another, or how it stops there. Project rule.
use Rattle.std.specs.Prelude.{◌≡◌, ℕ, ◌+◌, true, List, length, slice_get, Option, option_map, Result, Ok, Err}
use Rattle.goal_types.specs.declared.goal.PathEntry.{PathEntry}
use Rattle.build_core.specs.declared.ending.Ending.{Ending}
use Rattle.build_core.specs.declared.plan.Entry.{Entry}
use Rattle.build_core.specs.declared.plan.Origin.{Origin}
use Rattle.atomic_table.specs.Seated.{TableId}
use Rattle.crew_turns.specs.Seen.{AlwaysFits, Follows, IsOf, Told, names_by}
use Rattle.crew_turns.specs.Tasks.{ModuleTask}
use Rattle.crew_turns.specs.Endings.{is_gather_end}
use Rattle.crew_turns.specs.Paths.{HasBytes, IsGathered}
use Rattle.crew_turns.specs.Stops.{MayStopAlways}

-- where the entry at a place comes from
abbrev pub origin_at : ModuleTask → (at : ℕ) → Option Origin
origin_at t at = option_map (λ (e : Entry). e.origin) (slice_get t.unit.entries at)

-- behind some turns it is the worker's pass still, and what fitted the worker's hand fits it
pub record GoesOn (t : ModuleTask) (lock : TableId) (before pass : Told) : Type 0 where
  pub of : IsOf t.plan lock t.worker pass
  pub follows : Follows before pass
  pub fits : AlwaysFits t.plan t.worker before pass

-- under the batch's locks the worker can't have an entry: its module may end so
pub record StopsReading (t : ModuleTask) (e : Ending) (pass : Told) : Type 0 where
  pub held : names_by t.plan t.worker pass ≡ t.unit.batch
  pub may : MayStopAlways t e pass
  pub end : is_gather_end e ≡ true

-- it has the bytes of the entry at a place, or stops
abbrev pub IsHad : ModuleTask → (at : ℕ) → Result (Option (List ℕ)) Ending → Told → Type 0
IsHad t at (Ok bytes) pass = HasBytes t at bytes pass
IsHad t at (Err e) pass = StopsReading t e pass

-- it has one entry more than so many, or stops
abbrev pub HasMore : {T : Type 0} → ModuleTask → (at : ℕ) → List PathEntry → Result T Ending → Told → Type 0
HasMore t at paths (Ok done) pass = IsGathered t (at + 1) paths pass
HasMore t at paths (Err e) pass = StopsReading t e pass

-- it has all entries, or stops
abbrev pub HasEach : ModuleTask → Result (List PathEntry) Ending → Told → Type 0
HasEach t (Ok paths) pass = IsGathered t (length t.unit.entries) paths pass
HasEach t (Err e) pass = StopsReading t e pass
