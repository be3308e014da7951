-- A build under way, as its workers share it, and what each call leaves of it. Project rule.
use Rattle.std.specs.Prelude.{◌≡◌, ℕ, ◌+◌, ◌<◌, Bool, true, false, nat_eq, List, [], ◌∷◌, ◌++◌, length, find, replicate, slice_get, slice_set, Option, Some, None, is_some, IfSome, if◌then◌else◌}
use Rattle.std.specs.List.{slice_index_or}
use Rattle.std.specs.FinMap as map
use Rattle.std.specs.Option.{option_map_or}
use Rattle.mvn_shared.specs.Cause.{RoseBy}
use Rattle.mvn_outside.specs.Pieces.{Contents}
use Rattle.mvn_shared.specs.Files.{file_at}
use Rattle.mvn_outside.specs.Shelf.{files_now, published}
use Rattle.mvn_outside.specs.declared.fault.ReadFault.{ReadFault}
use Rattle.mvn_outside.specs.declared.fault.ReadFault.TheVariants as read
use Rattle.mvn_outside.specs.declared.shelf.ShelfTold.{ShelfTold}
use Rattle.goal_types.specs.declared.goal.Slot.{Slot}
use Rattle.build_core.specs.Locks.{below, blocker}
use Rattle.build_core.specs.declared.mode.Mode.{Mode}
use Rattle.build_core.specs.declared.table.Tried.{Tried}
use Rattle.build_core.specs.declared.table.Tried.TheVariants.{Taken, Busy}
use Rattle.build_core.specs.declared.event.Event.{Event}
use Rattle.build_core.specs.declared.event.Event.TheVariants as event
use Rattle.build_core.specs.declared.plan.Plan.{Plan}
use Rattle.build_core.specs.OneThread.{name_of}
use Rattle.build_core.specs.Slots.{GoalsEnd, slot_bytes}
use Rattle.event_core.specs.Enabled.{Enabled}
use Rattle.event_core.specs.Going.{AreOn, GoesOn}
use Rattle.scripts.specs.Outlines.{outline_of}
use Rattle.event_core.specs.Runs.{IsQuiet, answers_in, events_of, goals_in, module_by, standing_of_run}
use Rattle.scripts.specs.Scripts.{is_there}
use Rattle.event_core.specs.HowFar.{is_ready, is_skippable}
use Rattle.event_core.specs.Standing.{Standing, course_of, is_complete, module_of}
use Rattle.event_core.specs.declared.entry.Carried.{Carried}
use Rattle.event_core.specs.declared.entry.Carried.TheVariants as carried
use Rattle.event_core.specs.declared.entry.RunEntry.{RunEntry}
use Rattle.scripts.specs.declared.outline.Outline.{Outline}
use Rattle.event_core.specs.Worlds.{is_too_large_at}
use Rattle.board.specs.declared.walk.GoalsStand.{GoalsStand}
use Rattle.board.specs.declared.walk.GoalsStand.TheVariants as stand
use Rattle.run_law.specs.Given.{outputs_after}
use Rattle.board.specs.Logs.{marked, shelf_endings}
use Rattle.board.specs.declared.next.AnswerKept.{AnswerKept}
use Rattle.board.specs.declared.next.AnswerKept.TheVariants.{Held, TooLarge}
use Rattle.board.specs.declared.next.Next.{Next}
use Rattle.board.specs.declared.next.Next.TheVariants as next

-- ---- answers of calls

-- what a worker does next, by the first module that is to be skipped, the first that may begin, and whether all is over
abbrev pub next_of : (skippable ready : Option ℕ) → (complete : Bool) → Next
next_of (Some m) ready complete = next.Skipped m
next_of None (Some m) complete = next.Module m
next_of None None true = next.Done
next_of None None false = next.Wait

abbrev pub next_in : Outline → Standing → Next
next_in o now = next_of (find (is_skippable o now.progress) (below (length o.modules))) (find (is_ready o now.progress) (below (length o.modules))) (is_complete now)

-- the name is taken, unless another's hold excludes it: then the least such worker is told
abbrev pub tried_by : Option ℕ → Tried
tried_by None = Taken
tried_by (Some h) = Busy h

-- whether an answer was kept within the budget, by how the goals of its module stand with it
abbrev pub answer_kept : (goal : ℕ) → GoalsEnd → AnswerKept
answer_kept goal end = if is_too_large_at goal end then TooLarge else Held

-- as they stand
abbrev pub kept_so : (goal : ℕ) → GoalsStand → AnswerKept
kept_so goal (stand.TooLarge at) = if nat_eq at goal then TooLarge else Held
kept_so goal other = Held

-- ---- the build

-- its plan, the repository as it was given and as it is now, what happened so far, and of each worker whether the repository failed in the
-- module that it builds
pub record Build (S : Type 0) : Type 0 where
  pub plan : Plan
  pub opening : S
  pub shelf : S
  pub log : List RunEntry
  pub marks : List Bool

module _ {S : Type 0} where
  -- where nothing has happened
  abbrev pub opened : Plan → S → Build S
  opened plan shelf = record { plan = plan; opening = shelf; shelf = shelf; log = []; marks = replicate plan.workers false }

  abbrev pub standing_at : Build S → Standing
  standing_at b = standing_of_run b.plan b.log

  -- the event may come next
  abbrev pub MayCome : Build S → Event → Type 0
  MayCome b e = Enabled (outline_of b.plan) (events_of b.log) e

  -- the module that a worker builds
  abbrev pub module_at : Build S → ℕ → Option ℕ
  module_at b w = module_by b.plan b.log w

  -- another worker has an event that is due and may come
  abbrev pub AnotherGoesOn : Build S → ℕ → Type 0
  AnotherGoesOn b w = (u : ℕ) × ((u ≡ w) → ⊥) × (u < b.plan.workers) × GoesOn (outline_of b.plan) (standing_at b) u

  -- no worker has left its script: of a free that wasn't due nothing is said
  abbrev pub NoneLeft : Build S → Type 0
  NoneLeft b = AreOn (outline_of b.plan) (standing_at b)

  -- the files that are there are those that the repository tells
  abbrev pub HasFiles : Build S → ShelfTold → Type 0
  HasFiles b told = (f : ℕ) → f < length b.plan.files → is_there (standing_at b).there f ≡ is_some (file_at (files_now told) (name_of b.plan f))

  -- ---- an entry more

  abbrev pub with_entry : Build S → Event → Carried → Build S
  with_entry b e what = record b { log = b.log ++ (record { event = e; carried = what }) ∷ [] }

  -- an event that carries nothing
  abbrev pub with_event : Build S → Event → Build S
  with_event b e = with_entry b e carried.Nothing

  -- ---- marks

  abbrev pub is_marked : Build S → ℕ → Bool
  is_marked b w = slice_index_or b.marks w false

  abbrev pub with_mark : Build S → ℕ → Bool → Build S
  with_mark b w mark = record b { marks = slice_set b.marks w mark }

  -- a worker is marked where the repository failed
  abbrev pub with_fault : Build S → ℕ → (failed : Bool) → Build S
  with_fault b w true = with_mark b w true
  with_fault b w false = b

  abbrev pub with_shelf : Build S → S → Build S
  with_shelf b shelf = record b { shelf = shelf }

  -- ---- what a worker does next

  -- the first module that is to be skipped is skipped, and else the first that may begin is begun
  abbrev pub next_at : Build S → Next
  next_at b = next_in (outline_of b.plan) (standing_at b)

  abbrev pub after_next : Build S → ℕ → Next → Build S
  after_next b w (next.Skipped m) = with_event b (event.Skip m)
  after_next b w (next.Module m) = with_event b (event.Start w m)
  after_next b w next.Wait = b
  after_next b w next.Done = b

  -- ---- answers

  -- an answer to a goal of a module, as its goals stand now
  abbrev pub kept_in : Build S → (number goal : ℕ) → AnswerKept
  kept_in b number goal = option_map_or (λ m. answer_kept goal (goals_in (answers_in b.plan b.log) number m)) (slice_get b.plan.modules number) Held

  -- the bytes that a module keeps in a slot
  abbrev pub output_at : Build S → (number : ℕ) → Slot → Option (List ℕ)
  output_at b number slot = slot_bytes (outputs_after b.plan b.log number) slot

  -- ---- names

  abbrev pub tried_at : Build S → (worker name : ℕ) → Mode → Tried
  tried_at b w n mode = tried_by (blocker (standing_at b).locks n w mode)

  abbrev pub after_try : Build S → (worker name : ℕ) → Mode → Tried → Build S
  after_try b w n mode Taken = with_event b (event.Take w n mode)
  after_try b w n mode (Busy h) = b

-- ---- publishes

-- an entry of a publish, by what the repository tells before and after: one publish more of the name, whose bytes the entry carries, and which
-- are the piece's where the area tells them; nothing where it tells nothing
abbrev pub Publishes : (before now : Option ShelfTold) → Option Contents → (piece : ℕ) → (name : List ℕ) → Carried → Type 0
Publishes None now area piece name what = (now ≡ None) × (what ≡ carried.Nothing)
Publishes (Some told) now area piece name what = (bytes : List ℕ) × (now ≡ Some (published told name bytes)) × (what ≡ carried.Published bytes) × IfSome area (λ contents. map.get contents piece ≡ Some bytes)

-- ---- faults

abbrev pub has_failed : ReadFault → Bool
has_failed read.Failed = true
has_failed read.TooLarge = false
has_failed read.Memory = false

-- where the repository told its files at first, its faults are at least as many as the modules that ended by them and the workers that are marked
abbrev pub AreCaused : Option ShelfTold → (before now : ℕ) → List RunEntry → List Bool → Type 0
AreCaused told before now log marks = IfSome told (λ t. RoseBy (shelf_endings log + marked marks) before now)

-- as long as no module ended by a fault or for want of memory, and no worker is marked, the repository's count stands as at first
abbrev pub IsCalm : (before now : ℕ) → List RunEntry → List Bool → Type 0
IsCalm before now log marks = IsQuiet log → marked marks ≡ 0 → now ≡ before

-- each worker that is marked builds a module
abbrev pub AreBusy : Standing → List Bool → Type 0
AreBusy now marks = (w : ℕ) → slice_index_or marks w false ≡ true → is_some (module_of (course_of now w)) ≡ true
