-- A turn whose call of the board may fail: an entry more where it succeeded, and else none.
use Rattle.std.proofs.Common.{◌≡◌, inl, ℕ, Bool, true, false, List, [], ◌∷◌, ◌++◌, Option, Some, Result, Ok, Err, OnOk, OnErr, refl, ap, ◌∙◌}
use Rattle.mvn_outside.specs.declared.shelf.ShelfTold.{ShelfTold}
use Rattle.build_core.specs.declared.event.Event.{Event}
use Rattle.build_core.specs.declared.plan.Plan.{Plan}
use Rattle.event_core.specs.declared.entry.Carried.{Carried}
use Rattle.event_core.specs.declared.entry.RunEntry.{RunEntry}
use Rattle.event_core.specs.Runs.{IsRunOf}
use Rattle.event_core.specs.Worlds.{Fits, HandTold}
use Rattle.atomic_table.specs.Seated.{TableId}
use Rattle.turn_lock.specs.Passes.{with_view}
use Rattle.turn_lock.specs.Turns.{AddsOne, MayAdd, given, with_turn}
use Rattle.board.specs.Builds.{Build, MayCome, with_fault}
use Rattle.board.specs.Logs.{role, role_of}
use Rattle.crew_turns.specs.Seen.{IsOf, KeepsFit, Sees, Steps, Told, seen_by, start_by, view}
use Rattle.crew_turns.specs.Taken.{IsOut, opened_of}
use Rattle.crew_turns.proofs.Nexts.{no_fits, no_step, same_come}
use Rattle.crew_turns.proofs.Taken.{adds, gave, step_fits, stepped}

-- the log of a board by a result: an event more, with something of which this is known, or none
abbrev pub LeavesLog : {S T F : Type 0} → Build S → Event → (Carried → Type 0) → Result T F → (log : List RunEntry) → Type 0
LeavesLog b e Q (Ok x) log = (what : Carried) × Q what × (log ≡ b.log ++ (record { event = e; carried = what }) ∷ [])
LeavesLog b e Q (Err f) log = log ≡ b.log

-- and nothing of what is fixed is changed
pub record IsLeft {S T F : Type 0} (b : Build S) (e : Event) (Q : Carried → Type 0) (r : Result T F) (now : Build S) : Type 0 where
  pub log : LeavesLog b e Q r now.log
  pub plan : now.plan ≡ b.plan
  pub opening : now.opening ≡ b.opening

pub same_opened : {S : Type 0} (told : S → Option ShelfTold) (faults : S → ℕ) (b now : Build S) → now.plan ≡ b.plan → now.opening ≡ b.opening → opened_of told faults now ≡ opened_of told faults b
same_opened told faults b now plan opening =
    ap (λ p. record { plan = p; told = told now.opening; faults = faults now.opening }) plan
    ∙ ap (λ s. record { plan = b.plan; told = told s; faults = faults s }) opening

-- a mark changes neither
pub marked_log : {S : Type 0} (b : Build S) (w : ℕ) (failed : Bool) → (with_fault b w failed).log ≡ b.log
marked_log b w true = refl
marked_log b w false = refl

pub marked_plan : {S : Type 0} (b : Build S) (w : ℕ) (failed : Bool) → (with_fault b w failed).plan ≡ b.plan
marked_plan b w true = refl
marked_plan b w false = refl

pub marked_opening : {S : Type 0} (b : Build S) (w : ℕ) (failed : Bool) → (with_fault b w failed).opening ≡ b.opening
marked_opening b w true = refl
marked_opening b w false = refl

-- what was given back is what the pass has seen
pub seen_is : (before : Told) (out log : List RunEntry) (mid pass : Told) → mid ≡ with_view before (with_turn (view before) out) → pass ≡ with_view mid (given role (view mid) log) → log ≡ seen_by pass
seen_is before out log mid pass took gives = ap seen_by (gave before out log mid pass took gives)

module _ (plan : Plan) (lock : TableId) (w : ℕ) (before : Told) (of : IsOf plan lock w before) {S T F : Type 0} (b : Build S) (is : IsOut plan w before b) (e : Event) (Q : Carried → Type 0) (r : Result T F) (now : Build S)
    (log : LeavesLog b e Q r now.log) (mid pass : Told) (took : mid ≡ with_view before (with_turn (view before) b.log)) where
  -- what is given back
  pub adds_by : MayAdd role w (role_of e) → (l : List RunEntry) × ((view mid).turn ≡ Some l) × AddsOne role (view mid).number l now.log
  adds_by may = by r log
    where
      by : (r : Result T F) → LeavesLog b e Q r now.log → (l : List RunEntry) × ((view mid).turn ≡ Some l) × AddsOne role (view mid).number l now.log
      by (Ok x) one = adds plan lock w before of b is e one.0 now.log one.2 mid took may
      by (Err f) same = (b.log, ap (λ (p : Told). (view p).turn) took, inl same)

  module _ (gives : pass ≡ with_view mid (given role (view mid) now.log)) where
    -- a step where it succeeded
    pub steps_by : MayCome b e → OnOk r (Steps plan lock w e before pass)
    steps_by may = by r log
      where
        by : (r : Result T F) → LeavesLog b e Q r now.log → OnOk r (Steps plan lock w e before pass)
        by (Ok x) one = stepped plan lock w before of b is e one.0 now.log one.2 mid pass took gives may
        by (Err f) same = tt

    -- and else none
    pub sees_by : IsRunOf plan now.log → OnErr r (Sees plan lock w before pass)
    sees_by run = by r log
      where
        by : (r : Result T F) → LeavesLog b e Q r now.log → OnErr r (Sees plan lock w before pass)
        by (Ok x) one = tt
        by (Err f) same = no_step plan lock w before of b is now mid pass took gives run (same_come plan lock w before of b is now mid pass took gives run same)

    -- what fitted fits, where the entry does
    pub fits_by : IsRunOf plan now.log → (told : HandTold) → ((what : Carried) → Q what → Fits plan (start_by before) (λ v. told) b.log (record { event = e; carried = what })) → KeepsFit plan w told before pass
    fits_by run told fits = by r log
      where
        by : (r : Result T F) → LeavesLog b e Q r now.log → KeepsFit plan w told before pass
        by (Ok x) one = step_fits plan lock w before of b is e one.0 now.log one.2 mid pass took gives told (fits one.0 one.1)
        by (Err f) same = no_fits plan lock w before of b is now mid pass took gives run (same_come plan lock w before of b is now mid pass took gives run same) told
