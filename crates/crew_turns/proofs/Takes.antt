-- A worker takes a name in a turn: what was due before the turn is due in it, and what fitted then fits.
use Rattle.std.proofs.Common.{◌≡◌, inl, inr, ℕ, Bool, true, false, nat_eq, nat_lt, List, ◌++◌, slice_get, Option, Some, IfSome, refl, sym, ap, subst, ◌∙◌}
use Rattle.std.proofs.lemmas.Bool.{eqb-true, false≢true}
use Rattle.mvn_outside.specs.declared.shelf.ShelfTold.{ShelfTold}
use Rattle.build_core.specs.declared.mode.Mode.{Mode}
use Rattle.build_core.specs.declared.table.Tried.{Tried}
use Rattle.build_core.specs.declared.table.Tried.TheVariants as tried
use Rattle.build_core.specs.declared.event.Event.TheVariants as event
use Rattle.build_core.specs.declared.plan.Plan.{Plan}
use Rattle.build_core.specs.declared.plan.PlanModule.{PlanModule}
use Rattle.scripts.specs.declared.deed.Deed.{Deed}
use Rattle.event_core.specs.declared.entry.Carried.TheVariants as carried
use Rattle.event_core.specs.declared.entry.RunEntry.{RunEntry}
use Rattle.event_core.specs.Causes.{stage_at}
use Rattle.event_core.specs.Enabled.{is_due}
use Rattle.event_core.specs.Runs.{IsRunOf, module_by, standing_of_run}
use Rattle.scripts.specs.Scripts.{stage_of}
use Rattle.event_core.specs.Standing.{Course, course_of, idle, module_of, off_course, on_course}
use Rattle.event_core.specs.Worlds.{Fits, FitsTake, HandTold, is_told, is_told_by, stood}
use Rattle.run_law.proofs.Staying.{course_stays}
use Rattle.run_law.proofs.Ending.{installable}
use Rattle.run_law.specs.Absent.{IsFirstAbsent}
use Rattle.atomic_table.specs.Seated.{TableId}
use Rattle.turn_lock.specs.Passes.{with_view}
use Rattle.turn_lock.specs.Turns.{AddsOne, given, with_turn}
use Rattle.board.specs.Builds.{Build, after_try, standing_at}
use Rattle.board.specs.Logs.{role}
use Rattle.crew_turns.specs.Seen.{AlwaysFits, IsOf, Steps, Told, course_by, seen_by, start_by, there_by, view}
use Rattle.crew_turns.specs.Taken.{IsOut, opened_of}
use Rattle.crew_turns.specs.Turned.{IsReached, Looks}
use Rattle.crew_turns.specs.declared.turns.Reached.{Reached}
use Rattle.crew_turns.proofs.Ends.{IsLate, at_module, has_all}
use Rattle.crew_turns.proofs.Nexts.{no_fits, no_step, same_come}
use Rattle.crew_turns.proofs.Taken.{adds, gave, itself, step_fits}
use Rattle.crew_turns.proofs.Turning.{steps}

six_late : (c : Course) → nat_eq (stage_at c) 6 ≡ true → IsLate c
six_late idle is = absurd (false≢true is)
six_late (on_course m script last) is = ap (nat_lt 3) (eqb-true (stage_of script) 6 is)
six_late (off_course m file all) is = absurd (false≢true is)

bare_take : (told : Bool) (w n : ℕ) (mode : Mode) → is_told told (event.Take w n mode) carried.Nothing ≡ true
bare_take true w n mode = refl
bare_take false w n mode = refl

-- no turn changes what is fixed
pub same_tried : {S : Type 0} (told : S → Option ShelfTold) (faults : S → ℕ) (b : Build S) (w n : ℕ) (mode : Mode) (t : Tried) → opened_of told faults (after_try b w n mode t) ≡ opened_of told faults b
same_tried told faults b w n mode tried.Taken = refl
same_tried told faults b w n mode (tried.Busy h) = refl

pub same_try : {S : Type 0} (b : Build S) (w n : ℕ) (mode : Mode) (t : Tried) → (after_try b w n mode t).plan ≡ b.plan
same_try b w n mode tried.Taken = refl
same_try b w n mode (tried.Busy h) = refl

module _ (plan : Plan) (lock : TableId) (w : ℕ) (before : Told) (of : IsOf plan lock w before) {S : Type 0} (b : Build S) (is : IsOut plan w before b) where
  course_here : course_of (standing_of_run plan b.log) w ≡ course_by plan w before
  course_here = ap (λ log. course_of (standing_of_run plan log) w) is.came.is ∙ course_stays plan (seen_by before) is.came.others w is.came.apart

  pub due_here : (d : Deed) → is_due (course_by plan w before) d ≡ true → is_due (course_of (standing_at b) w) d ≡ true
  due_here d due = subst (λ p. is_due (course_of (standing_of_run p b.log) w) d ≡ true) (sym is.plan_is) (ap (λ c. is_due c d) course_here ∙ due)

  -- installing may begin in the turn where it might before
  take_fits : (number : ℕ) (m : PlanModule) → module_by plan (seen_by before) w ≡ Some number → slice_get plan.modules number ≡ Some m → (told : HandTold) (n : ℕ) (mode : Mode)
      → FitsTake (nat_eq (stage_at (course_by plan w before)) 6) (stood plan (start_by before) (seen_by before) number m)
      → Fits plan (start_by before) (λ v. told) b.log (record { event = event.Take w n mode; carried = carried.Nothing })
  take_fits number m whose at told n mode fits =
      let seen = seen_by before in
      let others = is.came.others in
      let run : IsRunOf plan (seen ++ others) = subst (IsRunOf plan) is.came.is is.run in
      let stays : module_by plan b.log w ≡ Some number = ap module_of course_here ∙ whose in
      let later : FitsTake (nat_eq (stage_at (course_of (standing_of_run plan b.log) w)) 6) (stood plan (start_by before) b.log number m) =
      subst (λ c. FitsTake (nat_eq (stage_at c) 6) (stood plan (start_by before) b.log number m)) (sym course_here)
      (subst (λ log. FitsTake (nat_eq (stage_at (course_by plan w before)) 6) (stood plan (start_by before) log number m)) (sym is.came.is)
      (by (nat_eq (stage_at (course_by plan w before)) 6) refl run fits)) in (
        bare_take (is_told_by (start_by before) (λ v. told) (event.Take w n mode)) w n mode,
        at_module (module_by plan b.log w) number (λ k. IfSome (slice_get plan.modules k) (λ u. FitsTake (nat_eq (stage_at (course_of (standing_of_run plan b.log) w)) 6) (stood plan (start_by before) b.log k u))) stays
            (at_module (slice_get plan.modules number) m (λ u. FitsTake (nat_eq (stage_at (course_of (standing_of_run plan b.log) w)) 6) (stood plan (start_by before) b.log number u)) at later),
      )
    where
      by : (s : Bool) → nat_eq (stage_at (course_by plan w before)) 6 ≡ s → IsRunOf plan (seen_by before ++ is.came.others) → FitsTake s (stood plan (start_by before) (seen_by before) number m)
          → FitsTake s (stood plan (start_by before) (seen_by before ++ is.came.others) number m)
      by true six run fits =
          installable plan (seen_by before) is.came.others w number m of.sound run whose at
          (has_all plan (seen_by before) is.came.others w number m of.sound run is.came.apart whose at (six_late (course_by plan w before) six)) is.came.apart (start_by before) fits
      by false six run fits = tt

  module _ (now : Build S) (mid pass : Told) (took : mid ≡ with_view before (with_turn (view before) b.log)) (n : ℕ) (mode : Mode) where
    pub adds_try : (t : Tried) → now ≡ after_try b w n mode t → (l : List RunEntry) × ((view mid).turn ≡ Some l) × AddsOne role (view mid).number l now.log
    adds_try tried.Taken entry = adds plan lock w before of b is (event.Take w n mode) carried.Nothing now.log (ap (λ (x : Build S). x.log) entry) mid took (inr (itself w))
    adds_try (tried.Busy h) entry = (b.log, ap (λ (p : Told). (view p).turn) took, inl (ap (λ (x : Build S). x.log) entry))

    module _ (gives : pass ≡ with_view mid (given role (view mid) now.log)) (run : IsRunOf plan now.log) where
      pub reach : (unit : PlanModule) (number from : ℕ) (t : Tried) (r : Reached) → now ≡ after_try b w n mode t → now.plan ≡ plan → Looks (standing_at now).there unit.fetch from t r
          → IsReached (record { plan = plan; unit = unit; number = number; worker = w }) lock n mode from r before pass
      reach unit number from tried.Taken r entry over looks =
          let first = subst (λ (p : Told). IsFirstAbsent (there_by plan p) unit.fetch from looks.0) (gave before b.log now.log mid pass took gives)
          (subst (λ p. IsFirstAbsent (standing_of_run p now.log).there unit.fetch from looks.0) over looks.2) in
          let step = subst (Steps plan lock w (event.Take w n mode) before) (gave before b.log now.log mid pass took gives) (steps plan lock w before of b.log now.log is.came (event.Take w n mode) carried.Nothing (ap (λ (x : Build S). x.log) entry) run) in
          subst (λ x. IsReached (record { plan = plan; unit = unit; number = number; worker = w }) lock n mode from x before pass) (sym looks.1) (step, first)
      reach unit number from (tried.Busy h) r entry over looks =
          subst (λ x. IsReached (record { plan = plan; unit = unit; number = number; worker = w }) lock n mode from x before pass) (sym looks)
          (no_step plan lock w before of b is now mid pass took gives run (same_come plan lock w before of b is now mid pass took gives run (ap (λ (x : Build S). x.log) entry)))

      pub reach_fits : (number : ℕ) (m : PlanModule) → module_by plan (seen_by before) w ≡ Some number → slice_get plan.modules number ≡ Some m
          → FitsTake (nat_eq (stage_at (course_by plan w before)) 6) (stood plan (start_by before) (seen_by before) number m) → (t : Tried) → now ≡ after_try b w n mode t → AlwaysFits plan w before pass
      reach_fits number m whose at fits tried.Taken entry =
          λ told. step_fits plan lock w before of b is (event.Take w n mode) carried.Nothing now.log (ap (λ (x : Build S). x.log) entry) mid pass took gives told (take_fits number m whose at told n mode fits)
      reach_fits number m whose at fits (tried.Busy h) entry =
          no_fits plan lock w before of b is now mid pass took gives run (same_come plan lock w before of b is now mid pass took gives run (ap (λ (x : Build S). x.log) entry))
