-- What an idle worker is told, by what the board said.
use Rattle.std.proofs.Common.{◌≡◌, inl, inr, ℕ, ◌<◌, Bool, true, false, not, List, [], ◌∷◌, ◌++◌, length, find, slice_get, Option, Some, None, refl, arith, sym, ap, subst, ◌∙◌}
use Rattle.std.specs.List.{list_all}
use Rattle.std.specs.Option.{option_map_or}
use Rattle.std.proofs.lemmas.Bool.{false≢true}
use Rattle.std.proofs.lemmas.List.{append_assoc, get_or-set_same}
use Rattle.std.proofs.lemmas.List.Folds.{list_all-append}
use Rattle.mvn_outside.specs.declared.shelf.ShelfTold.{ShelfTold}
use Rattle.build_core.specs.Locks.{below}
use Rattle.build_core.specs.declared.event.Event.TheVariants as event
use Rattle.build_core.specs.declared.plan.Plan.{Plan}
use Rattle.event_core.specs.declared.entry.Carried.TheVariants as carried
use Rattle.event_core.specs.declared.entry.RunEntry.{RunEntry}
use Rattle.scripts.specs.declared.outline.Outline.{Outline}
use Rattle.event_core.specs.Enabled.{Enabled}
use Rattle.scripts.specs.Outlines.{is_empty, module_outline, outline_of}
use Rattle.event_core.specs.Runs.{IsComplete, IsRunOf, events_of, module_by, standing_of_run}
use Rattle.scripts.specs.Scripts.{script_of, settled, whole}
use Rattle.event_core.specs.HowFar.{is_ready, is_skippable}
use Rattle.event_core.specs.Standing.{Course, Standing, after, course_of, held_by, idle, is_complete, module_of, on_course, start_of}
use Rattle.event_core.specs.Worlds.{Fits, HandTold, is_told, is_told_by}
use Rattle.run_law.proofs.Basics.{and_is}
use Rattle.run_law.proofs.Complete.{IsStanding, standing}
use Rattle.run_law.proofs.LaterMoments.{front, next_is}
use Rattle.run_law.proofs.Stored.{get_map, length_map}
use Rattle.run_law.specs.Others.{is_of}
use Rattle.run_law.proofs.Staying.{course_stays}
use Rattle.atomic_table.specs.Seated.{TableId}
use Rattle.turn_lock.specs.Passes.{with_view}
use Rattle.turn_lock.specs.Turns.{AddsOne, given, with_turn}
use Rattle.board.specs.Builds.{Build, after_next, next_at, next_of, standing_at}
use Rattle.board.specs.Logs.{role}
use Rattle.board.specs.declared.next.Next.{Next}
use Rattle.board.specs.declared.next.Next.TheVariants as next
use Rattle.crew_turns.specs.Came.{HasCome}
use Rattle.crew_turns.specs.Seen.{AlwaysFits, FitsHand, IsOf, Sees, Steps, Told, seen_by, start_by, there_by, view}
use Rattle.crew_turns.specs.Taken.{IsOut, opened_of}
use Rattle.crew_turns.specs.Tasks.{IsTask, ModuleTask}
use Rattle.crew_turns.specs.Turned.{HasStarted, IsBegun, IsIn, IsTold}
use Rattle.crew_turns.proofs.Taken.{adds, gave, itself, step_fits}
use Rattle.crew_turns.proofs.Turning.{asks_nothing, sees, sees_fits, steps}

-- where a worker stands behind its start
abbrev Begun : Outline → ℕ → ℕ → Standing → Type 0
Begun o w m now = (course_of now w ≡ on_course m (settled now.there true (start_of o m)) None) × (held_by now w ≡ [])

started : (o : Outline) (now : Standing) (w m : ℕ) → IsStanding o now → w < o.workers → module_of (course_of now w) ≡ None
    → Begun o w m (after o now (event.Start w m))
unfolding after
started o now w m s low none =
    let held : held_by now w ≡ [] = s.free w none in
    let courses = s.fit.courses in
    let c : Course = on_course m (settled now.there (is_empty (held_by now w)) (start_of o m)) None in
    (get_or-set_same now.courses w c idle (omega (arith, low, courses)) ∙ ap (λ (ns : List ℕ). on_course m (settled now.there (is_empty ns) (start_of o m)) None) held, held)

-- the module is one of the plan's
start_low : (plan : Plan) (past : List RunEntry) (w m : ℕ) → Enabled (outline_of plan) (events_of past) (event.Start w m) → m < length plan.modules
unfolding Enabled
start_low plan past w m may =
    let low = may.1 in
    let long = length_map module_outline plan.modules in
    omega (arith, low, long)

-- all is over where the board says so
abbrev is_done : Next → Bool
is_done next.Done = true
is_done other = false

over : (a b : Option ℕ) (c : Bool) → is_done (next_of a b c) ≡ true → c ≡ true
over (Some x) b c is = absurd (false≢true is)
over None (Some x) c is = absurd (false≢true is)
over None None true is = refl
over None None false is = absurd (false≢true is)

-- no turn changes what is fixed
pub same_opened : {S : Type 0} (told : S → Option ShelfTold) (faults : S → ℕ) (b : Build S) (w : ℕ) (n : Next) → opened_of told faults (after_next b w n) ≡ opened_of told faults b
same_opened told faults b w (next.Skipped m) = refl
same_opened told faults b w (next.Module m) = refl
same_opened told faults b w next.Wait = refl
same_opened told faults b w next.Done = refl

pub same_plan : {S : Type 0} (b : Build S) (w : ℕ) (n : Next) → (after_next b w n).plan ≡ b.plan
same_plan b w (next.Skipped m) = refl
same_plan b w (next.Module m) = refl
same_plan b w next.Wait = refl
same_plan b w next.Done = refl

bare_start : (told : Bool) (w m : ℕ) → is_told told (event.Start w m) carried.Nothing ≡ true
bare_start true w m = refl
bare_start false w m = refl

start_fits : (plan : Plan) (before : Told) (told : HandTold) (past : List RunEntry) (w m : ℕ) → Fits plan (start_by before) (λ v. told) past (record { event = event.Start w m; carried = carried.Nothing })
start_fits plan before told past w m = (bare_start (is_told_by (start_by before) (λ v. told) (event.Start w m)) w m, asks_nothing (module_by plan past w) (λ number. slice_get plan.modules number))

module _ (plan : Plan) (lock : TableId) (w : ℕ) (before : Told) (of : IsOf plan lock w before) {S : Type 0} (b : Build S) (is : IsOut plan w before b) where
  -- the worker builds nothing still
  pub still_idle : module_by plan (seen_by before) w ≡ None → module_by plan b.log w ≡ None
  still_idle none = ap (λ log. module_of (course_of (standing_of_run plan log) w)) is.came.is ∙ ap module_of (course_stays plan (seen_by before) is.came.others w is.came.apart) ∙ none

  pub low_worker : w < b.plan.workers
  low_worker = subst (λ (p : Plan). w < p.workers) (sym is.plan_is) is.low

  pub idle_here : module_by plan (seen_by before) w ≡ None → module_by b.plan b.log w ≡ None
  idle_here none = subst (λ p. module_by p b.log w ≡ None) (sym is.plan_is) (still_idle none)

  module _ (now : Build S) (mid pass : Told) (took : mid ≡ with_view before (with_turn (view before) b.log)) where
    -- what is given back
    pub adds_next : (n : Next) → now ≡ after_next b w n → (l : List RunEntry) × ((view mid).turn ≡ Some l) × AddsOne role (view mid).number l now.log
    adds_next (next.Skipped m) after = adds plan lock w before of b is (event.Skip m) carried.Nothing now.log (ap (λ (x : Build S). x.log) after) mid took (inl refl)
    adds_next (next.Module m) after = adds plan lock w before of b is (event.Start w m) carried.Nothing now.log (ap (λ (x : Build S). x.log) after) mid took (inr (itself w))
    adds_next next.Wait after = (b.log, ap (λ (p : Told). (view p).turn) took, inl (ap (λ (x : Build S). x.log) after))
    adds_next next.Done after = (b.log, ap (λ (p : Told). (view p).turn) took, inl (ap (λ (x : Build S). x.log) after))

    module _ (gives : pass ≡ with_view mid (given role (view mid) now.log)) (run : IsRunOf plan now.log) where
      -- nothing of the worker's
      pub no_step : (has : HasCome w before now.log) → Sees plan lock w before pass
      no_step has = subst (Sees plan lock w before) (gave before b.log now.log mid pass took gives) (sees plan lock w before of now.log now.log has run)

      pub no_fits : (has : HasCome w before now.log) → AlwaysFits plan w before pass
      no_fits has = λ told fits. subst (FitsHand plan w told) (gave before b.log now.log mid pass took gives) (sees_fits plan lock w before of now.log now.log has told fits)

      pub same_come : now.log ≡ b.log → HasCome w before now.log
      same_come same = subst (HasCome w before) (sym same) is.came

      skip_come : (m : ℕ) → now ≡ after_next b w (next.Skipped m) → HasCome w before now.log
      skip_come m after =
          let e : RunEntry = record { event = event.Skip m; carried = carried.Nothing } in
          record {
            others = is.came.others ++ e ∷ [];
            apart = list_all-append (λ (x : RunEntry). not (is_of w x.event)) is.came.others (e ∷ []) ∙ and_is (list_all (λ (x : RunEntry). not (is_of w x.event)) is.came.others) true is.came.apart refl;
            is = ap (λ (x : Build S). x.log) after ∙ ap (λ (l : List RunEntry). l ++ e ∷ []) is.came.is ∙ append_assoc (seen_by before) is.came.others (e ∷ []);
          }

      pub told : (n : Next) → n ≡ next_at b → now ≡ after_next b w n → module_by plan (seen_by before) w ≡ None → IsTold plan lock w n before pass
      told (next.Module m) said after none =
          let e : RunEntry = record { event = event.Start w m; carried = carried.Nothing } in
          let one : now.log ≡ b.log ++ e ∷ [] = ap (λ (x : Build S). x.log) after in
          let o = outline_of plan in
          let here : standing_of_run plan now.log ≡ Rattle.event_core.specs.Standing.after o (standing_of_run plan b.log) (event.Start w m) = ap (standing_of_run plan) one ∙ next_is plan 0 b.log e in
          let stands = subst (Begun o w m) (sym here) (started o (standing_of_run plan b.log) w m (standing o (events_of b.log) is.run) is.low (still_idle none)) in
          let behind : Begun o w m (standing_of_run plan (seen_by pass)) = subst (λ (p : Told). Begun o w m (standing_of_run plan (seen_by p))) (gave before b.log now.log mid pass took gives) stands in
          record {
            low = start_low plan b.log w m (front plan b.log (e ∷ []) (subst (IsRunOf plan) one run)).1.0;
            step = subst (Steps plan lock w (event.Start w m) before) (gave before b.log now.log mid pass took gives) (steps plan lock w before of b.log now.log is.came (event.Start w m) carried.Nothing one run);
            course = behind.0;
            held = behind.1;
          }
      told (next.Skipped m) said after none = no_step (skip_come m after)
      told next.Wait said after none = no_step (same_come (ap (λ (x : Build S). x.log) after))
      told next.Done said after none =
          let same : now.log ≡ b.log = ap (λ (x : Build S). x.log) after in
          let all = over (find (is_skippable (outline_of b.plan) (standing_at b).progress) (below (length (outline_of b.plan).modules))) (find (is_ready (outline_of b.plan) (standing_at b).progress) (below (length (outline_of b.plan).modules))) (is_complete (standing_at b)) (ap is_done (sym said)) in
          let here : IsComplete plan now.log = subst (IsComplete plan) (sym same) (subst (λ p. IsComplete p b.log) is.plan_is all) in
          record { turn = no_step (same_come same); complete = subst (λ (p : Told). IsComplete plan (seen_by p)) (gave before b.log now.log mid pass took gives) here }

      pub told_fits : (n : Next) → now ≡ after_next b w n → AlwaysFits plan w before pass
      told_fits (next.Module m) after = λ told. step_fits plan lock w before of b is (event.Start w m) carried.Nothing now.log (ap (λ (x : Build S). x.log) after) mid pass took gives told (start_fits plan before told b.log w m)
      told_fits (next.Skipped m) after = no_fits (skip_come m after)
      told_fits next.Wait after = no_fits (same_come (ap (λ (x : Build S). x.log) after))
      told_fits next.Done after = no_fits (same_come (ap (λ (x : Build S). x.log) after))

-- ---- the task

module _ (plan : Plan) (lock : TableId) (w : ℕ) (before pass : Told) where
  -- a module that is begun is one of the plan's
  pub is_in : (n : Next) → IsTold plan lock w n before pass → IsIn plan n
  is_in (next.Module m) told = told.low
  is_in (next.Skipped m) told = tt
  is_in next.Wait told = tt
  is_in next.Done told = tt

  -- its task has begun
  pub task_started : (t : ModuleTask) (m : ℕ) → IsTask t → t.plan ≡ plan → t.number ≡ m → t.worker ≡ w → IsBegun plan lock w m before pass → HasStarted plan lock w t before pass
  task_started t m is over number worker begun =
      let of = subst (λ p. IsBegun p lock t.worker t.number before pass) (sym over) (subst (λ k. IsBegun plan lock k t.number before pass) (sym worker) (subst (λ k. IsBegun plan lock w k before pass) (sym number) begun)) in
      record {
        plan_is = over;
        worker_is = worker;
        step = subst (λ k. Steps plan lock w (event.Start w k) before pass) (sym number) begun.step;
        begun = record {
          course = of.course ∙ ap (λ o. on_course t.number (settled (there_by t.plan pass) true (option_map_or script_of o whole)) None) (get_map module_outline t.plan.modules t.number t.unit is);
          held = of.held;
        };
      }
