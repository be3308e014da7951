-- Goals are answered in order.
use Rattle.std.proofs.Common.{◌≡◌, ℕ, zero, suc, ◌+◌, ◌-◌, ◌<◌, ◌≤◌, ◌⊎◌, inl, inr, Bool, true, false, ◌&&◌, nat_eq, nat_le, List, [], ◌∷◌, ◌++◌, length, find, get_or, set, slice_get, Option, Some, None, is_some, option_map, unwrap_or, refl, arith, sym, ap, subst, ◌∙◌, if◌then◌else◌}
use Rattle.std.specs.List.{AllByRecursion, IsDistinct}
use Rattle.std.specs.Option.{option_map_or}
use Rattle.std.proofs.lemmas.Bool.{false≢true}
use Rattle.std.proofs.lemmas.Bool.Decides.{nat_tests}
use Rattle.std.proofs.lemmas.List.{append-nil, append_assoc, get_or-set_other, get_or-set_same}
use Rattle.goal_types.specs.declared.goal.GoalAnswer.{GoalAnswer}
use Rattle.goal_types.specs.declared.goal.GoalAnswer.TheVariants.{Done, Failed, Produced}
use Rattle.goal_types.specs.declared.goal.GoalCall.{GoalCall}
use Rattle.goal_types.specs.declared.goal.OwnBytes.{OwnBytes}
use Rattle.goal_types.specs.declared.goal.Slot.{Slot}
use Rattle.build_core.specs.OneThread.{answer_at}
use Rattle.build_core.specs.Slots.{GoalsEnd, all_answered, kept_of, one_goal, output_too_large, put_slot, run_goals, slot_number, total_bytes}
use Rattle.build_core.specs.declared.event.Answered.{Answered}
use Rattle.build_core.specs.declared.event.Event.{Event}
use Rattle.build_core.specs.declared.event.Event.TheVariants as event
use Rattle.build_core.specs.declared.plan.Plan.{Plan}
use Rattle.build_core.specs.declared.plan.PlanModule.{PlanModule}
use Rattle.scripts.specs.declared.deed.Deed.{Deed}
use Rattle.scripts.specs.declared.deed.Deed.TheVariants as deed
use Rattle.event_core.specs.declared.entry.Carried.{Carried}
use Rattle.event_core.specs.declared.entry.Carried.TheVariants as carried
use Rattle.event_core.specs.declared.entry.RunEntry.{RunEntry}
use Rattle.scripts.specs.declared.outline.ModuleOutline.{ModuleOutline}
use Rattle.scripts.specs.declared.outline.Outline.{Outline}
use Rattle.event_core.specs.declared.module_steps.Progress.{Progress}
use Rattle.event_core.specs.declared.module_steps.Progress.TheVariants.{Ended, Running, Skipped}
use Rattle.scripts.specs.Climbing.{but}
use Rattle.event_core.specs.Enabled.{Enabled, IsEnabled, IsRun}
use Rattle.scripts.specs.Outlines.{is_empty, module_outline, outline_of}
use Rattle.event_core.specs.Runs.{IsRunOf, answers_in, events_of, goals_in, kept_by, standing_of_run}
use Rattle.scripts.specs.Scripts.{Script, answers_left, done, script_of, settled, whole}
use Rattle.event_core.specs.HowFar.{is_waiting, progress_of}
use Rattle.event_core.specs.Standing.{Course, Standing, after, after_deed, after_free, course_of, ended, goals_of, held_by, idle, module_of, off_course, on_course, start_of}
use Rattle.event_core.proofs.Fits.{same_or_not}
use Rattle.event_core.proofs.Ties.{any_idle}
use Rattle.event_core.proofs.Weights.{nothing_is}
use Rattle.run_law.proofs.Complete.{IsStanding, events_more, standing_after, standing_first}
use Rattle.run_law.proofs.Courses.{at_place}
use Rattle.run_law.proofs.Ended.{set_cases}
use Rattle.run_law.proofs.Kept.{answers_more}
use Rattle.run_law.proofs.LaterMoments.{next_is}
use Rattle.run_law.proofs.Owns.{not_same}
use Rattle.run_law.proofs.Stored.{due_on, get_map}
use Rattle.run_law.specs.Given.{is_answer, is_kept}
use Rattle.run_law.specs.Placed.{IsPlacedAt}
use Rattle.run_law.specs.Twice.{same_goal}
use Rattle.run_law.proofs.Orders.{AreInOrder, done_order, fewer, script_order, settled_order}

-- ---- runs by one entry more

-- what holds at first and behind each entry more holds behind a run
by_runs : (plan : Plan) (Q : List RunEntry → Type 0) → ((past : List RunEntry) (e : RunEntry) → Q past → Enabled (outline_of plan) (events_of past) e.event → Q (past ++ e ∷ []))
    → (past rest : List RunEntry) → Q past → IsRun (outline_of plan) (events_of past) (events_of rest) → Q (past ++ rest)
by_runs plan Q step past [] holds run = subst Q (sym (append-nil past)) holds
by_runs plan Q step past (e ∷ rest) holds run =
    subst Q (append_assoc past (e ∷ []) rest)
    (by_runs plan Q step (past ++ e ∷ []) rest (step past e holds run.0) (subst (λ es. IsRun (outline_of plan) es (events_of rest)) (sym (events_more past e)) run.1))

-- ---- answers

-- an answer to another goal changes nothing
find_one : (p : Answered → Bool) (kept : List Answered) (a : Answered) → p a ≡ false → find p (kept ++ a ∷ []) ≡ find p kept
find_one p [] a isnt = ap (λ b. if b then Some a else None) isnt
find_one p (k ∷ kept) a isnt = ap (λ t. if p k then Some k else t) (find_one p kept a isnt)

-- an answer to a goal that had none is found
find_new : (p : Answered → Bool) (kept : List Answered) (a : Answered) → is_some (find p kept) ≡ false → p a ≡ true → find p (kept ++ a ∷ []) ≡ Some a
find_new p [] a none is = ap (λ b. if b then Some a else None) is
find_new p (k ∷ kept) a none is = by (p k) none (find_new p kept a)
  where
    by : (b : Bool) → is_some (if b then Some k else find p kept) ≡ false → (is_some (find p kept) ≡ false → p a ≡ true → find p (kept ++ a ∷ []) ≡ Some a) → (if b then Some k else find p (kept ++ a ∷ [])) ≡ Some a
    by true isnt again = absurd (false≢true (sym isnt))
    by false isnt again = again isnt is

-- what isn't found is nothing
none_found : {X : Type 0} (o : Option X) → is_some o ≡ false → o ≡ None
none_found None is = refl
none_found (Some x) is = absurd (false≢true (sym is))

-- a number is itself
itself : (n : ℕ) → nat_eq n n ≡ true
itself n = grind (arith, nat_tests)

-- a test of two that fails in one
other_first : (a b : Bool) → a ≡ false → (a && b) ≡ false
other_first true b e = absurd (false≢true (sym e))
other_first false b e = refl

other_second : (a b : Bool) → b ≡ false → (a && b) ≡ false
other_second true b e = e
other_second false b e = refl

-- where a test finds nothing it fails for each
none_all : (p : Answered → Bool) (xs : List Answered) → is_some (find p xs) ≡ false → AllByRecursion (λ x. p x ≡ false) xs
none_all p [] none = tt
none_all p (x ∷ xs) none = let parts = by (p x) refl none in (parts.0, none_all p xs parts.1)
  where
    by : (b : Bool) → p x ≡ b → is_some (if b then Some x else find p xs) ≡ false → (p x ≡ false) × (is_some (find p xs) ≡ false)
    by true e isnt = absurd (false≢true (sym isnt))
    by false e isnt = (e, isnt)

-- what differs from all before it stands behind them
all_push : (P : Answered → Type 0) (xs : List Answered) (a : Answered) → AllByRecursion P xs → P a → AllByRecursion P (xs ++ a ∷ [])
all_push P [] a all one = (one, tt)
all_push P (x ∷ xs) a all one = (all.0, all_push P xs a all.1 one)

distinct_more : (xs : List Answered) (a : Answered) → IsDistinct same_goal xs → AllByRecursion (λ x. same_goal x a ≡ false) xs → IsDistinct same_goal (xs ++ a ∷ [])
unfolding IsDistinct
distinct_more [] a is apart = (tt, tt)
distinct_more (x ∷ xs) a is apart = (all_push (λ y. same_goal x y ≡ false) xs a is.0 apart.0, distinct_more xs a is.1 apart.1)

distinct_none : IsDistinct same_goal []
unfolding IsDistinct
distinct_none = tt

-- ---- goals run with one answer more

-- goals that are all done are good, and keep nothing new
all_done : (budget i : ℕ) (goals : List GoalCall) (own : List OwnBytes) → run_goals budget (λ goal. Done) i goals own ≡ all_answered own
all_done budget i [] own = refl
all_done budget i (call ∷ goals) own = all_done budget (suc i) goals own

-- whether all answers were good
abbrev is_all : GoalsEnd → Bool
is_all (all_answered own) = true
is_all other = false

-- a number is below another, or is it
below_or_at : (i n : ℕ) → i ≤ n → (i ≡ n) ⊎ (i < n)
below_or_at zero zero low = inl refl
below_or_at zero (suc n) low = inr (omega arith)
below_or_at (suc i) zero low = absurd (omega (arith, low))
below_or_at (suc i) (suc n) low = by (below_or_at i n (omega (arith, low)))
  where
    by : (i ≡ n) ⊎ (i < n) → (suc i ≡ suc n) ⊎ (suc i < suc n)
    by (inl e) = inl (ap suc e)
    by (inr e) = inr (omega (arith, e))

-- a goal that is good goes on with the outputs that it leaves
through : (budget i : ℕ) (s : Slot) (a : GoalAnswer) (before own : List OwnBytes) (rest later : List OwnBytes → GoalsEnd) (X : GoalsEnd)
    → one_goal budget i s a before rest ≡ all_answered own → ((kept : List OwnBytes) → rest kept ≡ all_answered own → later kept ≡ X) → one_goal budget i s a before later ≡ X
through budget i s Done before own rest later X is on = on before is
through budget i s (Failed text) before own rest later X is on = absurd (false≢true (ap is_all is))
through budget i s (Produced bytes) before own rest later X is on = by (nat_eq (slot_number s) 0) (nat_le (total_bytes (put_slot s bytes before)) budget) is
  where
    by : (nowhere fits : Bool) → (if nowhere then rest before else (if fits then rest (put_slot s bytes before) else output_too_large i before)) ≡ all_answered own
        → (if nowhere then later before else (if fits then later (put_slot s bytes before) else output_too_large i before)) ≡ X
    by true fits e = on before e
    by false true e = on (put_slot s bytes before) e
    by false false e = absurd (false≢true (ap is_all e))

module _ (budget : ℕ) (one two : ℕ → GoalAnswer) (goal : ℕ) (answer : GoalAnswer)
    (same : (k : ℕ) → k < goal → two k ≡ one k) (here : two goal ≡ answer) (later : (k : ℕ) → goal < k → two k ≡ Done) (none : (k : ℕ) → goal ≤ k → one k ≡ Done) where
  -- from behind the goal on all is done
  rest_done : (answers : ℕ → GoalAnswer) (i : ℕ) (goals : List GoalCall) (own : List OwnBytes) → ((k : ℕ) → i ≤ k → answers k ≡ Done) → run_goals budget answers i goals own ≡ all_answered own
  rest_done answers i [] own is = refl
  rest_done answers i (call ∷ goals) own is =
      ap (λ a. one_goal budget i call.slot a own (λ kept. run_goals budget answers (suc i) goals kept)) (is i (omega arith))
      ∙ rest_done answers (suc i) goals own (λ k low. is k (omega (arith, low)))

  -- the goals up to it go as they did, and then it decides
  next_goal : (i : ℕ) (goals : List GoalCall) (call : GoalCall) (own before : List OwnBytes) → i ≤ goal → slice_get goals (goal - i) ≡ Some call
      → run_goals budget one i goals before ≡ all_answered own → run_goals budget two i goals before ≡ one_goal budget goal call.slot answer own all_answered
  next_goal i [] call own before low is good = absurd (nothing_is call is)
  next_goal i (c ∷ goals) call own before low is good =
      by (below_or_at i goal low) (λ kept less at fine. next_goal (suc i) goals call own kept (omega (arith, less)) at fine)
    where
      at_goal : i ≡ goal → run_goals budget two i (c ∷ goals) before ≡ one_goal budget goal call.slot answer own all_answered
      at_goal e =
          let zero_is : goal - i ≡ 0 = omega (arith, e) in
          let c_is : c ≡ call = ap (λ x. unwrap_or x c) (subst (λ n. slice_get (c ∷ goals) n ≡ Some call) zero_is is) in
          let own_is : before ≡ own = ap kept_of (sym (rest_done one i (c ∷ goals) before (λ k high. none k (omega (arith, high, e)))) ∙ good) in
          ap (λ a. one_goal budget i c.slot a before (λ kept. run_goals budget two (suc i) goals kept)) (ap two e ∙ here)
          ∙ ap (λ (rest : List OwnBytes → GoalsEnd). one_goal budget i c.slot answer before rest) (λ j kept. rest_done two (suc i) goals kept (λ k high. later k (omega (arith, high, e))) j)
          ∙ ap (λ n. one_goal budget n c.slot answer before all_answered) e
          ∙ ap (λ (x : GoalCall). one_goal budget goal x.slot answer before all_answered) c_is
          ∙ ap (λ t. one_goal budget goal call.slot answer t all_answered) own_is

      before_goal : i < goal → ((kept : List OwnBytes) → i < goal → slice_get goals (goal - suc i) ≡ Some call → run_goals budget one (suc i) goals kept ≡ all_answered own → run_goals budget two (suc i) goals kept ≡ one_goal budget goal call.slot answer own all_answered) → run_goals budget two i (c ∷ goals) before ≡ one_goal budget goal call.slot answer own all_answered
      before_goal less again =
          let more : goal - i ≡ suc (goal - suc i) = omega (arith, less) in
          let is_more : slice_get goals (goal - suc i) ≡ Some call = subst (λ n. slice_get (c ∷ goals) n ≡ Some call) more is in
          ap (λ a. one_goal budget i c.slot a before (λ kept. run_goals budget two (suc i) goals kept)) (same i less)
          ∙ through budget i c.slot (one i) before own (λ kept. run_goals budget one (suc i) goals kept) (λ kept. run_goals budget two (suc i) goals kept) (one_goal budget goal call.slot answer own all_answered) good
          (λ kept fine. again kept less is_more fine)

      by : (i ≡ goal) ⊎ (i < goal) → ((kept : List OwnBytes) → i < goal → slice_get goals (goal - suc i) ≡ Some call → run_goals budget one (suc i) goals kept ≡ all_answered own → run_goals budget two (suc i) goals kept ≡ one_goal budget goal call.slot answer own all_answered) → run_goals budget two i (c ∷ goals) before ≡ one_goal budget goal call.slot answer own all_answered
      by (inl e) again = at_goal e
      by (inr less) again = before_goal less again

-- ---- what holds of courses

module _ (o : Outline) where
  -- a worker's goals: those that its script wants are the last of its module, in order, and none of them is answered
  abbrev IsNumbered : List Answered → Course → Type 0
  IsNumbered kept idle = Unit {0}
  IsNumbered kept (off_course number file gathered) = Unit {0}
  IsNumbered kept (on_course number script last) = AreInOrder (goals_of o number) script × ((goal : ℕ) → goals_of o number ≤ answers_left script + goal → is_kept kept number goal ≡ false)

  pub record AreNumbered (now : Standing) (kept : List Answered) : Type 0 where
    pub courses : (w : ℕ) → IsNumbered kept (course_of now w)
    pub fresh : (number goal : ℕ) → is_waiting (progress_of now.progress number) ≡ true → is_kept kept number goal ≡ false

  module _ (kept : List Answered) (there : List Bool) (held : List ℕ) where
    -- a course stays so behind a deed
    left_numbered : (number : ℕ) (script rest : Script) (last answered : Option ℕ) (d : Deed) → done script d ≡ Some rest → IsNumbered kept (on_course number script last) → IsNumbered kept (on_course number (settled there (is_empty held) rest) answered)
    left_numbered number script rest last answered d e is =
        let behind = done_order (goals_of o number) script d rest is.0 e in
        let less = fewer (goals_of o number) d (answers_left script) (answers_left rest) behind.0 in
        let left = settled_order (goals_of o number) there (is_empty held) rest behind.1 in
        (left.1, λ goal many. let same = left.0 in is.1 goal (omega (arith, many, same, less)))

    deed_numbered : (d : Deed) (answered : Option ℕ) (c : Course) → IsNumbered kept c → IsNumbered kept (after_deed there held d answered c)
    deed_numbered d answered idle is = tt
    deed_numbered d answered (off_course number file gathered) is = tt
    deed_numbered d answered (on_course number script last) is = by (done script d) refl
      where
        by : (found : Option Script) → done script d ≡ found → IsNumbered kept (option_map_or (λ rest. on_course number (settled there (is_empty held) rest) answered) found (on_course number script last))
        by None e = is
        by (Some rest) e = left_numbered number script rest last answered d e is

    free_numbered : (c : Course) → IsNumbered kept c → IsNumbered kept (after_free o there held c)
    free_numbered idle is = tt
    free_numbered (off_course number file gathered) is = tt
    free_numbered (on_course number script last) is = by (done script deed.Free) refl
      where
        by : (found : Option Script) → done script deed.Free ≡ found → IsNumbered kept (option_map_or (λ rest. on_course number (settled there (is_empty held) rest) None) found (off_course number (Rattle.scripts.specs.Scripts.wanted script) (Rattle.scripts.specs.Scripts.is_gathered (goals_of o number) script)))
        by None e = tt
        by (Some rest) e = left_numbered number script rest last None deed.Free e is

    -- a module begins with all its goals
    begun_numbered : (number : ℕ) → ((goal : ℕ) → is_kept kept number goal ≡ false) → IsNumbered kept (on_course number (settled there (is_empty held) (start_of o number)) None)
    begun_numbered number none = by (slice_get o.modules number) refl
      where
        by : (found : Option ModuleOutline) → slice_get o.modules number ≡ found → IsNumbered kept (on_course number (settled there (is_empty held) (start_of o number)) None)
        by None e = subst (λ s. AreInOrder (goals_of o number) (settled there (is_empty held) s) × ((goal : ℕ) → goals_of o number ≤ answers_left (settled there (is_empty held) s) + goal → is_kept kept number goal ≡ false)) (sym (ap (λ x. option_map_or script_of x whole) e)) (tt, λ goal many. none goal)
        by (Some m) e =
            let same : goals_of o number ≡ m.goals = ap (λ x. option_map_or (λ (y : ModuleOutline). y.goals) x 0) e in
            let start : start_of o number ≡ script_of m = ap (λ x. option_map_or script_of x whole) e in
            let ordered : AreInOrder (goals_of o number) (start_of o number) = subst (λ n. AreInOrder n (start_of o number)) (sym same) (subst (AreInOrder m.goals) (sym start) (script_order m).1) in
            ((settled_order (goals_of o number) there (is_empty held) (start_of o number) ordered).1, λ goal many. none goal)

  -- a waiting module stays without answers where one is set to something else
  set_fresh : (ps : List Progress) (m : ℕ) (p : Progress) (kept : List Answered) → is_waiting p ≡ false → ((number goal : ℕ) → is_waiting (progress_of ps number) ≡ true → is_kept kept number goal ≡ false)
      → (number goal : ℕ) → is_waiting (progress_of (set ps m p) number) ≡ true → is_kept kept number goal ≡ false
  set_fresh ps m p kept isnt fresh number goal waits = by (set_cases ps m p number)
    where
      by : (progress_of (set ps m p) number ≡ progress_of ps number) ⊎ ((number ≡ m) × (progress_of (set ps m p) number ≡ p)) → is_kept kept number goal ≡ false
      by (inl e) = fresh number goal (sym (ap is_waiting e) ∙ waits)
      by (inr e) = absurd (false≢true (sym isnt ∙ sym (ap is_waiting e.1) ∙ waits))

  -- behind each event, with the same answers
  numbered_after : (now : Standing) (e : Event) (kept : List Answered) → AreNumbered now kept → IsEnabled o now e → AreNumbered (after o now e) kept
  unfolding after
  numbered_after now (event.Start w m) kept is may = record {
    courses = at_place (IsNumbered kept) now.courses w (on_course m (settled now.there (is_empty (held_by now w)) (start_of o m)) None) idle (begun_numbered kept now.there (held_by now w) m (λ goal. is.fresh m goal may.2)) is.courses;
    fresh = set_fresh now.progress m (Running w) kept refl is.fresh;
  }
  numbered_after now (event.Skip m) kept is may = record { courses = is.courses; fresh = set_fresh now.progress m Skipped kept refl is.fresh }
  numbered_after now (event.Take w n mode) kept is may = record {
    courses = at_place (IsNumbered kept) now.courses w (after_deed now.there (get_or (set now.held w (held_by now w ++ n ∷ [])) w []) (deed.Take mode n) None (course_of now w)) idle (deed_numbered kept now.there (get_or (set now.held w (held_by now w ++ n ∷ [])) w []) (deed.Take mode n) None (course_of now w) (is.courses w)) is.courses;
    fresh = is.fresh;
  }
  numbered_after now (event.Free w n) kept is may = record {
    courses = at_place (IsNumbered kept) now.courses w (after_free o now.there (get_or (set now.held w (but n (held_by now w))) w []) (course_of now w)) idle (free_numbered kept now.there (get_or (set now.held w (but n (held_by now w))) w []) (course_of now w) (is.courses w)) is.courses;
    fresh = is.fresh;
  }
  numbered_after now (event.Read w f) kept is may = record {
    courses = at_place (IsNumbered kept) now.courses w (after_deed now.there (held_by now w) (deed.Read f) None (course_of now w)) idle (deed_numbered kept now.there (held_by now w) (deed.Read f) None (course_of now w) (is.courses w)) is.courses;
    fresh = is.fresh;
  }
  numbered_after now (event.Publish w f) kept is may = record {
    courses = at_place (IsNumbered kept) now.courses w (after_deed (set now.there f true) (held_by now w) (deed.Publish f) None (course_of now w)) idle (deed_numbered kept (set now.there f true) (held_by now w) (deed.Publish f) None (course_of now w) (is.courses w)) is.courses;
    fresh = is.fresh;
  }
  numbered_after now (event.Answer w g) kept is may = record {
    courses = at_place (IsNumbered kept) now.courses w (after_deed now.there (held_by now w) (deed.Answer g) (Some g) (course_of now w)) idle (deed_numbered kept now.there (held_by now w) (deed.Answer g) (Some g) (course_of now w) (is.courses w)) is.courses;
    fresh = is.fresh;
  }
  numbered_after now (event.End w x) kept is may = record { courses = at_place (IsNumbered kept) now.courses w idle idle tt is.courses; fresh = ended_fresh (module_of (course_of now w)) }
    where
      ended_fresh : (at : Option ℕ) → (number goal : ℕ) → is_waiting (progress_of (ended at x now.progress) number) ≡ true → is_kept kept number goal ≡ false
      ended_fresh None number goal waits = is.fresh number goal waits
      ended_fresh (Some m) number goal waits = set_fresh now.progress m (Ended x) kept refl is.fresh number goal waits

  -- ---- an answer

  module _ (now : Standing) (kept : List Answered) (s : IsStanding o now) (is : AreNumbered now kept) (w k g : ℕ) (answer : GoalAnswer) (script : Script) (last : Option ℕ)
      (may : IsEnabled o now (event.Answer w g)) (on : course_of now w ≡ on_course k script last) where
    abbrev one : Answered
    one = record { «module» = k; goal = g; answer = answer }

    -- another module's goals have the same answers
    other_kept : (number goal : ℕ) → (k ≡ number → ⊥) → is_kept (kept ++ one ∷ []) number goal ≡ is_kept kept number goal
    other_kept number goal other = ap is_some (find_one (is_answer number goal) kept one (other_first (nat_eq k number) (nat_eq g goal) (not_same k number other)))

    -- so has each other goal
    next_kept : (number goal : ℕ) → (g ≡ goal → ⊥) → is_kept (kept ++ one ∷ []) number goal ≡ is_kept kept number goal
    next_kept number goal other = ap is_some (find_one (is_answer number goal) kept one (other_second (nat_eq k number) (nat_eq g goal) (not_same g goal other)))

    -- the module runs on this worker
    runs : progress_of now.progress k ≡ Running w
    runs = s.tied.busy w k (ap module_of on)

    -- another worker's course stays numbered
    others_numbered : (c : Course) → (module_of c ≡ Some k → ⊥) → IsNumbered kept c → IsNumbered (kept ++ one ∷ []) c
    others_numbered idle apart holds = tt
    others_numbered (off_course number file gathered) apart holds = tt
    others_numbered (on_course number t l) apart holds = (holds.0, λ goal many. other_kept number goal (λ same. apart (ap (λ n. Some n) (sym same))) ∙ holds.1 goal many)

    -- its own wants the goals behind this one
    own_numbered : IsNumbered (kept ++ one ∷ []) (after_deed now.there (held_by now w) (deed.Answer g) (Some g) (course_of now w))
    own_numbered = subst (λ c. IsNumbered (kept ++ one ∷ []) (after_deed now.there (held_by now w) (deed.Answer g) (Some g) c)) (sym on) (by (done script (deed.Answer g)) refl)
      where
        mine : IsNumbered kept (on_course k script last)
        mine = subst (IsNumbered kept) on (is.courses w)

        due : is_some (done script (deed.Answer g)) ≡ true
        due = subst (λ c. Rattle.event_core.specs.Enabled.is_due c (deed.Answer g) ≡ true) on may.2

        by : (found : Option Script) → done script (deed.Answer g) ≡ found → IsNumbered (kept ++ one ∷ []) (option_map_or (λ rest. on_course k (settled now.there (is_empty (held_by now w)) rest) (Some g)) found (on_course k script last))
        by None e = absurd (false≢true (sym (ap is_some e) ∙ due))
        by (Some rest) e =
            let behind = done_order (goals_of o k) script (deed.Answer g) rest mine.0 e in
            let left = settled_order (goals_of o k) now.there (is_empty (held_by now w)) rest behind.1 in (
              left.1,
              λ goal many. let same = left.0 in let less = behind.0.0 in let place = behind.0.1 in
                  next_kept k goal (λ e. let eq : g ≡ goal = e in absurd (omega (arith, many, same, place, eq))) ∙ mine.1 goal (omega (arith, many, same, less)),
            )

    -- the goal had no answer
    new_goal : is_kept kept k g ≡ false
    new_goal = by (done script (deed.Answer g)) refl
      where
        mine : IsNumbered kept (on_course k script last)
        mine = subst (IsNumbered kept) on (is.courses w)

        due : is_some (done script (deed.Answer g)) ≡ true
        due = subst (λ c. Rattle.event_core.specs.Enabled.is_due c (deed.Answer g) ≡ true) on may.2

        by : (found : Option Script) → done script (deed.Answer g) ≡ found → is_kept kept k g ≡ false
        by None e = absurd (false≢true (sym (ap is_some e) ∙ due))
        by (Some rest) e =
            let behind = done_order (goals_of o k) script (deed.Answer g) rest mine.0 e in
            let less = behind.0.0 in
            let place = behind.0.1 in
            mine.1 g (omega (arith, less, place))

    answered_courses : (v : ℕ) → IsNumbered (kept ++ one ∷ []) (get_or (set now.courses w (after_deed now.there (held_by now w) (deed.Answer g) (Some g) (course_of now w))) v idle)
    answered_courses v = by (same_or_not v w)
      where
        new : Course
        new = after_deed now.there (held_by now w) (deed.Answer g) (Some g) (course_of now w)

        by : (v ≡ w) ⊎ ((v ≡ w) → ⊥) → IsNumbered (kept ++ one ∷ []) (get_or (set now.courses w (after_deed now.there (held_by now w) (deed.Answer g) (Some g) (course_of now w))) v idle)
        by (inl same) = subst (λ u. IsNumbered (kept ++ one ∷ []) (get_or (set now.courses w (after_deed now.there (held_by now w) (deed.Answer g) (Some g) (course_of now w))) u idle)) (sym same)
            (subst (IsNumbered (kept ++ one ∷ [])) (sym (get_or-set_same now.courses w (after_deed now.there (held_by now w) (deed.Answer g) (Some g) (course_of now w)) idle (omega (arith, may.0, s.fit.courses)))) own_numbered)
        by (inr other) = subst (IsNumbered (kept ++ one ∷ [])) (sym (get_or-set_other now.courses w v (after_deed now.there (held_by now w) (deed.Answer g) (Some g) (course_of now w)) idle other))
            (others_numbered (course_of now v) (λ at. other (runner_same v at)) (is.courses v))
          where
            runner : Progress → ℕ
            runner (Running u) = u
            runner p = 0

            runner_same : (v : ℕ) → module_of (course_of now v) ≡ Some k → v ≡ w
            runner_same v at = ap runner (sym (s.tied.busy v k at) ∙ runs)

    -- so all stay numbered
    answered_numbered : AreNumbered (after o now (event.Answer w g)) (kept ++ one ∷ [])
    unfolding after
    answered_numbered = record {
      courses = answered_courses;
      fresh = λ number goal waits. other_kept number goal (λ same. false≢true (sym (ap is_waiting (ap (progress_of now.progress) (sym same) ∙ runs)) ∙ waits)) ∙ is.fresh number goal waits;
    }

-- ---- behind every run

module _ (plan : Plan) where
  abbrev o : Outline
  o = outline_of plan

  record IsCounted (past : List RunEntry) : Type 0 where
    standing : IsStanding o (standing_of_run plan past)
    numbered : AreNumbered o (standing_of_run plan past) (answers_in plan past)
    once : IsDistinct same_goal (answers_in plan past)

  module _ (past : List RunEntry) (is : IsCounted past) where
    abbrev now : Standing
    now = standing_of_run plan past

    abbrev kept : List Answered
    kept = answers_in plan past

    abbrev Holds : Event → List Answered → Type 0
    Holds e ks = AreNumbered o (after o now e) ks × IsDistinct same_goal ks

    -- an entry that keeps no answer
    keeps_none : (e : Event) → IsEnabled o now e → Holds e (kept ++ [])
    keeps_none e may = subst (Holds e) (sym (append-nil kept)) (numbered_after o now e kept is.numbered may, is.once)

    -- one that keeps an answer
    keeps_one : (w g : ℕ) (answer : GoalAnswer) → IsEnabled o now (event.Answer w g) → Holds (event.Answer w g) (kept ++ kept_by plan past (event.Answer w g) (carried.Answered answer))
    keeps_one w g answer may = by (due_on (course_of now w) (deed.Answer g) may.2)
      where
        by : (k : ℕ) × (script : Script) × (last : Option ℕ) × (course_of now w ≡ on_course k script last) → Holds (event.Answer w g) (kept ++ kept_by plan past (event.Answer w g) (carried.Answered answer))
        by x = subst (λ found. Holds (event.Answer w g) (kept ++ option_map_or (λ m. (record { «module» = m; goal = g; answer = answer }) ∷ []) found [])) (sym (ap module_of x.3)) (
          answered_numbered o now kept is.standing is.numbered w x.0 g answer x.1 x.2 may x.3,
          distinct_more kept (record { «module» = x.0; goal = g; answer = answer }) is.once (none_all (is_answer x.0 g) kept (new_goal o now kept is.standing is.numbered w x.0 g answer x.1 x.2 may x.3)),
        )

    numbered_more : (e : Event) (what : Carried) → IsEnabled o now e → Holds e (kept ++ kept_by plan past e what)
    numbered_more (event.Answer w g) (carried.Answered answer) may = keeps_one w g answer may
    numbered_more (event.Answer w g) carried.Nothing may = keeps_none (event.Answer w g) may
    numbered_more (event.Answer w g) (carried.Published bytes) may = keeps_none (event.Answer w g) may
    numbered_more (event.Start w m) what may = keeps_none (event.Start w m) may
    numbered_more (event.Skip m) what may = keeps_none (event.Skip m) may
    numbered_more (event.Take w n mode) what may = keeps_none (event.Take w n mode) may
    numbered_more (event.Free w n) what may = keeps_none (event.Free w n) may
    numbered_more (event.Read w f) what may = keeps_none (event.Read w f) may
    numbered_more (event.Publish w f) what may = keeps_none (event.Publish w f) may
    numbered_more (event.End w x) what may = keeps_none (event.End w x) may

  counted_more : (past : List RunEntry) (e : RunEntry) → IsCounted past → Enabled o (events_of past) e.event → IsCounted (past ++ e ∷ [])
  unfolding Enabled
  counted_more past e is may = record {
    standing = subst (IsStanding o) (sym (next_is plan 0 past e)) (standing_after o (standing_of_run plan past) e.event is.standing may);
    numbered = subst (λ now. AreNumbered o now (answers_in plan (past ++ e ∷ []))) (sym (next_is plan 0 past e))
        (subst (AreNumbered o (after o (standing_of_run plan past) e.event)) (sym (answers_more plan past e)) (numbered_more past is e.event e.carried may).0);
    once = subst (IsDistinct same_goal) (sym (answers_more plan past e)) (numbered_more past is e.event e.carried may).1;
  }

  counted_first : IsCounted []
  counted_first = record {
    standing = standing_first o;
    numbered = record { courses = λ w. subst (IsNumbered o []) (sym (any_idle o.workers w)) tt; fresh = λ number goal waits. refl };
    once = distinct_none;
  }

  counted : (past : List RunEntry) → IsRunOf plan past → IsCounted past
  counted past run = by_runs plan IsCounted counted_more [] past counted_first run

  -- no goal is answered twice
  pub answered_once : (past : List RunEntry) → IsRunOf plan past → IsDistinct same_goal (answers_in plan past)
  answered_once past run = (counted past run).once

  module _ (past : List RunEntry) (w number : ℕ) (m : PlanModule) (script : Script) (at : IsPlacedAt plan past w number m script) where
    -- how many goals the module has
    many : goals_of o number ≡ length m.goals
    many = ap (λ x. option_map_or (λ (y : ModuleOutline). y.goals) x 0) (get_map module_outline plan.modules number m at.unit)

    mine : IsNumbered o (answers_in plan past) (on_course number script at.last)
    mine = subst (IsNumbered o (answers_in plan past)) at.course ((counted past at.run).numbered.courses w)

    pub unanswered : (goal later : ℕ) → answers_left script + goal ≡ length m.goals → goal ≤ later → is_kept (answers_in plan past) number later ≡ false
    unanswered goal later left low = let count = many in mine.1 later (omega (arith, left, low, count))

    -- a goal without an answer counts as done
    done_later : (goal later : ℕ) → answers_left script + goal ≡ length m.goals → goal ≤ later → answer_at (answers_in plan past) number later ≡ Done
    done_later goal later left low = ap (λ x. unwrap_or (option_map (λ (a : Answered). a.answer) x) Done) (none_found (find (is_answer number later) (answers_in plan past)) (unanswered goal later left low))

    pub begun : answers_left script ≡ length m.goals → goals_in (answers_in plan past) number m ≡ all_answered []
    begun all = ap (λ answers. run_goals m.budget answers 0 m.goals []) (λ j goal. done_at goal j) ∙ all_done m.budget 0 m.goals []
      where
        done_at : (goal : ℕ) → answer_at (answers_in plan past) number goal ≡ Done
        done_at goal = done_later 0 goal (omega (arith, all)) (omega arith)

    -- ---- one answer more

    module _ (goal : ℕ) (answer : GoalAnswer) (left : answers_left script + goal ≡ length m.goals) where
      abbrev added : Answered
      added = record { «module» = number; goal = goal; answer = answer }

      abbrev kept_now : List Answered
      kept_now = answers_in plan past ++ added ∷ []

      abbrev entry : RunEntry
      entry = record { event = event.Answer w goal; carried = carried.Answered answer }

      -- the run keeps it
      more_is : answers_in plan (past ++ entry ∷ []) ≡ kept_now
      more_is = answers_more plan past entry ∙ ap (λ found. answers_in plan past ++ option_map_or (λ n. (record { «module» = n; goal = goal; answer = answer }) ∷ []) found []) (ap module_of at.course)

      -- the goal has it
      has_it : answer_at kept_now number goal ≡ answer
      has_it = ap (λ x. unwrap_or (option_map (λ (a : Answered). a.answer) x) Done)
          (find_new (is_answer number goal) (answers_in plan past) added (unanswered goal goal left (omega arith)) (ap (λ b. b && nat_eq goal goal) (itself number) ∙ itself goal))

      -- and each other goal has what it had
      has_old : (other : ℕ) → (goal ≡ other → ⊥) → answer_at kept_now number other ≡ answer_at (answers_in plan past) number other
      has_old other apart = ap (λ x. unwrap_or (option_map (λ (a : Answered). a.answer) x) Done)
          (find_one (is_answer number other) (answers_in plan past) added (other_second (nat_eq number number) (nat_eq goal other) (not_same goal other apart)))

      pub answered : (call : GoalCall) (own : List OwnBytes) → slice_get m.goals goal ≡ Some call → goals_in (answers_in plan past) number m ≡ all_answered own
          → goals_in (answers_in plan (past ++ (record { event = event.Answer w goal; carried = carried.Answered answer }) ∷ [])) number m ≡ one_goal m.budget goal call.slot answer own all_answered
      answered call own is good =
          ap (λ kept. goals_in kept number m) more_is
          ∙ next_goal m.budget (answer_at (answers_in plan past) number) (answer_at kept_now number) goal answer
          (λ k low. has_old k (λ same. absurd (omega (arith, low, same)))) has_it
          (λ k high. has_old k (λ same. absurd (omega (arith, high, same))) ∙ done_later goal k left (omega (arith, high)))
          (λ k high. done_later goal k left high)
          0 m.goals call own [] (omega arith) (let all : goal ≡ goal - 0 = omega arith in subst (λ n. slice_get m.goals n ≡ Some call) all is) good
