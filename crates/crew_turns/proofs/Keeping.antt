-- An answer is kept in a turn.
use Rattle.std.proofs.Common.{◌≡◌, ◌+◌, ◌<◌, ◌≤◌, ℕ, Bool, true, false, nat_eq, nat_lt, List, [], ◌∷◌, ◌++◌, drop, length, slice_get, Option, Some, None, is_some, IfSome, refl, arith, sym, ap, subst, ◌∙◌}
use Rattle.std.specs.Option.{option_map, option_map_or}
use Rattle.std.proofs.lemmas.Bool.{false≢true}
use Rattle.std.proofs.lemmas.Bool.Decides.{nat_tests}
use Rattle.std.proofs.lemmas.List.{length-drop}
use Rattle.mvn_shared.specs.Files.{Files}
use Rattle.goal_types.specs.declared.goal.GoalAnswer.{GoalAnswer}
use Rattle.goal_types.specs.declared.goal.GoalCall.{GoalCall}
use Rattle.goal_types.specs.declared.goal.GoalRequest.{GoalRequest}
use Rattle.goal_types.specs.declared.goal.Slot.TheVariants.{Nowhere}
use Rattle.build_core.specs.Locks.{below}
use Rattle.build_core.specs.OneThread.{request}
use Rattle.build_core.specs.Slots.{GoalsEnd, all_answered, goal_failed, kept_of, one_goal, output_too_large}
use Rattle.build_core.specs.declared.event.Event.TheVariants as event
use Rattle.build_core.specs.declared.plan.Plan.{Plan}
use Rattle.scripts.specs.declared.deed.Deed.TheVariants as deed
use Rattle.event_core.specs.declared.entry.Carried.TheVariants as carried
use Rattle.event_core.specs.declared.entry.RunEntry.{RunEntry}
use Rattle.scripts.specs.declared.outline.ModuleOutline.{ModuleOutline}
use Rattle.scripts.specs.declared.script_place.ScriptPlace.TheVariants as place
use Rattle.event_core.specs.Causes.{stage_at}
use Rattle.event_core.specs.Enabled.{Enabled, IsEnabled, goal_in_range, is_due}
use Rattle.scripts.specs.Outlines.{module_outline, outline_of}
use Rattle.event_core.specs.Runs.{IsRunOf, answers_in, contents, goals_in, module_by, outputs_in, standing_of_run}
use Rattle.scripts.specs.ScriptPlaces.{rest_of}
use Rattle.scripts.specs.Scripts.{Script, answers, answers_left, install_script, steps}
use Rattle.event_core.specs.Standing.{course_of, module_of, on_course}
use Rattle.event_core.specs.Worlds.{Fits, FitsAnswer, FitsModule, HandTold, TellsAnswer, is_good, is_told, is_told_by, stood}
use Rattle.scripts.proofs.Dues.{answer_yes}
use Rattle.scripts.proofs.ScriptPlaces.{answering_stays, length_below}
use Rattle.run_law.proofs.Stored.{get_in, get_map}
use Rattle.run_law.proofs.Staying.{course_stays, goals_stay, request_stays}
use Rattle.run_law.proofs.Answering.{answered}
use Rattle.run_law.proofs.Ending.{within}
use Rattle.run_law.proofs.Orders.{read_left}
use Rattle.run_law.specs.Placed.{IsPlacedAt}
use Rattle.atomic_table.specs.Seated.{TableId}
use Rattle.board.specs.Builds.{Build, MayCome, answer_kept, kept_in, with_entry}
use Rattle.board.specs.declared.next.AnswerKept.{AnswerKept}
use Rattle.board.specs.declared.next.AnswerKept.TheVariants.{Held}
use Rattle.crew_turns.specs.Seen.{IsOf, Told, seen_by, start_by}
use Rattle.crew_turns.specs.Taken.{IsOut}
use Rattle.crew_turns.specs.Tasks.{ModuleTask}
use Rattle.crew_turns.proofs.Ends.{at_module}
use Rattle.crew_turns.specs.Asked.{slot_at}
use Rattle.crew_turns.specs.Stages.{HasAnswered}

-- ---- how many goals are left

many_answers : (xs : List ℕ) (rest : Script) → answers_left (steps 5 answers xs rest) ≡ length xs + answers_left rest
many_answers [] rest = omega arith
many_answers (x ∷ xs) rest = let more = many_answers xs rest in omega (arith, more)

pub left_at : (m : ModuleOutline) (goal : ℕ) → goal ≤ m.goals → answers_left (rest_of m (place.Answering goal)) + goal ≡ m.goals
unfolding rest_of
left_at m goal low =
    let all : answers_left (steps 5 answers (below m.goals) (install_script m)) ≡ m.goals = read_left m [] in
    let whole = many_answers (below m.goals) (install_script m) in
    let part = many_answers (drop goal (below m.goals)) (install_script m) in
    let many = length_below m.goals in
    let shorter = length-drop goal (below m.goals) in
    omega (arith, low, all, whole, part, many, shorter)

itself : (n : ℕ) → nat_eq n n ≡ true
itself n = grind (arith, nat_tests)

-- good goals are all answered
pub good_is : (g : GoalsEnd) → is_good g ≡ true → g ≡ all_answered (kept_of g)
good_is (all_answered own) is = refl
good_is (goal_failed i own) is = absurd (false≢true is)
good_is (output_too_large i own) is = absurd (false≢true is)

answer_told : (told : Bool) (w goal : ℕ) (answer : GoalAnswer) → is_told told (event.Answer w goal) (carried.Answered answer) ≡ true
answer_told true w goal answer = refl
answer_told false w goal answer = refl

-- the log with an answer more, of a worker that is known by another number
pub one_answer : {S : Type 0} (b now : Build S) (k w goal : ℕ) (answer : GoalAnswer) → now ≡ with_entry b (event.Answer k goal) (carried.Answered answer) → k ≡ w → now.log ≡ b.log ++ (record { event = event.Answer w goal; carried = carried.Answered answer }) ∷ []
one_answer {S} b now k w goal answer is same = ap (λ (x : Build S). x.log) is ∙ ap (λ v. b.log ++ (record { event = event.Answer v goal; carried = carried.Answered answer }) ∷ []) same

module _ (t : ModuleTask) (lock : TableId) (before : Told) (of : IsOf t.plan lock t.worker before) {S : Type 0} (b : Build S) (is : IsOut t.plan t.worker before b) (goal : ℕ) (last : Option ℕ)
    (good : HasAnswered t goal last before) (at : slice_get t.plan.modules t.number ≡ Some t.unit) (low : goal < length t.unit.goals) where
  abbrev plan : Plan
  plan = t.plan

  abbrev w : ℕ
  w = t.worker

  abbrev m : ModuleOutline
  m = module_outline t.unit

  abbrev seen : List RunEntry
  seen = seen_by before

  abbrev others : List RunEntry
  others = is.came.others

  run : IsRunOf plan (seen ++ others)
  run = subst (IsRunOf plan) is.came.is is.run

  -- where the worker stands in the turn
  here : course_of (standing_of_run plan b.log) w ≡ on_course t.number (rest_of m (place.Answering goal)) last
  here = ap (λ log. course_of (standing_of_run plan log) w) is.came.is ∙ course_stays plan seen others w is.came.apart ∙ good.at.course ∙ ap (λ s. on_course t.number s last) (answering_stays m [] true goal)

  whose : module_by plan seen w ≡ Some t.number
  whose = ap module_of good.at.course

  stays : module_by plan b.log w ≡ Some t.number
  stays = ap module_of here

  -- the answer to the next goal may come
  pub answer_may : MayCome b (event.Answer w goal)
  unfolding Enabled
  answer_may =
      subst (λ p. IsEnabled (outline_of p) (standing_of_run p b.log) (event.Answer w goal)) (sym is.plan_is) (
        is.low,
        subst (λ c. goal_in_range (outline_of plan) c goal ≡ true) (sym here) (subst (λ x. nat_lt goal (option_map_or (λ (y : ModuleOutline). y.goals) x 0) ≡ true) (sym (get_map module_outline plan.modules t.number t.unit at)) (less goal (length t.unit.goals) low)),
        subst (λ c. is_due c (deed.Answer goal) ≡ true) (sym here) (sym (ap is_some (answer_yes m goal goal low (itself goal)))),
      )
    where
      less : (a n : ℕ) → a < n → nat_lt a n ≡ true
      less a n is = grind (arith, nat_tests, is)

  -- ---- how the goals stand

  -- as before the turn
  goals_are : goals_in (answers_in plan b.log) t.number t.unit ≡ goals_in (answers_in plan seen) t.number t.unit
  goals_are = ap (λ log. goals_in (answers_in plan log) t.number t.unit) is.came.is ∙ goals_stay plan seen others w t.number t.unit run is.came.apart whose

  -- and with the answer as the definition says
  pub goals_now : (answer : GoalAnswer) (log : List RunEntry) → log ≡ b.log ++ (record { event = event.Answer w goal; carried = carried.Answered answer }) ∷ []
      → goals_in (answers_in plan log) t.number t.unit ≡ one_goal t.unit.budget goal (slot_at t goal) answer (kept_of (goals_in (answers_in plan seen) t.number t.unit)) all_answered
  goals_now answer log one =
      let placed : IsPlacedAt plan b.log w t.number t.unit (rest_of m (place.Answering goal)) = record { run = is.run; unit = at; last = last; course = here } in
      let call = get_in t.unit.goals goal low in
      ap (λ l. goals_in (answers_in plan l) t.number t.unit) one
      ∙ answered plan b.log w t.number t.unit (rest_of m (place.Answering goal)) placed goal answer (left_at m goal (omega (arith, low))) call.0 (kept_of (goals_in (answers_in plan seen) t.number t.unit)) call.1 (goals_are ∙ good_is (goals_in (answers_in plan seen) t.number t.unit) good.good)
      ∙ ap (λ c. one_goal t.unit.budget goal (option_map_or (λ (x : GoalCall). x.slot) c Nowhere) answer (kept_of (goals_in (answers_in plan seen) t.number t.unit)) all_answered) (sym call.1)

  -- so does what the board says of it
  pub kept_now : (now : Build S) (r : AnswerKept) → now.plan ≡ b.plan → IfSome (module_by b.plan b.log w) (λ number. r ≡ kept_in now number goal) → r ≡ answer_kept goal (goals_in (answers_in plan now.log) t.number t.unit)
  kept_now now r same kept =
      let over : now.plan ≡ plan = same ∙ is.plan_is in
      let mine : r ≡ kept_in now t.number goal = subst (λ o. IfSome o (λ number. r ≡ kept_in now number goal)) (ap (λ p. module_by p b.log w) is.plan_is ∙ stays) kept in
      mine
      ∙ ap (λ p. option_map_or (λ u. answer_kept goal (goals_in (answers_in p now.log) t.number u)) (slice_get p.modules t.number) Held) over
      ∙ ap (λ x. option_map_or (λ u. answer_kept goal (goals_in (answers_in plan now.log) t.number u)) x Held) at

  -- ---- what fits

  module _ (told : HandTold) (answer : GoalAnswer) where
    -- an answer to a request is one to the same request
    call_stays : (test : GoalRequest → GoalAnswer → Bool) (files : Files) (call : Option GoalCall)
        → IfSome call (λ c. TellsAnswer (carried.Answered answer) (test (request plan (contents plan files seen) (outputs_in plan seen) t.unit c (kept_of (goals_in (answers_in plan seen) t.number t.unit)))))
        → IfSome call (λ c. TellsAnswer (carried.Answered answer) (test (request plan (contents plan files (seen ++ others)) (outputs_in plan (seen ++ others)) t.unit c (kept_of (goals_in (answers_in plan (seen ++ others)) t.number t.unit)))))
    call_stays test files None fits = tt
    call_stays test files (Some call) fits =
        subst (λ g. test (request plan (contents plan files (seen ++ others)) (outputs_in plan (seen ++ others)) t.unit call (kept_of g)) answer ≡ true) (sym (goals_stay plan seen others w t.number t.unit run is.came.apart whose))
        (ap (λ r. test r answer) (request_stays plan files seen others w t.number t.unit of.sound run whose at good.all call (kept_of (goals_in (answers_in plan seen) t.number t.unit))) ∙ fits)

    gates_stay : (gate : Option (GoalRequest → GoalAnswer → Bool)) (start : Option Files)
        → IfSome gate (λ test. IfSome (option_map (λ files. contents plan files seen) start) (λ files. IfSome (slice_get t.unit.goals goal) (λ call.
        TellsAnswer (carried.Answered answer) (test (request plan files (outputs_in plan seen) t.unit call (kept_of (goals_in (answers_in plan seen) t.number t.unit)))))))
        → IfSome gate (λ test. IfSome (option_map (λ files. contents plan files (seen ++ others)) start) (λ files. IfSome (slice_get t.unit.goals goal) (λ call.
        TellsAnswer (carried.Answered answer) (test (request plan files (outputs_in plan (seen ++ others)) t.unit call (kept_of (goals_in (answers_in plan (seen ++ others)) t.number t.unit)))))))
    gates_stay None start fits = tt
    gates_stay (Some test) None fits = tt
    gates_stay (Some test) (Some files) fits = call_stays test files (slice_get t.unit.goals goal) fits

    later : FitsAnswer (stood plan (start_by before) seen t.number t.unit) told goal (carried.Answered answer) → FitsAnswer (stood plan (start_by before) (seen ++ others) t.number t.unit) told goal (carried.Answered answer)
    later fits = (
      within plan seen others w t.number t.unit of.sound run whose at good.all (start_by before) fits.0,
      ap is_good (goals_stay plan seen others w t.number t.unit run is.came.apart whose) ∙ fits.1,
      gates_stay told.gate (start_by before) fits.2,
    )

    -- so the entry fits in the turn
    pub answer_fits : FitsAnswer (stood plan (start_by before) seen t.number t.unit) told goal (carried.Answered answer)
        → Fits plan (start_by before) (λ v. told) b.log (record { event = event.Answer w goal; carried = carried.Answered answer })
    answer_fits fits = (
      answer_told (is_told_by (start_by before) (λ v. told) (event.Answer w goal)) w goal answer,
      at_module (module_by plan b.log w) t.number (λ k. IfSome (slice_get plan.modules k) (λ u. FitsModule (stood plan (start_by before) b.log k u) told (stage_at (course_of (standing_of_run plan b.log) w)) (event.Answer w goal) (carried.Answered answer))) stays
          (at_module (slice_get plan.modules t.number) t.unit (λ u. FitsModule (stood plan (start_by before) b.log t.number u) told (stage_at (course_of (standing_of_run plan b.log) w)) (event.Answer w goal) (carried.Answered answer)) at
          (subst (λ log. FitsAnswer (stood plan (start_by before) log t.number t.unit) told goal (carried.Answered answer)) (sym is.came.is) (later fits))),
    )
