-- A board with an answer more.
use Rattle.std.proofs.Common.{◌≡◌, ℕ, zero, suc, ◌≤◌, ◌<◌, Bool, List, [], ◌∷◌, ◌++◌, length, get_or, slice_get, unwrap_or, Option, Some, None, IfSome, refl, arith, sym, ap, subst, ◌∙◌}
use Rattle.std.specs.Option.{option_map_or}
use Rattle.std.proofs.lemmas.List.{length-append}
use Rattle.mvn_outside.specs.declared.shelf.Published.{Published}
use Rattle.mvn_outside.specs.declared.shelf.ShelfTold.{ShelfTold}
use Rattle.goal_types.specs.declared.goal.GoalAnswer.{GoalAnswer}
use Rattle.goal_types.specs.declared.goal.Slot.{Slot}
use Rattle.build_core.specs.declared.event.Answered.{Answered}
use Rattle.build_core.specs.declared.event.Event.{Event}
use Rattle.build_core.specs.declared.event.Event.TheVariants as event
use Rattle.build_core.specs.declared.plan.Plan.{Plan}
use Rattle.build_core.specs.declared.plan.PlanModule.{PlanModule}
use Rattle.build_core.specs.Slots.{GoalsEnd, all_answered, goal_failed, kept_of, output_too_large, slot_bytes}
use Rattle.event_core.specs.Enabled.{Enabled}
use Rattle.event_core.specs.Runs.{answers_in, goals_in, module_by}
use Rattle.event_core.specs.Standing.{course_of, module_of, standing_of}
use Rattle.scripts.specs.declared.deed.Deed.TheVariants as deed
use Rattle.event_core.specs.declared.entry.Carried.TheVariants as carried
use Rattle.event_core.specs.declared.entry.RunEntry.{RunEntry}
use Rattle.scripts.specs.declared.outline.Outline.{Outline}
use Rattle.event_core.proofs.Weights.{nothing_is}
use Rattle.board.specs.Tables.{goal_counts}
use Rattle.run_law.proofs.Complete.{at_work}
use Rattle.run_law.proofs.Kept.{answers_more, outputs_are, outs_at}
use Rattle.run_law.specs.Given.{outputs_after}
use Rattle.board.specs.Walks.{goals_of, stand_of}
use Rattle.board.specs.Builds.{AreCaused, Build, IsCalm, answer_kept, kept_so}
use Rattle.board.specs.Keeping.{IsBoard, Room, answer_count, log_by, publish_count}
use Rattle.board.specs.Logs.{publishes_in, published_since, told_after}
use Rattle.board.proofs.Boards.{calm_more, caused_less, not_empty}
use Rattle.board.proofs.Busy.{busy_more}
use Rattle.board.proofs.Logs.{answer_more, answers_append, endings_one, entry, publishes_append, publishes_one}
use Rattle.std.proofs.lemmas.List.{append-nil}

-- no more answers than events
pub answers_few : (es : List Event) → answer_count es ≤ length es
answers_few [] = omega arith
answers_few (event.Start w m ∷ es) = let again = answers_few es in omega (arith, again)
answers_few (event.Skip m ∷ es) = let again = answers_few es in omega (arith, again)
answers_few (event.Take w n mode ∷ es) = let again = answers_few es in omega (arith, again)
answers_few (event.Free w n ∷ es) = let again = answers_few es in omega (arith, again)
answers_few (event.Read w f ∷ es) = let again = answers_few es in omega (arith, again)
answers_few (event.Publish w f ∷ es) = let again = answers_few es in omega (arith, again)
answers_few (event.Answer w g ∷ es) = let again = answers_few es in omega (arith, again)
answers_few (event.End w x ∷ es) = let again = answers_few es in omega (arith, again)

-- a worker whose answer is due builds a module
pub answer_busy : (o : Outline) (events : List Event) (w g : ℕ) → Enabled o events (event.Answer w g) → module_of (course_of (standing_of o events) w) ≡ None → ⊥
unfolding Enabled
answer_busy o events w g is none = at_work (course_of (standing_of o events) w) (deed.Answer g) is.2 none

pub answer_module : (o : Outline) (events : List Event) (w g : ℕ) → Enabled o events (event.Answer w g) → (m : ℕ) × (module_of (course_of (standing_of o events) w) ≡ Some m)
answer_module o events w g is = by (module_of (course_of (standing_of o events) w)) refl
  where
    by : (found : Option ℕ) → module_of (course_of (standing_of o events) w) ≡ found → (m : ℕ) × (module_of (course_of (standing_of o events) w) ≡ Some m)
    by None e = absurd (answer_busy o events w g is e)
    by (Some m) e = (m, e)

-- whether an answer was kept, by how its module's goals stand
pub stand_kept : (goal : ℕ) (end : GoalsEnd) → answer_kept goal end ≡ kept_so goal (stand_of end)
stand_kept goal (all_answered own) = refl
stand_kept goal (goal_failed i own) = refl
stand_kept goal (output_too_large i own) = refl

-- the number of a module's goals
pub count_is : (modules : List PlanModule) (goals : List ℕ) (number : ℕ) (m : PlanModule) → goals ≡ goal_counts modules → slice_get modules number ≡ Some m → get_or goals number 0 ≡ length m.goals
count_is modules goals number m same at = ap (λ xs. get_or xs number 0) same ∙ by modules number at
  where
    by : (modules : List PlanModule) (number : ℕ) → slice_get modules number ≡ Some m → get_or (goal_counts modules) number 0 ≡ length m.goals
    by [] number at = absurd (nothing_is m at)
    by (x ∷ modules) zero at = ap (λ o. length ((unwrap_or o x).goals)) at
    by (x ∷ modules) (suc number) at = by modules number at

-- what a module keeps behind a run
pub output_is : (plan : Plan) (log : List RunEntry) (number : ℕ) (m : PlanModule) → slice_get plan.modules number ≡ Some m → outputs_after plan log number ≡ kept_of (goals_in (answers_in plan log) number m)
output_is plan log number m at = outputs_are plan log number ∙ outs_at plan (answers_in plan log) number m at

pub output_none : (plan : Plan) (log : List RunEntry) (number : ℕ) → slice_get plan.modules number ≡ None → outputs_after plan log number ≡ []
output_none plan log number none = outputs_are plan log number ∙ ap (λ found. option_map_or (λ (m : PlanModule). kept_of (goals_in (answers_in plan log) number m)) found []) none

module _ {S : Type 0} (told : S → Option ShelfTold) (faults : S → ℕ) (plan : Plan) (core : Outline × List Event) (opening shelf : S) (answers : List Answered) (marks : List Bool) (room : Room)
    (board : IsBoard told faults plan core opening shelf answers marks room) where
  -- there is room for an answer more
  pub answer_room : {next_core : Outline × List Event} (e : Event) → next_core ≡ (core.0, core.1 ++ e ∷ []) → length next_core.1 ≤ next_core.0.events → length answers < room.answers
  answer_room {next_core} e is bound =
      let longer : length (core.1 ++ e ∷ []) ≤ core.0.events = subst (λ t. length t.1 ≤ t.0.events) is bound in
      let more = length-append core.1 (e ∷ []) in
      let same : core.0.events ≡ plan.events = ap (λ o. o.events) board.outline in
      let few = answers_few core.1 in
      omega (arith, longer, more, same, few, board.answered, board.roomy)

  module _ (w g m : ℕ) (answer : GoalAnswer) (here : module_by plan (log_by (told opening) (told shelf) answers core.1) w ≡ Some m) where
    abbrev log : List RunEntry
    log = log_by (told opening) (told shelf) answers core.1

    abbrev one : Answered
    one = record { «module» = m; goal = g; answer = answer }

    pub answer_log : log_by (told opening) (told shelf) (answers ++ (record { «module» = m; goal = g; answer = answer }) ∷ []) (core.1 ++ event.Answer w g ∷ [])
        ≡ log_by (told opening) (told shelf) answers core.1 ++ entry (event.Answer w g) (carried.Answered answer) ∷ []
    answer_log = answer_more (published_since (told opening) (told shelf)) answers one core.1 w g board.published board.answered

    pub kept_more : answers ++ (record { «module» = m; goal = g; answer = answer }) ∷ [] ≡ answers_in plan (log_by (told opening) (told shelf) answers core.1 ++ entry (event.Answer w g) (carried.Answered answer) ∷ [])
    kept_more = ap (λ t. t ++ one ∷ []) board.kept
        ∙ ap (λ found. answers_in plan log ++ option_map_or (λ k. (record { «module» = k; goal = g; answer = answer }) ∷ []) found []) (sym here)
        ∙ sym (answers_more plan log (entry (event.Answer w g) (carried.Answered answer)))

    told_more : (t : Option ShelfTold) → told_after plan log t ≡ told_after plan (log ++ entry (event.Answer w g) (carried.Answered answer) ∷ []) t
    told_more None = refl
    told_more (Some t) = ap (λ ps. Some (record t { publishes = t.publishes ++ ps })) (sym (publishes_one plan log (entry (event.Answer w g) (carried.Answered answer)) ∙ append-nil (publishes_in plan log)))

    counted : (since : Option (List Published)) → IfSome since (λ ps. publish_count core.1 ≡ length ps) → IfSome since (λ ps. publish_count (core.1 ++ event.Answer w g ∷ []) ≡ length ps)
    counted None is = is
    counted (Some ps) is = omega (arith, publishes_append core.1 (event.Answer w g ∷ []), is)

    answered_whole : (then_room : Room) → room.answers ≤ then_room.answers → then_room.goals ≡ room.goals → then_room.states ≡ room.states → IsBoard told faults plan (core.0, core.1 ++ event.Answer w g ∷ []) opening shelf (answers ++ one ∷ []) marks then_room
    answered_whole then_room more goals states = record {
      outline = board.outline;
      sound = board.sound;
      short = board.short;
      few = board.few;
      tells = board.tells ∙ told_more (told opening) ∙ ap (λ l. told_after plan l (told opening)) (sym answer_log);
      published = counted (published_since (told opening) (told shelf)) board.published;
      answered = omega (arith, answers_append core.1 (event.Answer w g ∷ []), length-append answers (one ∷ []), board.answered);
      kept = kept_more ∙ ap (answers_in plan) (sym answer_log);
      workers = board.workers;
      roomy = omega (arith, board.roomy, more);
      goals = goals ∙ board.goals;
      states = (let low = board.states in omega (arith, low, states));
      present = board.present;
      caused = subst (λ l. AreCaused (told opening) (faults opening) (faults shelf) l marks) (sym answer_log)
          (caused_less (told opening) (faults opening) (faults shelf) log (log ++ entry (event.Answer w g) (carried.Answered answer) ∷ []) marks marks (omega (arith, endings_one log (event.Answer w g) (carried.Answered answer))) board.caused);
      calm = subst (λ l. IsCalm (faults opening) (faults shelf) l marks) (sym answer_log) (calm_more (faults opening) (faults shelf) log (entry (event.Answer w g) (carried.Answered answer)) marks marks (λ quiet none. none) board.calm);
      no_fall = board.no_fall;
      busy = busy_more core.0 core.1 (event.Answer w g) marks refl board.busy;
      untouched = λ none. absurd (not_empty core.1 (event.Answer w g) none);
    }

    pub answered_board : {next_core : Outline × List Event} {then_answers : List Answered} (then_room : Room) → next_core ≡ (core.0, core.1 ++ event.Answer w g ∷ []) → then_answers ≡ answers ++ (record { «module» = m; goal = g; answer = answer }) ∷ []
        → room.answers ≤ then_room.answers → then_room.goals ≡ room.goals → then_room.states ≡ room.states → IsBoard told faults plan next_core opening shelf then_answers marks then_room
    answered_board {next_core} {then_answers} then_room is kept more goals states =
        subst (λ t. IsBoard told faults plan t opening shelf then_answers marks then_room) (sym is)
        (subst (λ xs. IsBoard told faults plan (core.0, core.1 ++ event.Answer w g ∷ []) opening shelf xs marks then_room) (sym kept) (answered_whole then_room more goals states))

    -- the log with the answer
    pub answered_log : {next_core : Outline × List Event} {then_answers : List Answered} → next_core ≡ (core.0, core.1 ++ event.Answer w g ∷ []) → then_answers ≡ answers ++ (record { «module» = m; goal = g; answer = answer }) ∷ []
        → log_by (told opening) (told shelf) then_answers next_core.1 ≡ log_by (told opening) (told shelf) answers core.1 ++ entry (event.Answer w g) (carried.Answered answer) ∷ []
    answered_log {next_core} {then_answers} is kept = ap (λ xs. log_by (told opening) (told shelf) xs next_core.1) kept ∙ ap (λ t. log_by (told opening) (told shelf) (answers ++ one ∷ []) t.1) is ∙ answer_log

    -- the build with the answer
    pub answered_build : {next_core : Outline × List Event} {then_answers : List Answered} → next_core ≡ (core.0, core.1 ++ event.Answer w g ∷ []) → then_answers ≡ answers ++ (record { «module» = m; goal = g; answer = answer }) ∷ []
        → ◌≡◌ {A = Build S} (record { plan = plan; opening = opening; shelf = shelf; log = log_by (told opening) (told shelf) then_answers next_core.1; marks = marks }) (record { plan = plan; opening = opening; shelf = shelf; log = log_by (told opening) (told shelf) answers core.1 ++ entry (event.Answer w g) (carried.Answered answer) ∷ []; marks = marks })
    answered_build is kept = ap (λ l. record { plan = plan; opening = opening; shelf = shelf; log = l; marks = marks }) (answered_log is kept)

  -- the bytes that a module keeps in a slot
  pub output_told : (number : ℕ) (m : PlanModule) (s : Slot) → slice_get plan.modules number ≡ Some m → slot_bytes (kept_of (goals_of answers number m)) s ≡ slot_bytes (outputs_after plan (log_by (told opening) (told shelf) answers core.1) number) s
  output_told number m s at =
      ap (λ kept. slot_bytes (kept_of (goals_of kept number m)) s) board.kept
      ∙ ap (λ own. slot_bytes own s) (sym (output_is plan (log_by (told opening) (told shelf) answers core.1) number m at))
