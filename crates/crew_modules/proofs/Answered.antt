-- What a worker knows behind an answer to a goal of its module, in the log.
use Rattle.std.proofs.Common.{◌≡◌, ℕ, ◌+◌, ◌<◌, Bool, true, nat_lt, List, [], ◌∷◌, ◌++◌, length, map, slice_get, take, Option, Some, None, IfSome, option_map, refl, arith, sym, ap, subst, ◌∙◌}
use Rattle.std.proofs.Math.Seq.{take-length}
use Rattle.std.proofs.lemmas.List.{append_assoc}
use Rattle.mvn_shared.specs.Files.{Files}
use Rattle.goal_types.specs.declared.goal.GoalAnswer.{GoalAnswer}
use Rattle.goal_types.specs.declared.goal.GoalCall.{GoalCall}
use Rattle.goal_types.specs.declared.goal.GoalRequest.{GoalRequest}
use Rattle.goal_types.specs.declared.goal.PathEntry.{PathEntry}
use Rattle.build_core.specs.OneThread.{path_entry, request}
use Rattle.build_core.specs.Slots.{kept_of}
use Rattle.build_core.specs.declared.event.Event.TheVariants as event
use Rattle.build_core.specs.declared.plan.Plan.{Plan}
use Rattle.build_core.specs.declared.plan.PlanModule.{PlanModule}
use Rattle.event_core.specs.declared.entry.Carried.{Carried}
use Rattle.event_core.specs.declared.entry.Carried.TheVariants as carried
use Rattle.event_core.specs.declared.entry.RunEntry.{RunEntry}
use Rattle.scripts.specs.declared.script_place.ScriptPlace.TheVariants as place
use Rattle.event_core.specs.Enabled.{Enabled}
use Rattle.scripts.specs.Outlines.{module_outline, outline_of}
use Rattle.event_core.specs.Runs.{IsRunOf, answers_in, contents, events_of, goals_in, module_by, outputs_in, standing_of_run}
use Rattle.scripts.specs.ScriptPlaces.{rest_of}
use Rattle.scripts.specs.Scripts.{settled}
use Rattle.event_core.specs.SoundPlans.{IsSoundPlan}
use Rattle.event_core.specs.Standing.{course_of, held_by, module_of, on_course}
use Rattle.event_core.specs.Worlds.{IsGates, IsWithin, stood}
use Rattle.run_law.proofs.Complete.{standing}
use Rattle.run_law.proofs.LaterMoments.{front, next_is}
use Rattle.run_law.specs.Others.{AreOthers, HasAll}
use Rattle.run_law.proofs.Staying.{course_stays, entries_stay, gathered, held_stays}
use Rattle.run_law.specs.Gathered.{needed_of}
use Rattle.run_law.proofs.Ending.{within}
use Rattle.crew_turns.specs.Asking.{IsRequestOf, asked}
use Rattle.crew_turns.specs.Parts.{IsPart}
use Rattle.crew_turns.proofs.Askings.{asks}
use Rattle.crew_turns.specs.Hands.{Test, told_by}
use Rattle.crew_modules.proofs.GoalPlaces.{late_place, next_place, same_names}

-- the entries that were gathered are all entries with their bytes
abbrev pub ArePathsIn : Plan → Option Files → List RunEntry → PlanModule → List PathEntry → Type 0
ArePathsIn plan start log m paths = IfSome (option_map (λ files. contents plan files log) start) (λ files. IsPart plan files (outputs_in plan log) m.entries (length m.entries) paths)

module _ (plan : Plan) (seen others : List RunEntry) (w number goal : ℕ) (what : Carried) (m : PlanModule) (last : Option ℕ) (sound : IsSoundPlan plan)
    (run : IsRunOf plan (seen ++ others ++ (record { event = event.Answer w goal; carried = what }) ∷ [])) (apart : AreOthers w others)
    (at : slice_get plan.modules number ≡ Some m) (low : goal < length m.goals)
    (on : course_of (standing_of_run plan seen) w ≡ on_course number (settled [] true (rest_of (module_outline m) (place.Answering goal))) last)
    (none : held_by (standing_of_run plan seen) w ≡ []) where
  abbrev entry : RunEntry
  entry = record { event = event.Answer w goal; carried = what }

  middle : IsRunOf plan (seen ++ others)
  middle = (front plan (seen ++ others) (entry ∷ []) run).0

  few : w < length (standing_of_run plan (seen ++ others)).courses
  unfolding Enabled
  few =
      let low_worker : w < plan.workers = (front plan (seen ++ others) (entry ∷ []) run).1.0.0 in
      let courses : length (standing_of_run plan (seen ++ others)).courses ≡ plan.workers = (standing (outline_of plan) (events_of (seen ++ others)) middle).fit.courses in
      omega (arith, low_worker, courses)

  pub course_now : course_of (standing_of_run plan (seen ++ others ++ entry ∷ [])) w ≡ on_course number (settled [] true (rest_of (module_outline m) (place.Answering (goal + 1)))) (Some goal)
  course_now =
      ap (λ now. course_of now w) (next_is plan 0 (seen ++ others) entry)
      ∙ next_place (outline_of plan) (module_outline m) (standing_of_run plan (seen ++ others)) w number goal last few low (course_stays plan seen others w apart ∙ on) (held_stays plan seen others w apart ∙ none)

  pub held_now : held_by (standing_of_run plan (seen ++ others ++ entry ∷ [])) w ≡ []
  held_now =
      ap (λ now. held_by now w) (next_is plan 0 (seen ++ others) entry)
      ∙ same_names (outline_of plan) (module_outline m) (standing_of_run plan (seen ++ others)) w number goal last
      ∙ held_stays plan seen others w apart ∙ none

  pub all_now : HasAll plan (seen ++ others ++ entry ∷ []) m
  all_now = gathered plan (seen ++ others ++ entry ∷ []) w number m (settled [] true (rest_of (module_outline m) (place.Answering (goal + 1)))) (Some goal) run course_now at (late_place (module_outline m) (goal + 1))

  whose : module_by plan seen w ≡ Some number
  whose = ap module_of on

  long : seen ++ others ++ entry ∷ [] ≡ seen ++ (others ++ entry ∷ [])
  long = append_assoc seen others (entry ∷ [])

  long_run : IsRunOf plan (seen ++ (others ++ entry ∷ []))
  long_run = subst (IsRunOf plan) long run

  module _ (start : Option Files) (all : HasAll plan seen m) where
    pub within_now : IsWithin (stood plan start seen number m) → IsWithin (stood plan start (seen ++ others ++ entry ∷ []) number m)
    within_now is = subst (λ log. IsWithin (stood plan start log number m)) (sym long) (within plan seen (others ++ entry ∷ []) w number m sound long_run whose at all start is)

    -- so do the entries of the classpath
    pub paths_now : (paths : List PathEntry) → ArePathsIn plan start seen m paths → ArePathsIn plan start (seen ++ others ++ entry ∷ []) m paths
    paths_now paths are = subst (λ log. ArePathsIn plan start log m paths) (sym long) (by start are)
      where
        by : (start : Option Files) → ArePathsIn plan start seen m paths → ArePathsIn plan start (seen ++ (others ++ entry ∷ [])) m paths
        by None are = tt
        by (Some files) are =
            are ∙ ap (map (path_entry plan (contents plan files seen) (outputs_in plan seen))) (take-length m.entries)
            ∙ sym (entries_stay plan files seen (others ++ entry ∷ []) w number m sound long_run whose at all)
            ∙ ap (map (path_entry plan (contents plan files (seen ++ (others ++ entry ∷ []))) (outputs_in plan (seen ++ (others ++ entry ∷ []))))) (sym (take-length m.entries))

-- ---- the answer is the gate's

module _ (plan : Plan) (seen : List RunEntry) (number goal : ℕ) (m : PlanModule) (call : GoalCall) (before : GoalRequest) (paths : List PathEntry) (answer : GoalAnswer) where
  pub gates : (remote : Option Files) (area : Bool) (gate : Option Test) (start : Option Files) → slice_get m.goals goal ≡ Some call → IsRequestOf m (kept_of (goals_in (answers_in plan seen) number m)) before
      → ArePathsIn plan start seen m paths → IfSome gate (λ test. test (asked before call (needed_of call.need m.entries paths)) answer ≡ true)
      → IsGates (stood plan start seen number m) (told_by remote area gate) goal (carried.Answered answer)
  gates remote area None start at is are told = tt
  gates remote area (Some test) None at is are told = tt
  gates remote area (Some test) (Some files) at is are told =
      let own = kept_of (goals_in (answers_in plan seen) number m) in
      let files_now = contents plan files seen in
      let outputs = outputs_in plan seen in
      let all : paths ≡ map (path_entry plan files_now outputs) m.entries = are ∙ ap (map (path_entry plan files_now outputs)) (take-length m.entries) in
      subst (λ o. IfSome o (λ (c : GoalCall). test (request plan files_now outputs m c own) answer ≡ true)) (sym at)
      (subst (λ r. test r answer ≡ true) (asks plan files_now outputs m own before call paths is all) told)
