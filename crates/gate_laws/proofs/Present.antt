-- The sequential build, and what its goals are asked, don't look at which files a plan says are there.
use Rattle.std.proofs.Common.{◌≡◌, ℕ, Bool, true, false, nat_lt, List, [], ◌∷◌, filter, map, fold, length, Option, Some, None, refl, sym, ap, subst, ◌∙◌, if◌then◌else◌}
use Rattle.std.specs.Prelude.{take}
use Rattle.mvn_shared.specs.Files.{Files}
use Rattle.goal_types.specs.declared.goal.GoalCall.{GoalCall}
use Rattle.goal_types.specs.declared.goal.OwnBytes.{OwnBytes}
use Rattle.goal_types.specs.declared.goal.PathEntry.{PathEntry}
use Rattle.build_core.specs.declared.plan.Entry.{Entry}
use Rattle.build_core.specs.declared.plan.Origin.{Origin}
use Rattle.build_core.specs.declared.plan.Origin.TheVariants as origin
use Rattle.build_core.specs.declared.plan.Plan.{Plan}
use Rattle.build_core.specs.declared.plan.PlanModule.{PlanModule}
use Rattle.build_core.specs.declared.ending.Ending.TheVariants as ending
use Rattle.build_core.specs.declared.ending.State.TheVariants as state
use Rattle.build_core.specs.Slots.{GoalsEnd, all_answered, goal_failed, output_too_large, run_goals, slots_before}
use Rattle.build_core.specs.OneThread.{Fetched, Progress, Supply, after_answers, after_fetch, after_goals, beginning, ends, entries_len, fetched, first_unbuilt, is_needed, lacks_artifact, most_classpath, name_of, next_module, one_module, origin_bytes, path_entry, request, with_fetched}
use Rattle.run_law.specs.Closed.{state_at}
use Rattle.gate_laws.specs.Gates.{AreGates, Test, before, request_in}

module _ (plan : Plan) (list : List Bool) where
  -- the plan with another list
  abbrev other : Plan
  other = record plan { present = list }

  -- what is fetched
  fetched_same : (remote : Files) (files : List ℕ) (start : Files)
      → fetched other remote files start ≡ fetched plan remote files start
  fetched_same remote [] start = refl
  fetched_same remote (f ∷ files) start = by (fetched_same remote files) (with_fetched remote (name_of plan f) start)
    where
      by : ((more : Files) → fetched other remote files more ≡ fetched plan remote files more) → (o : Option Files)
          → ◌≡◌ {A = Fetched} (elim o [ None ↦ record { files = start; missing = Some f } | Some more ↦ fetched other remote files more ]) (elim o [ None ↦ record { files = start; missing = Some f } | Some more ↦ fetched plan remote files more ])
      by rest None = refl
      by rest (Some more) = rest more

  -- what an entry has
  origin_same : (files : Files) (outputs : List (List OwnBytes)) (o : Origin)
      → origin_bytes other files outputs o ≡ origin_bytes plan files outputs o
  origin_same files outputs (origin.File f) = refl
  origin_same files outputs (origin.Module m s) = refl
  origin_same files outputs origin.Nothing = refl

  entry_same : (files : Files) (outputs : List (List OwnBytes))
      → path_entry other files outputs ≡ path_entry plan files outputs
  entry_same files outputs = λ i e. record { name = e.name; bytes = origin_same files outputs e.origin i }

  -- how a module ends
  answers_same : (installs lacks : Bool) (m : PlanModule) (own : List OwnBytes) (files : Files) (progress : Progress)
      → after_answers installs lacks other m own files progress ≡ after_answers installs lacks plan m own files progress
  answers_same false lacks m own files progress = refl
  answers_same true true m own files progress = refl
  answers_same true false m own files progress = refl

  goals_same : (m : PlanModule) (files : Files) (progress : Progress) (end : GoalsEnd)
      → after_goals other m files progress end ≡ after_goals plan m files progress end
  goals_same m files progress (goal_failed i own) = refl
  goals_same m files progress (output_too_large i own) = refl
  goals_same m files progress (all_answered own) = answers_same m.installs (lacks_artifact m own) m own files progress

  fetch_same : (supply : Supply) (number : ℕ) (m : PlanModule) (files : Files) (progress : Progress)
      → after_fetch other supply number m files progress ≡ after_fetch plan supply number m files progress
  fetch_same supply number m files progress =
      ap (λ (entry : Entry → PathEntry). if nat_lt most_classpath (entries_len (map entry m.entries)) then ends (state.Ended ending.ClasspathTooLarge) [] files progress
      else after_goals other m files progress (run_goals m.budget (supply.answers number) 0 m.goals [])) (entry_same files progress.outputs)
      ∙ ap (λ (rest : Progress). if nat_lt most_classpath (entries_len (map (path_entry plan files progress.outputs) m.entries)) then ends (state.Ended ending.ClasspathTooLarge) [] files progress
      else rest) (goals_same m files progress (run_goals m.budget (supply.answers number) 0 m.goals []))

  abbrev after : Plan → Supply → ℕ → PlanModule → Progress → Fetched → Progress
  after p supply number m progress got = elim got.missing [ Some file ↦ ends (state.Ended (ending.Missing file)) [] got.files progress | None ↦ after_fetch p supply number m got.files progress ]

  module_same : (supply : Supply) (number : ℕ) (m : PlanModule) (progress : Progress)
      → one_module other supply number m progress ≡ one_module plan supply number m progress
  unfolding one_module
  module_same supply number m progress =
      ap (after other supply number m progress) (fetched_same supply.remote m.fetch progress.files) ∙ by (fetched plan supply.remote m.fetch progress.files).missing
    where
      by : (o : Option ℕ) → ◌≡◌ {A = Progress} (elim o [ Some file ↦ ends (state.Ended (ending.Missing file)) [] (fetched plan supply.remote m.fetch progress.files).files progress | None ↦ after_fetch other supply number m (fetched plan supply.remote m.fetch progress.files).files progress ])
          (elim o [ Some file ↦ ends (state.Ended (ending.Missing file)) [] (fetched plan supply.remote m.fetch progress.files).files progress | None ↦ after_fetch plan supply number m (fetched plan supply.remote m.fetch progress.files).files progress ])
      by (Some file) = refl
      by None = fetch_same supply number m (fetched plan supply.remote m.fetch progress.files).files progress

  -- so each step of the build
  step_same : (supply : Supply) (progress : Progress) (m : PlanModule)
      → next_module first_unbuilt other supply progress m ≡ next_module first_unbuilt plan supply progress m
  step_same supply progress m = by (first_unbuilt progress m)
    where
      by : (o : Option ℕ) → ◌≡◌ {A = Progress} (elim o [ Some u ↦ ends (state.Skipped u) [] progress.files progress | None ↦ one_module other supply (length progress.states) m progress ])
          (elim o [ Some u ↦ ends (state.Skipped u) [] progress.files progress | None ↦ one_module plan supply (length progress.states) m progress ])
      by (Some u) = refl
      by None = module_same supply (length progress.states) m progress

  -- so the build of some modules
  steps_same : (supply : Supply) (modules : List PlanModule)
      → fold (next_module first_unbuilt other supply) (beginning supply) modules ≡ fold (next_module first_unbuilt plan supply) (beginning supply) modules
  steps_same supply modules = ap (λ (step : Progress → PlanModule → Progress). fold step (beginning supply) modules) (λ i progress m. step_same supply progress m i)

  -- and what a goal is asked
  asked_same : (supply : Supply) (number : ℕ) (m : PlanModule) (goal : ℕ) (call : GoalCall)
      → request_in other supply number m goal call ≡ request_in plan supply number m goal call
  asked_same supply number m goal call =
      ap (λ (p : Progress). request other (fetched other supply.remote m.fetch p.files).files p.outputs m call (slots_before m.budget (supply.answers number) goal m.goals)) (steps_same supply (take number plan.modules))
      ∙ ap (λ (got : Fetched). request other got.files (before plan supply number).outputs m call (slots_before m.budget (supply.answers number) goal m.goals)) (fetched_same supply.remote m.fetch (before plan supply number).files)
      ∙ ap (λ (entry : Entry → PathEntry). record { «module» = m.gav; call = call; sources = m.sources; own = slots_before m.budget (supply.answers number) goal m.goals; classpath = map entry (filter (is_needed call.need) m.entries) })
      (entry_same (fetched plan supply.remote m.fetch (before plan supply number).files).files (before plan supply number).outputs)

  -- so its answers are the function's as before
  pub present_law : (supply : Supply) (test : Test) → AreGates plan supply test → AreGates other supply test
  present_law supply test are number goal m call e at there ends reached =
      subst (λ r. test r (supply.answers number goal) ≡ true) (sym (asked_same supply number m goal call))
      (are number goal m call e at there (ap (λ (p : Progress). state_at p number) (sym (steps_same supply plan.modules)) ∙ ends) reached)
