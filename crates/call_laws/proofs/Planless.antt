-- The build by one hand, and its report, don't look at which files a plan says are there.
use Rattle.std.proofs.Common.{◌≡◌, ℕ, suc, Bool, true, false, nat_lt, List, [], ◌∷◌, map, fold, length, Option, Some, None, refl, ap, ◌∙◌, if◌then◌else◌}
use Rattle.mvn_shared.specs.Files.{Files}
use Rattle.goal_types.specs.declared.goal.GoalAnswer.{GoalAnswer}
use Rattle.goal_types.specs.declared.goal.OwnBytes.{OwnBytes}
use Rattle.goal_types.specs.declared.goal.PathEntry.{PathEntry}
use Rattle.build_core.specs.declared.plan.Entry.{Entry}
use Rattle.build_core.specs.declared.plan.Origin.{Origin}
use Rattle.build_core.specs.declared.plan.Origin.TheVariants as origin
use Rattle.build_core.specs.declared.plan.Plan.{Plan}
use Rattle.build_core.specs.declared.plan.PlanModule.{PlanModule}
use Rattle.build_core.specs.declared.ending.Ending.{Ending}
use Rattle.build_core.specs.declared.ending.Ending.TheVariants as ending
use Rattle.build_core.specs.declared.ending.State.{State}
use Rattle.build_core.specs.declared.ending.State.TheVariants as state
use Rattle.build_core.specs.Slots.{GoalsEnd, all_answered, goal_failed, output_too_large, run_goals}
use Rattle.build_core.specs.OneThread.{Fetched, Progress, Supply, after_answers, after_fetch, after_goals, beginning, ends, entries_len, fetched, first_unbuilt, lacks_artifact, most_classpath, name_of, next_module, one_module, one_thread, origin_bytes, path_entry, with_fetched}
use Rattle.report.specs.Rows.{ending_row, row_of, rows, state_row, states_status}
use Rattle.report.specs.declared.details.Details.{Details}
use Rattle.report.specs.Report.{report_text}
use Rattle.report.specs.declared.row.RowEnd.{RowEnd}
use Rattle.build_outcome.specs.Outcomes.{ran}
use Rattle.build_outcome.specs.declared.outcome.Outcome.{Outcome}

module _ (plan : Plan) (list : List Bool) where
  -- the plan with another list
  abbrev pub other : Plan
  other = record plan { present = list }

  -- what is fetched
  fetched_same : (remote : Files) (files : List ℕ) (start : Files) → fetched other remote files start ≡ fetched plan remote files start
  fetched_same remote [] start = refl
  fetched_same remote (f ∷ files) start = by (fetched_same remote files) (with_fetched remote (name_of plan f) start)
    where
      by : ((more : Files) → fetched other remote files more ≡ fetched plan remote files more) → (o : Option Files)
          → ◌≡◌ {A = Fetched} (elim o [ None ↦ record { files = start; missing = Some f } | Some more ↦ fetched other remote files more ]) (elim o [ None ↦ record { files = start; missing = Some f } | Some more ↦ fetched plan remote files more ])
      by rest None = refl
      by rest (Some more) = rest more

  -- what an entry has
  origin_same : (files : Files) (outputs : List (List OwnBytes)) (o : Origin) → origin_bytes other files outputs o ≡ origin_bytes plan files outputs o
  origin_same files outputs (origin.File f) = refl
  origin_same files outputs (origin.Module m s) = refl
  origin_same files outputs origin.Nothing = refl

  entry_same : (files : Files) (outputs : List (List OwnBytes)) → path_entry other files outputs ≡ path_entry plan files outputs
  entry_same files outputs = λ i e. record { name = e.name; bytes = origin_same files outputs e.origin i }

  -- how a module ends
  answers_same : (installs lacks : Bool) (m : PlanModule) (own : List OwnBytes) (files : Files) (progress : Progress)
      → after_answers installs lacks other m own files progress ≡ after_answers installs lacks plan m own files progress
  answers_same false lacks m own files progress = refl
  answers_same true true m own files progress = refl
  answers_same true false m own files progress = refl

  goals_same : (m : PlanModule) (files : Files) (progress : Progress) (end : GoalsEnd) → after_goals other m files progress end ≡ after_goals plan m files progress end
  goals_same m files progress (goal_failed i own) = refl
  goals_same m files progress (output_too_large i own) = refl
  goals_same m files progress (all_answered own) = answers_same m.installs (lacks_artifact m own) m own files progress

  fetch_same : (supply : Supply) (number : ℕ) (m : PlanModule) (files : Files) (progress : Progress)
      → after_fetch other supply number m files progress ≡ after_fetch plan supply number m files progress
  fetch_same supply number m files progress =
      ap (λ (entry : Entry → PathEntry). if nat_lt most_classpath (entries_len (map entry m.entries)) then ends (state.Ended ending.ClasspathTooLarge) [] files progress
      else after_goals other m files progress (run_goals m.budget (supply.answers number) 0 m.goals [])) (entry_same files progress.outputs)
      ∙ ap (λ (rest : Progress). if nat_lt most_classpath (entries_len (map (path_entry plan files progress.outputs) m.entries)) then ends (state.Ended ending.ClasspathTooLarge) [] files progress
      else rest) (goals_same m files progress (run_goals m.budget (supply.answers number) 0 m.goals []))

  abbrev after : Plan → Supply → ℕ → PlanModule → Progress → Fetched → Progress
  after p supply number m progress got = elim got.missing [ Some file ↦ ends (state.Ended (ending.Missing file)) [] got.files progress | None ↦ after_fetch p supply number m got.files progress ]

  module_same : (supply : Supply) (number : ℕ) (m : PlanModule) (progress : Progress) → one_module other supply number m progress ≡ one_module plan supply number m progress
  unfolding one_module
  module_same supply number m progress =
      ap (after other supply number m progress) (fetched_same supply.remote m.fetch progress.files) ∙ by (fetched plan supply.remote m.fetch progress.files).missing
    where
      by : (o : Option ℕ) → ◌≡◌ {A = Progress} (elim o [ Some file ↦ ends (state.Ended (ending.Missing file)) [] (fetched plan supply.remote m.fetch progress.files).files progress | None ↦ after_fetch other supply number m (fetched plan supply.remote m.fetch progress.files).files progress ])
          (elim o [ Some file ↦ ends (state.Ended (ending.Missing file)) [] (fetched plan supply.remote m.fetch progress.files).files progress | None ↦ after_fetch plan supply number m (fetched plan supply.remote m.fetch progress.files).files progress ])
      by (Some file) = refl
      by None = fetch_same supply number m (fetched plan supply.remote m.fetch progress.files).files progress

  -- so each step of the build
  step_same : (supply : Supply) (progress : Progress) (m : PlanModule) → next_module first_unbuilt other supply progress m ≡ next_module first_unbuilt plan supply progress m
  step_same supply progress m = by (first_unbuilt progress m)
    where
      by : (o : Option ℕ) → ◌≡◌ {A = Progress} (elim o [ Some u ↦ ends (state.Skipped u) [] progress.files progress | None ↦ one_module other supply (length progress.states) m progress ])
          (elim o [ Some u ↦ ends (state.Skipped u) [] progress.files progress | None ↦ one_module plan supply (length progress.states) m progress ])
      by (Some u) = refl
      by None = module_same supply (length progress.states) m progress

  -- so the whole build
  pub build_same : (supply : Supply) → one_thread other supply ≡ one_thread plan supply
  build_same supply = ap (λ (step : Progress → PlanModule → Progress). fold step (beginning supply) plan.modules) (λ i progress m. step_same supply progress m i)

  -- and its report
  state_same : (m : PlanModule) (answers : ℕ → GoalAnswer) (s : State) → state_row other m answers s ≡ state_row plan m answers s
  state_same m answers (state.Ended e) = by e
    where
      by : (e : Ending) → ending_row other m answers e ≡ ending_row plan m answers e
      by ending.Built = refl
      by (ending.Goal i) = refl
      by (ending.Missing file) = refl
      by ending.NoArtifact = refl
      by (ending.OutputTooLarge i) = refl
      by ending.ClasspathTooLarge = refl
      by (ending.Fault device) = refl
      by ending.Memory = refl
  state_same m answers (state.Skipped u) = refl
  state_same m answers state.Waiting = refl
  state_same m answers (state.Running w) = refl

  rows_same : (answers : ℕ → ℕ → GoalAnswer) (n : ℕ) (details : List Details) (modules : List PlanModule) (states : List State)
      → rows other answers n details modules states ≡ rows plan answers n details modules states
  rows_same answers n [] modules states = refl
  rows_same answers n (d ∷ details) [] states = refl
  rows_same answers n (d ∷ details) (m ∷ modules) [] = refl
  rows_same answers n (d ∷ details) (m ∷ modules) (s ∷ states) =
      ap (λ (end : RowEnd). row_of m end d ∷ rows other answers (suc n) details modules states) (state_same m (answers n) s)
      ∙ ap (λ rest. row_of m (state_row plan m (answers n) s) d ∷ rest) (rows_same answers (suc n) details modules states)

  abbrev pub told : Plan → List Details → Supply → Progress → Outcome
  told p details supply progress = record { text = report_text (rows p supply.answers 0 details plan.modules progress.states); status = states_status progress.states }

  pub report_same : (details : List Details) (supply : Supply) → ran other details supply ≡ ran plan details supply
  report_same details supply =
      ap (told other details supply) (build_same supply)
      ∙ ap (λ rows. record { text = report_text rows; status = states_status (one_thread plan supply).states }) (rows_same supply.answers 0 details plan.modules (one_thread plan supply).states)
