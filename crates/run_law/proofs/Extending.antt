-- A module that ended is judged the same by any answers that extend those that are kept.
use Rattle.std.proofs.Common.{◌≡◌, ℕ, ◌<◌, Bool, true, false, nat_lt, List, [], find, length, Option, Some, None, is_some, refl, arith, sym, ap, ◌∙◌, if◌then◌else◌}
use Rattle.std.proofs.lemmas.Bool.{false≢true}
use Rattle.mvn_shared.specs.Files.{Files}
use Rattle.build_core.specs.declared.event.Answered.{Answered}
use Rattle.build_core.specs.declared.ending.Ending.{Ending}
use Rattle.build_core.specs.declared.ending.Ending.TheVariants as ending
use Rattle.goal_types.specs.declared.goal.GoalAnswer.{GoalAnswer}
use Rattle.goal_types.specs.declared.goal.OwnBytes.{OwnBytes}
use Rattle.build_core.specs.declared.plan.Plan.{Plan}
use Rattle.build_core.specs.declared.plan.PlanModule.{PlanModule}
use Rattle.build_core.specs.declared.ending.State.{State}
use Rattle.build_core.specs.declared.ending.State.TheVariants as state
use Rattle.run_law.specs.Closed.{Verdict, missing_of, total_len, verdict_of_fetch, verdict_of_goals, verdict_of_install}
use Rattle.run_law.proofs.Invariants.{supply_of}
use Rattle.run_law.specs.Given.{Extends, is_answer, is_kept, reaches, supply_by}
use Rattle.build_core.specs.OneThread.{answer_at, lacks_artifact, most_classpath}
use Rattle.build_core.specs.Slots.{GoalsEnd, all_answered, goal_failed, output_too_large, run_goals}
use Rattle.run_law.proofs.Reached.{goals_reached, is_reached}

-- an answer that is kept is the one that is given
kept_same : (kept : List Answered) (answers : ℕ → ℕ → GoalAnswer) (number goal : ℕ) → Extends kept answers → is_kept kept number goal ≡ true → answer_at kept number goal ≡ answers number goal
kept_same kept answers number goal extends has = by (find (is_answer number goal) kept) refl has
  where
    by : (found : Option Answered) → find (is_answer number goal) kept ≡ found → is_some found ≡ true → answer_at kept number goal ≡ answers number goal
    by None e some = absurd (false≢true some)
    by (Some a) e some = rw e (sym (extends number goal a e))

abbrev ends_of : Verdict → Ending
ends_of v = of v.state
  where
    of : State → Ending
    of (state.Ended e) = e
    of other = ending.Memory

-- an ending with installing stands for all goals
install_stands : (m : PlanModule) (own : List OwnBytes) (installs lacks : Bool) (g : ℕ) → reaches (ends_of (verdict_of_install installs lacks own)) g ≡ true
install_stands m own true true g = refl
install_stands m own true false g = refl
install_stands m own false lacks g = refl

-- an ending stands for all goals that were reached
reached_stands : (m : PlanModule) (end : GoalsEnd) (g : ℕ) → is_reached end g ≡ true → reaches (ends_of (verdict_of_goals m end)) g ≡ true
reached_stands m (all_answered own) g is = install_stands m own m.installs (lacks_artifact m own) g
reached_stands m (goal_failed i own) g is = is
reached_stands m (output_too_large i own) g is = is

module _ (plan : Plan) (start remote : Files) (kept : List Answered) (answers : ℕ → ℕ → GoalAnswer) (extends : Extends kept answers) where
  -- goals end the same where all that were reached are kept
  pub goals_extend : (number : ℕ) (m : PlanModule) → ((g : ℕ) → g < length m.goals → is_reached (run_goals m.budget (answer_at kept number) 0 m.goals []) g ≡ true → is_kept kept number g ≡ true)
      → run_goals m.budget (answer_at kept number) 0 m.goals [] ≡ run_goals m.budget (answers number) 0 m.goals []
  goals_extend number m paid = goals_reached m.budget (answer_at kept number) (answers number) (length m.goals) 0 m.goals [] (omega arith) (λ g low high reached. kept_same kept answers number g extends (paid g high reached))

  -- so is the verdict on a module that ended so
  pub ended_extends : (number : ℕ) (m : PlanModule) (e : Ending) (outputs : ℕ → List OwnBytes)
      → ((g : ℕ) → g < length m.goals → reaches e g ≡ true → is_kept kept number g ≡ true)
      → ◌≡◌ {A = Verdict} (record { state = state.Ended e; outputs = outputs number }) (verdict_of_fetch plan (supply_of start remote kept) number m outputs (missing_of plan (supply_of start remote kept) m.fetch))
      → ◌≡◌ {A = Verdict} (record { state = state.Ended e; outputs = outputs number }) (verdict_of_fetch plan (supply_by start remote answers) number m outputs (missing_of plan (supply_by start remote answers) m.fetch))
  ended_extends number m e outputs paid is = by (missing_of plan (supply_of start remote kept) m.fetch) is
    where
      goals : (end : GoalsEnd) → run_goals m.budget (answer_at kept number) 0 m.goals [] ≡ end → ◌≡◌ {A = Verdict} (record { state = state.Ended e; outputs = outputs number }) (verdict_of_goals m end) → end ≡ run_goals m.budget (answers number) 0 m.goals []
      goals end ends is = sym ends ∙ goals_extend number m (λ g low reached. paid g low (ap (λ v. reaches (ends_of v) g) is ∙ reached_stands m end g (ap (λ x. is_reached x g) (sym ends) ∙ reached)))

      large : (b : Bool) → ◌≡◌ {A = Verdict} (record { state = state.Ended e; outputs = outputs number }) (if b then record { state = state.Ended ending.ClasspathTooLarge; outputs = [] } else verdict_of_goals m (run_goals m.budget (answer_at kept number) 0 m.goals []))
          → ◌≡◌ {A = Verdict} (record { state = state.Ended e; outputs = outputs number }) (if b then record { state = state.Ended ending.ClasspathTooLarge; outputs = [] } else verdict_of_goals m (run_goals m.budget (answers number) 0 m.goals []))
      large true is = is
      large false is = is ∙ ap (verdict_of_goals m) (goals (run_goals m.budget (answer_at kept number) 0 m.goals []) refl is)

      by : (missing : Option ℕ) → ◌≡◌ {A = Verdict} (record { state = state.Ended e; outputs = outputs number }) (verdict_of_fetch plan (supply_of start remote kept) number m outputs missing)
          → ◌≡◌ {A = Verdict} (record { state = state.Ended e; outputs = outputs number }) (verdict_of_fetch plan (supply_by start remote answers) number m outputs missing)
      by (Some file) is = is
      by None is = large (nat_lt most_classpath (total_len plan (supply_of start remote kept) outputs m.entries)) is

-- the answers of a list extend it
pub extends_itself : (kept : List Answered) → Extends kept (answer_at kept)
extends_itself kept number goal a e = rw e refl
