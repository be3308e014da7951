-- What a module's goals come to by their answers, without a list of outputs. Project rule.
use Rattle.std.specs.Prelude.{ℕ, suc, ◌+◌, ◌==◌, nat_le, List, [], ◌∷◌, length, Option, Some, None, if◌then◌else◌}
use Rattle.goal_types.specs.declared.goal.GoalAnswer.{GoalAnswer}
use Rattle.goal_types.specs.declared.goal.GoalAnswer.TheVariants.{Done, Produced, Failed}
use Rattle.goal_types.specs.declared.goal.GoalCall.{GoalCall}
use Rattle.goal_types.specs.declared.goal.Slot.{Slot}
use Rattle.goal_types.specs.declared.goal.Slot.TheVariants.{Nowhere, Pom, Classes, TestClasses, Main, Tests, Sources, Javadoc}
use Rattle.build_core.specs.declared.event.Answered.{Answered}
use Rattle.build_core.specs.declared.plan.PlanModule.{PlanModule}
use Rattle.build_core.specs.OneThread.{answer_at}
use Rattle.build_core.specs.Slots.{GoalsEnd, all_answered, goal_failed, output_too_large, run_goals, slot_number}
use Rattle.board.specs.declared.sizes.Sizes.{Sizes}
use Rattle.board.specs.declared.walk.GoalsStand.{GoalsStand}
use Rattle.board.specs.declared.walk.GoalsStand.TheVariants as stand
use Rattle.board.specs.declared.walk.Step.{Step}
use Rattle.board.specs.declared.walk.Step.TheVariants.{Leaves, Holds, Fails, Exceeds}

-- how a module's goals end by the answers that are kept: one that isn't answered counts as done
abbrev pub goals_of : List Answered → ℕ → PlanModule → GoalsEnd
goals_of kept number m = run_goals m.budget (answer_at kept number) 0 m.goals []

-- how they stand
abbrev pub stand_of : GoalsEnd → GoalsStand
stand_of (all_answered own) = stand.Good
stand_of (goal_failed i own) = stand.Failed i
stand_of (output_too_large i own) = stand.TooLarge i

-- ---- the program's own words: the walk over a module's goals

abbrev pub produced : GoalAnswer → Option (List ℕ)
produced Done = None
produced (Produced bytes) = Some bytes
produced (Failed text) = None

abbrev pub no_sizes : Sizes
no_sizes = record { pom = 0; classes = 0; test_classes = 0; main = 0; tests = 0; sources = 0; javadoc = 0 }

-- with an output of so many bytes in the slot
abbrev pub sizes_with : Sizes → Slot → ℕ → Sizes
sizes_with sizes Nowhere len = sizes
sizes_with sizes Pom len = record sizes { pom = len }
sizes_with sizes Classes len = record sizes { classes = len }
sizes_with sizes TestClasses len = record sizes { test_classes = len }
sizes_with sizes Main len = record sizes { main = len }
sizes_with sizes Tests len = record sizes { tests = len }
sizes_with sizes Sources len = record sizes { sources = len }
sizes_with sizes Javadoc len = record sizes { javadoc = len }

abbrev pub total_of : Sizes → ℕ
total_of sizes = sizes.pom + sizes.classes + sizes.test_classes + sizes.main + sizes.tests + sizes.sources + sizes.javadoc

-- what an output comes to, and an answer
abbrev pub output_step : ℕ → Slot → Sizes → (budget : ℕ) → Step
output_step len slot sizes budget = if slot_number slot == 0 then Leaves else (if nat_le (total_of (sizes_with sizes slot len)) budget then Holds (sizes_with sizes slot len) else Exceeds)

abbrev pub step_of : GoalAnswer → Slot → Sizes → (budget : ℕ) → Step
step_of Done slot sizes budget = Leaves
step_of (Failed text) slot sizes budget = Fails
step_of (Produced bytes) slot sizes budget = output_step (length bytes) slot sizes budget

-- the last goal whose output is in the wanted slot
abbrev pub held_by : Slot → (wanted : Slot) → ℕ → Option ℕ → Option ℕ
held_by slot wanted goal found = if slot_number slot == slot_number wanted then Some goal else found

abbrev pub walked : Step → Slot → (wanted : Slot) → ℕ → Sizes → Option ℕ → (Sizes → Option ℕ → GoalsStand × Option ℕ) → GoalsStand × Option ℕ
walked Leaves slot wanted i sizes found rest = rest sizes found
walked (Holds more) slot wanted i sizes found rest = rest more (held_by slot wanted i found)
walked Fails slot wanted i sizes found rest = (stand.Failed i, found)
walked Exceeds slot wanted i sizes found rest = (stand.TooLarge i, found)

abbrev pub walk_of : (budget : ℕ) → (ℕ → GoalAnswer) → (wanted : Slot) → ℕ → List GoalCall → Sizes → Option ℕ → GoalsStand × Option ℕ
walk_of budget answers wanted i [] sizes found = (stand.Good, found)
walk_of budget answers wanted i (call ∷ goals) sizes found =
    walked (step_of (answers i) call.slot sizes budget) call.slot wanted i sizes found (λ more held. walk_of budget answers wanted (suc i) goals more held)
