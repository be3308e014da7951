-- What goals are asked in the sequential build, and answers that are those of gates that tell one function. Guide to Working with
-- Multiple Modules, for the sequential build; project rule for the rest.
use Rattle.std.specs.Prelude.{◌≡◌, ℕ, ◌<◌, Bool, true, fold, slice_get, take, Some}
use Rattle.goal_types.specs.declared.goal.GoalAnswer.{GoalAnswer}
use Rattle.goal_types.specs.declared.goal.GoalCall.{GoalCall}
use Rattle.goal_types.specs.declared.goal.GoalRequest.{GoalRequest}
use Rattle.build_core.specs.declared.ending.Ending.{Ending}
use Rattle.build_core.specs.declared.ending.State.TheVariants.{Ended}
use Rattle.build_core.specs.declared.plan.Plan.{Plan}
use Rattle.build_core.specs.declared.plan.PlanModule.{PlanModule}
use Rattle.build_core.specs.OneThread.{Progress, Supply, beginning, fetched, first_unbuilt, next_module, one_thread, request}
use Rattle.build_core.specs.Slots.{slots_before}
use Rattle.run_law.specs.Closed.{state_at}
use Rattle.run_law.specs.Given.{Given, reaches}

-- whether an answer is the gate's to a request, as a hand tells it of its gate
abbrev pub Test : Type 0
Test = GoalRequest → GoalAnswer → Bool

-- it tells a function: to each request at most one answer
abbrev pub IsFunction : Test → Type 0
IsFunction test = (request : GoalRequest) (a b : GoalAnswer) → test request a ≡ true → test request b ≡ true → a ≡ b

-- the gate of each worker tells it
abbrev pub AllGates : Given → Test → Type 0
AllGates g test = (w : ℕ) → w < g.plan.workers → (g.hands w).gate ≡ Some test

-- how far the sequential build is when a module comes next
abbrev pub before : Plan → Supply → ℕ → Progress
before plan supply number = fold (next_module first_unbuilt plan supply) (beginning supply) (take number plan.modules)

-- what a goal of the module is asked there: over the files after its fetch list, with the outputs of the modules before it and those
-- of its own goals so far
abbrev pub request_in : Plan → Supply → (number : ℕ) → PlanModule → (goal : ℕ) → GoalCall → GoalRequest
request_in plan supply number m goal call =
    let so_far = before plan supply number in
    request plan (fetched plan supply.remote m.fetch so_far.files).files so_far.outputs m call
    (slots_before m.budget (supply.answers number) goal m.goals)

-- each goal that the sequential build comes to has the function's answer to what it is asked
abbrev pub AreGates : Plan → Supply → Test → Type 0
AreGates plan supply test = (number goal : ℕ) (m : PlanModule) (call : GoalCall) (e : Ending)
    → slice_get plan.modules number ≡ Some m → slice_get m.goals goal ≡ Some call
    → state_at (one_thread plan supply) number ≡ Ended e → reaches e goal ≡ true
    → test (request_in plan supply number m goal call) (supply.answers number goal) ≡ true
