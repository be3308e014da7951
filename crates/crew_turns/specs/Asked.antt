-- What goals are asked, and what their answers make of a module. Introduction to the Build Lifecycle; project rule for the slots.
use Rattle.std.specs.Prelude.{◌≡◌, ℕ, ◌==◌, List, Option, None, Some, slice_get, if◌then◌else◌}
use Rattle.std.specs.Option.{option_map_or}
use Rattle.goal_types.specs.Goals.{HasOwnSlots}
use Rattle.goal_types.specs.declared.goal.GoalAnswer.{GoalAnswer}
use Rattle.goal_types.specs.declared.goal.GoalAnswer.TheVariants as answer
use Rattle.goal_types.specs.declared.goal.GoalCall.{GoalCall}
use Rattle.goal_types.specs.declared.goal.GoalRequest.{GoalRequest}
use Rattle.goal_types.specs.declared.goal.OwnBytes.{OwnBytes}
use Rattle.goal_types.specs.declared.goal.Slot.{Slot}
use Rattle.goal_types.specs.declared.goal.Slot.TheVariants.{Nowhere}
use Rattle.build_core.specs.Slots.{GoalsEnd, all_answered, kept_of, one_goal, put_slot, slot_number}
use Rattle.build_core.specs.declared.ending.Ending.{Ending}
use Rattle.build_core.specs.declared.ending.Ending.TheVariants as ending
use Rattle.board.specs.declared.next.AnswerKept.{AnswerKept}
use Rattle.board.specs.declared.next.AnswerKept.TheVariants as kept
use Rattle.crew_turns.specs.Asking.{IsRequestOf}
use Rattle.crew_turns.specs.Seen.{Told}
use Rattle.crew_turns.specs.Tasks.{ModuleTask, stood_by}

-- a request of the module, with the outputs that it keeps as the run stands; its call and its classpath may be another goal's
pub record IsRequest (t : ModuleTask) (request : GoalRequest) (pass : Told) : Type 0 where
  pub is : IsRequestOf t.unit (kept_of (stood_by t pass).goals) request
  pub slots : HasOwnSlots request.own

-- the outputs with this one in its slot, unless that is none; or memory ran out
abbrev pub with_slot : Slot → List ℕ → List OwnBytes → List OwnBytes
with_slot slot bytes own = if slot_number slot == 0 then own else put_slot slot bytes own

abbrev pub KeepsOwn : Slot → List ℕ → (before now : List OwnBytes) → Option Ending → Type 0
KeepsOwn slot bytes before now None = now ≡ with_slot slot bytes before
KeepsOwn slot bytes before now (Some e) = e ≡ ending.Memory

-- an answer that failed ends the module, and so does one whose output isn't kept; any other changes its outputs alone
abbrev pub SettlesAnswer : (goal : ℕ) → Slot → AnswerKept → GoalAnswer → (before now : List OwnBytes) → Option Ending → Type 0
SettlesAnswer goal slot k answer.Done before now stop = (stop ≡ None) × (now ≡ before)
SettlesAnswer goal slot k (answer.Failed text) before now stop = stop ≡ Some (ending.Goal goal)
SettlesAnswer goal slot kept.TooLarge (answer.Produced bytes) before now stop = stop ≡ Some (ending.OutputTooLarge goal)
SettlesAnswer goal slot kept.Held (answer.Produced bytes) before now stop = KeepsOwn slot bytes before now stop

-- ---- as the run stands

abbrev pub slot_at : ModuleTask → (goal : ℕ) → Slot
slot_at t goal = option_map_or (λ (call : GoalCall). call.slot) (slice_get t.unit.goals goal) Nowhere

-- how the goals of a module stand, all good so far, with an answer to the next one
abbrev pub goals_with : ModuleTask → Told → (goal : ℕ) → GoalAnswer → GoalsEnd
goals_with t pass goal answer = one_goal t.unit.budget goal (slot_at t goal) answer (kept_of (stood_by t pass).goals) all_answered
