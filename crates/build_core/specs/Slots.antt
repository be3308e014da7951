-- The outputs that a module keeps while its goals run. Own rules.
use Rattle.std.specs.Prelude.{ℕ, suc, ◌+◌, Bool, not, ◌==◌, nat_le, nat_lt, List, [], ◌∷◌, ◌++◌, length, take, find, filter, Option, option_map, if◌then◌else◌}
use Rattle.goal_types.specs.declared.goal.Slot.{Slot}
use Rattle.goal_types.specs.declared.goal.Slot.TheVariants.{Nowhere, Pom, Classes, TestClasses, Main, Tests, Sources, Javadoc}
use Rattle.goal_types.specs.declared.goal.OwnBytes.{OwnBytes}
use Rattle.goal_types.specs.declared.goal.GoalCall.{GoalCall}
use Rattle.goal_types.specs.declared.goal.GoalAnswer.{GoalAnswer}
use Rattle.goal_types.specs.declared.goal.GoalAnswer.TheVariants.{Done, Produced, Failed}

-- a slot's place in the order of slots
abbrev pub slot_number : Slot → ℕ
slot_number Nowhere = 0
slot_number Pom = 1
slot_number Classes = 2
slot_number TestClasses = 3
slot_number Main = 4
slot_number Tests = 5
slot_number Sources = 6
slot_number Javadoc = 7

-- an output of a lower slot, of a higher one, of another
abbrev pub is_below : Slot → OwnBytes → Bool
is_below slot o = nat_lt (slot_number o.slot) (slot_number slot)

abbrev pub is_above : Slot → OwnBytes → Bool
is_above slot o = nat_lt (slot_number slot) (slot_number o.slot)

abbrev pub is_other : Slot → OwnBytes → Bool
is_other slot o = not (slot_number o.slot == slot_number slot)

-- the outputs with these bytes in the slot, in place of any that were there; they stand in the order of the slots
abbrev pub put_slot : Slot → List ℕ → List OwnBytes → List OwnBytes
put_slot slot bytes own = filter (is_below slot) own ++ (record { slot = slot; bytes = bytes }) ∷ filter (is_above slot) own

-- the bytes in a slot
abbrev pub slot_bytes : List OwnBytes → Slot → Option (List ℕ)
slot_bytes own slot = option_map (λ o. o.bytes) (find (λ o. slot_number o.slot == slot_number slot) own)

-- how many bytes they are together
abbrev pub total_bytes : List OwnBytes → ℕ
total_bytes [] = 0
total_bytes (o ∷ own) = length o.bytes + total_bytes own

-- how a module's goals end: all answered, with the kept outputs; or at a goal that failed, or whose output is too much
pub data GoalsEnd : Type 0 where
  all_answered : List OwnBytes → GoalsEnd
  goal_failed : ℕ → List OwnBytes → GoalsEnd
  output_too_large : ℕ → List OwnBytes → GoalsEnd

-- the outputs that are kept then
abbrev pub kept_of : GoalsEnd → List OwnBytes
kept_of (all_answered own) = own
kept_of (goal_failed i own) = own
kept_of (output_too_large i own) = own

-- an output goes into its slot, unless that is none
abbrev pub one_output : (budget i : ℕ) → Slot → List ℕ → List OwnBytes → (List OwnBytes → GoalsEnd) → GoalsEnd
one_output budget i slot bytes own rest =
    if slot_number slot == 0 then rest own else (if nat_le (total_bytes (put_slot slot bytes own)) budget then rest (put_slot slot bytes own) else output_too_large i own)

-- goal i of the slot and its answer: where it neither failed nor made too much, the rest goes on with what is then kept
abbrev pub one_goal : (budget i : ℕ) → Slot → GoalAnswer → List OwnBytes → (List OwnBytes → GoalsEnd) → GoalsEnd
one_goal budget i slot Done own rest = rest own
one_goal budget i slot (Failed text) own rest = goal_failed i own
one_goal budget i slot (Produced bytes) own rest = one_output budget i slot bytes own rest

-- the goals from number i on, with their answers and the outputs so far
abbrev pub run_goals : (budget : ℕ) → (ℕ → GoalAnswer) → ℕ → List GoalCall → List OwnBytes → GoalsEnd
run_goals budget answers i [] own = all_answered own
run_goals budget answers i (call ∷ goals) own = one_goal budget i call.slot (answers i) own (λ kept. run_goals budget answers (suc i) goals kept)

-- the outputs that are kept before goal i: those of the goals before it, of which none failed or made too much
abbrev pub slots_before : (budget : ℕ) → (ℕ → GoalAnswer) → ℕ → List GoalCall → List OwnBytes
slots_before budget answers i goals = kept_of (run_goals budget answers 0 (take i goals) [])
