-- The goals of a module up to one of them.
use Rattle.std.proofs.Common.{◌≡◌, ℕ, zero, suc, ◌+◌, ◌<◌, ◌≤◌, Bool, true, false, nat_eq, nat_le, List, [], ◌∷◌, refl, arith, sym, ap, subst, ◌∙◌, if◌then◌else◌}
use Rattle.std.specs.Prelude.{take}
use Rattle.std.proofs.lemmas.Bool.{false≢true, le-leb}
use Rattle.goal_types.specs.declared.goal.GoalAnswer.{GoalAnswer}
use Rattle.goal_types.specs.declared.goal.GoalAnswer.TheVariants.{Done, Failed, Produced}
use Rattle.goal_types.specs.declared.goal.GoalCall.{GoalCall}
use Rattle.goal_types.specs.declared.goal.OwnBytes.{OwnBytes}
use Rattle.goal_types.specs.declared.goal.Slot.{Slot}
use Rattle.build_core.specs.Slots.{GoalsEnd, all_answered, goal_failed, kept_of, one_goal, output_too_large, put_slot, run_goals, slot_number, total_bytes}
use Rattle.event_core.specs.Worlds.{is_good}
use Rattle.run_law.proofs.Reached.{is_reached}

-- goals that are good keep what they keep
pub good_all : (end : GoalsEnd) → is_good end ≡ true → end ≡ all_answered (kept_of end)
good_all (all_answered own) is = refl
good_all (goal_failed i own) is = absurd (false≢true is)
good_all (output_too_large i own) is = absurd (false≢true is)

-- a goal that is good goes on with the outputs that it leaves
through : (P : GoalsEnd → Type 0) (budget i : ℕ) (s : Slot) (a : GoalAnswer) (before own : List OwnBytes) (rest later : List OwnBytes → GoalsEnd)
    → one_goal budget i s a before rest ≡ all_answered own
    → ((kept : List OwnBytes) → rest kept ≡ all_answered own → P (later kept)) → P (one_goal budget i s a before later)
through P budget i s Done before own rest later is on = on before is
through P budget i s (Failed text) before own rest later is on = absurd (false≢true (ap is_good is))
through P budget i s (Produced bytes) before own rest later is on = by (nat_eq (slot_number s) 0) (nat_le (total_bytes (put_slot s bytes before)) budget) is
  where
    by : (nowhere fits : Bool)
        → (if nowhere then rest before else (if fits then rest (put_slot s bytes before) else output_too_large i before)) ≡ all_answered own
        → P (if nowhere then later before else (if fits then later (put_slot s bytes before) else output_too_large i before))
    by true fits e = on before e
    by false true e = on (put_slot s bytes before) e
    by false false e = absurd (false≢true (ap is_good e))

-- goals that are all done are good, and keep nothing new
rest_done : (budget : ℕ) (answers : ℕ → GoalAnswer) (i : ℕ) (goals : List GoalCall) (own : List OwnBytes)
    → ((k : ℕ) → i ≤ k → answers k ≡ Done) → run_goals budget answers i goals own ≡ all_answered own
rest_done budget answers i [] own is = refl
rest_done budget answers i (call ∷ goals) own is =
    ap (λ a. one_goal budget i call.slot a own (λ kept. run_goals budget answers (suc i) goals kept)) (is i (omega arith))
    ∙ rest_done budget answers (suc i) goals own (λ k low. is k (omega (arith, low)))

-- where all goals are good, and those from one on are done, the goals before it keep the same, by any answers that are the same there
pub goals_front : (budget : ℕ) (one two : ℕ → GoalAnswer) (n i : ℕ) (goals : List GoalCall) (before own : List OwnBytes)
    → ((k : ℕ) → k < i + n → two k ≡ one k) → ((k : ℕ) → i + n ≤ k → one k ≡ Done)
    → run_goals budget one i goals before ≡ all_answered own
    → run_goals budget two i (take n goals) before ≡ all_answered own
goals_front budget one two zero i goals before own same none good = sym (rest_done budget one i goals before (λ k low. none k (omega (arith, low)))) ∙ good
goals_front budget one two (suc n) i [] before own same none good = good
goals_front budget one two (suc n) i (c ∷ goals) before own same none good =
    ap (λ a. one_goal budget i c.slot a before (λ kept. run_goals budget two (suc i) (take n goals) kept)) (same i (omega arith))
    ∙ through (λ e. e ≡ all_answered own) budget i c.slot (one i) before own (λ kept. run_goals budget one (suc i) goals kept) (λ kept. run_goals budget two (suc i) (take n goals) kept) good
    (λ kept fine. goals_front budget one two n (suc i) goals kept own (λ k low. same k (omega (arith, low))) (λ k low. none k (omega (arith, low))) fine)

-- goals that are run from one on have reached all up to it
reached_from : (budget : ℕ) (answers : ℕ → GoalAnswer) (i : ℕ) (goals : List GoalCall) (own : List OwnBytes) (g : ℕ)
    → g ≤ i → is_reached (run_goals budget answers i goals own) g ≡ true
reached_from budget answers i [] own g low = refl
reached_from budget answers i (call ∷ goals) own g low = by (λ kept. reached_from budget answers (suc i) goals kept g (omega (arith, low))) (answers i)
  where
    low_is : nat_le g i ≡ true
    low_is = le-leb g i low

    put : ((kept : List OwnBytes) → is_reached (run_goals budget answers (suc i) goals kept) g ≡ true)
        → (zero fits : Bool) (bytes : List ℕ)
        → is_reached (if zero then run_goals budget answers (suc i) goals own else (if fits then run_goals budget answers (suc i) goals (put_slot call.slot bytes own) else output_too_large i own)) g ≡ true
    put again true fits bytes = again own
    put again false true bytes = again (put_slot call.slot bytes own)
    put again false false bytes = low_is

    by : ((kept : List OwnBytes) → is_reached (run_goals budget answers (suc i) goals kept) g ≡ true) → (a : GoalAnswer)
        → is_reached (one_goal budget i call.slot a own (λ kept. run_goals budget answers (suc i) goals kept)) g ≡ true
    by again Done = again own
    by again (Failed text) = low_is
    by again (Produced bytes) = put again (nat_eq (slot_number call.slot) 0) (nat_le (total_bytes (put_slot call.slot bytes own)) budget) bytes

-- where the goals before one are good it is reached
pub goals_reach : (budget : ℕ) (answers : ℕ → GoalAnswer) (n i : ℕ) (goals : List GoalCall) (before own : List OwnBytes)
    → run_goals budget answers i (take n goals) before ≡ all_answered own
    → is_reached (run_goals budget answers i goals before) (i + n) ≡ true
goals_reach budget answers zero i goals before own good = reached_from budget answers i goals before (i + 0) (omega arith)
goals_reach budget answers (suc n) i [] before own good = refl
goals_reach budget answers (suc n) i (c ∷ goals) before own good =
    let same : suc i + n ≡ i + suc n = omega arith in
    subst (λ k. is_reached (run_goals budget answers i (c ∷ goals) before) k ≡ true) same
    (through (λ e. is_reached e (suc i + n) ≡ true) budget i c.slot (answers i) before own (λ kept. run_goals budget answers (suc i) (take n goals) kept) (λ kept. run_goals budget answers (suc i) goals kept) good
    (λ kept fine. goals_reach budget answers n (suc i) goals kept own fine))
