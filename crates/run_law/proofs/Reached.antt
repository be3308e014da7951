-- Goals run the same by any answers that agree where they are reached.
use Rattle.std.proofs.Common.{◌≡◌, ℕ, suc, ◌+◌, ◌<◌, ◌≤◌, Bool, true, false, nat_le, nat_eq, List, [], ◌∷◌, length, refl, arith, ap, ◌∙◌, if◌then◌else◌}
use Rattle.std.proofs.lemmas.Bool.{le-leb}
use Rattle.goal_types.specs.declared.goal.GoalAnswer.{GoalAnswer}
use Rattle.goal_types.specs.declared.goal.GoalAnswer.TheVariants.{Done, Failed, Produced}
use Rattle.goal_types.specs.declared.goal.GoalCall.{GoalCall}
use Rattle.goal_types.specs.declared.goal.OwnBytes.{OwnBytes}
use Rattle.build_core.specs.Slots.{GoalsEnd, all_answered, goal_failed, one_goal, output_too_large, put_slot, run_goals, slot_number, total_bytes}

-- a goal that the run didn't reach: behind the end
abbrev pub is_reached : GoalsEnd → ℕ → Bool
is_reached (all_answered own) g = true
is_reached (goal_failed i own) g = nat_le g i
is_reached (output_too_large i own) g = nat_le g i

module _ (budget : ℕ) (one two : ℕ → GoalAnswer) where
  -- where they agree at all goals that the first reaches, both end the same
  pub goals_all : (i : ℕ) (goals : List GoalCall) (own : List OwnBytes) → ((g : ℕ) → i ≤ g → g < i + length goals → one g ≡ two g) → run_goals budget one i goals own ≡ run_goals budget two i goals own
  goals_all i [] own same = refl
  goals_all i (call ∷ goals) own same =
      ap (λ a. one_goal budget i call.slot a own (λ kept. run_goals budget one (suc i) goals kept)) (same i (omega arith) (omega arith))
      ∙ ap (λ (rest : List OwnBytes → GoalsEnd). one_goal budget i call.slot (two i) own rest) (λ j kept. goals_all (suc i) goals kept (λ g low high. same g (omega (arith, low)) (omega (arith, high))) j)

  abbrev pub Agree : ℕ → ℕ → GoalsEnd → Type 0
  Agree n i end = (g : ℕ) → i ≤ g → g < n → is_reached end g ≡ true → one g ≡ two g

  -- a goal is reached where the rest is run from it
  reached_first : (i : ℕ) (goals : List GoalCall) (own : List OwnBytes) (g : ℕ) → g < i → is_reached (run_goals budget one i goals own) g ≡ true
  reached_first i [] own g low = refl
  reached_first i (call ∷ goals) own g low = by (λ kept. reached_first (suc i) goals kept g (omega (arith, low))) (one i)
    where
      low_is : nat_le g i ≡ true
      low_is = le-leb g i (omega (arith, low))

      put : ((kept : List OwnBytes) → is_reached (run_goals budget one (suc i) goals kept) g ≡ true) → (zero fits : Bool) (bytes : List ℕ) → is_reached (if zero then run_goals budget one (suc i) goals own else (if fits then run_goals budget one (suc i) goals (put_slot call.slot bytes own) else output_too_large i own)) g ≡ true
      put again true fits bytes = again own
      put again false true bytes = again (put_slot call.slot bytes own)
      put again false false bytes = low_is

      by : ((kept : List OwnBytes) → is_reached (run_goals budget one (suc i) goals kept) g ≡ true) → (a : GoalAnswer) → is_reached (one_goal budget i call.slot a own (λ kept. run_goals budget one (suc i) goals kept)) g ≡ true
      by again Done = again own
      by again (Failed text) = low_is
      by again (Produced bytes) = put again (nat_eq (slot_number call.slot) 0) (nat_le (total_bytes (put_slot call.slot bytes own)) budget) bytes

  -- both end the same where they agree on what the first reaches
  pub goals_reached : (n i : ℕ) (goals : List GoalCall) (own : List OwnBytes) → i + length goals ≤ n → Agree n i (run_goals budget one i goals own) → run_goals budget one i goals own ≡ run_goals budget two i goals own
  goals_reached n i [] own le same = refl
  goals_reached n i (call ∷ goals) own le same = turn (λ kept agree. goals_reached n (suc i) goals kept (omega (arith, le)) agree) (one i) same ∙ ap (λ a. one_goal budget i call.slot a own (λ kept. run_goals budget two (suc i) goals kept)) (same i (omega arith) (omega (arith, le)) (at_i (one i)))
    where
      self : nat_le i i ≡ true
      self = le-leb i i (omega arith)

      put_i : (zero fits : Bool) (bytes : List ℕ) → is_reached (if zero then run_goals budget one (suc i) goals own else (if fits then run_goals budget one (suc i) goals (put_slot call.slot bytes own) else output_too_large i own)) i ≡ true
      put_i true fits bytes = reached_first (suc i) goals own i (omega arith)
      put_i false true bytes = reached_first (suc i) goals (put_slot call.slot bytes own) i (omega arith)
      put_i false false bytes = self

      at_i : (a : GoalAnswer) → is_reached (one_goal budget i call.slot a own (λ kept. run_goals budget one (suc i) goals kept)) i ≡ true
      at_i Done = reached_first (suc i) goals own i (omega arith)
      at_i (Failed text) = self
      at_i (Produced bytes) = put_i (nat_eq (slot_number call.slot) 0) (nat_le (total_bytes (put_slot call.slot bytes own)) budget) bytes

      rest : ((kept : List OwnBytes) → Agree n (suc i) (run_goals budget one (suc i) goals kept) → run_goals budget one (suc i) goals kept ≡ run_goals budget two (suc i) goals kept) → (kept : List OwnBytes) → Agree n i (run_goals budget one (suc i) goals kept) → run_goals budget one (suc i) goals kept ≡ run_goals budget two (suc i) goals kept
      rest again kept agree = again kept (λ g low high is. agree g (omega (arith, low)) high is)

      put : ((kept : List OwnBytes) → Agree n (suc i) (run_goals budget one (suc i) goals kept) → run_goals budget one (suc i) goals kept ≡ run_goals budget two (suc i) goals kept) → (bytes : List ℕ) (zero fits : Bool) → Agree n i (if zero then run_goals budget one (suc i) goals own else (if fits then run_goals budget one (suc i) goals (put_slot call.slot bytes own) else output_too_large i own))
          → ◌≡◌ {A = GoalsEnd} (if zero then run_goals budget one (suc i) goals own else (if fits then run_goals budget one (suc i) goals (put_slot call.slot bytes own) else output_too_large i own))
          (if zero then run_goals budget two (suc i) goals own else (if fits then run_goals budget two (suc i) goals (put_slot call.slot bytes own) else output_too_large i own))
      put again bytes true fits agree = rest again own agree
      put again bytes false true agree = rest again (put_slot call.slot bytes own) agree
      put again bytes false false agree = refl

      turn : ((kept : List OwnBytes) → Agree n (suc i) (run_goals budget one (suc i) goals kept) → run_goals budget one (suc i) goals kept ≡ run_goals budget two (suc i) goals kept) → (a : GoalAnswer) → Agree n i (one_goal budget i call.slot a own (λ kept. run_goals budget one (suc i) goals kept)) → one_goal budget i call.slot a own (λ kept. run_goals budget one (suc i) goals kept) ≡ one_goal budget i call.slot a own (λ kept. run_goals budget two (suc i) goals kept)
      turn again Done agree = rest again own agree
      turn again (Failed text) agree = refl
      turn again (Produced bytes) agree = put again bytes (nat_eq (slot_number call.slot) 0) (nat_le (total_bytes (put_slot call.slot bytes own)) budget) agree
