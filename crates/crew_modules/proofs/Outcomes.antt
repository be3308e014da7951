-- What an answer makes of a module's goals.
use Rattle.std.proofs.Common.{◌≡◌, ℕ, zero, suc, Bool, true, false, not, ◌==◌, nat_eq, nat_le, List, slice_get, Option, Some, None, unwrap_or, refl, arith, sym, ap, subst, ◌∙◌, if◌then◌else◌, [], ◌∷◌}
use Rattle.std.specs.List.{list_all}
use Rattle.std.proofs.lemmas.Bool.{false≢true}
use Rattle.std.proofs.lemmas.Bool.Decides.{nat_tests}
use Rattle.goal_types.specs.declared.goal.GoalAnswer.{GoalAnswer}
use Rattle.goal_types.specs.declared.goal.GoalAnswer.TheVariants as answer
use Rattle.goal_types.specs.declared.goal.OwnBytes.{OwnBytes}
use Rattle.goal_types.specs.declared.goal.Slot.{Slot}
use Rattle.build_core.specs.Slots.{GoalsEnd, all_answered, goal_failed, one_goal, output_too_large, put_slot, slot_number, total_bytes}
use Rattle.build_core.specs.declared.ending.Device.TheVariants as device
use Rattle.build_core.specs.declared.ending.Ending.{Ending}
use Rattle.build_core.specs.declared.ending.Ending.TheVariants as ending
use Rattle.event_core.specs.Worlds.{has_failed_at, is_too_large_at}
use Rattle.scripts.proofs.Climbs.{both}
use Rattle.event_core.proofs.Weights.{nothing_is}
use Rattle.board.specs.Builds.{answer_kept}
use Rattle.board.specs.declared.next.AnswerKept.{AnswerKept}
use Rattle.board.specs.declared.next.AnswerKept.TheVariants as kept
use Rattle.crew_turns.specs.Asked.{KeepsOwn, SettlesAnswer, with_slot}
use Rattle.crew_turns.specs.Endings.{stops_by}

-- a number is itself
pub itself : (n : ℕ) → nat_eq n n ≡ true
itself n = grind (arith, nat_tests)

-- how the goals stand, where the module goes on with these outputs, or where it ends so
abbrev pub EndsSo : (goal : ℕ) → GoalsEnd → (now : List OwnBytes) → Option Ending → Type 0
EndsSo goal end now None = end ≡ all_answered now
EndsSo goal end now (Some (ending.Goal i)) = (i ≡ goal) × (has_failed_at goal end ≡ true)
EndsSo goal end now (Some (ending.OutputTooLarge i)) = (i ≡ goal) × (is_too_large_at goal end ≡ true)
EndsSo goal end now (Some ending.Memory) = Unit {0}
EndsSo goal end now (Some other) = ⊥

-- ---- whether an output was kept

abbrev is_held : AnswerKept → Bool
is_held kept.Held = true
is_held kept.TooLarge = false

too_large : (b : Bool) → kept.TooLarge ≡ (if b then kept.TooLarge else kept.Held) → b ≡ true
too_large true is = refl
too_large false is = absurd (false≢true (ap is_held is))

not_too_large : (b : Bool) → kept.Held ≡ (if b then kept.TooLarge else kept.Held) → b ≡ true → ⊥
not_too_large true is so = false≢true (sym (ap is_held is))
not_too_large false is so = false≢true so

-- ---- what an answer makes of them

module _ (budget goal : ℕ) (slot : Slot) (own now : List OwnBytes) where
  -- an output that was kept is in its slot
  kept_so : (bytes : List ℕ) → kept.Held ≡ answer_kept goal (one_goal budget goal slot (answer.Produced bytes) own all_answered) → now ≡ with_slot slot bytes own
      → one_goal budget goal slot (answer.Produced bytes) own all_answered ≡ all_answered now
  kept_so bytes is so = by (slot_number slot == 0) (nat_le (total_bytes (put_slot slot bytes own)) budget) is so
    where
      by : (nowhere fits : Bool) → kept.Held ≡ answer_kept goal (if nowhere then all_answered own else (if fits then all_answered (put_slot slot bytes own) else output_too_large goal own))
          → now ≡ (if nowhere then own else put_slot slot bytes own)
          → (if nowhere then all_answered own else (if fits then all_answered (put_slot slot bytes own) else output_too_large goal own)) ≡ all_answered now
      by true fits is so = ap all_answered (sym so)
      by false true is so = ap all_answered (sym so)
      by false false is so = absurd (not_too_large (nat_eq goal goal) is (itself goal))

  pub settled : (k : AnswerKept) (a : GoalAnswer) (stop : Option Ending) → k ≡ answer_kept goal (one_goal budget goal slot a own all_answered) → SettlesAnswer goal slot k a own now stop
      → EndsSo goal (one_goal budget goal slot a own all_answered) now stop
  settled k answer.Done stop is so = subst (EndsSo goal (all_answered own) now) (sym so.0) (ap all_answered (sym so.1))
  settled k (answer.Failed text) stop is so = subst (EndsSo goal (goal_failed goal own) now) (sym so) (refl, itself goal)
  settled kept.TooLarge (answer.Produced bytes) stop is so =
      subst (EndsSo goal (one_goal budget goal slot (answer.Produced bytes) own all_answered) now) (sym so)
      (refl, too_large (is_too_large_at goal (one_goal budget goal slot (answer.Produced bytes) own all_answered)) is)
  settled kept.Held (answer.Produced bytes) None is so = kept_so bytes is so
  settled kept.Held (answer.Produced bytes) (Some e) is so = subst (λ x. EndsSo goal (one_goal budget goal slot (answer.Produced bytes) own all_answered) now (Some x)) (sym so) tt

-- none of it is a fault of the gate
pub no_fault : (goal : ℕ) (end : GoalsEnd) (now : List OwnBytes) (stop : Option Ending) → EndsSo goal end now stop → stops_by device.Gate stop ≡ false
no_fault goal end now None is = refl
no_fault goal end now (Some (ending.Goal i)) is = refl
no_fault goal end now (Some (ending.OutputTooLarge i)) is = refl
no_fault goal end now (Some ending.Memory) is = refl
no_fault goal end now (Some ending.Built) is = absurd is
no_fault goal end now (Some (ending.Missing file)) is = absurd is
no_fault goal end now (Some ending.ClasspathTooLarge) is = absurd is
no_fault goal end now (Some ending.NoArtifact) is = absurd is
no_fault goal end now (Some (ending.Fault d)) is = absurd is

-- ---- lists

-- what holds of all holds at each place
pub at_place : {A : Type 0} (p : A → Bool) (xs : List A) (i : ℕ) (x : A) → list_all p xs ≡ true → slice_get xs i ≡ Some x → p x ≡ true
at_place p [] i x all is = absurd (nothing_is x is)
at_place p (y ∷ xs) zero x all is = subst (λ z. p z ≡ true) (ap (λ o. unwrap_or o y) is) (both (p y) (list_all p xs) all).0
at_place p (y ∷ xs) (suc i) x all is = at_place p xs i x (both (p y) (list_all p xs) all).1 is
