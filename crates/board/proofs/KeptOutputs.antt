-- Which slots the kept outputs have.
use Rattle.std.proofs.Common.{◌≡◌, ℕ, zero, suc, ◌<◌, length, get_or, Bool, true, false, not, ◌==◌, nat_le, List, [], ◌∷◌, ◌++◌, filter, cond, refl, ap, subst, arith}
use Rattle.std.specs.List.{list_all}
use Rattle.goal_types.specs.declared.goal.Slot.{Slot}
use Rattle.goal_types.specs.declared.goal.Slot.TheVariants.{Nowhere, Pom, Classes, TestClasses, Main, Tests, Sources, Javadoc}
use Rattle.goal_types.specs.declared.goal.OwnBytes.{OwnBytes}
use Rattle.goal_types.specs.declared.goal.GoalAnswer.{GoalAnswer}
use Rattle.goal_types.specs.declared.goal.GoalAnswer.TheVariants.{Done, Produced, Failed}
use Rattle.goal_types.specs.Goals.{is_kept, HasOwnSlots}
use Rattle.build_core.specs.Slots.{slot_number, is_below, is_above, put_slot, total_bytes, GoalsEnd, all_answered, goal_failed, output_too_large, one_goal}

module _ {A : Type 0} (p : A → Bool) where
  first_of : (x : A) (xs : List A) → list_all p (x ∷ xs) ≡ true → p x ≡ true
  first_of x xs e = grind (arith, e)

  rest_of : (x : A) (xs : List A) → list_all p (x ∷ xs) ≡ true → list_all p xs ≡ true
  rest_of x xs e = grind (arith, e)

  both : (x : A) (xs : List A) → p x ≡ true → list_all p xs ≡ true → list_all p (x ∷ xs) ≡ true
  both x xs a b = grind (arith, a, b)

  all_cond : (b : Bool) (x : A) (xs : List A) → p x ≡ true → list_all p xs ≡ true → list_all p (cond b (x ∷ xs) xs) ≡ true
  all_cond true x xs a h = both x xs a h
  all_cond false x xs a h = h

  all_filter : (q : A → Bool) (xs : List A) → list_all p xs ≡ true → list_all p (filter q xs) ≡ true
  all_filter q [] h = refl
  all_filter q (x ∷ xs) h = all_cond (q x) x (filter q xs) (first_of x xs h) (all_filter q xs (rest_of x xs h))

  all_append : (xs ys : List A) → list_all p xs ≡ true → list_all p ys ≡ true → list_all p (xs ++ ys) ≡ true
  all_append [] ys h k = k
  all_append (x ∷ xs) ys h k = both x (xs ++ ys) (first_of x xs h) (all_append xs ys (rest_of x xs h) k)

  pub all_at : (xs : List A) (i : ℕ) (d : A) → i < length xs → list_all p xs ≡ true → p (get_or xs i d) ≡ true
  all_at [] i d lt h = absurd (omega (arith, lt))
  all_at (x ∷ xs) zero d lt h = first_of x xs h
  all_at (x ∷ xs) (suc i) d lt h = all_at xs i d (omega (arith, lt)) (rest_of x xs h)

is_kept_slot : (slot : Slot) → (slot_number slot == 0) ≡ false → not (slot_number slot == 1) ≡ true → is_kept slot ≡ true
is_kept_slot Nowhere a b = cc
is_kept_slot Pom a b = cc
is_kept_slot Classes a b = refl
is_kept_slot TestClasses a b = refl
is_kept_slot Main a b = refl
is_kept_slot Tests a b = refl
is_kept_slot Sources a b = refl
is_kept_slot Javadoc a b = refl

put_kept : (slot : Slot) (bytes : List ℕ) (own : List OwnBytes) → is_kept slot ≡ true → HasOwnSlots own → HasOwnSlots (put_slot slot bytes own)
put_kept slot bytes own k h =
    let p = λ (o : OwnBytes). is_kept o.slot in
    all_append p (filter (is_below slot) own) _ (all_filter p (is_below slot) own h) (both p (record { slot = slot; bytes = bytes }) (filter (is_above slot) own) k (all_filter p (is_above slot) own h))

abbrev answered_with : GoalsEnd → List OwnBytes
answered_with (all_answered own) = own
answered_with (goal_failed i own) = own
answered_with (output_too_large i own) = own

two_ways : (b c : Bool) (i : ℕ) (own put new : List OwnBytes) → HasOwnSlots own → (b ≡ false → HasOwnSlots put) → cond b (all_answered own) (cond c (all_answered put) (output_too_large i own)) ≡ all_answered new → HasOwnSlots new
two_ways true c i own put new h k e = subst HasOwnSlots (ap answered_with e) h
two_ways false true i own put new h k e = subst HasOwnSlots (ap answered_with e) (k refl)
two_ways false false i own put new h k e = subst HasOwnSlots (ap answered_with e) h

-- after an answer that doesn't stop the goals they still are kept ones
pub still_kept : (budget i : ℕ) (slot : Slot) (answer : GoalAnswer) (own new : List OwnBytes) → not (slot_number slot == 1) ≡ true → HasOwnSlots own
    → one_goal budget i slot answer own all_answered ≡ all_answered new → HasOwnSlots new
still_kept budget i slot Done own new p h e = subst HasOwnSlots (ap answered_with e) h
still_kept budget i slot (Failed text) own new p h e = subst HasOwnSlots (ap answered_with e) h
still_kept budget i slot (Produced bytes) own new p h e =
    two_ways (slot_number slot == 0) (nat_le (total_bytes (put_slot slot bytes own)) budget) i own (put_slot slot bytes own) new h (λ z. put_kept slot bytes own (is_kept_slot slot z p) h) e
