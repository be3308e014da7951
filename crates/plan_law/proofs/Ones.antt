-- One list ascends and has these texts.
use Rattle.std.proofs.Common.{◌≡◌, inl, inr, ℕ, List, [], ◌∷◌, Contains, refl, sym, subst, ◌∙◌}
use Rattle.std.specs.Cmp.Lexicographic.{slice_cmp, nat_list_cmp_total}
use Rattle.std.specs.Ordering.{nat_cmp}
use Rattle.std.specs.declared.cmp.Ordering.TheVariants.{Less}
use Rattle.event_core.specs.SoundPlans.{TextsClimb}
use Rattle.module_plan.specs.Numbers.{ascending}
use Rattle.plan_law.proofs.Keys.{climb_tail, first_below, not_below}
use Rattle.plan_law.proofs.Members.{IsIn, in_from, in_to}
use Rattle.plan_law.proofs.Texts.{ascending_climb, from_ascending, in_ascending}

one_head : (x y : List ℕ) (xs ys : List (List ℕ)) → TextsClimb (x ∷ xs) → TextsClimb (y ∷ ys) → IsIn (y ∷ ys) x → IsIn (x ∷ xs) y → x ≡ y
one_head x y xs ys p q (inl e) b = sym e
one_head x y xs ys p q (inr a) (inl e) = e
one_head x y xs ys p q (inr a) (inr b) = absurd (not_below x (nat_list_cmp_total.trans x y x (first_below x xs y p b) (first_below y ys x q a)))

-- behind equal heads
behind : (x y z : List ℕ) (xs ys : List (List ℕ)) → TextsClimb (x ∷ xs) → x ≡ y → IsIn xs z → IsIn (y ∷ ys) z → IsIn ys z
behind x y z xs ys p e h (inl same) = absurd (not_below x (subst (λ w. slice_cmp nat_cmp x w ≡ Less) (sym (e ∙ same)) (first_below x xs z p h)))
behind x y z xs ys p e h (inr there) = there

pub same_lists : (xs ys : List (List ℕ)) → TextsClimb xs → TextsClimb ys → ((x : List ℕ) → IsIn xs x → IsIn ys x) → ((x : List ℕ) → IsIn ys x → IsIn xs x) → xs ≡ ys
same_lists [] [] p q f g = refl
same_lists [] (y ∷ ys) p q f g = absurd (g y (inl refl))
same_lists (x ∷ xs) [] p q f g = absurd (f x (inl refl))
same_lists (x ∷ xs) (y ∷ ys) p q f g =
    let heads = one_head x y xs ys p q (f x (inl refl)) (g y (inl refl)) in
    let tails = same_lists xs ys (climb_tail x xs p) (climb_tail y ys q)
    (λ z h. behind x y z xs ys p heads h (f z (inr h))) (λ z h. behind y x z ys xs q (sym heads) h (g z (inr h))) in
    λ i. heads i ∷ tails i

pub one_list : (texts list : List (List ℕ)) → TextsClimb list → ((x : List ℕ) → Contains list x → Contains texts x) → ((x : List ℕ) → Contains texts x → Contains list x) → ascending texts ≡ list
one_list texts list climbs from to =
    same_lists (ascending texts) list (ascending_climb texts) climbs
    (λ x h. in_from list x (to x (in_to texts x (from_ascending texts x h)))) (λ x h. in_ascending texts x (in_from texts x (from x (in_to list x h))))
