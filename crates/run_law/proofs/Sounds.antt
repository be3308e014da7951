-- A sound plan is as the law asks.
use Rattle.std.proofs.Common.{◌≡◌, ℕ, zero, suc, ◌<◌, ◌⊎◌, inl, inr, Bool, true, false, ◌&&◌, nat_eq, nat_lt, List, [], ◌∷◌, length, get_or, refl, arith, sym, ap, subst, ◌∙◌}
use Rattle.std.specs.List.{AllByRecursion, IsDistinct}
use Rattle.std.specs.Ordering.{eq_by_cmp, nat_cmp}
use Rattle.std.specs.Cmp.Lexicographic.{slice_cmp}
use Rattle.std.proofs.lemmas.Bool.{eq-eqb, false≢true}
use Rattle.build_core.specs.declared.plan.Plan.{Plan}
use Rattle.run_law.proofs.Invariants.{FilesDiffer, IsFetchFile, IsOwnFile}
use Rattle.build_core.specs.OneThread.{name_of}
use Rattle.scripts.specs.Outlines.{module_outline}
use Rattle.event_core.specs.SoundPlans.{IsSoundPlan, same_text}
use Rattle.run_law.proofs.Carried.{same_name}
use Rattle.run_law.proofs.JudgedRuns.{IsFitPlan}
use Rattle.run_law.proofs.Ended.{lt_is}
use Rattle.run_law.proofs.Ready.{all_listed}
use Rattle.run_law.proofs.Stored.{get_map}

-- a text is the same as itself
text_itself : (x : List ℕ) → same_text x x ≡ true
text_itself [] = refl
text_itself (n ∷ x) = by (nat_eq n n) (eq-eqb n n refl) (text_itself x)
  where
    by : (b : Bool) → b ≡ true → same_text x x ≡ true → (b && same_text x x) ≡ true
    by true e t = t
    by false e t = absurd (false≢true e)

-- what differs from all differs from each
all_apart : (x : List ℕ) (xs : List (List ℕ)) → AllByRecursion (λ y. same_text x y ≡ false) xs → (i : ℕ) → i < length xs → same_text x (get_or xs i []) ≡ false
all_apart x [] all i low = absurd (omega (arith, low))
all_apart x (y ∷ xs) all zero low = all.0
all_apart x (y ∷ xs) all (suc i) low = all_apart x xs all.1 i (omega (arith, low))

-- texts that differ do so at any two places
before_apart : (xs : List (List ℕ)) → IsDistinct same_text xs → (i j : ℕ) → i < j → j < length xs → same_text (get_or xs i []) (get_or xs j []) ≡ false
unfolding IsDistinct
before_apart [] is i j less low = absurd (omega (arith, low))
before_apart (x ∷ xs) is i zero less low = absurd (omega (arith, less))
before_apart (x ∷ xs) is zero (suc j) less low = all_apart x xs is.0 j (omega (arith, low))
before_apart (x ∷ xs) is (suc i) (suc j) less low = before_apart xs is.1 i j (omega (arith, less)) (omega (arith, low))

-- one number is below another, equal or above
three : (i j : ℕ) → (i < j) ⊎ ((i ≡ j) ⊎ (j < i))
three zero zero = inr (inl refl)
three zero (suc j) = inl (omega arith)
three (suc i) zero = inr (inr (omega arith))
three (suc i) (suc j) = by (three i j)
  where
    by : (i < j) ⊎ ((i ≡ j) ⊎ (j < i)) → (suc i < suc j) ⊎ ((suc i ≡ suc j) ⊎ (suc j < suc i))
    by (inl a) = inl (omega (arith, a))
    by (inr (inl b)) = inr (inl (ap suc b))
    by (inr (inr c)) = inr (inr (omega (arith, c)))

module _ (plan : Plan) (sound : IsSoundPlan plan) where
  -- the files of a sound plan have different names
  differ : FilesDiffer plan
  differ f g a b same = by (three f g)
    where
      names : name_of plan f ≡ name_of plan g
      names = same_name (name_of plan f) (name_of plan g) same

      by : (f < g) ⊎ ((f ≡ g) ⊎ (g < f)) → f ≡ g
      by (inl less) = absurd (false≢true (sym (before_apart plan.files sound.files f g less b) ∙ ap (λ x. same_text x (name_of plan g)) names ∙ text_itself (name_of plan g)))
      by (inr (inl e)) = e
      by (inr (inr less)) = absurd (false≢true (sym (before_apart plan.files sound.files g f less a) ∙ ap (λ x. same_text x (name_of plan f)) (sym names) ∙ text_itself (name_of plan f)))

  -- a fetched file is the plan's
  pub fetch_low : (f : ℕ) → IsFetchFile plan f → f < length plan.files
  fetch_low f x =
      let places = sound.places x.0 (module_outline x.1) (get_map module_outline plan.modules x.0 x.1 x.2) in
      let low = lt_is f (length plan.present) (all_listed (λ y. nat_lt y (length plan.present)) x.1.fetch places.fetch f x.3) in
      let sized = sound.present in omega (arith, low, sized)

  -- so is an own file
  own_low : (f : ℕ) → IsOwnFile plan f → f < length plan.files
  own_low f x =
      let places = sound.places x.0 (module_outline x.1) (get_map module_outline plan.modules x.0 x.1 x.2) in
      let low = lt_is f (length plan.present) (all_listed (λ y. nat_lt y (length plan.present)) (module_outline x.1).own places.own f x.3) in
      let sized = sound.present in omega (arith, low, sized)

  -- and no file is both
  own_apart : (f : ℕ) → IsFetchFile plan f → IsOwnFile plan f → ⊥
  own_apart f x y = false≢true (sym (sound.not_fetched f y.0 x.0 y.1 x.1 y.2 x.2 y.3) ∙ x.3)

  -- so a sound plan is as the law asks
  pub sound_fit : IsFitPlan plan
  sound_fit = record {
    apart = λ f g x y. apart f g x y (eq_by_cmp (slice_cmp nat_cmp) (name_of plan f) (name_of plan g)) refl;
    differ = differ;
    own = own_apart;
    sized = sound.present;
    low = λ number u m at l. lt_is u number (all_listed (λ y. nat_lt y number) m.upstream (sound.places number (module_outline m) (get_map module_outline plan.modules number m at)).upstream u l);
    backed = λ number m at. (sound.modules number m at).entries;
  }
    where
      apart : (f g : ℕ) → IsFetchFile plan f → IsOwnFile plan g → (b : Bool) → eq_by_cmp (slice_cmp nat_cmp) (name_of plan f) (name_of plan g) ≡ b → b ≡ false
      apart f g x y false e = refl
      apart f g x y true e = absurd (own_apart f x (subst (IsOwnFile plan) (sym (differ f g (fetch_low f x) (own_low g y) e)) y))
