-- The place at which an item stands first.
use Rattle.std.proofs.Common.{◌≡◌, ◌⊎◌, inl, inr, ◌<◌, ◌+◌, ℕ, zero, suc, Bool, true, false, not, List, [], ◌∷◌, Some, is_some, unwrap_or, length, slice_get, refl, sym, ap, subst, ◌∙◌, arith, if◌then◌else◌, Decides}
use Rattle.std.specs.List.{position_or_len}
use Rattle.std.proofs.lemmas.Bool.{false≢true}
use Rattle.plan_law.proofs.Members.{Apart, IsIn, at_in}

same_some : {A : Type 0} (x y : A) → Some x ≡ Some y → x ≡ y
same_some x y e = ap (λ o. unwrap_or o x) e

one_more : (n : ℕ) → 1 + n ≡ suc n
one_more n = omega arith

module _ {A : Type 0} (eq : A → A → Bool) (decides : (a b : A) → Decides (eq a b) (a ≡ b)) where
  -- where it is at the front, and where it isn't
  pub place_here : (x y : A) (xs : List A) → y ≡ x → position_or_len (eq x) (y ∷ xs) ≡ 0
  place_here x y xs e = ap (λ b. if not b then 1 + position_or_len (eq x) xs else 0) ((decides x y).1 (sym e))

  pub place_later : (x y : A) (xs : List A) → (y ≡ x → ⊥) → position_or_len (eq x) (y ∷ xs) ≡ suc (position_or_len (eq x) xs)
  place_later x y xs other = by (eq x y) refl
    where
      by : (b : Bool) → eq x y ≡ b → (if not b then 1 + position_or_len (eq x) xs else 0) ≡ suc (position_or_len (eq x) xs)
      by true e = absurd (other (sym ((decides x y).0 e)))
      by false e = one_more (position_or_len (eq x) xs)

  -- it is at the front or isn't
  pub here_or_not : (x y : A) → (y ≡ x) ⊎ (y ≡ x → ⊥)
  here_or_not x y = by (eq x y) refl
    where
      by : (b : Bool) → eq x y ≡ b → (y ≡ x) ⊎ (y ≡ x → ⊥)
      by true e = inl (sym ((decides x y).0 e))
      by false e = inr (λ same. false≢true (sym e ∙ (decides x y).1 (sym same)))

  -- an item stands at its place
  pub place_at : (xs : List A) (x : A) → IsIn xs x → slice_get xs (position_or_len (eq x) xs) ≡ Some x
  place_at [] x there = absurd there
  place_at (y ∷ xs) x there = by (here_or_not x y) there (place_at xs x)
    where
      by : (y ≡ x) ⊎ (y ≡ x → ⊥) → IsIn (y ∷ xs) x → (IsIn xs x → slice_get xs (position_or_len (eq x) xs) ≡ Some x) → slice_get (y ∷ xs) (position_or_len (eq x) (y ∷ xs)) ≡ Some x
      by (inl e) h again = ap (slice_get (y ∷ xs)) (place_here x y xs e) ∙ ap Some e
      by (inr other) (inl e) again = absurd (other e)
      by (inr other) (inr h) again = ap (slice_get (y ∷ xs)) (place_later x y xs other) ∙ again h

  pub place_below : (xs : List A) (x : A) → IsIn xs x → position_or_len (eq x) xs < length xs
  place_below [] x there = absurd there
  place_below (y ∷ xs) x there = by (here_or_not x y) there (place_below xs x)
    where
      by : (y ≡ x) ⊎ (y ≡ x → ⊥) → IsIn (y ∷ xs) x → (IsIn xs x → position_or_len (eq x) xs < length xs) → position_or_len (eq x) (y ∷ xs) < suc (length xs)
      by (inl e) h again = subst (λ n. n < suc (length xs)) (sym (place_here x y xs e)) (omega arith)
      by (inr other) (inl e) again = absurd (other e)
      by (inr other) (inr h) again = let low = again h in subst (λ n. n < suc (length xs)) (sym (place_later x y xs other)) (omega (arith, low))

  -- two items at one place are one
  pub one_place : (xs : List A) (x y : A) → IsIn xs x → IsIn xs y → position_or_len (eq x) xs ≡ position_or_len (eq y) xs → x ≡ y
  one_place xs x y a b e = same_some x y (sym (place_at xs x a) ∙ ap (slice_get xs) e ∙ place_at xs y b)

  -- where no item stands twice, each is at its place
  pub its_place : (xs : List A) → Apart xs → (k : ℕ) (x : A) → slice_get xs k ≡ Some x → position_or_len (eq x) xs ≡ k
  its_place [] apart k x e = absurd (false≢true (ap is_some e))
  its_place (y ∷ xs) apart zero x e = place_here x y xs (same_some y x e)
  its_place (y ∷ xs) apart (suc k) x e = place_later x y xs (λ same. apart.0 (subst (λ z. IsIn xs z) (sym same) (at_in xs k x e))) ∙ ap suc (its_place xs apart.1 k x e)
