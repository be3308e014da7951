-- Lists that are the same place by place.
use Rattle.std.proofs.Common.{◌≡◌, ℕ, suc, List, [], ◌∷◌, get_or, length, map, filter_map, Option, None, Some, slice_get, refl, sym, ap, ◌∙◌, arith}

some_is : {A : Type 0} (a b : A) → Some a ≡ Some b → a ≡ b
some_is {A} a b e = ap of e
  where
    of : Option A → A
    of None = a
    of (Some x) = x

both : {A : Type 0} (x y : A) (xs ys : List A) → x ≡ y → xs ≡ ys → x ∷ xs ≡ y ∷ ys
both x y xs ys e es = ap (λ z. z ∷ xs) e ∙ ap (λ zs. y ∷ zs) es

one : {A B : Type 0} (g : A → Option B) (n : A) (y : B) (ns : List A) → g n ≡ Some y → filter_map g (n ∷ ns) ≡ y ∷ filter_map g ns
one g n y ns is = rw is refl

module _ {A B : Type 0} (f : A → B) where
  pub same_items : (xs : List A) (ys : List B) → length xs ≡ length ys → ((k : ℕ) (x : A) → slice_get xs k ≡ Some x → slice_get ys k ≡ Some (f x)) → map f xs ≡ ys
  same_items [] [] long at = refl
  same_items [] (y ∷ ys) long at = absurd (omega (arith, long))
  same_items (x ∷ xs) [] long at = absurd (omega (arith, long))
  same_items (x ∷ xs) (y ∷ ys) long at =
      both (f x) y (map f xs) ys (sym (some_is y (f x) (at 0 x refl))) (same_items xs ys (omega (arith, long)) (λ k z is. at (suc k) z is))

  -- so of the items of a list at some places
  pub picked_items : (items : List B) (xs : List A) (places : List ℕ) → length xs ≡ length places
      → ((k : ℕ) (x : A) → slice_get xs k ≡ Some x → slice_get items (get_or places k 0) ≡ Some (f x)) → map f xs ≡ filter_map (λ n. slice_get items n) places
  picked_items items [] [] long at = refl
  picked_items items [] (n ∷ places) long at = absurd (omega (arith, long))
  picked_items items (x ∷ xs) [] long at = absurd (omega (arith, long))
  picked_items items (x ∷ xs) (n ∷ places) long at =
      ap (λ zs. f x ∷ zs) (picked_items items xs places (omega (arith, long)) (λ k z is. at (suc k) z is))
      ∙ sym (one (λ n. slice_get items n) n (f x) places (at 0 x refl))
