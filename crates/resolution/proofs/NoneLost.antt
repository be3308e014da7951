-- No place is lost.
use Rattle.std.proofs.Common.{◌≡◌, ◌⊎◌, inl, inr, ℕ, zero, suc, ◌+◌, ◌<◌, ◌≤◌, Bool, true, false, ◌==◌, List, [], ◌∷◌, ◌++◌, Contains, flat_map, length, slice_get, Option, Some, None, refl, sym, ap, subst, ◌∙◌, arith, if◌then◌else◌}
use Rattle.std.proofs.lemmas.Bool.Decides.{nat_tests}
use Rattle.std.proofs.lemmas.List.Elements.{Contains-append_left, Contains-append_right}
use Rattle.resolution.specs.Preorder.{Ascends, below, below_from, preorder, stands_below, tree}
use Rattle.resolution.proofs.Trees.{IsIn, child_behind, is_child}

in_left : (xs ys : List ℕ) (y : ℕ) → IsIn xs y → IsIn (xs ++ ys) y
in_left [] ys y there = absurd there
in_left (x ∷ xs) ys y (inl same) = inl same
in_left (x ∷ xs) ys y (inr there) = inr (in_left xs ys y there)

in_right : (xs ys : List ℕ) (y : ℕ) → IsIn ys y → IsIn (xs ++ ys) y
in_right [] ys y there = there
in_right (x ∷ xs) ys y there = inr (in_right xs ys y there)

in_either : (xs ys : List ℕ) (y : ℕ) → IsIn (xs ++ ys) y → IsIn xs y ⊎ IsIn ys y
in_either [] ys y there = inr there
in_either (x ∷ xs) ys y (inl same) = inl (inl same)
in_either (x ∷ xs) ys y (inr there) = by (in_either xs ys y there)
  where
    by : IsIn xs y ⊎ IsIn ys y → IsIn (x ∷ xs) y ⊎ IsIn ys y
    by (inl first) = inl (inr first)
    by (inr second) = inr second

goes_to : (f : ℕ → List ℕ) (xs : List ℕ) (x y : ℕ) → IsIn xs x → IsIn (f x) y → IsIn (flat_map f xs) y
goes_to f [] x y there gives = absurd there
goes_to f (z ∷ xs) x y (inl same) gives = in_left (f z) (flat_map f xs) y (subst (λ v. IsIn (f v) y) (sym same) gives)
goes_to f (z ∷ xs) x y (inr there) gives = in_right (f z) (flat_map f xs) y (goes_to f xs x y there gives)

-- what holds of each of the lists holds of them joined
goes_on : (f : ℕ → List ℕ) (xs : List ℕ) (y z : ℕ) → ((x : ℕ) → IsIn xs x → IsIn (f x) y → IsIn (f x) z) → IsIn (flat_map f xs) y → IsIn (flat_map f xs) z
goes_on f [] y z each there = absurd there
goes_on f (x ∷ xs) y z each there = by (in_either (f x) (flat_map f xs) y there) (goes_on f xs y z (λ v among. each v (inr among)))
  where
    by : IsIn (f x) y ⊎ IsIn (flat_map f xs) y → (IsIn (flat_map f xs) y → IsIn (flat_map f xs) z) → IsIn (flat_map f (x ∷ xs)) z
    by (inl first) rest = in_left (f x) (flat_map f xs) z (each x (inl refl) first)
    by (inr second) rest = in_right (f x) (flat_map f xs) z (rest second)

-- a place stands among those below the one above it
child_there : (place : Option ℕ) (above : List (Option ℕ)) (at k : ℕ) (o : Option ℕ) → slice_get above k ≡ Some o → stands_below place o ≡ true → IsIn (below_from place at above) (at + k)
child_there place [] at k o got is = absurd (none got)
  where
    none : None ≡ Some o → ⊥
    none e = cc
child_there place (a ∷ above) at zero o got is = by (stands_below place a) refl
  where
    test : Option (Option ℕ) → Bool
    test None = true
    test (Some b) = stands_below place b

    here : at ≡ at + 0
    here = omega arith

    by : (b : Bool) → stands_below place a ≡ b → IsIn (if b then at ∷ below_from place (at + 1) above else below_from place (at + 1) above) (at + 0)
    by true e = inl here
    by false e = absurd (false_true (sym e ∙ ap test got ∙ is))
      where
        false_true : ◌≡◌ {A = Bool} false true → ⊥
        false_true e = cc
child_there place (a ∷ above) at (suc k) o got is = subst (λ n. IsIn (below_from place at (a ∷ above)) n) there (by (stands_below place a) (child_there place above (at + 1) k o got is))
  where
    there : at + 1 + k ≡ at + suc k
    there = omega arith

    by : (b : Bool) → IsIn (below_from place (at + 1) above) (at + 1 + k) → IsIn (if b then at ∷ below_from place (at + 1) above else below_from place (at + 1) above) (at + 1 + k)
    by true rest = inr rest
    by false rest = rest

child_in : (place : Option ℕ) (above : List (Option ℕ)) (k : ℕ) (o : Option ℕ) → slice_get above k ≡ Some o → stands_below place o ≡ true → IsIn (below place above) k
child_in place above k o got is =
    let same : 0 + k ≡ k = omega arith in
    subst (λ n. IsIn (below place above) n) same (child_there place above 0 k o got is)

-- with a place a tree has what stands below it
with_children : (above : List (Option ℕ)) → Ascends above → (f q p c : ℕ) → q < length above → length above ≤ q + f → IsIn (below (Some p) above) c → IsIn (tree above f q) p → IsIn (tree above f q) c
with_children above ascends zero q p c low deep child there = absurd there
with_children above ascends (suc f) q p c low deep child (inl same) =
    inr (subst (λ q. IsIn (flat_map (tree above f) (below (Some q) above)) c) (sym same) (goes_to (tree above f) (below (Some p) above) c c child (full f deeper)))
  where
    behind : (p < c) × (c < length above)
    behind = child_behind above p c ascends child

    deeper : 0 < f
    deeper = omega (arith, deep, behind.0, behind.1, same)

    full : (f : ℕ) → 0 < f → IsIn (tree above f c) c
    full zero more = absurd (never more)
      where
        never : 0 < 0 → ⊥
        never more = omega (arith, more)
    full (suc g) more = inl refl
with_children above ascends (suc f) q p c low deep child (inr there) =
    inr (goes_on (tree above f) (below (Some q) above) p c (λ x among within.
    let behind = child_behind above q x ascends among in
    with_children above ascends f x p c behind.1 (omega (arith, deep, behind.0)) child within) there)

in_to : (xs : List ℕ) (x : ℕ) → IsIn xs x → Contains xs x
in_to [] x there = absurd there
in_to (y ∷ ys) x (inl same) = Contains-append_left (y ∷ []) ys x (0, omega arith, same)
in_to (y ∷ ys) x (inr there) = Contains-append_right (y ∷ []) ys x (in_to ys x there)

module _ (above : List (Option ℕ)) (ascends : Ascends above) where
  -- each place is there, if those before it are
  there : (bound place : ℕ) → place < bound → place < length above → IsIn (preorder above) place
  there zero place less low = absurd (never less)
    where
      never : place < 0 → ⊥
      never less = omega (arith, less)
  there (suc bound) place less low = by (slice_get above place) refl (there bound)
    where
      known : (xs : List (Option ℕ)) (k : ℕ) → slice_get xs k ≡ None → k < length xs → ⊥
      known [] k none low = omega (arith, low)
      known (x ∷ xs) zero none low = some none
        where
          some : ◌≡◌ {A = Option (Option ℕ)} (Some x) None → ⊥
          some e = cc
      known (x ∷ xs) (suc k) none low = known xs k none (omega (arith, low))

      self : (n : ℕ) → (n == n) ≡ true
      self n = grind (arith, nat_tests)

      by : (o : Option (Option ℕ)) → slice_get above place ≡ o → ((place : ℕ) → place < bound → place < length above → IsIn (preorder above) place) → IsIn (preorder above) place
      by None none before = absurd (known above place none low)
      by (Some None) got before = goes_to (tree above (suc (length above))) (below None above) place place (child_in None above place None got refl) (inl refl)
      by (Some (Some parent)) got before =
          let less_parent = ascends place parent got in
          goes_on (tree above (suc (length above))) (below None above) parent place (λ root among within.
          with_children above ascends (suc (length above)) root parent place (root_low root among) (omega arith) (child_in (Some parent) above place (Some parent) got (self parent)) within)
          (before parent (omega (arith, less, less_parent)) (omega (arith, low, less_parent)))
        where
          root_low : (root : ℕ) → IsIn (below None above) root → root < length above
          root_low root among =
              let c = is_child None 0 above root among in
              omega (arith, c.is, c.low)

  pub none_lost : (place : ℕ) → place < length above → Contains (preorder above) place
  none_lost place low = in_to (preorder above) place (there (suc place) place (omega arith) low)
