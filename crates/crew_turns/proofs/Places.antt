-- The first entry that comes from a file.
use Rattle.std.proofs.Common.{◌≡◌, ℕ, zero, suc, ◌+◌, ◌-◌, ◌<◌, Bool, true, false, find, List, [], ◌∷◌, slice_get, Some, None, refl, arith, ap, subst, ◌∙◌}
use Rattle.std.specs.Option.{option_map_or}
use Rattle.std.proofs.lemmas.List.Folds.{find-append}
use Rattle.build_core.specs.Locks.{below}
use Rattle.build_core.specs.declared.plan.Entry.{Entry}
use Rattle.crew_turns.specs.Parts.{is_this_file, place_before}

module _ (p : ℕ → Bool) where
  one_more : (n : ℕ) → find p (below n) ≡ None → p n ≡ false → find p (below (suc n)) ≡ None
  one_more n none no_more = find-append p (below n) (n ∷ []) ∙ rw none (rw no_more refl)

  none_yet : (n : ℕ) → find p (below n) ≡ None → p n ≡ false → find p (below (n + 1)) ≡ None
  none_yet n none no_more = let e : suc n ≡ n + 1 = omega arith in subst (λ k. find p (below k) ≡ None) e (one_more n none no_more)

  here : (n : ℕ) → find p (below n) ≡ None → p n ≡ true → find p (below (suc n)) ≡ Some n
  here n none met = find-append p (below n) (n ∷ []) ∙ rw none (rw met refl)

  beyond : (n d m : ℕ) → find p (below n) ≡ None → p n ≡ true → m ≡ suc n + d → find p (below m) ≡ Some n
  beyond n zero m none met e = let same : suc n ≡ m = omega (arith, e) in subst (λ k. find p (below k) ≡ Some n) same (here n none met)
  beyond n (suc d) m none met e =
      let same : suc (suc n + d) ≡ m = omega (arith, e) in
      subst (λ k. find p (below k) ≡ Some n) same (find-append p (below (suc n + d)) ((suc n + d) ∷ []) ∙ rw (beyond n d (suc n + d) none met refl) refl)

  found_by : (n m : ℕ) → find p (below n) ≡ None → p n ≡ true → n < m → find p (below m) ≡ Some n
  found_by n m none met low = beyond n (m - suc n) m none met (omega (arith, low))

module _ (entries : List Entry) (file at : ℕ) (e : Entry) (is : slice_get entries at ≡ Some e) where
  test_is : option_map_or (is_this_file file) (slice_get entries at) false ≡ is_this_file file e
  test_is = ap (λ o. option_map_or (is_this_file file) o false) is

  -- nor does one more
  pub not_yet : place_before entries at file ≡ None → is_this_file file e ≡ false → place_before entries (at + 1) file ≡ None
  not_yet none not_this = none_yet (λ i. option_map_or (is_this_file file) (slice_get entries i) false) at none (test_is ∙ not_this)

  -- the first that does, of however many
  pub found_at : (count : ℕ) → place_before entries at file ≡ None → is_this_file file e ≡ true → at < count → place_before entries count file ≡ Some at
  found_at count none this low = found_by (λ i. option_map_or (is_this_file file) (slice_get entries i) false) at count none (test_is ∙ this) low
