-- The first number below one that passes a test.
use Rattle.std.proofs.Common.{◌≡◌, ℕ, zero, suc, ◌+◌, ◌-◌, ◌<◌, Bool, true, false, [], ◌∷◌, find, Some, None, refl, arith, subst, ◌∙◌}
use Rattle.std.proofs.lemmas.List.Folds.{find-append}
use Rattle.build_core.specs.Locks.{below}

module _ (p : ℕ → Bool) where
  one_more : (n : ℕ) → find p (below n) ≡ None → p n ≡ false → find p (below (suc n)) ≡ None
  one_more n none isnt = find-append p (below n) (n ∷ []) ∙ rw none (rw isnt refl)

  pub not_yet : (n : ℕ) → find p (below n) ≡ None → p n ≡ false → find p (below (n + 1)) ≡ None
  not_yet n none isnt = let e : suc n ≡ n + 1 = omega arith in subst (λ k. find p (below k) ≡ None) e (one_more n none isnt)

  here : (n : ℕ) → find p (below n) ≡ None → p n ≡ true → find p (below (suc n)) ≡ Some n
  here n none is = find-append p (below n) (n ∷ []) ∙ rw none (rw is refl)

  beyond : (n d m : ℕ) → find p (below n) ≡ None → p n ≡ true → m ≡ suc n + d → find p (below m) ≡ Some n
  beyond n zero m none is e = let same : suc n ≡ m = omega (arith, e) in subst (λ k. find p (below k) ≡ Some n) same (here n none is)
  beyond n (suc d) m none is e =
      let same : suc (suc n + d) ≡ m = omega (arith, e) in
      subst (λ k. find p (below k) ≡ Some n) same (find-append p (below (suc n + d)) ((suc n + d) ∷ []) ∙ rw (beyond n d (suc n + d) none is refl) refl)

  pub found_at : (n m : ℕ) → find p (below n) ≡ None → p n ≡ true → n < m → find p (below m) ≡ Some n
  found_at n m none is low = beyond n (m - suc n) m none is (omega (arith, low))
