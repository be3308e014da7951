-- Lists of rows.
use Rattle.std.proofs.Common.{◌≡◌, ℕ, zero, suc, ◌+◌, ◌<◌, Bool, true, false, ◌-◌, find, List, [], ◌∷◌, length, map, replicate, get_or, unwrap_or, slice_get, slice_set, Option, Some, None, refl, arith, sym, ap, subst, ◌∙◌}
use Rattle.std.proofs.lemmas.List.{length-replicate, map-set}
use Rattle.std.proofs.lemmas.List.Folds.{find-append}
use Rattle.build_core.specs.declared.mode.Mode.{Mode}
use Rattle.build_core.specs.declared.table.Tried.{Tried}
use Rattle.build_core.specs.declared.table.Tried.TheVariants.{Taken, Busy}
use Rattle.build_core.specs.Locks.{below}

abbrev pub row_in : List (List (Option Mode)) → ℕ → List (Option Mode)
row_in rows name = unwrap_or (slice_get rows name) []

abbrev busy_of : Tried → ℕ
busy_of Taken = 0
busy_of (Busy h) = h

pub same_busy : {a b : ℕ} → Busy a ≡ Busy b → a ≡ b
same_busy e = ap busy_of e

module _ (p : ℕ → Bool) where
  one_more : (n : ℕ) → find p (below n) ≡ None → p n ≡ false → find p (below (suc n)) ≡ None
  one_more n none no_more = find-append p (below n) (n ∷ []) ∙ rw none (rw no_more refl)

  pub not_yet : (n : ℕ) → find p (below n) ≡ None → p n ≡ false → find p (below (n + 1)) ≡ None
  not_yet n none no_more = let e : suc n ≡ n + 1 = omega arith in subst (λ k. find p (below k) ≡ None) e (one_more n none no_more)

  here : (n : ℕ) → find p (below n) ≡ None → p n ≡ true → find p (below (suc n)) ≡ Some n
  here n none met = find-append p (below n) (n ∷ []) ∙ rw none (rw met refl)

  beyond : (n d m : ℕ) → find p (below n) ≡ None → p n ≡ true → m ≡ suc n + d → find p (below m) ≡ Some n
  beyond n zero m none met e = let same : suc n ≡ m = omega (arith, e) in subst (λ k. find p (below k) ≡ Some n) same (here n none met)
  beyond n (suc d) m none met e =
      let same : suc (suc n + d) ≡ m = omega (arith, e) in
      subst (λ k. find p (below k) ≡ Some n) same (find-append p (below (suc n + d)) ((suc n + d) ∷ []) ∙ rw (beyond n d (suc n + d) none met refl) refl)

  pub found_at : (n m : ℕ) → find p (below n) ≡ None → p n ≡ true → n < m → find p (below m) ≡ Some n
  found_at n m none met low = beyond n (m - suc n) m none met (omega (arith, low))

module _ {X : Type 0} (f : X → List (Option Mode)) where
  length_map : (held : List X) → length (map f held) ≡ length held
  length_map [] = refl
  length_map (x ∷ held) = ap suc (length_map held)

  pub row_is : (held : List X) (name : ℕ) (x : X) → name < length held → x ≡ get_or held name x → row_in (map f held) name ≡ f x
  row_is [] name x low is = absurd (omega (arith, low))
  row_is (y ∷ held) zero x low is = ap f (sym is)
  row_is (y ∷ held) (suc name) x low is = row_is held name x (omega (arith, low)) is

  pub set_row : (held : List X) (name worker : ℕ) (mode : Option Mode) (x y : X) → name < length held → x ≡ get_or held name x → f y ≡ slice_set (f x) worker mode → map f (slice_set held name y) ≡ slice_set (map f held) name (slice_set (row_in (map f held) name) worker mode)
  set_row held name worker mode x y low there new =
      map-set f held name y
      ∙ ap (slice_set (map f held) name) (new ∙ ap (λ r. slice_set r worker mode) (sym (row_is held name x low there)))

get_or_any : {X : Type 0} (held : List X) (k : ℕ) (d : X) → k < length held → get_or held k d ≡ get_or held k (get_or held k d)
get_or_any [] k d low = absurd (omega (arith, low))
get_or_any (x ∷ held) zero d low = refl
get_or_any (x ∷ held) (suc k) d low = get_or_any held k d (omega (arith, low))

free_row : (n workers name : ℕ) → name < n → row_in (replicate n (replicate workers None)) name ≡ replicate workers None
free_row zero workers name low = absurd (omega (arith, low))
free_row (suc n) workers zero low = refl
free_row (suc n) workers (suc name) low = free_row n workers name (omega (arith, low))

pub rows_many : {X : Type 0} (f : X → List (Option Mode)) (held : List X) (n workers : ℕ) → map f held ≡ replicate n (replicate workers None) → length held ≡ n
rows_many f held n workers are = sym (length_map f held) ∙ ap length are ∙ length-replicate n (replicate workers None)

pub rows_wide : {X : Type 0} (f : X → List (Option Mode)) (held : List X) (n workers : ℕ) → map f held ≡ replicate n (replicate workers None) → (k : ℕ) (d : X) → k < length held → length (f (get_or held k d)) ≡ workers
rows_wide f held n workers are k d low =
    let count = rows_many f held n workers are in
    ap length (sym (row_is f held k (get_or held k d) low (get_or_any held k d low)) ∙ ap (λ t. row_in t k) are ∙ free_row n workers k (omega (arith, low, count)))
    ∙ length-replicate workers None
