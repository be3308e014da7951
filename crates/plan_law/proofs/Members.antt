-- What stands in lists, and lists whose items differ.
use Rattle.std.proofs.Common.{◌≡◌, ◌⊎◌, inl, inr, ℕ, zero, suc, Bool, true, false, ◌||◌, ◌&&◌, List, [], ◌∷◌, ◌++◌, Option, Some, None, is_some, unwrap_or, flat_map, filter, filter_map, find, map, slice_get, nat_eq, refl, sym, ap, subst, ◌∙◌, arith, if◌then◌else◌, eqb-true, eq-eqb}
use Rattle.std.specs.List.{list_any, list_all, IsDistinct, AllByRecursion, cons_option}
use Rattle.std.proofs.lemmas.Bool.{false≢true, or_right, or_left}
use Rattle.scripts.specs.Outlines.{is_listed}
pub use Rattle.classpaths.proofs.Joining.{IsIn, in_from, in_to}

-- no item stands in it twice
abbrev pub Apart : {A : Type 0} → List A → Type 0
Apart [] = Unit {0}
Apart (x ∷ xs) = (IsIn xs x → ⊥) × Apart xs

module _ {A : Type 0} where
  pub in_left : (xs ys : List A) (x : A) → IsIn xs x → IsIn (xs ++ ys) x
  in_left [] ys x there = absurd there
  in_left (y ∷ xs) ys x (inl e) = inl e
  in_left (y ∷ xs) ys x (inr there) = inr (in_left xs ys x there)

  pub in_right : (xs ys : List A) (x : A) → IsIn ys x → IsIn (xs ++ ys) x
  in_right [] ys x there = there
  in_right (y ∷ xs) ys x there = inr (in_right xs ys x there)

  pub in_either : (xs ys : List A) (x : A) → IsIn (xs ++ ys) x → IsIn xs x ⊎ IsIn ys x
  in_either [] ys x there = inr there
  in_either (y ∷ xs) ys x (inl e) = inl (inl e)
  in_either (y ∷ xs) ys x (inr there) = by (in_either xs ys x there)
    where
      by : IsIn xs x ⊎ IsIn ys x → IsIn (y ∷ xs) x ⊎ IsIn ys x
      by (inl a) = inl (inr a)
      by (inr b) = inr b

  -- the item at a place
  pub at_in : (xs : List A) (k : ℕ) (x : A) → slice_get xs k ≡ Some x → IsIn xs x
  at_in [] k x e = absurd (false≢true (ap is_some e))
  at_in (y ∷ xs) zero x e = inl (ap (λ o. unwrap_or o y) e)
  at_in (y ∷ xs) (suc k) x e = inr (at_in xs k x e)

  -- and the place of an item
  pub in_at : (xs : List A) (x : A) → IsIn xs x → (k : ℕ) × (slice_get xs k ≡ Some x)
  in_at [] x there = absurd there
  in_at (y ∷ xs) x (inl e) = (0, ap Some e)
  in_at (y ∷ xs) x (inr there) = let found = in_at xs x there in (suc found.0, found.1)

  -- one more
  pub apart_push : (xs : List A) (x : A) → Apart xs → (IsIn xs x → ⊥) → Apart (xs ++ x ∷ [])
  apart_push [] x apart none = (none, record {})
  apart_push (y ∷ xs) x apart none = (other, apart_push xs x apart.1 (λ there. none (inr there)))
    where
      other : IsIn (xs ++ x ∷ []) y → ⊥
      other there = by (in_either xs (x ∷ []) y there)
        where
          by : IsIn xs y ⊎ IsIn (x ∷ []) y → ⊥
          by (inl a) = apart.0 a
          by (inr (inl e)) = none (inl (sym e))
          by (inr (inr b)) = b

  -- items that pass a test
  pub in_filter : (p : A → Bool) (xs : List A) (x : A) → IsIn xs x → p x ≡ true → IsIn (filter p xs) x
  in_filter p [] x there passes = absurd there
  in_filter p (y ∷ xs) x (inl e) passes = subst (λ b. IsIn (if b then y ∷ filter p xs else filter p xs) x) (sym passes ∙ ap p (sym e)) (inl e)
  in_filter p (y ∷ xs) x (inr there) passes = by (p y) (in_filter p xs x there passes)
    where
      by : (b : Bool) → IsIn (filter p xs) x → IsIn (if b then y ∷ filter p xs else filter p xs) x
      by true h = inr h
      by false h = h

  pub from_filter : (p : A → Bool) (xs : List A) (x : A) → IsIn (filter p xs) x → IsIn xs x × (p x ≡ true)
  from_filter p [] x there = absurd there
  from_filter p (y ∷ xs) x there = by (p y) refl there (from_filter p xs x)
    where
      by : (b : Bool) → p y ≡ b → IsIn (if b then y ∷ filter p xs else filter p xs) x → (IsIn (filter p xs) x → IsIn xs x × (p x ≡ true)) → IsIn (y ∷ xs) x × (p x ≡ true)
      by true e (inl same) again = (inl same, ap p (sym same) ∙ e)
      by true e (inr h) again = (inr (again h).0, (again h).1)
      by false e h again = (inr (again h).0, (again h).1)

  -- every item passes, and some item passes
  pub all_pass : (test : A → Bool) (xs : List A) → ((x : A) → IsIn xs x → test x ≡ true) → list_all test xs ≡ true
  all_pass test [] each = refl
  all_pass test (x ∷ xs) each = subst (λ b. (b && list_all test xs) ≡ true) (sym (each x (inl refl))) (all_pass test xs (λ y there. each y (inr there)))

  pub each_passes : (test : A → Bool) (xs : List A) → list_all test xs ≡ true → (x : A) → IsIn xs x → test x ≡ true
  each_passes test [] all x there = absurd there
  each_passes test (y ∷ xs) all x there = by (test y) refl all there (each_passes test xs)
    where
      by : (b : Bool) → test y ≡ b → (b && list_all test xs) ≡ true → IsIn (y ∷ xs) x → (list_all test xs ≡ true → (x : A) → IsIn xs x → test x ≡ true) → test x ≡ true
      by true e h (inl same) again = ap test (sym same) ∙ e
      by true e h (inr more) again = again h x more
      by false e h more again = absurd (false≢true h)

  pub some_passes : (test : A → Bool) (xs : List A) (x : A) → IsIn xs x → test x ≡ true → list_any test xs ≡ true
  some_passes test [] x there e = absurd there
  some_passes test (y ∷ xs) x (inl same) e = or_left (test y) (list_any test xs) (ap test same ∙ e)
  some_passes test (y ∷ xs) x (inr there) e = or_right (test y) (list_any test xs) (some_passes test xs x there e)

  pub passing : (test : A → Bool) (xs : List A) → list_any test xs ≡ true → (x : A) × IsIn xs x × (test x ≡ true)
  passing test [] e = absurd (false≢true e)
  passing test (y ∷ xs) e = by (test y) refl e (passing test xs)
    where
      by : (b : Bool) → test y ≡ b → (b || list_any test xs) ≡ true → (list_any test xs ≡ true → (x : A) × IsIn xs x × (test x ≡ true)) → (x : A) × IsIn (y ∷ xs) x × (test x ≡ true)
      by true is h again = (y, inl refl, is)
      by false is h again = let found = again h in (found.0, inr found.1, found.2)

  -- a test that only equal items pass
  differ : (e : A → A → Bool) → ((x y : A) → e x y ≡ true → x ≡ y) → (x : A) (xs : List A) → (IsIn xs x → ⊥) → AllByRecursion (λ y. e x y ≡ false) xs
  differ e same x [] none = tt
  differ e same x (y ∷ xs) none = (by (e x y) refl, differ e same x xs (λ there. none (inr there)))
    where
      by : (b : Bool) → e x y ≡ b → b ≡ false
      by true is = absurd (none (inl (sym (same x y is))))
      by false is = refl

  pub distinct_of : (e : A → A → Bool) → ((x y : A) → e x y ≡ true → x ≡ y) → (xs : List A) → Apart xs → IsDistinct e xs
  unfolding IsDistinct
  distinct_of e same [] apart = tt
  distinct_of e same (x ∷ xs) apart = (differ e same x xs apart.0, distinct_of e same xs apart.1)

module _ {A B : Type 0} where
  pub in_map : (f : A → B) (xs : List A) (x : A) → IsIn xs x → IsIn (map f xs) (f x)
  in_map f [] x there = absurd there
  in_map f (y ∷ xs) x (inl e) = inl (ap f e)
  in_map f (y ∷ xs) x (inr there) = inr (in_map f xs x there)

  pub from_map : (f : A → B) (xs : List A) (y : B) → IsIn (map f xs) y → (x : A) × IsIn xs x × (f x ≡ y)
  from_map f [] y there = absurd there
  from_map f (x ∷ xs) y (inl e) = (x, inl refl, e)
  from_map f (x ∷ xs) y (inr there) = let found = from_map f xs y there in (found.0, inr found.1, found.2)

  pub at_map : (f : A → B) (xs : List A) (k : ℕ) (y : B) → slice_get (map f xs) k ≡ Some y → (x : A) × (slice_get xs k ≡ Some x) × (f x ≡ y)
  at_map f [] k y e = absurd (false≢true (ap is_some e))
  at_map f (x ∷ xs) zero y e = (x, refl, ap (λ o. unwrap_or o (f x)) e)
  at_map f (x ∷ xs) (suc k) y e = at_map f xs k y e

  pub map_at : (f : A → B) (xs : List A) (k : ℕ) (x : A) → slice_get xs k ≡ Some x → slice_get (map f xs) k ≡ Some (f x)
  map_at f [] k x e = absurd (false≢true (ap is_some e))
  map_at f (y ∷ xs) zero x e = ap (λ o. Some (f (unwrap_or o y))) e
  map_at f (y ∷ xs) (suc k) x e = map_at f xs k x e

  pub in_flat : (f : A → List B) (xs : List A) (x : A) (y : B) → IsIn xs x → IsIn (f x) y → IsIn (flat_map f xs) y
  in_flat f [] x y there h = absurd there
  in_flat f (z ∷ xs) x y (inl e) h = in_left (f z) (flat_map f xs) y (subst (λ w. IsIn (f w) y) (sym e) h)
  in_flat f (z ∷ xs) x y (inr there) h = in_right (f z) (flat_map f xs) y (in_flat f xs x y there h)

  pub from_flat : (f : A → List B) (xs : List A) (y : B) → IsIn (flat_map f xs) y → (x : A) × IsIn xs x × IsIn (f x) y
  from_flat f [] y there = absurd there
  from_flat f (z ∷ xs) y there = by (in_either (f z) (flat_map f xs) y there) (from_flat f xs y)
    where
      by : IsIn (f z) y ⊎ IsIn (flat_map f xs) y → (IsIn (flat_map f xs) y → (x : A) × IsIn xs x × IsIn (f x) y) → (x : A) × IsIn (z ∷ xs) x × IsIn (f x) y
      by (inl h) again = (z, inl refl, h)
      by (inr h) again = let found = again h in (found.0, inr found.1, found.2)

  pub from_filter_map : (f : A → Option B) (xs : List A) (y : B) → IsIn (filter_map f xs) y → (x : A) × IsIn xs x × (f x ≡ Some y)
  from_filter_map f [] y there = absurd there
  from_filter_map f (x ∷ xs) y there = by (f x) refl there (from_filter_map f xs y)
    where
      by : (o : Option B) → f x ≡ o → IsIn (cons_option o (filter_map f xs)) y → (IsIn (filter_map f xs) y → (z : A) × IsIn xs z × (f z ≡ Some y)) → (z : A) × IsIn (x ∷ xs) z × (f z ≡ Some y)
      by None e h again = let found = again h in (found.0, inr found.1, found.2)
      by (Some z) e (inl same) again = (x, inl refl, e ∙ ap Some same)
      by (Some z) e (inr h) again = let found = again h in (found.0, inr found.1, found.2)

  -- what a function tells apart stays apart
  pub apart_map : (f : A → B) (xs : List A) → ((x y : A) → IsIn xs x → IsIn xs y → f x ≡ f y → x ≡ y) → Apart xs → Apart (map f xs)
  apart_map f [] tells apart = record {}
  apart_map f (x ∷ xs) tells apart = (none, apart_map f xs (λ y z a b. tells y z (inr a) (inr b)) apart.1)
    where
      none : IsIn (map f xs) (f x) → ⊥
      none there = let found = from_map f xs (f x) there in
          apart.0 (subst (λ y. IsIn xs y) (tells found.0 x (inr found.1) (inl refl) found.2) found.1)

  -- two places whose items are told apart are one
  pub one_at : (f : A → B) (xs : List A) → Apart (map f xs) → (a b : ℕ) (x y : A) → slice_get xs a ≡ Some x → slice_get xs b ≡ Some y → f x ≡ f y → a ≡ b
  one_at f [] apart a b x y p q e = absurd (false≢true (ap is_some p))
  one_at f (z ∷ xs) apart zero zero x y p q e = refl
  one_at f (z ∷ xs) apart zero (suc b) x y p q e = absurd (apart.0 (subst (λ w. IsIn (map f xs) w) (sym e ∙ ap f (sym (ap (λ o. unwrap_or o z) p))) (in_map f xs y (at_in xs b y q))))
  one_at f (z ∷ xs) apart (suc a) zero x y p q e = absurd (apart.0 (subst (λ w. IsIn (map f xs) w) (e ∙ ap f (sym (ap (λ o. unwrap_or o z) q))) (in_map f xs x (at_in xs a x p))))
  one_at f (z ∷ xs) apart (suc a) (suc b) x y p q e = ap suc (one_at f xs apart.1 a b x y p q e)

-- the first that passes stands in the list, and passes
pub find_in : {A : Type 0} (test : A → Bool) (xs : List A) (x : A) → find test xs ≡ Some x → IsIn xs x × (test x ≡ true)
find_in test [] x e = absurd (false≢true (ap is_some e))
find_in test (y ∷ xs) x e = by (test y) refl e (find_in test xs x)
  where
    by : (b : Bool) → test y ≡ b → (if b then Some y else find test xs) ≡ Some x → (find test xs ≡ Some x → IsIn xs x × (test x ≡ true)) → IsIn (y ∷ xs) x × (test x ≡ true)
    by true is h again = let same = ap (λ o. unwrap_or o y) h in (inl same, ap test (sym same) ∙ is)
    by false is h again = let found = again h in (inr found.0, found.1)

-- where one passes, something is found
pub finds : {A : Type 0} (test : A → Bool) (xs : List A) (x : A) → IsIn xs x → test x ≡ true → find test xs ≡ None → ⊥
finds test [] x there passes none = there
finds test (y ∷ xs) x there passes none = by (test y) refl there none (finds test xs x)
  where
    by : (b : Bool) → test y ≡ b → IsIn (y ∷ xs) x → (if b then Some y else find test xs) ≡ None → (IsIn xs x → test x ≡ true → find test xs ≡ None → ⊥) → ⊥
    by true is h none again = false≢true (sym (ap is_some none))
    by false is (inl same) none again = false≢true (sym is ∙ ap test same ∙ passes)
    by false is (inr h) none again = again h passes none

-- places that are told apart by what stands at them
pub apart_from : {A B : Type 0} (f : A → B) (xs : List A) → ((a b : ℕ) (x y : A) → slice_get xs a ≡ Some x → slice_get xs b ≡ Some y → f x ≡ f y → a ≡ b) → Apart (map f xs)
apart_from f [] tells = record {}
apart_from f (x ∷ xs) tells = (none, apart_from f xs (λ a b y z p q e. suc_same a b (tells (suc a) (suc b) y z p q e)))
  where
    suc_same : (a b : ℕ) → suc a ≡ suc b → a ≡ b
    suc_same a b e = omega (arith, e)

    never : (k : ℕ) → zero ≡ suc k → ⊥
    never k e = omega (arith, e)

    none : IsIn (map f xs) (f x) → ⊥
    none there = let found = from_map f xs (f x) there in
        let place = in_at xs found.0 found.1 in
        never place.0 (tells zero (suc place.0) x found.0 refl place.1 (sym found.2))

-- ---- numbers

pub listed_in : (n : ℕ) (ns : List ℕ) → is_listed n ns ≡ true → IsIn ns n
listed_in n ns is = let found = passing (λ m. nat_eq m n) ns is in subst (λ m. IsIn ns m) (eqb-true found.0 n found.2) found.1

pub in_listed : (n : ℕ) (ns : List ℕ) → IsIn ns n → is_listed n ns ≡ true
in_listed n ns there = some_passes (λ m. nat_eq m n) ns n there (eq-eqb n n refl)

pub not_listed : (n : ℕ) (ns : List ℕ) → (IsIn ns n → ⊥) → is_listed n ns ≡ false
not_listed n ns none = by (is_listed n ns) refl
  where
    by : (b : Bool) → is_listed n ns ≡ b → b ≡ false
    by true e = absurd (none (listed_in n ns e))
    by false e = refl

pub numbers_apart : (ns : List ℕ) → Apart ns → IsDistinct nat_eq ns
numbers_apart ns apart = distinct_of nat_eq (λ x y e. eqb-true x y e) ns apart
