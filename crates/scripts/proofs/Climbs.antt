-- Lists that ascend.
use Rattle.std.proofs.Common.{◌≡◌, ℕ, zero, suc, ◌+◌, ◌<◌, ◌≤◌, Bool, true, false, not, ◌&&◌, ◌||◌, nat_eq, nat_lt, slice_get, None, is_some, List, [], ◌∷◌, ◌++◌, All, length, get_or, map, replicate, set, subst, refl, arith, sym, ap, ◌∙◌, if◌then◌else◌}
use Rattle.std.specs.List.{list_all}
use Rattle.std.proofs.lemmas.Bool.{eqb-true, false≢true, ltb-true}
use Rattle.std.proofs.lemmas.Cmp.{nat_eq_equiv}
use Rattle.std.proofs.lemmas.List.{map-set}
use Rattle.std.proofs.lemmas.List.Elements.{All-get_or}
use Rattle.scripts.specs.Climbing.{Climbs, but}
use Rattle.scripts.specs.Outlines.{is_listed}

-- ---- rows

module _ {X : Type 0} (f : X → List ℕ) where
  pub row_at : (rows : List X) (i : ℕ) (x : X) → i < length rows → x ≡ get_or rows i x → get_or (map f rows) i [] ≡ f x
  row_at [] i x low is = absurd (omega (arith, low))
  row_at (y ∷ rows) zero x low is = ap f (sym is)
  row_at (y ∷ rows) (suc i) x low is = row_at rows i x (omega (arith, low)) is

  pub set_at : (rows : List X) (i : ℕ) (x y : X) (new : List ℕ → List ℕ) → i < length rows → x ≡ get_or rows i x → f y ≡ new (f x) → map f (set rows i y) ≡ set (map f rows) i (new (get_or (map f rows) i []))
  set_at rows i x y new low is e = map-set f rows i y ∙ ap (set (map f rows) i) (e ∙ ap new (sym (row_at rows i x low is)))

pub all_at : {X : Type 0} (P : X → Type 0) (rows : List X) (i : ℕ) (x : X) → All P rows → i < length rows → x ≡ get_or rows i x → P x
all_at P rows i x all low is = subst P (sym is) (All-get_or P rows i x low all)

pub map_replicate : {X Y : Type 0} (f : X → Y) (n : ℕ) (x : X) → map f (replicate n x) ≡ replicate n (f x)
map_replicate f zero x = refl
map_replicate f (suc n) x = ap (λ t. f x ∷ t) (map_replicate f n x)

-- ---- what is added and taken out

pub both : (a b : Bool) → (a && b) ≡ true → (a ≡ true) × (b ≡ true)
both true b e = (refl, e)
both false b e = absurd (false≢true e)

but_long : (xs : List ℕ) (n : ℕ) → length (but n xs) ≤ length xs
but_long [] n = omega arith
but_long (x ∷ xs) n = by (nat_eq x n) (but_long xs n)
  where
    by : (b : Bool) → length (but n xs) ≤ length xs → length (if not b then x ∷ but n xs else but n xs) ≤ suc (length xs)
    by true again = omega (arith, again)
    by false again = omega (arith, again)

pub climbs_more : (xs : List ℕ) (low n : ℕ) → Climbs low xs → list_all (λ h. nat_lt h n) xs ≡ true → low ≤ n → Climbs low (xs ++ n ∷ [])
climbs_more [] low n climbs all under = (under, tt)
climbs_more (x ∷ xs) low n climbs all under =
    let parts = both (nat_lt x n) (list_all (λ h. nat_lt h n) xs) all in
    (climbs.0, climbs_more xs (suc x) n climbs.1 parts.1 (ltb-true x n parts.0))

climbs_from : (xs : List ℕ) (low high : ℕ) → low ≤ high → Climbs high xs → Climbs low xs
climbs_from [] low high under climbs = tt
climbs_from (x ∷ xs) low high under climbs = (omega (arith, under, climbs.0), climbs.1)

pub climbs_but : (xs : List ℕ) (low n : ℕ) → Climbs low xs → Climbs low (but n xs)
climbs_but [] low n climbs = tt
climbs_but (x ∷ xs) low n climbs = by (nat_eq x n) (climbs_but xs (suc x) n climbs.1)
  where
    by : (b : Bool) → Climbs (suc x) (but n xs) → Climbs low (if not b then x ∷ but n xs else but n xs)
    by true again = climbs_from (but n xs) low (suc x) (omega (arith, climbs.0)) again
    by false again = (climbs.0, again)

pub climbs_length : (xs : List ℕ) (low high : ℕ) → Climbs low xs → list_all (λ h. nat_lt h high) xs ≡ true → low ≤ high → low + length xs ≤ high
climbs_length [] low high climbs all under = omega (arith, under)
climbs_length (x ∷ xs) low high climbs all under =
    let parts = both (nat_lt x high) (list_all (λ h. nat_lt h high) xs) all in
    let less = ltb-true x high parts.0 in
    let again = climbs_length xs (suc x) high climbs.1 parts.1 (omega (arith, less)) in
    omega (arith, again, climbs.0)

module _ (p : ℕ → Bool) where
  pub all_more : (xs : List ℕ) (n : ℕ) → list_all p xs ≡ true → p n ≡ true → list_all p (xs ++ n ∷ []) ≡ true
  all_more [] n all is = rw is refl
  all_more (x ∷ xs) n all is = let parts = both (p x) (list_all p xs) all in rw parts.0 (all_more xs n parts.1 is)

  pub all_but : (xs : List ℕ) (n : ℕ) → list_all p xs ≡ true → list_all p (but n xs) ≡ true
  all_but [] n all = refl
  all_but (x ∷ xs) n all = let parts = both (p x) (list_all p xs) all in by (nat_eq x n) (all_but xs n parts.1) parts.0
    where
      by : (b : Bool) → list_all p (but n xs) ≡ true → p x ≡ true → list_all p (if not b then x ∷ but n xs else but n xs) ≡ true
      by true again is = again
      by false again is = rw is again

-- ---- which are listed

pub listed_last : (xs : List ℕ) (n : ℕ) → is_listed n (xs ++ n ∷ []) ≡ true
listed_last [] n = rw (nat_eq_equiv.refl n) refl
listed_last (x ∷ xs) n = by (nat_eq x n) (listed_last xs n)
  where
    by : (b : Bool) → is_listed n (xs ++ n ∷ []) ≡ true → (b || is_listed n (xs ++ n ∷ [])) ≡ true
    by true again = refl
    by false again = again

pub listed_more : (xs : List ℕ) (k n : ℕ) → is_listed k xs ≡ true → is_listed k (xs ++ n ∷ []) ≡ true
listed_more [] k n is = absurd (false≢true is)
listed_more (x ∷ xs) k n is = by (nat_eq x k) is (listed_more xs k n)
  where
    by : (b : Bool) → (b || is_listed k xs) ≡ true → (is_listed k xs ≡ true → is_listed k (xs ++ n ∷ []) ≡ true) → (b || is_listed k (xs ++ n ∷ [])) ≡ true
    by true h again = refl
    by false h again = again h

pub listed_but : (xs : List ℕ) (k n : ℕ) → is_listed k xs ≡ true → (k ≡ n → ⊥) → is_listed k (but n xs) ≡ true
listed_but [] k n is other = absurd (false≢true is)
listed_but (x ∷ xs) k n is other = by (nat_eq x n) refl (nat_eq x k) refl is (listed_but xs k n)
  where
    by : (b : Bool) → nat_eq x n ≡ b → (c : Bool) → nat_eq x k ≡ c → (c || is_listed k xs) ≡ true → (is_listed k xs ≡ true → (k ≡ n → ⊥) → is_listed k (but n xs) ≡ true) → is_listed k (if not b then x ∷ but n xs else but n xs) ≡ true
    by true e true f h again = absurd (other (sym (eqb-true x k f) ∙ eqb-true x n e))
    by true e false f h again = again h other
    by false e true f h again = rw f refl
    by false e false f h again = rw f (again h other)

-- a name that is listed is one less
pub but_shorter : (xs : List ℕ) (n : ℕ) → is_listed n xs ≡ true → length (but n xs) < length xs
but_shorter [] n is = absurd (false≢true is)
but_shorter (x ∷ xs) n is = by (nat_eq x n) is (but_shorter xs n)
  where
    by : (b : Bool) → (b || is_listed n xs) ≡ true → (is_listed n xs ≡ true → length (but n xs) < length xs) → length (if not b then x ∷ but n xs else but n xs) < suc (length xs)
    by true h again = let few = but_long xs n in omega (arith, few)
    by false h again = let few = again h in omega (arith, few)

-- ---- lists of lists

pub get_map : {X Y : Type 0} (f : X → Y) (rows : List X) (k : ℕ) (d : X) → get_or (map f rows) k (f d) ≡ f (get_or rows k d)
get_map f [] k d = refl
get_map f (x ∷ rows) zero d = refl
get_map f (x ∷ rows) (suc k) d = get_map f rows k d

pub any_default : {X : Type 0} (xs : List X) (i : ℕ) (d e : X) → i < length xs → get_or xs i d ≡ get_or xs i e
any_default [] i d e low = absurd (omega (arith, low))
any_default (x ∷ xs) zero d e low = refl
any_default (x ∷ xs) (suc i) d e low = any_default xs i d e (omega (arith, low))

pub none_beyond : {X : Type 0} (xs : List X) (i : ℕ) → slice_get xs i ≡ None → length xs ≤ i
none_beyond [] i none = omega arith
none_beyond (x ∷ xs) zero none = absurd (false≢true (sym (ap is_some none)))
none_beyond (x ∷ xs) (suc i) none = let again = none_beyond xs i none in omega (arith, again)
