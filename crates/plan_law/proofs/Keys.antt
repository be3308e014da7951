-- Texts that ascend, and their places.
use Rattle.std.proofs.Common.{◌≡◌, ◌⊎◌, inl, inr, ◌<◌, ◌≤◌, ℕ, suc, Bool, true, false, ◌&&◌, T, List, [], ◌∷◌, is_some, map, refl, sym, ap, subst, ◌∙◌, arith}
use Rattle.std.specs.List.{position_or_len}
use Rattle.std.specs.Ordering.{nat_cmp, is_lt, is_eq, eq_by_cmp}
use Rattle.std.specs.Str.{bytes_eq}
use Rattle.std.specs.declared.cmp.Ordering.{Ordering}
use Rattle.std.specs.declared.cmp.Ordering.TheVariants.{Less, Equal, Greater}
use Rattle.std.specs.Cmp.{tied_itself}
use Rattle.std.specs.Cmp.Lexicographic.{slice_cmp, nat_list_cmp_total}
use Rattle.std.specs.FinMap.{FinMap, is_sorted, entries_sorted, slice_cmp-IsAntisymmetric, nat_cmp-IsAntisymmetric, contains_key-keys}
use Rattle.std.specs.FinMap as map_of
use Rattle.std.proofs.lemmas.Bool.{false≢true}
use Rattle.std.proofs.lemmas.Slice.Eq.{bytes_eq-Decides}
use Rattle.scripts.specs.Climbing.{Climbs}
use Rattle.event_core.specs.SoundPlans.{TextsClimb}
use Rattle.plan_law.proofs.Members.{IsIn, passing}
use Rattle.plan_law.proofs.Places.{here_or_not, place_here, place_later}

abbrev cmp : List ℕ → List ℕ → Ordering
cmp = slice_cmp nat_cmp

-- a text isn't below itself
pub not_below : (x : List ℕ) → cmp x x ≡ Less → ⊥
not_below x e = false≢true (ap is_eq (sym e ∙ tied_itself nat_list_cmp_total x))

pub climb_tail : (x : List ℕ) (xs : List (List ℕ)) → TextsClimb (x ∷ xs) → TextsClimb xs
climb_tail x [] climbs = record {}
climb_tail x (y ∷ xs) climbs = climbs.1

-- the first is below all others
pub first_below : (x : List ℕ) (xs : List (List ℕ)) (y : List ℕ) → TextsClimb (x ∷ xs) → IsIn xs y → cmp x y ≡ Less
first_below x [] y climbs there = absurd there
first_below x (z ∷ xs) y climbs (inl e) = subst (λ w. cmp x w ≡ Less) e climbs.0
first_below x (z ∷ xs) y climbs (inr there) = nat_list_cmp_total.trans x z y climbs.0 (first_below z xs y climbs.1 there)

abbrev place : List (List ℕ) → List ℕ → ℕ
place names x = position_or_len (bytes_eq x) names

-- a lower text has a lower place
pub place_climbs : (names : List (List ℕ)) (x y : List ℕ) → TextsClimb names → IsIn names x → IsIn names y → cmp x y ≡ Less → place names x < place names y
place_climbs [] x y climbs a b less = absurd a
place_climbs (n ∷ names) x y climbs a b less = by (here_or_not bytes_eq bytes_eq-Decides x n) (here_or_not bytes_eq bytes_eq-Decides y n) a b (place_climbs names x y (climb_tail n names climbs))
  where
    by : (n ≡ x) ⊎ (n ≡ x → ⊥) → (n ≡ y) ⊎ (n ≡ y → ⊥) → IsIn (n ∷ names) x → IsIn (n ∷ names) y → (IsIn names x → IsIn names y → cmp x y ≡ Less → place names x < place names y)
        → place (n ∷ names) x < place (n ∷ names) y
    by (inl p) (inl q) a b again = absurd (not_below x (subst (λ z. cmp x z ≡ Less) (sym q ∙ p) less))
    by (inl p) (inr q) a b again =
        let one = place_here bytes_eq bytes_eq-Decides x n names p in
        let two = place_later bytes_eq bytes_eq-Decides y n names q in
        omega (arith, one, two)
    by (inr p) (inl q) (inl a) b again = absurd (p a)
    by (inr p) (inl q) (inr a) b again = absurd (not_below x (nat_list_cmp_total.trans x y x less (subst (λ z. cmp z x ≡ Less) q (first_below n names x climbs a))))
    by (inr p) (inr q) (inl a) b again = absurd (p a)
    by (inr p) (inr q) (inr a) (inl b) again = absurd (q b)
    by (inr p) (inr q) (inr a) (inr b) again =
        let one = place_later bytes_eq bytes_eq-Decides x n names p in
        let two = place_later bytes_eq bytes_eq-Decides y n names q in
        let low = again a b less in
        omega (arith, one, two, low)

-- so the places of texts that ascend do
climbs_from : (names : List (List ℕ)) (low : ℕ) (x : List ℕ) (xs : List (List ℕ)) → TextsClimb names → TextsClimb (x ∷ xs) → ((y : List ℕ) → IsIn (x ∷ xs) y → IsIn names y) → low ≤ place names x
    → Climbs low (map (place names) (x ∷ xs))
climbs_from names low x [] climbs up each le = (le, record {})
climbs_from names low x (y ∷ xs) climbs up each le =
    (le, climbs_from names (suc (place names x)) y xs climbs up.1 (λ z there. each z (inr there)) (place_climbs names x y climbs (each x (inl refl)) (each y (inr (inl refl))) up.0))

pub places_climb : (names xs : List (List ℕ)) → TextsClimb names → TextsClimb xs → ((y : List ℕ) → IsIn xs y → IsIn names y) → Climbs 0 (map (place names) xs)
places_climb names [] climbs up each = record {}
places_climb names (x ∷ xs) climbs up each = climbs_from names 0 x xs climbs up each (omega arith)

-- ---- keys of maps

first_of : (a b : Bool) → T (a && b) → T a
first_of true b p = tt
first_of false b p = absurd p

second_of : (a b : Bool) → T (a && b) → T b
second_of true b p = p
second_of false b p = absurd p

less_of : (o : Ordering) → T (is_lt o) → o ≡ Less
less_of Less p = refl
less_of Equal p = absurd p
less_of Greater p = absurd p

pub tied : (x y : List ℕ) → eq_by_cmp cmp x y ≡ true → x ≡ y
tied x y e = slice_cmp-IsAntisymmetric nat_cmp-IsAntisymmetric x y (equal_of (cmp x y) e)
  where
    equal_of : (o : Ordering) → is_eq o ≡ true → o ≡ Equal
    equal_of Less p = absurd (false≢true p)
    equal_of Equal p = refl
    equal_of Greater p = absurd (false≢true p)

pub tied_self : (x : List ℕ) → eq_by_cmp cmp x x ≡ true
tied_self x = ap is_eq (tied_itself nat_list_cmp_total x)

module _ {X : Type 0} where
  sorted_climb : (es : List (List ℕ × X)) → T (is_sorted cmp es) → TextsClimb (map (λ e. e.0) es)
  sorted_climb [] sorted = record {}
  sorted_climb (e ∷ []) sorted = record {}
  sorted_climb (e ∷ f ∷ es) sorted = (less_of _ (first_of _ _ (first_of _ _ sorted)), sorted_climb (f ∷ es) (second_of _ _ sorted))

  -- the keys of a map ascend
  pub keys_climb : (m : FinMap cmp X) → TextsClimb (map_of.keys m)
  keys_climb m = sorted_climb (map_of.entries m) (entries_sorted m)

  pub key_in : (m : FinMap cmp X) (x : List ℕ) → is_some (map_of.get m x) ≡ true → IsIn (map_of.keys m) x
  key_in m x is = let found = passing (eq_by_cmp cmp x) (map_of.keys m) (sym (contains_key-keys m x) ∙ is) in
      subst (λ y. IsIn (map_of.keys m) y) (sym (tied x found.0 found.2)) found.1
