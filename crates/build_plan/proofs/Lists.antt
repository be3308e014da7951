-- Items of lists, by their places.
use Rattle.std.proofs.Common.{◌≡◌, ℕ, zero, suc, ◌<◌, true, false, Bool, ◌||◌, ◌==◌, List, [], ◌∷◌, ◌++◌, length, Option, Some, None, filter_map, slice_get, refl, sym, ap, subst, ◌∙◌, arith}
use Rattle.std.proofs.lemmas.Bool.Decides.{nat_tests}
use Rattle.std.proofs.lemmas.List.{append_assoc, append-nil}
use Rattle.std.proofs.lemmas.List.Elements.{filter_map-append}
use Rattle.std.specs.List.{AllByRecursion, cons_option}
use Rattle.reactor_order.specs.Graph.{AreBelow, has}

-- one after another
pub one_by_one : {A B : Type 0} (f : A → Option B) (list : List B) (x : A) (xs : List A) → (list ++ filter_map f (x ∷ [])) ++ filter_map f xs ≡ list ++ filter_map f (x ∷ xs)
one_by_one f list x xs = append_assoc list (filter_map f (x ∷ [])) (filter_map f xs) ∙ ap (λ l. list ++ l) (sym (filter_map-append f (x ∷ []) xs))

-- no item more
pub none_more : {A : Type 0} (xs : List A) (o : Option A) → o ≡ None → xs ≡ xs ++ cons_option o []
none_more xs o is = rw is (sym (append-nil xs))

some_is : {A : Type 0} (a b : A) → Some a ≡ Some b → a ≡ b
some_is {A} a b e = ap of e
  where
    of : Option A → A
    of None = a
    of (Some x) = x

-- what holds at each place holds of all
pub all_at : {A : Type 0} (P : A → Type 0) (xs : List A) → ((place : ℕ) (x : A) → slice_get xs place ≡ Some x → P x) → AllByRecursion P xs
all_at P [] each = tt
all_at P (x ∷ xs) each = (each 0 x refl, all_at P xs (λ place y at. each (suc place) y at))

-- and the other way
pub each_at : {A : Type 0} (P : A → Type 0) (xs : List A) → AllByRecursion P xs → (place : ℕ) (x : A) → slice_get xs place ≡ Some x → P x
each_at P [] all place x at = absurd (none at)
  where
    none : slice_get [] place ≡ Some x → ⊥
    none e = cc
each_at P (y ∷ xs) all zero x at = subst P (some_is y x at) all.0
each_at P (y ∷ xs) all (suc place) x at = each_at P xs all.1 place x at

there : {A : Type 0} (xs : List A) (n : ℕ) → n < length xs → (x : A) × (slice_get xs n ≡ Some x)
there [] n low = absurd (omega (arith, low))
there (x ∷ xs) zero low = (x, refl)
there (x ∷ xs) (suc n) low = there xs n (omega (arith, low))

one_there : {A B : Type 0} (f : A → Option B) (x : A) (y : B) (xs : List A) → f x ≡ Some y → length (filter_map f (x ∷ xs)) ≡ suc (length (filter_map f xs))
one_there f x y xs is = rw is refl

-- an item for each place that is one of the list's
pub as_many : {A : Type 0} (xs : List A) (places : List ℕ) → AreBelow (length xs) places → length (filter_map (λ n. slice_get xs n) places) ≡ length places
as_many xs [] below = refl
as_many xs (n ∷ places) below =
    let same : (n == n) ≡ true = grind (arith, nat_tests) in
    let low : n < length xs = below n (ap (λ b. b || has places n) same) in
    let item = there xs n low in
    let rest = as_many xs places (λ m is. below m (or_later (n == m) (has places m) is)) in
    one_there (λ n. slice_get xs n) n item.0 places item.1 ∙ ap suc rest
  where
    or_later : (a b : Bool) → b ≡ true → (a || b) ≡ true
    or_later true b e = refl
    or_later false b e = e
