-- Items that are taken one after another.
use Rattle.std.proofs.Common.{◌≡◌, ℕ, zero, suc, ◌+◌, ◌<◌, Bool, true, false, ◌||◌, ◌==◌, List, [], ◌∷◌, ◌++◌, drop, get_or, is_some, length, map, set, slice_get, Option, None, Some, append_assoc, refl, sym, ap, ◌∙◌, arith}
use Rattle.std.proofs.lemmas.Bool.{false≢true}
use Rattle.std.proofs.lemmas.Bool.Decides.{nat_tests}
use Rattle.std.proofs.lemmas.List.{drop_more, get_or-set_other, length-set}
use Rattle.std.specs.List.{AllByRecursion, IsDistinct}
use Rattle.std.specs.Prelude.{nat_eq}
use Rattle.reactor_order.specs.Graph.{has}
use Rattle.reactor_order.proofs.Marking.{has_at}
use Rattle.built_modules.specs.Picks.{ArePicked, slot_at}

-- ---- a number stands once

not_in : (x : ℕ) (xs : List ℕ) → AllByRecursion (λ y. nat_eq x y ≡ false) xs → has xs x ≡ false
not_in x [] all = refl
not_in x (y ∷ xs) all =
    let other : (y == x) ≡ false = grind (arith, nat_tests, all.0) in
    ap (λ b. b || has xs x) other ∙ not_in x xs all.1

once_at : (places : List ℕ) (i : ℕ) → IsDistinct nat_eq places → i < length places → has (drop (suc i) places) (get_or places i 0) ≡ false
unfolding IsDistinct
once_at [] i once low = absurd (omega (arith, low))
once_at (x ∷ places) zero once low = not_in x places once.0
once_at (x ∷ places) (suc i) once low = once_at places i once.1 (omega (arith, low))

-- ---- what is left after one is taken

module _ {A : Type 0} (places : List ℕ) (old : List (Option A)) where
  pub record IsTaking (i : ℕ) (slots : List (Option A)) (list : List A) : Type 0 where
    pub long : length slots ≡ length old
    pub rest : (m : ℕ) → has (drop i places) m ≡ true → slot_at slots m ≡ slot_at old m
    pub done : map Some list ++ map (slot_at old) (drop i places) ≡ map (slot_at old) places

pub taking_next : {A : Type 0} (places : List ℕ) (old slots : List (Option A)) (i : ℕ) (list : List A) (item : A) → IsDistinct nat_eq places → i < length places
    → IsTaking places old i slots list → slot_at slots (get_or places i 0) ≡ Some item → IsTaking places old (i + 1) (set slots (get_or places i 0) None) (list ++ item ∷ [])
taking_next {A} places old slots i list item once low t is = record {
  long = length-set slots (get_or places i 0) None ∙ t.long;
  rest = rest;
  done = done;
}
  where
    p : ℕ
    p = get_or places i 0

    one : i + 1 ≡ suc i
    one = omega arith

    front : drop i places ≡ p ∷ drop (i + 1) places
    front = drop_more places i 0 low

    here : has (drop i places) p ≡ true
    here = let same : (p == p) ≡ true = grind (arith, nat_tests) in ap (λ l. has l p) front ∙ ap (λ b. b || has (drop (i + 1) places) p) same

    absent : has (drop (i + 1) places) p ≡ false
    absent = ap (λ k. has (drop k places) p) one ∙ once_at places i once low

    rest : (m : ℕ) → has (drop (i + 1) places) m ≡ true → slot_at (set slots p None) m ≡ slot_at old m
    rest m there = by (m == p) refl
      where
        by : (b : Bool) → (m == p) ≡ b → slot_at (set slots p None) m ≡ slot_at old m
        by true e = let same : m ≡ p = grind (arith, nat_tests, e) in absurd (false≢true (sym absent ∙ sym (ap (λ k. has (drop (i + 1) places) k) same) ∙ there))
        by false e =
            get_or-set_other slots p m None None (grind (arith, nat_tests, e))
            ∙ t.rest m (ap (λ l. has l m) front ∙ or_right (p == m) (has (drop (i + 1) places) m) there)
          where
            or_right : (a b : Bool) → b ≡ true → (a || b) ≡ true
            or_right true b e = refl
            or_right false b e = e

    some : {X Y : Type 0} (f : X → Y) (xs ys : List X) → map f (xs ++ ys) ≡ map f xs ++ map f ys
    some f [] ys = refl
    some f (x ∷ xs) ys = ap (λ l. f x ∷ l) (some f xs ys)

    value : slot_at old p ≡ Some item
    value = sym (t.rest p here) ∙ is

    done : map Some (list ++ item ∷ []) ++ map (slot_at old) (drop (i + 1) places) ≡ map (slot_at old) places
    done =
        ap (λ l. l ++ map (slot_at old) (drop (i + 1) places)) (some Some list (item ∷ []))
        ∙ append_assoc (map Some list) (Some item ∷ []) (map (slot_at old) (drop (i + 1) places))
        ∙ ap (λ o. map Some list ++ (o ∷ map (slot_at old) (drop (i + 1) places))) (sym value)
        ∙ ap (λ l. map Some list ++ map (slot_at old) l) (sym front)
        ∙ t.done

-- the next is there still
pub still_there : {A : Type 0} (places : List ℕ) (old slots : List (Option A)) (i : ℕ) (list : List A) → i < length places → ((m : ℕ) → has places m ≡ true → is_some (slot_at old m) ≡ true)
    → IsTaking places old i slots list → is_some (slot_at slots (get_or places i 0)) ≡ true
still_there places old slots i list low there t =
    let front = drop_more places i 0 low in
    let same : (get_or places i 0 == get_or places i 0) ≡ true = grind (arith, nat_tests) in
    let here = ap (λ l. has l (get_or places i 0)) front ∙ ap (λ b. b || has (drop (i + 1) places) (get_or places i 0)) same in
    ap is_some (t.rest (get_or places i 0) here) ∙ there (get_or places i 0) (has_at places i 0 low)

-- ---- all of a list can be taken

at_some : {A : Type 0} (items : List A) (m : ℕ) → slot_at (map Some items) m ≡ slice_get items m
at_some [] m = refl
at_some (x ∷ items) zero = refl
at_some (x ∷ items) (suc m) = at_some items m

pub all_there : {A : Type 0} (items : List A) (m : ℕ) → m < length items → is_some (slot_at (map Some items) m) ≡ true
all_there [] m low = absurd (omega (arith, low))
all_there (x ∷ items) zero low = refl
all_there (x ∷ items) (suc m) low = all_there items m (omega (arith, low))

pub picked_of : {A : Type 0} (items : List A) (places : List ℕ) (list : List A) → map Some list ≡ map (slot_at (map Some items)) places → ArePicked items places list
picked_of items places list e = e ∙ each places
  where
    each : (ps : List ℕ) → map (slot_at (map Some items)) ps ≡ map (slice_get items) ps
    each [] = refl
    each (p ∷ ps) = ap (λ o. o ∷ map (slot_at (map Some items)) ps) (at_some items p) ∙ ap (λ l. slice_get items p ∷ l) (each ps)
