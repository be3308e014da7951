-- Laws of first places.
use Rattle.std.proofs.Common.{◌≡◌, ℕ, suc, ◌+◌, Bool, true, false, cond, not, ◌||◌, List, [], ◌∷◌, length, Option, Some, None, is_some, refl, sym, ap, ◌∙◌, arith}
use Rattle.std.specs.List.{list_any, position_from, position_or_len}
use Rattle.std.specs.Option.{option_or}
use Rattle.std.specs.Prelude.{unwrap_or}
use Rattle.std.specs.HashMap.{HashMap, get}
use Rattle.module_plan.specs.Places.{HasPlaces}

-- one more place, before those of the rest
pub joined : (a : Option ℕ) (b : Bool) (at : ℕ) (rest : Option ℕ) → option_or (option_or a (cond b (Some at) None)) rest ≡ option_or a (cond b (Some at) rest)
joined (Some x) b at rest = refl
joined None true at rest = refl
joined None false at rest = refl

-- a place is found exactly where some item passes
some_at : {A : Type 0} (p : A → Bool) (i : ℕ) (xs : List A) → is_some (position_from p i xs) ≡ list_any p xs
some_at p i [] = refl
some_at p i (x ∷ xs) = by (p x) (some_at p (i + 1) xs)
  where
    by : (b : Bool) → is_some (position_from p (i + 1) xs) ≡ list_any p xs → is_some (cond b (Some i) (position_from p (i + 1) xs)) ≡ (b || list_any p xs)
    by true h = refl
    by false h = h

pub some_from : {A : Type 0} (p : A → Bool) (xs : List A) → is_some (position_from p 0 xs) ≡ list_any p xs
some_from p xs = some_at p 0 xs

place_from : {A : Type 0} (p : A → Bool) (i : ℕ) (xs : List A) → unwrap_or (position_from p i xs) (i + length xs) ≡ i + position_or_len p xs
place_from p i [] = refl
place_from p i (x ∷ xs) = by (p x) (place_from p (i + 1) xs)
  where
    by : (b : Bool) → unwrap_or (position_from p (i + 1) xs) (i + 1 + length xs) ≡ i + 1 + position_or_len p xs
        → unwrap_or (cond b (Some i) (position_from p (i + 1) xs)) (i + suc (length xs)) ≡ i + cond (not b) (1 + position_or_len p xs) 0
    by true h = omega arith
    by false h =
        let one : i + suc (length xs) ≡ i + 1 + length xs = omega arith in
        let two : i + 1 + position_or_len p xs ≡ i + (1 + position_or_len p xs) = omega arith in
        ap (λ n. unwrap_or (position_from p (i + 1) xs) n) one ∙ h ∙ two

-- what is found, or else the length, is the first place or the length
pub place_of : {A : Type 0} (p : A → Bool) (xs : List A) → unwrap_or (position_from p 0 xs) (length xs) ≡ position_or_len p xs
place_of p xs =
    let long : length xs ≡ 0 + length xs = omega arith in
    let near : 0 + position_or_len p xs ≡ position_or_len p xs = omega arith in
    ap (λ n. unwrap_or (position_from p 0 xs) n) long ∙ place_from p 0 xs ∙ near

-- so a map that has the first places has them for both questions
pub has_places : {K S : Type 0} (eq : K → K → Bool) (items : List K) (map : HashMap K ℕ S) → ((q : K) → get eq map q ≡ position_from (eq q) 0 items) → HasPlaces eq items map
has_places eq items map is = record {
  place = λ q. ap (λ o. unwrap_or o (length items)) (is q) ∙ place_of (eq q) items;
  there = λ q. ap is_some (is q) ∙ some_from (eq q) items;
}
