-- The numbers of files.
use Rattle.std.proofs.Common.{◌≡◌, ℕ, suc, ◌+◌, ◌<◌, ◌≤◌, Bool, true, false, cond, not, nat_lt, List, [], ◌∷◌, length, map, Option, Some, None, refl, sym, ap, ◌∙◌, arith}
use Rattle.std.proofs.lemmas.Bool.{le-ltb, ltb-false}
use Rattle.std.specs.List.{position, position_or_len}
use Rattle.std.specs.Map.{keys_of}
use Rattle.std.specs.Prelude.{unwrap_or}
use Rattle.std.specs.Str.{bytes_eq}
use Rattle.classpaths.specs.Classpaths.{twice}
use Rattle.module_plan.specs.Numbers.{number_of}

keys_twice : (names : List (List ℕ)) → keys_of (twice names) ≡ names
keys_twice [] = refl
keys_twice (x ∷ names) = ap (λ l. x ∷ l) (keys_twice names)

length_twice : (names : List (List ℕ)) → length (twice names) ≡ length names
length_twice [] = refl
length_twice (x ∷ names) = ap suc (length_twice names)

within : {A : Type 0} (p : A → Bool) (xs : List A) → position_or_len p xs ≤ length xs
within p [] = omega arith
within p (x ∷ xs) = by (p x) (within p xs)
  where
    by : (b : Bool) → position_or_len p xs ≤ length xs → cond (not b) (1 + position_or_len p xs) 0 ≤ suc (length xs)
    by true h = omega arith
    by false h = omega (arith, h)

-- a place in a list that isn't long fits into 32 bits
pub small_place : {A : Type 0} (p : A → Bool) (xs : List A) (n : ℕ) → n ≡ position_or_len p xs → length xs < 4294967296 → n < 4294967296
small_place p xs n is few = omega (arith, within p xs, is, few)

place_or_end : {A : Type 0} (p : A → Bool) (xs : List A) → unwrap_or (position p xs) (length xs) ≡ position_or_len p xs
place_or_end p xs = by (nat_lt (position_or_len p xs) (length xs)) refl
  where
    by : (b : Bool) → nat_lt (position_or_len p xs) (length xs) ≡ b → unwrap_or (cond b (Some (position_or_len p xs)) None) (length xs) ≡ position_or_len p xs
    by true e = refl
    by false e = omega (arith, within p xs, ltb-false (position_or_len p xs) (length xs) e)

-- the place among the keys, or else the end, is the number
pub number_is : (entries : List (List ℕ × List ℕ)) (name : List ℕ) (found : Option ℕ) (end : ℕ) → entries ≡ twice (map (λ e. e.1) entries)
    → found ≡ position (bytes_eq name) (keys_of entries) → end ≡ length entries → unwrap_or found end ≡ number_of (map (λ e. e.1) entries) name
number_is entries name found end kept is long =
    let names = map (λ e. e.1) entries in
    let keys : keys_of entries ≡ names = ap keys_of kept ∙ keys_twice names in
    let count : length entries ≡ length names = ap length kept ∙ length_twice names in
    ap (λ o. unwrap_or o end) (is ∙ ap (position (bytes_eq name)) keys) ∙ ap (λ n. unwrap_or (position (bytes_eq name) names) n) (long ∙ count) ∙ place_or_end (bytes_eq name) names
