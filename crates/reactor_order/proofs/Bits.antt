-- Bits of words, and sets of modules as words.
use Rattle.std.proofs.Common.{◌≡◌, ◌≢◌, ℕ, ◌+◌, ◌-◌, ◌*◌, ◌/◌, ◌%◌, ◌^◌, ◌<◌, ◌≤◌, max, min, Bool, true, false, not, ◌==◌, ◌||◌, ◌&&◌, nat_eq, nat_lt, List, [], ◌∷◌, length, get_or, set, length-append, ◌++◌, refl, sym, ap, subst, ◌∙◌, arith, w64}
use Rattle.std.specs.Int.{bit_at, bit_not}
use Rattle.std.specs.Int.RustNames.{bit_or}
use lib.Bits.{bit_and}
use Rattle.std.proofs.lemmas.Bool.Decides.{nat_tests}
use Rattle.std.proofs.lemmas.Grind.{get_or-set_at}
use Rattle.std.proofs.lemmas.List.{get_or-set_other, get_or_append_left, get_or_past, get_or_push, length-set}
use Rattle.std.proofs.lemmas.Nat.Bits.{bit_at-lt, bit_at-zero, bit_at_and, bit_at_not, bit_at_or, bit_at_set_same, bit_at_set_other, shr_and_one}
use Rattle.reactor_order.specs.Rows.{is_in}

-- a bit is one of two
pub either_bit : (a b : ℕ) → a < 2 → b < 2 → nat_eq (max a b) 1 ≡ (nat_eq a 1 || nat_eq b 1)
either_bit a b la lb = by (nat_eq a 1) (nat_eq b 1) refl refl
  where
    by : (x y : Bool) → nat_eq a 1 ≡ x → nat_eq b 1 ≡ y → nat_eq (max a b) 1 ≡ (nat_eq a 1 || nat_eq b 1)
    by x y ex ey = grind (arith, nat_tests, la, lb)

pub in_both : (a b i : ℕ) → nat_eq (bit_at (bit_or a b) i) 1 ≡ (nat_eq (bit_at a i) 1 || nat_eq (bit_at b i) 1)
in_both a b i = ap (λ x. nat_eq x 1) (bit_at_or a b i) ∙ either_bit (bit_at a i) (bit_at b i) (bit_at-lt a i) (bit_at-lt b i)

-- a word that is 0 has no bit
pub no_bit : (i : ℕ) → nat_eq (bit_at 0 i) 1 ≡ false
no_bit i = ap (λ x. nat_eq x 1) (bit_at-zero i)

pub no_word : (words : List ℕ) (k : ℕ) → get_or words (k / 64) 0 ≡ 0 → is_in words k ≡ false
no_word words k none = ap (λ w. nat_eq (bit_at w (k % 64)) 1) none ∙ no_bit (k % 64)

-- a word with one bit more
pub one_more : (word place i : ℕ) → place < 64 → nat_eq (bit_at (bit_or word (1 * 2 ^ place % 2 ^ 64)) i) 1 ≡ (place == i || nat_eq (bit_at word i) 1)
one_more word place i low = by (place == i) refl
  where
    by : (b : Bool) → (place == i) ≡ b → nat_eq (bit_at (bit_or word (1 * 2 ^ place % 2 ^ 64)) i) 1 ≡ (place == i || nat_eq (bit_at word i) 1)
    by true e =
        let same : i ≡ place = grind (arith, nat_tests, e) in
        rw e (ap (λ j. nat_eq (bit_at (bit_or word (1 * 2 ^ place % 2 ^ 64)) j) 1) same ∙ ap (λ x. nat_eq x 1) (bit_at_set_same w64 word place low))
    by false e =
        let other : i ≢ place = grind (arith, nat_tests, e) in
        rw e (ap (λ x. nat_eq x 1) (bit_at_set_other w64 word place low i other))

-- the set has one module more, where its word has its bit more
pub put_in : (words : List ℕ) (k w : ℕ) → k / 64 < length words
    → ((i : ℕ) → nat_eq (bit_at w i) 1 ≡ (k % 64 == i || nat_eq (bit_at (get_or words (k / 64) 0) i) 1))
    → (j : ℕ) → is_in (set words (k / 64) w) j ≡ (k == j || is_in words j)
put_in words k w low is j = by (k / 64 == j / 64) refl
  where
    by : (b : Bool) → (k / 64 == j / 64) ≡ b → is_in (set words (k / 64) w) j ≡ (k == j || is_in words j)
    by true e =
        let same : j / 64 ≡ k / 64 = grind (arith, nat_tests, e) in
        let places : (k % 64 == j % 64) ≡ (k == j) = same_place same in
        ap (λ x. nat_eq (bit_at x (j % 64)) 1) (get_or-set_at words (k / 64) (j / 64) w 0 same low) ∙ is (j % 64)
        ∙ ap (λ b. b || nat_eq (bit_at (get_or words (k / 64) 0) (j % 64)) 1) places
        ∙ ap (λ i. k == j || nat_eq (bit_at (get_or words i 0) (j % 64)) 1) (sym same)
      where
        same_place : j / 64 ≡ k / 64 → (k % 64 == j % 64) ≡ (k == j)
        same_place same = grind (arith, nat_tests, same)
    by false e =
        let other : j / 64 ≢ k / 64 = grind (arith, nat_tests, e) in
        let apart : (k == j) ≡ false = grind (arith, nat_tests, other) in
        ap (λ x. nat_eq (bit_at x (j % 64)) 1) (get_or-set_other words (k / 64) (j / 64) w 0 other) ∙ ap (λ b. b || is_in words j) (sym apart)

-- words that were joined up to a place
pub record Joins (old more : List ℕ) (at : ℕ) (now : List ℕ) : Type 0 where
  pub long : length now ≡ length old
  pub each : (i p : ℕ) → nat_eq (bit_at (get_or now i 0) p) 1 ≡ (nat_eq (bit_at (get_or old i 0) p) 1 || (nat_lt i at && nat_eq (bit_at (get_or more i 0) p) 1))
  pub rest : (i : ℕ) → at ≤ i → get_or now i 0 ≡ get_or old i 0

or_none : (a b : Bool) → a ≡ (a || (false && b))
or_none true b = refl
or_none false b = refl

pub joins_first : (old more : List ℕ) → Joins old more 0 old
joins_first old more = record {
  long = refl;
  each = λ i p. by_none i p;
  rest = λ i low. refl;
}
  where
    by_none : (i p : ℕ) → nat_eq (bit_at (get_or old i 0) p) 1 ≡ (nat_eq (bit_at (get_or old i 0) p) 1 || (nat_lt i 0 && nat_eq (bit_at (get_or more i 0) p) 1))
    by_none i p =
        let none : nat_lt i 0 ≡ false = grind (arith, nat_tests) in
        rw none (or_none (nat_eq (bit_at (get_or old i 0) p) 1) (nat_eq (bit_at (get_or more i 0) p) 1))

pub joins_more : (old more now : List ℕ) (at w : ℕ) → at < length old → Joins old more at now
    → ((i : ℕ) → nat_eq (bit_at w i) 1 ≡ (nat_eq (bit_at (get_or now at 0) i) 1 || nat_eq (bit_at (get_or more at 0) i) 1))
    → Joins old more (at + 1) (set now at w)
joins_more old more now at w low was is = record {
  long = length-set now at w ∙ was.long;
  each = λ i p. each_more i p (i == at) refl;
  rest = λ i after. get_or-set_other now at i w 0 (omega (arith, after)) ∙ was.rest i (omega (arith, after));
}
  where
    within : at < length now
    within = omega (arith, low, was.long)

    each_more : (i p : ℕ) (b : Bool) → (i == at) ≡ b → nat_eq (bit_at (get_or (set now at w) i 0) p) 1 ≡ (nat_eq (bit_at (get_or old i 0) p) 1 || (nat_lt i (at + 1) && nat_eq (bit_at (get_or more i 0) p) 1))
    each_more i p true e =
        let same : i ≡ at = grind (arith, nat_tests, e) in
        let before : nat_lt i (at + 1) ≡ true = grind (arith, nat_tests, same) in
        rw before (ap (λ x. nat_eq (bit_at x p) 1) (get_or-set_at now at i w 0 same within) ∙ is p
        ∙ ap (λ x. nat_eq (bit_at x p) 1 || nat_eq (bit_at (get_or more at 0) p) 1) (was.rest at (omega arith))
        ∙ ap (λ j. nat_eq (bit_at (get_or old j 0) p) 1 || nat_eq (bit_at (get_or more j 0) p) 1) (sym same))
    each_more i p false e =
        let other : i ≢ at = grind (arith, nat_tests, e) in
        let before : nat_lt i (at + 1) ≡ nat_lt i at = grind (arith, nat_tests, other) in
        rw before (ap (λ x. nat_eq (bit_at x p) 1) (get_or-set_other now at i w 0 other) ∙ was.each i p)

-- at the end
pub joined : (old more now : List ℕ) (at : ℕ) → length old ≤ at → length more ≡ length old → Joins old more at now → (j : ℕ) → is_in now j ≡ (is_in old j || is_in more j)
joined old more now at end same is j = by (nat_lt (j / 64) at) refl
  where
    by : (b : Bool) → nat_lt (j / 64) at ≡ b → is_in now j ≡ (is_in old j || is_in more j)
    by true e = is.each (j / 64) (j % 64) ∙ ap (λ b. is_in old j || (b && is_in more j)) e
    by false e =
        let past : length more ≤ j / 64 = grind (arith, nat_tests, e, end, same) in
        is.each (j / 64) (j % 64) ∙ ap (λ b. is_in old j || (b && is_in more j)) e ∙ ap (λ b. is_in old j || b) (sym (no_word more j (get_or_past more (j / 64) 0 past)))

-- what is only in the first, up to a place
pub record Differs (words less now : List ℕ) (at : ℕ) : Type 0 where
  pub long : length now ≡ at
  pub each : (i p : ℕ) → i < at → p < 64 → nat_eq (bit_at (get_or now i 0) p) 1 ≡ (nat_eq (bit_at (get_or words i 0) p) 1 && not (nat_eq (bit_at (get_or less i 0) p) 1))

pub differs : (words less now : List ℕ) (at : ℕ) → length words ≤ at → Differs words less now at → (j : ℕ) → is_in now j ≡ (is_in words j && not (is_in less j))
differs words less now at end is j = by (nat_lt (j / 64) at) refl
  where
    by : (b : Bool) → nat_lt (j / 64) at ≡ b → is_in now j ≡ (is_in words j && not (is_in less j))
    by true e = is.each (j / 64) (j % 64) (grind (arith, nat_tests, e)) (omega arith)
    by false e =
        let past : at ≤ j / 64 = grind (arith, nat_tests, e) in
        no_word now j (get_or_past now (j / 64) 0 (omega (arith, past, is.long))) ∙ ap (λ b. b && not (is_in less j)) (sym (no_word words j (get_or_past words (j / 64) 0 (omega (arith, past, end)))))

-- no module of a word that is 0 is in the set
pub none_in_word : (words : List ℕ) (k j : ℕ) → k % 64 ≡ 0 → get_or words (k / 64) 0 ≡ 0 → k ≤ j → j < k + 64 → is_in words j ≡ false
none_in_word words k j first none after before =
    let same : j / 64 ≡ k / 64 = omega (arith, first, after, before) in
    no_word words j (ap (λ i. get_or words i 0) same ∙ none)

-- the test of a bit, and the bits of one word that another hasn't
pub shr_bit : (word place : ℕ) → nat_eq (bit_and (word / 2 ^ place) 1) 1 ≡ nat_eq (bit_at word place) 1
shr_bit word place = ap (λ x. nat_eq x 1) (shr_and_one word place)

only_bit : (a b : ℕ) → a < 2 → b < 2 → nat_eq (min a (1 - b)) 1 ≡ (nat_eq a 1 && not (nat_eq b 1))
only_bit a b la lb = by (nat_eq a 1) (nat_eq b 1) refl refl
  where
    by : (x y : Bool) → nat_eq a 1 ≡ x → nat_eq b 1 ≡ y → nat_eq (min a (1 - b)) 1 ≡ (nat_eq a 1 && not (nat_eq b 1))
    by x y ex ey = grind (arith, nat_tests, la, lb)

pub in_only : (a b i : ℕ) → b < 2 ^ 64 → i < 64 → nat_eq (bit_at (bit_and a (bit_not w64 b)) i) 1 ≡ (nat_eq (bit_at a i) 1 && not (nat_eq (bit_at b i) 1))
in_only a b i small low =
    ap (λ x. nat_eq x 1) (bit_at_and a (bit_not w64 b) i ∙ ap (min (bit_at a i)) (bit_at_not w64 b i small low)) ∙ only_bit (bit_at a i) (bit_at b i) (bit_at-lt a i) (bit_at-lt b i)

pub differs_first : (words less now : List ℕ) → now ≡ [] → Differs words less now 0
differs_first words less now none = record { long = ap length none; each = λ i p low small. absurd (below_none i low) }
  where
    below_none : (i : ℕ) → i < 0 → ⊥
    below_none i low = omega (arith, low)

pub differs_more : (words less now : List ℕ) (at w : ℕ) → Differs words less now at
    → ((i : ℕ) → i < 64 → nat_eq (bit_at w i) 1 ≡ (nat_eq (bit_at (get_or words at 0) i) 1 && not (nat_eq (bit_at (get_or less at 0) i) 1)))
    → Differs words less (now ++ w ∷ []) (at + 1)
differs_more words less now at w was is = record {
  long = length-append now (w ∷ []) ∙ ap (λ n. n + 1) was.long;
  each = λ i p low small. by i p low small (i == at) refl;
}
  where
    by : (i p : ℕ) → i < at + 1 → p < 64 → (t : Bool) → (i == at) ≡ t → nat_eq (bit_at (get_or (now ++ w ∷ []) i 0) p) 1 ≡ (nat_eq (bit_at (get_or words i 0) p) 1 && not (nat_eq (bit_at (get_or less i 0) p) 1))
    by i p low small true e =
        let same : i ≡ at = grind (arith, nat_tests, e) in
        ap (λ k. nat_eq (bit_at (get_or (now ++ w ∷ []) k 0) p) 1) same ∙ ap (λ x. nat_eq (bit_at x p) 1) (get_or_push now w 0 at was.long) ∙ is p small
        ∙ ap (λ k. nat_eq (bit_at (get_or words k 0) p) 1 && not (nat_eq (bit_at (get_or less k 0) p) 1)) (sym same)
    by i p low small false e =
        let before : i < at = grind (arith, nat_tests, e, low) in
        ap (λ x. nat_eq (bit_at x p) 1) (get_or_append_left now (w ∷ []) 0 i (omega (arith, before, was.long))) ∙ was.each i p before small
