-- Spaces round a word.
use Rattle.std.proofs.Common.{◌≡◌, ℕ, zero, suc, ◌+◌, ◌-◌, ◌<◌, ◌≤◌, Bool, true, false, ◌==◌, List, [], ◌∷◌, ◌++◌, length, get_or, take, drop, drop-cons, refl, sym, ap, ◌∙◌, arith}
use Rattle.std.proofs.lemmas.Bool.Decides.{nat_tests}
use Rattle.std.proofs.lemmas.List.{take_more}
use Rattle.std.specs.Str.{IsUtf8, IsCharBoundary}
use Rattle.std.proofs.lemmas.Str.{IsCharBoundary-after_ascii, IsCharBoundary-before_ascii}
use Rattle.versions.specs.Requirements.{after_spaces, before_space, before_spaces}

pub after_one : (word : List ℕ) (at : ℕ) → at < length word → get_or word at 0 ≡ 32 → after_spaces (drop (at + 1) word) ≡ after_spaces (drop at word)
after_one word at low space =
    let one : at + 1 ≡ suc at = omega arith in
    ap (λ n. after_spaces (drop n word)) one ∙ sym (ap after_spaces (drop-cons word at 0 low) ∙ ap (λ b. after_spaces (b ∷ drop (suc at) word)) space)

pub boundary_after : (word : List ℕ) (at : ℕ) → IsUtf8 word → at < length word → get_or word at 0 ≡ 32 → IsCharBoundary word (at + 1)
boundary_after word at utf8 low space = IsCharBoundary-after_ascii word at utf8 low (omega (arith, space))

before_one : (word : List ℕ) → before_spaces (word ++ 32 ∷ []) ≡ before_spaces word
before_one [] = refl
before_one (b ∷ word) = ap (before_space b) (before_one word)

before_full : (b c : ℕ) (word : List ℕ) → before_space b (word ++ c ∷ []) ≡ b ∷ word ++ c ∷ []
before_full b c [] = refl
before_full b c (d ∷ word) = refl

before_none : (word : List ℕ) (c : ℕ) → (c == 32) ≡ false → before_spaces (word ++ c ∷ []) ≡ word ++ c ∷ []
before_none [] c full = rw full refl
before_none (b ∷ word) c full = ap (before_space b) (before_none word c full) ∙ before_full b c word

front_last : (word : List ℕ) (end : ℕ) → 0 < end → end ≤ length word → take end word ≡ take (end - 1) word ++ get_or word (end - 1) 0 ∷ []
front_last word end some low =
    let whole : end - 1 + 1 ≡ end = omega (arith, some) in
    ap (λ n. take n word) (sym whole) ∙ take_more word (end - 1) 0 (omega (arith, some, low))

pub before_last : (word : List ℕ) (end : ℕ) → 0 < end → end ≤ length word → get_or word (end - 1) 0 ≡ 32 → before_spaces (take (end - 1) word) ≡ before_spaces (take end word)
before_last word end some low space = sym (ap before_spaces (front_last word end some low) ∙ ap (λ b. before_spaces (take (end - 1) word ++ b ∷ [])) space ∙ before_one (take (end - 1) word))

pub boundary_before : (word : List ℕ) (end : ℕ) → 0 < end → end ≤ length word → get_or word (end - 1) 0 ≡ 32 → IsCharBoundary word (end - 1)
boundary_before word end some low space = IsCharBoundary-before_ascii word (end - 1) (omega (arith, some, low)) (omega (arith, space))

other : (b : ℕ) → (b ≡ 32 → ⊥) → (b == 32) ≡ false
other b unlike = by (b == 32) refl
  where
    by : (t : Bool) → (b == 32) ≡ t → (b == 32) ≡ false
    by true e = absurd (unlike (grind (arith, nat_tests, e)))
    by false e = e

pub before_end : (word : List ℕ) (end : ℕ) → end ≤ length word → (0 < end → get_or word (end - 1) 0 ≡ 32 → ⊥) → before_spaces (take end word) ≡ take end word
before_end word zero low full = refl
before_end word (suc n) low full =
    let some : 0 < suc n = omega arith in
    let e = front_last word (suc n) some low in
    ap before_spaces e ∙ before_none (take (suc n - 1) word) (get_or word (suc n - 1) 0) (other (get_or word (suc n - 1) 0) (full some)) ∙ sym e
