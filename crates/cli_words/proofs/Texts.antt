-- Parts of a text at an ASCII byte.
use Rattle.std.proofs.Common.{◌≡◌, ℕ, ◌+◌, ◌<◌, ◌≤◌, Bool, true, false, List, [], ◌∷◌, length, get_or, take, drop, codes, nat_lt, refl, ap, subst, arith}
use Rattle.std.proofs.lemmas.Bool.Decides.{nat_tests}
use Rattle.std.specs.Str.{IsUtf8, IsCharBoundary}
use Rattle.std.proofs.lemmas.Str.{IsCharBoundary-after_ascii, IsCharBoundary-before_ascii, IsCharBoundary-end}
use Rattle.cli_words.specs.Options.{name_of, value_of}

pub name_is : (word : List ℕ) → take (length (name_of word)) word ≡ name_of word
name_is [] = refl
name_is (b ∷ word) = grind (arith, name_is word)

pub value_is : (word : List ℕ) → length (name_of word) < length word → drop (length (name_of word) + 1) word ≡ value_of word
value_is [] low = absurd (none low)
  where
    none : 0 < 0 → ⊥
    none low = omega (arith, low)
value_is (b ∷ word) low = grind (arith, value_is word, low)

pub value_is_true : (word : List ℕ) → length (name_of word) ≡ length word → value_of word ≡ codes "true"
value_is_true [] e = refl
value_is_true (b ∷ word) e = grind (arith, value_is_true word, e)

at_equals : (word : List ℕ) → length (name_of word) < length word → get_or word (length (name_of word)) 0 ≡ 61
at_equals [] low = omega (arith, low)
at_equals (b ∷ word) low = grind (arith, nat_tests, at_equals word, low)

pub name_boundary : (word : List ℕ) → IsUtf8 word → (place : ℕ) → place ≡ length (name_of word) → place ≤ length word → IsCharBoundary word place
name_boundary word utf8 place is within = by (nat_lt place (length word)) refl
  where
    by : (b : Bool) → nat_lt place (length word) ≡ b → IsCharBoundary word place
    by true e =
        let low : place < length word = grind (arith, nat_tests, e) in
        IsCharBoundary-before_ascii word place low (omega (arith, ap (λ n. get_or word n 0) is, at_equals word (omega (arith, is, low))))
    by false e =
        let end : length word ≡ place = grind (arith, nat_tests, e, within) in
        subst (IsCharBoundary word) end (IsCharBoundary-end word)

pub value_boundary : (word : List ℕ) → IsUtf8 word → (place : ℕ) → place ≡ length (name_of word) → place < length word → IsCharBoundary word (place + 1)
value_boundary word utf8 place is low = IsCharBoundary-after_ascii word place utf8 low (omega (arith, ap (λ n. get_or word n 0) is, at_equals word (omega (arith, is, low))))

-- behind a first byte that is ASCII
pub second_boundary : (word : List ℕ) → IsUtf8 word → 0 < length word → get_or word 0 0 < 128 → IsCharBoundary word 1
second_boundary word utf8 some ascii = IsCharBoundary-after_ascii word 0 utf8 some ascii

-- behind two of which the second is ASCII
pub third_boundary : (word : List ℕ) → IsUtf8 word → 1 < length word → get_or word 1 0 < 128 → IsCharBoundary word 2
third_boundary word utf8 some ascii = IsCharBoundary-after_ascii word 1 utf8 some ascii
