-- A reference means the same in bytes as in characters: no character past ASCII stands in one.
use Rattle.std.proofs.Common.{◌≡◌, ℕ, suc, ◌≤◌, ◌<◌, Bool, true, false, ◌&&◌, ◌==◌, List, [], ◌∷◌, ◌++◌, codes, length, get_or, None, refl, sym, ap, ◌∙◌, arith, if◌then◌else◌}
use Rattle.std.proofs.lemmas.Bool.{false≢true}
use Rattle.std.proofs.lemmas.Bool.Decides.{nat_tests}
use Rattle.std.proofs.lemmas.Slice.Eq.{bytes_eq-Decides}
use Rattle.std.proofs.lemmas.Str.{encodes-chars}
use Rattle.std.specs.Char.{encode_utf8, is_digit}
use Rattle.std.specs.List.{list_all}
use Rattle.std.specs.Str.{IsUtf8, bytes_eq, chars, encode_utf8_all}
use Rattle.pom_text.specs.Encodings.{is_ascii}
use Rattle.pom_text.specs.References.{allowed, entity, number, numbered, numeral, referred}
use Rattle.pom_text.proofs.Bytes.{byte_alike, some_byte}
use Rattle.pom_text.proofs.Flat.{IsFlat, ascii_flat}
use Rattle.pom_text.proofs.Fronts.{and_first, and_second}
use Rattle.pom_text.proofs.Needles.{ascii_chars, no_true}

-- whether all are of ASCII shows in the bytes
all_front : (p : ℕ → Bool) (l ys : List ℕ) (b : Bool) → ((k : ℕ) → k < length l → p (get_or l k 0) ≡ b) → 0 < length l → list_all p (l ++ ys) ≡ (b && list_all p ys)
all_front p [] ys b h some = absurd (omega (arith, some))
all_front p (x ∷ []) ys b h some = ap (λ c. c && list_all p ys) (h 0 (omega arith))
all_front p (x ∷ y ∷ l) ys b h some =
    ap (λ c. c && list_all p (y ∷ l ++ ys)) (h 0 (omega arith)) ∙ ap (λ c. b && c) (all_front p (y ∷ l) ys b (λ k low. h (suc k) (omega (arith, low))) (omega arith)) ∙ twice b
  where
    twice : (c : Bool) → (c && (c && list_all p ys)) ≡ (c && list_all p ys)
    twice true = refl
    twice false = refl

all_alike : (p : ℕ → Bool) → IsFlat p → (cs : List ℕ) → list_all p (encode_utf8_all cs) ≡ list_all p cs
all_alike p flat [] = refl
all_alike p flat (c ∷ cs) = all_front p (encode_utf8 c) (encode_utf8_all cs) (p c) (λ k low. byte_alike p flat c k low) (some_byte c) ∙ ap (λ b. p c && b) (all_alike p flat cs)

-- what has a character past ASCII means nothing
digit_low : (radix c : ℕ) → radix ≤ 36 → is_digit c radix ≡ true → is_ascii c ≡ true
digit_low radix c most is = grind (arith, nat_tests, most, is)

digits_low : (radix : ℕ) (digits : List ℕ) → radix ≤ 36 → list_all (λ d. is_digit d radix) digits ≡ true → list_all is_ascii digits ≡ true
digits_low radix [] most all = refl
digits_low radix (d ∷ digits) most all =
    ap (λ b. b && list_all is_ascii digits) (digit_low radix d most (and_first (is_digit d radix) (list_all (λ x. is_digit x radix) digits) all))
    ∙ digits_low radix digits most (and_second (is_digit d radix) (list_all (λ x. is_digit x radix) digits) all)

numbered_high : (radix : ℕ) (digits : List ℕ) → radix ≤ 36 → list_all is_ascii digits ≡ false → numbered radix digits ≡ None
unfolding numbered
numbered_high radix [] most high = refl
numbered_high radix (d ∷ digits) most high =
    let away = no_true (list_all (λ x. is_digit x radix) (d ∷ digits)) (λ yes. false≢true (sym high ∙ digits_low radix (d ∷ digits) most yes)) in
    ap (λ b. if b then allowed (number radix (d ∷ digits)) else None) away

numeral_high : (text : List ℕ) → list_all is_ascii text ≡ false → numeral text ≡ None
unfolding numeral
numeral_high [] high = refl
numeral_high (c ∷ digits) high = by (c == 120) refl
  where
    low : c ≡ 120 → list_all is_ascii digits ≡ false
    low same = sym (ap (λ x. is_ascii x && list_all is_ascii digits) same) ∙ high

    by : (b : Bool) → (c == 120) ≡ b → (if b then numbered 16 digits else numbered 10 (c ∷ digits)) ≡ None
    by true e =
        let same : c ≡ 120 = grind (arith, nat_tests, e) in
        numbered_high 16 digits (omega arith) (low same)
    by false e = numbered_high 10 (c ∷ digits) (omega arith) high

not_named : (name word : List ℕ) → list_all is_ascii name ≡ false → list_all is_ascii word ≡ true → bytes_eq name word ≡ false
not_named name word high low = no_true (bytes_eq name word) (λ yes.
    let same = (bytes_eq-Decides name word).0 yes in
    false≢true (sym high ∙ ap (list_all is_ascii) same ∙ low))

entity_high : (name : List ℕ) → list_all is_ascii name ≡ false → entity name ≡ None
unfolding entity
entity_high name high =
    rw (not_named name (codes "lt") high refl, not_named name (codes "gt") high refl, not_named name (codes "amp") high refl, not_named name (codes "quot") high refl, not_named name (codes "apos") high refl) refl

referred_high : (name : List ℕ) → list_all is_ascii name ≡ false → referred name ≡ None
unfolding referred
referred_high [] high = refl
referred_high (c ∷ name) high = by (c == 35) refl
  where
    by : (b : Bool) → (c == 35) ≡ b → (if b then numeral name else entity (c ∷ name)) ≡ None
    by true e =
        let same : c ≡ 35 = grind (arith, nat_tests, e) in
        numeral_high name (sym (ap (λ x. is_ascii x && list_all is_ascii name) same) ∙ high)
    by false e = entity_high (c ∷ name) high

pub same_meaning : (bs : List ℕ) → IsUtf8 bs → referred bs ≡ referred (chars bs)
same_meaning bs u = by (list_all is_ascii bs) refl
  where
    alike : list_all is_ascii (chars bs) ≡ list_all is_ascii bs
    alike = sym (all_alike is_ascii ascii_flat (chars bs)) ∙ ap (list_all is_ascii) (encodes-chars bs u)

    by : (b : Bool) → list_all is_ascii bs ≡ b → referred bs ≡ referred (chars bs)
    by true e = ap referred (sym (ascii_chars bs e))
    by false e = referred_high bs e ∙ sym (referred_high (chars bs) (alike ∙ e))
