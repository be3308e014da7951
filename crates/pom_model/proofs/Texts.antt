-- Texts that are found equal.
use Rattle.std.proofs.Common.{◌≡◌, ◌≤◌, ◌-◌, ℕ, zero, suc, Bool, true, false, List, [], ◌∷◌, length, take, drop, refl, sym, ap, ◌∙◌, arith}
use Rattle.std.specs.Char.{is_ascii_whitespace}
use Rattle.std.specs.List.{prefix_len, suffix_len}
use Rattle.std.specs.Str.{bytes_eq}
use Rattle.std.proofs.lemmas.List.{length-drop, length-take-le, take_all}
use Rattle.std.proofs.lemmas.Slice.Eq.{bytes_eq-Decides}
use Rattle.pom_model.specs.Elements.{trimmed}

-- texts that are found equal are one
pub is_same : (text other : List ℕ) → bytes_eq text other ≡ true → text ≡ other
is_same text other same = (bytes_eq-Decides text other).0 same

-- texts of two lengths differ
by_result : (text other : List ℕ) (same : Bool) → bytes_eq text other ≡ same → (length text ≡ length other → ⊥) → false ≡ same
by_result text other false is differ = refl
by_result text other true is differ = absurd (differ (ap length (is_same text other is)))

pub other_length : (text other : List ℕ) → (length text ≡ length other → ⊥) → false ≡ bytes_eq text other
other_length text other differ = by_result text other (bytes_eq text other) refl differ

-- what is as long without its front has none before it
drop_whole : (n : ℕ) (xs : List ℕ) → length xs ≤ length xs - n → drop n xs ≡ xs
drop_whole zero xs long = refl
drop_whole (suc n) [] long = refl
drop_whole (suc n) (x ∷ xs) long = absurd (omega (arith, long))

without_whole : (n : ℕ) (text rest : List ℕ) → rest ≡ drop n text → (m : ℕ) → length text ≡ length (take (length rest - m) rest) → text ≡ take (length rest - m) rest
without_whole n text rest is m long =
    let low : length rest - m ≤ length rest = omega arith in
    let short = length-take-le (length rest - m) rest low in
    let behind = ap length is ∙ length-drop n text in
    sym (take_all (length rest - m) rest (omega (arith, long, short, behind)) ∙ is ∙ drop_whole n text (omega (arith, long, short, behind)))

-- a text that is as long without the white space round it has none
pub is_whole : (text inside : List ℕ) → inside ≡ trimmed text → length text ≡ length inside → text ≡ inside
unfolding trimmed
is_whole text inside is long =
    let rest = drop (prefix_len is_ascii_whitespace text) text in
    without_whole (prefix_len is_ascii_whitespace text) text rest refl (suffix_len is_ascii_whitespace rest) (long ∙ ap length is) ∙ sym is
