-- A word that grows by a byte.
use Rattle.std.proofs.Common.{◌≡◌, ℕ, ◌+◌, ◌-◌, ◌<◌, ◌≤◌, List, [], ◌∷◌, ◌++◌, length, get_or, take, drop, ap, ◌∙◌, length-drop, arith}
use Rattle.std.proofs.lemmas.List.{take_more, get_or-drop}
use Rattle.std.specs.Str.{IsUtf8}
use Rattle.std.proofs.lemmas.Str.{IsCharBoundary-after_ascii}
use Rattle.versions.specs.Stands.{since, Begins}

pub since_more : (text : List ℕ) (start at : ℕ) → start ≤ at → at < length text → since text start (at + 1) ≡ since text start at ++ get_or text at 0 ∷ []
since_more text start at low within =
    let count : at + 1 - start ≡ at - start + 1 = omega (arith, low) in
    let whole : start + (at - start) ≡ at = omega (arith, low) in
    ap (λ n. take n (drop start text)) count ∙ take_more (drop start text) (at - start) 0 (omega (arith, low, within, length-drop start text))
    ∙ ap (λ b. since text start at ++ b ∷ []) (get_or-drop start text (at - start) 0 ∙ ap (λ n. get_or text n 0) whole)

pub since-none : (text : List ℕ) (at : ℕ) → since text (at + 1) (at + 1) ≡ []
since-none text at = let none : at + 1 - (at + 1) ≡ 0 = omega arith in ap (λ n. take n (drop (at + 1) text)) none

-- a word begins behind a bracket or a comma
pub begins : (text : List ℕ) (at : ℕ) → IsUtf8 text → at < length text → get_or text at 0 < 128 → Begins text (at + 1) (at + 1)
begins text at utf8 low ascii = record { no_later = omega arith; boundary = IsCharBoundary-after_ascii text at utf8 low ascii }
