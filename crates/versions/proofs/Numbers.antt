-- The zeros before a number.
use Rattle.std.proofs.Common.{◌≡◌, ℕ, ◌+◌, ◌-◌, ◌≤◌, List, [], ◌∷◌, take, drop, refl, sym, ap, ◌∙◌, drop-drop, arith}
use Rattle.std.proofs.lemmas.List.{drop-take}
use Rattle.versions.specs.Tokens.{without_zeros, zero_count}

without_is : (digits : List ℕ) → without_zeros digits ≡ drop (zero_count digits) digits
without_is [] = refl
without_is (b ∷ digits) = grind (arith, without_is digits)

-- the digits of a number that stands in a text
pub digits_in : (text : List ℕ) (start len zeros : ℕ) → zeros ≡ zero_count (take len (drop start text)) → zeros ≤ len → take (len - zeros) (drop (start + zeros) text) ≡ without_zeros (take len (drop start text))
digits_in text start len zeros e low =
    let all : zeros + (len - zeros) ≡ len = omega arith in
    ap (take (len - zeros)) (sym (drop-drop zeros start text)) ∙ sym (drop-take zeros (len - zeros) (drop start text))
    ∙ ap (λ n. drop zeros (take n (drop start text))) all ∙ ap (λ z. drop z (take len (drop start text))) e ∙ sym (without_is (take len (drop start text)))
