-- A text that is looked through for `${`.
use Rattle.std.proofs.Common.{◌≡◌, ℕ, Bool, false, ◌==◌, ◌&&◌, ◌||◌, List, [], ◌∷◌, refl, arith}
use Rattle.mvn_base.specs.Names.{has_expression}

-- whether an expression opens in the text, or with a dollar that stands before it
abbrev pub opens_expression : Bool → List ℕ → Bool
opens_expression after_dollar [] = false
opens_expression after_dollar (b ∷ text) = (after_dollar && (b == 123)) || has_expression (b ∷ text)

-- one byte further
pub opens_more : (after_dollar : Bool) (b : ℕ) (text : List ℕ) → (after_dollar && (b == 123)) ≡ false → opens_expression (b == 36) text ≡ opens_expression after_dollar (b ∷ text)
opens_more after_dollar b [] none = grind (arith, none)
opens_more after_dollar b (c ∷ text) none = grind (arith, none)

pub opens_none : (text : List ℕ) → opens_expression false text ≡ has_expression text
opens_none [] = refl
opens_none (b ∷ text) = refl
