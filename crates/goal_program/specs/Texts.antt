-- Cutting texts. Own rule.
use Rattle.std.specs.Prelude.{ℕ, ◌==◌, nat_eq, nat_lt, List, [], ◌∷◌, ◌++◌, length, drop, Option, Some, None, if◌then◌else◌}
use Rattle.std.specs.Option.{option_or}
use Rattle.std.specs.List.{starts_with, position_or_len, before_first, after_first}

-- what stands before the first such byte, and behind it
abbrev pub cut : ℕ → List ℕ → Option (List ℕ × List ℕ)
cut c text =
    if nat_lt (position_or_len (λ b. b == c) text) (length text) then Some (before_first (λ b. b == c) text, after_first (λ b. b == c) text) else None

-- what stands behind a front, where the text has it
abbrev pub behind : List ℕ → List ℕ → Option (List ℕ)
behind front text = if starts_with nat_eq text front then Some (drop (length front) text) else None

-- each way to cut a text at such a byte: what stands before it, behind this front, and what stands behind it
abbrev pub cuts : ℕ → List ℕ → List ℕ → List (List ℕ × List ℕ)
cuts c front [] = []
cuts c front (b ∷ text) = if b == c then (front, text) ∷ cuts c (front ++ b ∷ []) text else cuts c (front ++ b ∷ []) text

-- the first that is something
abbrev pub first_some : {A B : Type 0} → (A → Option B) → List A → Option B
first_some f [] = None
first_some f (x ∷ xs) = option_or (f x) (first_some f xs)
