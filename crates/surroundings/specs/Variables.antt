-- What a variable of the environment stands for. Own rule.
use Rattle.std.specs.Prelude.{ℕ, List, [], ◌∷◌, Option, Some, None}

-- its value, or another text where it is absent or empty
abbrev pub value_or : Option (List ℕ) → List ℕ → List ℕ
value_or None other = other
value_or (Some []) other = other
value_or (Some (b ∷ more)) other = b ∷ more
