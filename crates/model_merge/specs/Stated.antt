-- What is stated, or else inherited. POM Reference, "Inheritance".
use Rattle.std.specs.Prelude.{ℕ, List, [], ◌∷◌}

-- a list that states something, or else the inherited one
abbrev pub stated_or : List (List ℕ) → List (List ℕ) → List (List ℕ)
stated_or [] inherited = inherited
stated_or (x ∷ own) inherited = x ∷ own
