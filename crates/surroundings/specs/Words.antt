-- The words that the program answers itself. Own rule.
use Rattle.std.specs.Prelude.{ℕ, Bool, false, ◌||◌, nat_eq, List, [], ◌∷◌, codes}
use Rattle.std.specs.Cmp.Lexicographic.{pointwise}

-- there is one word, and it is one of the two
abbrev pub is_only_word : List (List ℕ) → List ℕ → List ℕ → Bool
is_only_word [] short long = false
is_only_word (word ∷ []) short long = pointwise nat_eq word short || pointwise nat_eq word long
is_only_word (word ∷ next ∷ more) short long = false
