-- The last line of a text.
use Rattle.std.specs.Prelude.{ℕ, Bool, false, ◌==◌, List, [], ◌∷◌, ◌++◌, fold, if◌then◌else◌}

-- a line so far, and whether a line feed ended it: one byte more goes on with it, or begins the next
abbrev pub next : List ℕ × Bool → ℕ → List ℕ × Bool
next line b = ((if line.1 then b ∷ [] else line.0 ++ b ∷ []), b == 10)

abbrev pub last_line : List ℕ → List ℕ
last_line text = (fold next ([], false) text).0
