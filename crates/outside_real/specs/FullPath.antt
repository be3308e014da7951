-- A path of the system. Own rule.
use Rattle.std.specs.Prelude.{ℕ, ◌==◌, List, ◌∷◌, ◌++◌, length, if◌then◌else◌}

-- a path below a folder; the empty path is the folder's own
abbrev pub full_path : List ℕ → List ℕ → List ℕ
full_path root path = if length path == 0 then root else root ++ 47 ∷ path
