-- The folders on the way to a name, and the sets that they are noted in. Own rules.
use Rattle.std.specs.Prelude.{◌≡◌, ℕ, Bool, true, ◌||◌, ◌==◌, List, [], ◌∷◌, ◌++◌, map, if◌then◌else◌}
use Rattle.std.specs.Ordering.{nat_cmp}
use Rattle.std.specs.Cmp.Lexicographic.{slice_cmp}
use Rattle.std.specs.List.{list_any}
use Rattle.std.specs.BTreeMap.{is_at}
use Rattle.std.specs.BTreeSet.{BTreeSet, contains}
use Rattle.outside_real.specs.FullPath.{full_path}

-- the folders that a name stands in: what is in front of each slash
abbrev pub folders_above : List ℕ → List (List ℕ)
folders_above [] = []
folders_above (b ∷ name) = (if b == 47 then [] ∷ [] else []) ++ map (λ folder. b ∷ folder) (folders_above name)

-- the root, and the folders below it that a name stands in
abbrev pub way : List ℕ → List ℕ → List (List ℕ)
way root name = root ∷ map (full_path root) (folders_above name)

-- a set has what it had
abbrev pub Keeps : BTreeSet (List ℕ) → BTreeSet (List ℕ) → Type 0
Keeps old now = (path : List ℕ) → contains (slice_cmp nat_cmp) old path ≡ true → contains (slice_cmp nat_cmp) now path ≡ true

-- it has the folders on the way to a name
abbrev pub HasWay : List ℕ → List ℕ → BTreeSet (List ℕ) → Type 0
HasWay root name set = (path : List ℕ) → list_any (λ p. is_at (slice_cmp nat_cmp p) path) (way root name) ≡ true → contains (slice_cmp nat_cmp) set path ≡ true

-- a set has these paths, and what it had
abbrev pub Gains : List (List ℕ) → BTreeSet (List ℕ) → BTreeSet (List ℕ) → Type 0
Gains paths old now = (path : List ℕ) → contains (slice_cmp nat_cmp) now path ≡ (list_any (λ p. is_at (slice_cmp nat_cmp p) path) paths || contains (slice_cmp nat_cmp) old path)
