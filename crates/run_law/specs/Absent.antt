-- Which file of a list is the first that isn't there. Project rule.
use Rattle.std.specs.Prelude.{◌≡◌, ℕ, ◌-◌, ◌<◌, ◌≤◌, Bool, true, false, List, drop, length, take, Option, Some, None}
use Rattle.std.specs.List.{list_all, slice_index_or}
use Rattle.scripts.specs.Scripts.{is_there}

-- the first of these files, from a place on, that isn't there: none, if all are
abbrev pub IsFirstAbsent : (there : List Bool) → List ℕ → (from : ℕ) → Option ℕ → Type 0
IsFirstAbsent there files from None = list_all (is_there there) (drop from files) ≡ true
IsFirstAbsent there files from (Some at) =
    (from ≤ at) × (at < length files) × (list_all (is_there there) (take (at - from) (drop from files)) ≡ true) × (is_there there (slice_index_or files at 0) ≡ false)
