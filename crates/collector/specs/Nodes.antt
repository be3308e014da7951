-- What is said of the exclusions of trees. Project rule.
use Rattle.std.specs.Prelude.{◌≡◌, ◌<◌, ℕ, Bool, false, not, ◌&&◌, ◌||◌, List, length, if◌then◌else◌}
use Rattle.std.specs.List.{list_any}
use Rattle.std.specs.Str.{bytes_eq}
use Rattle.model_types.specs.declared.dependency.Exclusion.{Exclusion}
use Rattle.collector.specs.Excluding.{is_named}
use Rattle.collector.specs.Hashes.{hash_of, leads_right}

-- an exclusion has these texts
abbrev pub is_same : List ℕ → List ℕ → Exclusion → Bool
is_same group artifact e = bytes_eq e.group group && bytes_eq e.artifact artifact

-- the number of an exclusion's texts has a bit
abbrev pub goes_right : ℕ → Exclusion → Bool
goes_right bit e = leads_right (hash_of e.group e.artifact) bit

-- it stands on a side of a bit
abbrev pub stands : ℕ → Bool → Exclusion → Bool
stands bit right e = if right then goes_right bit e else not (goes_right bit e)

-- it names a group and an artifact
abbrev pub names : List ℕ → List ℕ → Exclusion → Bool
names group artifact e = is_named e.group group && is_named e.artifact artifact

-- both sides have some, and each stands on the side of its number
pub record IsSplit (bit : ℕ) (left right : List Exclusion) : Type 0 where
  pub left_some : 0 < length left
  pub right_some : 0 < length right
  pub left_lack : list_any (goes_right bit) left ≡ false
  pub right_have : list_any (λ e. not (goes_right bit e)) right ≡ false

-- the same exclusions, and one more: no test tells the difference
abbrev pub HasSame : List Exclusion → List Exclusion → Type 0
HasSame old new = (test : Exclusion → Bool) → list_any test new ≡ list_any test old

abbrev pub HasMore : List Exclusion → Exclusion → List Exclusion → Type 0
HasMore old one new = (test : Exclusion → Bool) → list_any test new ≡ (list_any test old || test one)
