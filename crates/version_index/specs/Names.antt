-- The names of an index's file and lock. Project rule.
use Rattle.std.specs.Prelude.{◌≡◌, ℕ, true, List, ◌∷◌, ◌++◌, codes}
use Rattle.mvn_base.specs.Names.{is_group, is_name}

-- metadata:group:artifact
abbrev pub index_lock : List ℕ → List ℕ → List ℕ
index_lock group artifact = codes "metadata:" ++ group ++ 58 ∷ artifact

-- the names of a library are valid
pub record IsLibrary (group artifact : List ℕ) : Type 0 where
  pub group_valid : is_group group ≡ true
  pub artifact_valid : is_name artifact ≡ true
