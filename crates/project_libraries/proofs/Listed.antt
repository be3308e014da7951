-- Versions that a repository lists.
use Rattle.std.proofs.Common.{◌≡◌, ◌≤◌, ◌<◌, ℕ, Bool, true, false, List, length, Option, Some, None, refl, sym, ap, if◌then◌else◌, arith}
use Rattle.std.specs.Prelude.{nat_lt, ◌&&◌}
use Rattle.project_libraries.specs.Available.{within_most}

within_by : (versions : List (List ℕ)) (b : Bool) (value : Option (List (List ℕ))) → nat_lt 4096 (length versions) ≡ b → value ≡ (if b then None else Some versions) → value ≡ within_most versions
within_by versions b value e is = subst_by
  where
    subst_by : value ≡ within_most versions
    subst_by = rw e is

-- so many may be listed
pub few_listed : (found versions : List (List ℕ)) → found ≡ versions → length found ≤ 4096 → Some found ≡ within_most versions
few_listed found versions is few = within_by versions false (Some found) (grind (arith, is, few)) (ap (λ l. Some l) is)

-- and more are too many
pub many_listed : (versions : List (List ℕ)) → 4096 < length versions → None ≡ within_most versions
many_listed versions many = within_by versions true None (grind (arith, many)) refl

-- both names are valid
pub group_valid : (a b : Bool) → (a && b) ≡ true → a ≡ true
group_valid true b e = refl
group_valid false b e = cc

pub artifact_valid : (a b : Bool) → (a && b) ≡ true → b ≡ true
artifact_valid true b e = e
artifact_valid false b e = cc
