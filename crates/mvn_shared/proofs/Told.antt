-- What is told after more was written.
use Rattle.std.proofs.Common.{◌≡◌, ℕ, List, [], ◌++◌, Option, Some, None, refl, ap, append_assoc}
use Rattle.std.proofs.lemmas.List.{append-nil}
use Rattle.mvn_shared.specs.Told.{gains}

-- one part after another is both at once
pub gains-gains : (told : Option (List ℕ)) (first second : List ℕ) → gains (gains told first) second ≡ gains told (first ++ second)
gains-gains None first second = refl
gains-gains (Some text) first second = ap Some (append_assoc text first second)

-- nothing more changes nothing
pub gains_nothing : (told : Option (List ℕ)) → gains told [] ≡ told
gains_nothing None = refl
gains_nothing (Some text) = ap Some (append-nil text)
