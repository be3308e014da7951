-- Names that were tested.
use Rattle.std.proofs.Common.{◌≡◌, Bool, true, false, ◌&&◌, refl}
use Rattle.mvn_base.specs.FileName.{IsValid}
use Rattle.classpaths.specs.Classpaths.{HasNames}
use Rattle.classpaths.specs.declared.resolution.Resolved.{Resolved}
use Rattle.module_plan.specs.Uses.{has_names}

both : (a b : Bool) → (a && b) ≡ true → (a ≡ true) × (b ≡ true)
both true true e = (refl, refl)
both true false e = cc
both false b e = cc

-- the names of a dependency that passed the test are valid
pub names_of : (w : Resolved) → has_names w ≡ true → HasNames w
names_of w e =
    let one = both _ _ e in
    let two = both _ _ one.1 in
    let three = both _ _ two.1 in
    let four = both _ _ three.1 in
    record { gav = record { group = one.0; artifact = two.0; version = three.0 }; kind = four.0; classifier = four.1 }

-- so are its coordinates
pub gav_of : (w : Resolved) → has_names w ≡ true → IsValid w.gav
gav_of w e = (names_of w e).gav
