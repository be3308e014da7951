-- The coordinates of lawful models.
use Rattle.std.proofs.Common.{◌≡◌, ℕ, List, Bool, true, false, ◌&&◌, refl}
use Rattle.mvn_base.specs.FileName.{IsValid}
use Rattle.mvn_base.specs.Names.{is_version}
use Rattle.mvn_base.specs.declared.gav.Gav.{Gav}
use Rattle.model_types.specs.declared.model.Model.{Model}
use Rattle.model_steps.specs.Valid.{is_valid, is_valid_gav}
use Rattle.model_steps.specs.Validation.{is_named, is_soft}
use Rattle.model_steps.specs.declared.kind.VersionKind.{VersionKind}
use Rattle.model_steps.specs.declared.kind.VersionKind.TheVariants.{Missing, Soft, Range, Unreadable}
use Rattle.effective.specs.Lawful.{IsLawful}

both : (a b : Bool) → (a && b) ≡ true → (a ≡ true) × (b ≡ true)
both true true e = (refl, refl)
both true false e = cc
both false b e = cc

version_of : (kind : VersionKind) (version : List ℕ) → is_named kind version ≡ true → is_soft kind ≡ true → is_version version ≡ true
version_of Soft version named soft = named
version_of Missing version named soft = cc
version_of Range version named soft = cc
version_of Unreadable version named soft = cc

gav_names : (gav : Gav) → is_valid_gav gav ≡ true → IsValid gav
unfolding is_valid_gav
gav_names gav e =
    let one = both _ _ e in
    let two = both _ _ one.0 in
    let three = both _ _ two.0 in
    record { group = three.0; artifact = three.1; version = version_of _ _ two.1 one.1 }

model_gav : (m : Model) → is_valid m ≡ true → is_valid_gav m.gav ≡ true
unfolding is_valid
model_gav m e = (both _ _ (both _ _ e).0).0

-- they are valid
pub valid_names : (m : Model) → IsLawful m → IsValid m.gav
valid_names m lawful = gav_names m.gav (model_gav m lawful.valid)
