-- Coordinates with valid names.
use Rattle.std.proofs.Common.{◌≡◌, Bool, true, false, refl, ◌&&◌}
use Rattle.mvn_base.specs.FileName.{IsValid}
use Rattle.mvn_base.specs.Names.{is_group, is_name, is_version}
use Rattle.mvn_base.specs.declared.gav.Gav.{Gav}
use Rattle.model_resolver.specs.Finding.{is_valid}

three : (a b c : Bool) → (a && (b && c)) ≡ true → (a ≡ true) × (b ≡ true) × (c ≡ true)
three true true true e = (refl, refl, refl)
three true true false e = cc
three true false c e = cc
three false b c e = cc

-- they have a file's name
pub valid_names : (gav : Gav) → is_valid gav ≡ true → IsValid gav
valid_names gav e =
    let names = three (is_group gav.group) (is_name gav.artifact) (is_version gav.version) e in
    record { group = names.0; artifact = names.1; version = names.2 }
