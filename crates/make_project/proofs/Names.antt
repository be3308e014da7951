-- Names of the libraries are valid.
use Rattle.std.proofs.Common.{◌≡◌, ℕ, zero, suc, ◌<◌, true, List, codes, refl, arith}
use Rattle.std.specs.Fmt.{digits}
use Rattle.mvn_base.specs.Names.{is_name, is_name_byte, is_group, is_version, is_version_byte}
use Rattle.mvn_base.specs.FileName.{IsValid}
use Rattle.make_project.specs.Poms.{library}
use Rattle.make_project.specs.Projects.{external}

pub pom_is_name : is_name (codes "pom") ≡ true
unfolding is_name is_name_byte
pom_is_name = refl

pub jar_is_name : is_name (codes "jar") ≡ true
unfolding is_name is_name_byte
jar_is_name = refl

pub base_is_name : is_name (codes "base") ≡ true
unfolding is_name is_name_byte
base_is_name = refl

group : is_group (codes "ext") ≡ true
unfolding is_group is_name is_name_byte
group = refl

version : is_version (codes "1.0") ≡ true
unfolding is_version is_version_byte
version = refl

pub valid_external : (artifact : List ℕ) → is_name artifact ≡ true → IsValid (external artifact)
valid_external artifact valid = record { group = group; artifact = valid; version = version }

pub library_is_name : (number : ℕ) → number < 10 → is_name (library number) ≡ true
unfolding is_name is_name_byte digits
library_is_name zero low = refl
library_is_name (suc zero) low = refl
library_is_name (suc (suc zero)) low = refl
library_is_name (suc (suc (suc zero))) low = refl
library_is_name (suc (suc (suc (suc zero)))) low = refl
library_is_name (suc (suc (suc (suc (suc zero))))) low = refl
library_is_name (suc (suc (suc (suc (suc (suc zero)))))) low = refl
library_is_name (suc (suc (suc (suc (suc (suc (suc zero))))))) low = refl
library_is_name (suc (suc (suc (suc (suc (suc (suc (suc zero)))))))) low = refl
library_is_name (suc (suc (suc (suc (suc (suc (suc (suc (suc zero))))))))) low = refl
library_is_name (suc (suc (suc (suc (suc (suc (suc (suc (suc (suc number)))))))))) low = absurd (omega (arith, low))
