-- The names of files are valid.
use Rattle.std.proofs.Common.{◌≡◌, ℕ, Bool, true, false, List, [], codes, nat_eq, refl, if◌then◌else◌}
use Rattle.std.specs.Cmp.Lexicographic.{pointwise}
use Rattle.mvn_base.specs.FileName.{is_classifier}
use Rattle.mvn_base.specs.Names.{is_filled, is_name, is_name_byte}
use Rattle.mvn_base.specs.Types.{is_jar, type_rule}
use Rattle.classpaths.specs.Classpaths.{classifier_of}
use Rattle.classpaths.specs.declared.resolution.Resolved.{Resolved}

-- that of the tests' jar, or none
of_tests : (b : Bool) → is_classifier (if b then codes "tests" else []) ≡ true
unfolding is_name is_name_byte
of_tests true = refl
of_tests false = refl

-- the classifier of a type, where none is declared
pub classifier_named : (w : Resolved) → is_classifier w.classifier ≡ true → is_classifier (classifier_of w (type_rule w.kind)) ≡ true
unfolding type_rule
classifier_named w is = by (is_filled w.classifier)
  where
    by : (b : Bool) → is_classifier (if b then w.classifier else (if pointwise nat_eq w.kind (codes "test-jar") then codes "tests" else [])) ≡ true
    by true = is
    by false = of_tests (pointwise nat_eq w.kind (codes "test-jar"))

-- the extension of a type
jar_or : (b : Bool) (kind : List ℕ) → is_name kind ≡ true → is_name (if b then codes "jar" else kind) ≡ true
unfolding is_name is_name_byte
jar_or true kind is = refl
jar_or false kind is = is

pub extension_named : (kind : List ℕ) → is_name kind ≡ true → is_name (type_rule kind).extension ≡ true
unfolding type_rule
extension_named kind is = jar_or (is_jar kind) kind is
