-- POMs that are met.
use Rattle.std.proofs.Common.{◌≡◌, ℕ, Bool, true, false, ◌||◌, List, [], ◌∷◌, ◌++◌, refl, ap, ◌∙◌}
use Rattle.std.specs.Str.{bytes_eq}
use Rattle.discovery.specs.Met.{is_met}
use Rattle.discovery.specs.declared.pom.ModulePom.{ModulePom}

turned : (a b c : Bool) → (a || (b || c)) ≡ (b || (a || c))
turned true true c = refl
turned true false c = refl
turned false true c = refl
turned false false c = refl

-- one more
pub met_more : (found : List ModulePom) (pom : ModulePom) (path : List ℕ) → is_met (found ++ pom ∷ []) path ≡ (bytes_eq pom.path path || is_met found path)
met_more [] pom path = refl
met_more (p ∷ found) pom path = ap (λ b. bytes_eq p.path path || b) (met_more found pom path) ∙ turned (bytes_eq p.path path) (bytes_eq pom.path path) (is_met found path)
