-- Texts of POMs and the limit of their length.
use Rattle.std.proofs.Common.{◌≡◌, ◌≤◌, ◌<◌, ℕ, List, length, Option, Some, None, refl, ap, arith, IfSome, IsSomeAnd}
use Rattle.std.specs.Option.{option_map}
use Rattle.mvn_base.specs.Limits.{pom_limit}
use Rattle.model_resolver.specs.Finding.{oversized, within_limit}

stays : (bytes : List ℕ) → length bytes ≤ pom_limit → within_limit bytes ≡ bytes
stays bytes few = grind arith

-- what isn't too long stays as it is
pub stays_within : (there : Option (List ℕ)) → IfSome there (λ bytes. length bytes ≤ pom_limit) → option_map within_limit there ≡ there
stays_within None few = refl
stays_within (Some bytes) few = ap Some (stays bytes few)

cut : (bytes : List ℕ) → pom_limit < length bytes → within_limit bytes ≡ oversized
cut bytes many = grind arith

-- what is too long is stood for
pub stands_for : (there : Option (List ℕ)) → IsSomeAnd there (λ bytes. pom_limit < length bytes) → option_map within_limit there ≡ Some oversized
stands_for None many = elim many [ ]
stands_for (Some bytes) many = ap Some (cut bytes many)
