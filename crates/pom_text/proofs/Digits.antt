-- A number that stands still past the last character means no character, as the whole number does.
use Rattle.std.proofs.Common.{◌≡◌, ℕ, ◌≤◌, false, List, length, take, take_all, None, refl, sym, ap, subst, ◌∙◌, arith}
use Rattle.std.proofs.lemmas.Bool.Decides.{nat_tests}
use Rattle.pom_text.specs.Characters.{is_allowed}
use Rattle.pom_text.specs.Numerals.{Keeps, exact, past}
use Rattle.pom_text.specs.References.{allowed, number}

past_is_none : (code : ℕ) → 1114112 ≤ code → is_allowed code ≡ false
unfolding is_allowed
past_is_none code high = grind (arith, nat_tests)

past_none : (code : ℕ) → 1114112 ≤ code → allowed code ≡ None
past_none code high = rw (past_is_none code high) refl

keeps_allowed : (value whole : ℕ) → Keeps value whole → allowed value ≡ allowed whole
keeps_allowed value whole (exact e) = ap allowed e
keeps_allowed value whole (past a b) = past_none value a ∙ sym (past_none whole b)

pub keeps_all : (radix : ℕ) (digits : List ℕ) (at value : ℕ) → length digits ≤ at → Keeps value (number radix (take at digits)) → allowed value ≡ allowed (number radix digits)
keeps_all radix digits at value end keeps = keeps_allowed value (number radix digits) (subst (λ l. Keeps value (number radix l)) (take_all at digits end) keeps)
