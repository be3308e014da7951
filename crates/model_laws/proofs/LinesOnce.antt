-- POMs that stand once each.
use Rattle.std.proofs.Common.{◌≡◌, Bool, true, false, not, ◌&&◌, ◌||◌, List, [], ◌∷◌, refl, ap, ◌∙◌}
use Rattle.mvn_base.specs.declared.refusal.PomId.{PomId}
use Rattle.lineage.specs.Lineage.{is_in, next_poms}
use Rattle.lineage.specs.Stores.{meets}
use Rattle.lineage.proofs.Keeping.{in_more}
use Rattle.model_laws.specs.Lines.{each_once}

pub and_left : (a b : Bool) → (a && b) ≡ true → a ≡ true
and_left true b e = refl
and_left false b e = e

pub and_right : (a b : Bool) → (a && b) ≡ true → b ≡ true
and_right true b e = e
and_right false b e = cc

pub both_true : (a b : Bool) → a ≡ true → b ≡ true → (a && b) ≡ true
both_true a b p q = ap (λ x. x && b) p ∙ q

pub not_true : (a : Bool) → not a ≡ true → a ≡ false
not_true true e = cc
not_true false e = refl

mixed : (a b c d : Bool) → (not (a || b) && (c && not d)) ≡ ((not a && c) && not (b || d))
mixed true b c d = refl
mixed false true true d = refl
mixed false true false d = refl
mixed false false c d = refl

-- one POM more stands once where it is none of the others
pub once_more : (poms : List PomId) (pom : PomId) → each_once (next_poms poms pom) ≡ (each_once poms && not (meets poms (pom ∷ [])))
once_more [] pom = refl
once_more (p ∷ ps) pom =
    ap (λ b. not b && each_once (next_poms ps pom)) (in_more p pom ps)
    ∙ ap (λ b. not (is_in p ps || is_in p (pom ∷ [])) && b) (once_more ps pom)
    ∙ mixed (is_in p ps) (is_in p (pom ∷ [])) (each_once ps) (meets ps (pom ∷ []))
