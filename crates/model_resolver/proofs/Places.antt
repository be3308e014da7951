-- Where the first of the project's POMs of each coordinates stands, from the last POM to the first.
use Rattle.std.proofs.Common.{◌≡◌, ◌≤◌, ◌<◌, ◌+◌, ◌-◌, ℕ, Bool, true, false, List, ◌∷◌, length, drop, get_or, find, Option, Some, refl, sym, ap, ◌∙◌, arith, if◌then◌else◌}
use Rattle.std.specs.Option.{option_and_then}
use Rattle.std.specs.Prelude.{slice_get}
use Rattle.std.proofs.lemmas.List.{drop_more}
use Rattle.std.proofs.lemmas.Option.{slice_get-get_or}
use Rattle.mvn_base.specs.Gav.{gav_eq}
use Rattle.mvn_base.specs.declared.gav.Gav.{Gav}
use Rattle.model_resolver.specs.Places.{LeadToFirst}
use Rattle.model_resolver.specs.declared.resolver.ProjectPom.{ProjectPom}

-- the POM in front where it has the coordinates, and else what they led to
here_or_last : (all last : List ProjectPom) (p : ProjectPom) (place : ℕ) (old : Gav → Option ℕ) (gav : Gav) → slice_get all place ≡ Some p → LeadToFirst all last old
    → (b : Bool) → gav_eq p.gav gav ≡ b
    → option_and_then (slice_get all) (if b then Some place else old gav) ≡ (if b then Some p else find (λ (q : ProjectPom). gav_eq q.gav gav) last)
here_or_last all last p place old gav is lead true e = is
here_or_last all last p place old gav is lead false e = lead gav

-- one POM more in front
pub one_more : (all : List ProjectPom) (at : ℕ) (d : ProjectPom) (old new : Gav → Option ℕ) → 0 < at → at ≤ length all → LeadToFirst all (drop at all) old
    → ((gav : Gav) → new gav ≡ (if gav_eq (get_or all (at - 1) d).gav gav then Some (at - 1) else old gav)) → LeadToFirst all (drop (at - 1) all) new
one_more all at d old new some few lead put = λ gav.
    let p = get_or all (at - 1) d in
    let back : at - 1 + 1 ≡ at = omega arith in
    let inside : at - 1 < length all = omega arith in
    let more : drop (at - 1) all ≡ p ∷ drop at all = drop_more all (at - 1) d inside ∙ ap (λ n. p ∷ drop n all) back in
    ap (option_and_then (slice_get all)) (put gav) ∙ here_or_last all (drop at all) p (at - 1) old gav (slice_get-get_or all (at - 1) d inside) lead (gav_eq p.gav gav) refl
    ∙ sym (ap (find (λ (q : ProjectPom). gav_eq q.gav gav)) more)
