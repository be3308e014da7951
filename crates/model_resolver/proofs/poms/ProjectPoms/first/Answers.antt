use Rattle.std.proofs.Common.{find, slice_get, ap, ◌∙◌}
use Rattle.std.specs.Option.{option_and_then}
use Rattle.mvn_base.specs.Gav.{gav_eq}
use Rattle.model_resolver.specs.declared.resolver.ProjectPom.{ProjectPom}
use Rattle.model_resolver.proofs.poms.ProjectPoms.first.Goals as goal

pub returns-in-Some : goal.returns-in-Some
returns-in-Some c =
    c.at_place.ensures ∙ ap (option_and_then (slice_get c.self.inside.poms.now)) c.in-Some.ensures.value ∙ c.self.invariant c.args.gav.now
    ∙ ap (find (λ (p : ProjectPom). gav_eq p.gav c.args.gav.now)) c.self.view_is

pub returns-in-None : goal.returns-in-None
returns-in-None c =
    ap (option_and_then (slice_get c.self.inside.poms.now)) c.in-None.ensures.value ∙ c.self.invariant c.args.gav.now
    ∙ ap (find (λ (p : ProjectPom). gav_eq p.gav c.args.gav.now)) c.self.view_is
