use Rattle.std.proofs.Common.{unwrap_or, refl, ap, subst}
use Rattle.scripts.specs.declared.rest.Rest.TheVariants.{Nothing}
use Rattle.scripts.specs.HeldAt.{HoldsThen, RestHolds, RestHoldsBehind}
use Rattle.scripts.proofs.rest.Rest.done.Goals as goal

pub returns-in-Some-clause-held : goal.returns-in-Some-clause-held
returns-in-Some-clause-held c = λ held here next is.
    subst (λ rest. HoldsThen c.args.deed held (RestHoldsBehind rest)) (ap (λ found. unwrap_or found Nothing) is)
    (c.in-Some.ensures.held held (subst (λ rest. RestHolds rest held) c.in-From.is here) c.in-Some.next refl)
