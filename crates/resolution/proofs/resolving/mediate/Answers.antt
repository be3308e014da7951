use Rattle.std.proofs.Common.{subst, sym}
use Rattle.mvn_shared.specs.Cause.{HasCause}
use Rattle.resolution.proofs.Told.{refused_told}
use Rattle.resolution.proofs.resolving.mediate.Goals as goal

pub returns-in-Ok-clause-resolves : goal.returns-in-Ok-clause-resolves
returns-in-Ok-clause-resolves g c = λ libraries fits.
    c.resolved.ensures.resolves libraries c.args.managed.now c.args.direct.now (record { own_is = c.in-Ok.ensures.declared; below_is = c.in-Ok.ensures.below; placed = c.in-Ok.ensures.placed }) (c.in-Ok.ensures.resolves libraries fits)

pub returns-in-Ok-clause-cause : goal.returns-in-Ok-clause-cause
returns-in-Ok-clause-cause g c =
    subst (λ b. HasCause (g.L.Lookup.faults c.args.lookup.now) (g.L.Lookup.faults c.find_winners.new.lookup) b) (sym c.resolved.ensures.blameless) c.in-Ok.ensures.cause

pub returns-in-Err-clause-resolves : goal.returns-in-Err-clause-resolves
returns-in-Err-clause-resolves g c = λ libraries fits. refused_told libraries c.args.managed.now c.args.direct.now c.in-Err.fault (c.in-Err.ensures.resolves libraries fits)
