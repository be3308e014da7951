use Rattle.std.proofs.Common.{◌≡◌, subst, sym}
use Rattle.mediation.specs.Jars.{AreJars, jar_row}
use Rattle.mediation.proofs.library.Library.jar.Goals as goal

pub returns : goal.returns
returns c =
    let gav = c.self.inside.model.gav in
    let are : AreJars gav c.deref.result.now = subst (AreJars gav) (sym c.deref.ensures) c.self.invariant.1 in
    subst (λ m. c.jar_with.result.now ≡ jar_row m.gav c.args.scope) c.self.view_is (c.jar_with.ensures gav are)
