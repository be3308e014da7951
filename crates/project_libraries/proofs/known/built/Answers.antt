use Rattle.std.proofs.Common.{◌≡◌, IfOk, subst}
use Rattle.effective.specs.Effective.{effective}
use Rattle.project_libraries.specs.Known.{known_of}
use Rattle.project_libraries.proofs.known.built.Goals as goal

pub returns-clause-tells : goal.returns-clause-tells
returns-clause-tells g c = λ world fits holds.
    subst (λ p. IfOk c.known_of.result (λ known. known ≡ known_of (effective world c.args.given.now p))) c.in_ok-pom.ensures
    (c.known_of.ensures.says (effective world c.args.given.now c.in_ok-pom.pom) (c.effective_with-built.ensures.says world fits holds))
