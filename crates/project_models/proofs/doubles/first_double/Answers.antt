use Rattle.std.proofs.Common.{sym, ap, ◌∙◌, arith}
use Rattle.std.specs.HashMap.{get}
use Rattle.std.specs.Option.{option_copied}
use Rattle.mvn_base.specs.Gav.{gav_eq}
use Rattle.project_models.proofs.Each.{none_left}
use Rattle.project_models.proofs.Looking.{double_is, no_model, no_pom, one_looked}
use Rattle.project_models.proofs.doubles.first_double.Goals as goal

pub returns-in_default : goal.returns-in_default
returns-in_default c = no_model (get gav_eq c.loop-at.paths) c.args.poms.now c.args.models.now c.loop-at.at c.loop-at.invariant (sym (ap option_copied c.in_default.is) ∙ c.get.ensures)

pub returns-in-Some-2 : goal.returns-in-Some-2
returns-in-Some-2 c =
    double_is (get gav_eq c.loop-at.paths) c.args.poms.now c.args.models.now c.loop-at.at c.index-poms-at.result c.in-Some.model.now c.deref.result.now c.in-Some-2.double c.loop-at.invariant
    c.loop-at-test.true c.index-poms-at.is (sym (ap option_copied c.in-Some.is) ∙ c.get.ensures) c.deref.ensures (sym c.in-Some-2.is ∙ c.in_ok-double.ensures.value)

pub loop-at-preserved : goal.loop-at-preserved
loop-at-preserved c =
    one_looked (get gav_eq c.loop-at.paths) c.args.poms.now c.args.models.now c.loop-at.at (get gav_eq c.taken.new.paths) c.index-poms-at.result c.in-Some.model.now c.deref.result.now c.loop-at.invariant
    c.loop-at-test.true c.index-poms-at.is (sym (ap option_copied c.in-Some.is) ∙ c.get.ensures) c.deref.ensures (sym c.in_default-2.is ∙ c.in_ok-double.ensures.value) (c.in_ok-double.ensures.put c.in_default-2.is)

pub returns : goal.returns
returns c =
    let over = c.loop-at-test.false in
    no_pom (get gav_eq c.loop-at.paths) c.args.poms.now c.args.models.now c.loop-at.at c.loop-at.invariant (none_left c.args.poms.now c.loop-at.at (omega (arith, over)))
