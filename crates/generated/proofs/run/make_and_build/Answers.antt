use Rattle.std.proofs.Common.{IfOk, ap, subst}
use Rattle.mvn_base.specs.declared.machine.Machine.{Machine}
use Rattle.pom_source.specs.declared.found.Given.{Given}
use Rattle.generated.specs.Generated.{Generates}
use Rattle.generated.proofs.run.make_and_build.Goals as goal

pub returns : goal.returns
returns g c = record {
  generates = subst (λ (m : Machine). IfOk c.build_given.result (λ call. Generates c.args.poms c.args.line.now m call.trace call.answers call.outcome)) (ap (λ (x : Given). x.machine) c.in_ok-given.ensures) c.build_given.ensures.generates;
}
