use Rattle.std.proofs.Common.{length, refl, sym, ap, subst, ◌∙◌, arith}
use Rattle.std.specs.List.{AllByRecursion}
use Rattle.mvn_base.specs.declared.refusal.PomId.TheVariants as ids
use Rattle.model_types.specs.declared.model.Model.{Model}
use Rattle.profiles.specs.Judging.TellsOn.{here}
use Rattle.pom_source.specs.Answers.{Built}
use Rattle.lineage.proofs.Telling.{told_both}
use Rattle.effective.specs.Effective.{effective}
use Rattle.effective.specs.Lawful.{IsLawful}
use Rattle.model_resolver.specs.declared.resolver.ProjectPom.{ProjectPom}
use Rattle.project_models.proofs.Each.{all_done, all_more, count_more, none_left, none_yet, one_more, with_rest}
use Rattle.project_models.proofs.models.models_of.Goals as goal

pub loop-pom-init : goal.loop-pom-init
loop-pom-init g c = record {
  fit = λ world fits. fits;
  same = here c.args.source.now;
  faults = refl;
  count = ap length c.new-models.ensures;
  lawful = subst (λ l. AllByRecursion IsLawful l) (sym c.new-models.ensures) tt;
  holds = λ world fits held. held;
  way = λ world fits held.
      let f : ProjectPom → Built Model = λ p. effective world c.args.given.now (ids.Path p.path) in
      ap (λ l. with_rest f l c.args.poms.now) c.new-models.ensures ∙ none_yet f c.args.poms.now;
}

pub loop-pom-preserved : goal.loop-pom-preserved
loop-pom-preserved g c =
    let inv = c.loop-pom.invariant in
    let more = c.in_ok-push.ensures.ok in
    record {
      fit = λ world fits. c.in-Ok.ensures.fit world (inv.fit world fits);
      same = told_both inv.same c.in-Ok.ensures.same;
      faults = c.in-Ok.ensures.cause ∙ inv.faults;
      count = count_more c.loop-pom.models c.push.new.self c.loop-pom.pom-index c.in-Ok.model more inv.count;
      lawful = subst (λ l. AllByRecursion IsLawful l) (sym more) (all_more IsLawful c.loop-pom.models c.in-Ok.model inv.lawful c.in-Ok.ensures.lawful);
      holds = λ world fits held. c.in-Ok.ensures.holds world (inv.fit world fits) (inv.holds world fits held);
      way = λ world fits held.
          one_more (λ (p : ProjectPom). effective world c.args.given.now (ids.Path p.path)) c.loop-pom.models c.push.new.self c.args.poms.now c.loop-pom.pom-index c.pom-item.result c.in-Ok.model
          c.loop-pom-test.true c.pom-item.is more (c.in-Ok.ensures.says world (inv.fit world fits) (inv.holds world fits held)) (inv.way world fits held);
    }

pub returns-clause-says : goal.returns-clause-says
returns-clause-says g c = λ world fits held.
    let over = c.loop-pom-test.false in
    all_done (λ (p : ProjectPom). effective world c.args.given.now (ids.Path p.path)) c.loop-pom.models c.args.poms.now c.loop-pom.pom-index
    (none_left c.args.poms.now c.loop-pom.pom-index (omega (arith, over))) (c.loop-pom.invariant.way world fits held)
