use Rattle.std.proofs.Common.{Some, sym, ap, subst, ◌∙◌}
use Rattle.mvn_base.specs.declared.rule.Rule.TheVariants.{ExpressionCycle}
use Rattle.interpolation.specs.Tables.{IsRefusal}
use Rattle.interpolation.proofs.Steps.{asks_refused, known_cycle, known_value}
use Rattle.interpolation.proofs.filler.Filler.ask.Goals as goal

pub returns-in-Some-Some-clause-says : goal.returns-in-Some-Some-clause-says
returns-in-Some-Some-clause-says c = λ known seen table way.
    (known_value known seen c.args.self.now c.args.name.now c.in-Some-Some.value table (sym c.in_ok-state.ensures ∙ c.in-Some-Some.is ∙ ap (λ o. Some o) c.in-Some-Some.field-0-is) way, table)

pub returns-in-Some-None-clause-says : goal.returns-in-Some-None-clause-says
returns-in-Some-None-clause-says c = λ known seen table way.
    asks_refused known seen c.args.self.now ExpressionCycle c.args.name.now c.refused.result (subst (λ n. IsRefusal ExpressionCycle n c.refused.result) c.as_str.ensures.value c.refused.ensures) (known_cycle known seen c.args.self.now c.args.name.now table (sym c.in_ok-state.ensures ∙ c.in-Some-None.is ∙ ap (λ o. Some o) c.in-Some-None.field-0-is))

pub returns-in-None-clause-says : goal.returns-in-None-clause-says
returns-in-None-clause-says c = λ known seen table way. c.begin.ensures.says known seen table (sym c.in_ok-state.ensures ∙ c.in-None.is) way
