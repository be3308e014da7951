use Rattle.std.proofs.Common.{◌∷◌, None, Some, sym, ap, subst, ◌∙◌, if◌then◌else◌}
use Rattle.std.specs.HashMap.{get}
use Rattle.std.specs.Str.{bytes_eq}
use Rattle.interpolation.specs.Expressions.{last_named}
use Rattle.interpolation.specs.KnownValues.{is_on}
use Rattle.interpolation.specs.Tables.{IsTable, IsWay}
use Rattle.interpolation.proofs.Steps.{begun, not_begun, table_begun}
use Rattle.interpolation.proofs.filler.Filler.begin.Goals as goal

pub returns-clause-says : goal.returns-clause-says
returns-clause-says c = λ known seen table none way.
    let same = c.in_ok-step.ensures.name ∙ c.in_ok-own.ensures in
    let fits = not_begun known seen c.args.self.now c.args.name.now table none in (
      same,
      begun known seen c.in-Some.text c.in_ok-step.step c.in_ok-step.ensures.done c.in_ok-step.ensures.rest (ap (λ n. is_on n seen) same ∙ fits.1) (ap (last_named known) same ∙ sym fits.0 ∙ sym c.take.ensures.value ∙ c.in-Some.is) (subst (IsWay known seen) (sym same) way),
      subst (λ n. IsTable known (n ∷ seen) c.set.new.self) (sym same)
          (table_begun known seen c.args.self.now c.set.new.self c.args.name.now table none
          (λ q. c.in_ok-set.ensures.begun q ∙ (λ i. if bytes_eq (c.in_ok-key.ensures i) q then Some None else get bytes_eq (c.take.ensures.begun i) q))
          (λ q. ap (λ f. get bytes_eq f q) c.in_ok-set.ensures.fresh ∙ c.take.ensures.fresh q)),
    )
