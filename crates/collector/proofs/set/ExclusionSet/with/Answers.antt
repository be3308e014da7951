use Rattle.std.proofs.Common.{ap, sym, ◌∙◌}
use Rattle.collector.specs.Excluding.{is_excluded}
use Rattle.collector.proofs.Splits.{covered}
use Rattle.collector.proofs.set.ExclusionSet.with.Goals as goal

pub returns-then-has_same : goal.returns-then-has_same
returns-then-has_same c = λ d.
    ap (λ list. is_excluded list d) c.in_ok-share.ensures
    ∙ covered c.args.self.now c.args.one.now d (sym c.has_same.ensures ∙ c.if-has_same.true)
