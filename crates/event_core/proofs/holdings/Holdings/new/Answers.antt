use Rattle.std.proofs.Common.{ap, ◌∙◌}
use Rattle.event_core.specs.Taken.{held_from}
use Rattle.event_core.proofs.Taken.{none_from}
use Rattle.event_core.proofs.holdings.Holdings.new.Goals as goal

pub returns : goal.returns
returns c =
    let view = ap (held_from c.in_ok-locks.locks 0) c.in_ok-taken.ensures.items ∙ none_from c.in_ok-locks.locks 0 c.args.workers in
    λ i. (c.in_ok-locks.ensures i, view i)
