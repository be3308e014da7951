use Rattle.std.proofs.Common.{[], get_or, map, ap, ◌∙◌}
use Rattle.event_core.specs.Causes.{last_of}
use Rattle.event_core.proofs.Taken.{greatest_is}
use Rattle.event_core.proofs.holdings.Holdings.greatest.Goals as goal

pub returns : goal.returns
returns c =
    let it = c.self.inside in
    c.last_in.ensures
    ∙ ap (λ rows. last_of (get_or (map (λ names. names.items) rows) c.args.worker [])) c.as_slice.ensures.value
    ∙ greatest_is it.locks (map (λ names. names.items) it.taken.items) c.self.invariant.0 c.args.worker
    ∙ ap (λ v. last_of (get_or v.1 c.args.worker [])) c.self.view_is
