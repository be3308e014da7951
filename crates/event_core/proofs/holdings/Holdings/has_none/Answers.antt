use Rattle.std.proofs.Common.{[], get_or, map, ap, ◌∙◌}
use Rattle.scripts.specs.Outlines.{is_empty}
use Rattle.event_core.proofs.Taken.{none_is}
use Rattle.event_core.proofs.holdings.Holdings.has_none.Goals as goal

pub returns : goal.returns
returns c =
    let it = c.self.inside in
    c.none_in.ensures
    ∙ ap (λ rows. is_empty (get_or (map (λ names. names.items) rows) c.args.worker [])) c.as_slice.ensures.value
    ∙ none_is it.locks (map (λ names. names.items) it.taken.items) c.self.invariant.0 c.args.worker
    ∙ ap (λ v. is_empty (get_or v.1 c.args.worker [])) c.self.view_is
