use Rattle.std.proofs.Common.{[], get_or, slice_get, sym, ap, ◌∙◌}
use Rattle.event_core.specs.HowFar.{first_not_built}
use Rattle.event_core.proofs.Changes.{unbuilt_is}
use Rattle.event_core.proofs.modules.Modules.first_unbuilt.Goals as goal

pub returns : goal.returns
returns c = λ o of.
    let it = c.self.inside in
    c.upstream_at.ensures
    ∙ ap (λ xs. slice_get (get_or xs c.args.number []) (get_or c.as_slice-2.result.now c.args.number 0)) c.as_slice.ensures.value
    ∙ ap (λ places. slice_get (get_or it.upstream.items c.args.number []) (get_or places c.args.number 0)) c.as_slice-2.ensures.value
    ∙ unbuilt_is o it.upstream.items it.progress.items it.edges.items it.unbuilt.items it.lost.items it.ready.words.items it.skippable.words.items it.open c.self.invariant (of ∙ sym (ap (λ v. v.0) c.self.view_is)) c.args.number
    ∙ ap (λ v. first_not_built o v.1 c.args.number) c.self.view_is
