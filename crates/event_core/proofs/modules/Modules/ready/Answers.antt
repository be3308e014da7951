use Rattle.std.proofs.Common.{find, length, sym, ap, ◌∙◌}
use Rattle.build_core.specs.Locks.{below}
use Rattle.event_core.specs.Fronts.{is_marked}
use Rattle.event_core.specs.HowFar.{is_ready}
use Rattle.event_core.proofs.Changes.{ready_is}
use Rattle.event_core.proofs.modules.Modules.ready.Goals as goal

pub returns : goal.returns
returns c = λ o of.
    let it = c.self.inside in
    c.first_of.ensures
    ∙ ap (λ n. find (is_marked it.ready.words.items) (below n)) (c.len.ensures ∙ it.upstream.ok.0)
    ∙ ready_is o it.upstream.items it.progress.items it.edges.items it.unbuilt.items it.lost.items it.ready.words.items it.skippable.words.items it.open c.self.invariant (of ∙ sym (ap (λ v. v.0) c.self.view_is))
    ∙ ap (λ v. find (is_ready o v.1) (below (length o.modules))) c.self.view_is
