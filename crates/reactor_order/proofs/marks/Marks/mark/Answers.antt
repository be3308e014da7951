use Rattle.std.proofs.Common.{false, sym, ◌∙◌}
use Rattle.std.proofs.lemmas.List.{get_or_default}
use Rattle.reactor_order.proofs.Marking.{mark_one}
use Rattle.reactor_order.proofs.marks.Marks.mark.Goals as goal

pub returns-in_ok-push-clause-marked : goal.returns-in_ok-push-clause-marked
returns-in_ok-push-clause-marked c =
    let free = sym (c.index.ensures ∙ get_or_default c.args.self.now.marks.items c.args.m c.index.result.now false c.requires.below) ∙ c.if-not-index.true in
    rw c.in_ok-push.ensures.items (mark_one c.args.self.now.marks.items c.args.self.now.found.items c.args.m c.requires.marked c.requires.below free)
