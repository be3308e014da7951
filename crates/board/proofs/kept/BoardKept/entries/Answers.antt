use Rattle.std.proofs.Common.{◌<◌, length, ap, arith, subst, sym, ◌∙◌}
use Rattle.board.specs.Logs.{published_since}
use Rattle.board.proofs.Logs.{length_is}
use Rattle.board.proofs.kept.BoardKept.entries.Goals as goal

pub returns-clause-length : goal.returns-clause-length
returns-clause-length g c = ap length c.events.ensures
    ∙ sym (length_is (published_since (g.S.Shelf.told c.self.inside.opening.value) (g.S.Shelf.told c.self.inside.shelf)) c.self.inside.answers.kept c.self.inside.core.1)
    ∙ ap (λ v. length v.log) c.self.view_is

pub returns-clause-few : goal.returns-clause-few
returns-clause-few g c = subst (λ v. length v.log < 4611686018427387904) c.self.view_is
    (let long = length_is (published_since (g.S.Shelf.told c.self.inside.opening.value) (g.S.Shelf.told c.self.inside.shelf)) c.self.inside.answers.kept c.self.inside.core.1 in
    let same = ap (λ o. o.events) c.self.invariant.outline in
    omega (arith, long, same, c.runs_within_bound.ensures.bound, c.self.invariant.short))
