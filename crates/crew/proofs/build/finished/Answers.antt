use Rattle.std.proofs.Common.{subst, sym, ◌∙◌}
use Rattle.event_core.specs.Runs.{IsComplete, IsRunOf}
use Rattle.crew.proofs.Closing.{built, same_plan}
use Rattle.crew.proofs.build.finished.Goals as goal

pub close-board-requires : goal.close-board-requires
close-board-requires g c = record {
  own = c.requires.rest.own;
  free = (c.requires.rest.quiet, c.requires.rest.clear);
  whole = c.requires.rest.heavy ∙ sym c.requires.rest.among;
}

pub finish-requires : goal.finish-requires
finish-requires g c =
    let b = c.close-board.result in
    let plan = c.args.crew.now.plan.now in
    let same = same_plan g.S.Shelf.told g.S.Shelf.faults plan c.args.crew.now.opening.value b (c.close-board.ensures.fixed ∙ c.requires.over.fixed) in
    record { complete = subst (λ p. IsComplete p b.log) (sym same) (subst (IsComplete plan) (sym c.close-board.ensures.log) c.requires.complete) }

pub returns : goal.returns
returns g c =
    let b = c.close-board.result in
    let plan = c.args.crew.now.plan.now in
    let shelf = c.args.crew.now.opening.value in
    let fixed = c.close-board.ensures.fixed ∙ c.requires.over.fixed in
    let same = same_plan g.S.Shelf.told g.S.Shelf.faults plan shelf b fixed in (
      b.log,
      c.close-board.ensures.log,
      subst (λ p. IsRunOf p b.log) same c.keeps.ensures.run,
      built g.S.Shelf.told g.S.Shelf.faults plan shelf b fixed c.finish.result c.keeps.ensures.run
          (subst (IsComplete plan) (sym c.close-board.ensures.log) c.requires.complete)
          c.keeps.ensures.told c.keeps.ensures.carried c.keeps.ensures.caused c.finish.ensures.shelf c.finish.ensures.trace c.finish.ensures.answers c.finish.ensures.states c.finish.ensures.calm c.finish.ensures.no_fall,
    )
