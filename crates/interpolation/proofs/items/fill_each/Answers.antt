use Rattle.std.proofs.Common.{◌+◌, drop, ap, ◌∙◌}
use Rattle.std.proofs.lemmas.List.{drop_all}
use Rattle.interpolation.specs.Filling.{each}
use Rattle.interpolation.specs.Told.{prefixed}
use Rattle.interpolation.proofs.Lists.{each_more, list_done, list_fails}
use Rattle.interpolation.proofs.items.fill_each.Goals as goal

pub loop-item-preserved : goal.loop-item-preserved
loop-item-preserved g c = λ known table.
    let so = c.loop-item.invariant known table in
    let gives = c.in-Ok.ensures known so.0 in (
      gives.1,
      ap (λ l. prefixed l (each (g.T.Fill.filled known) (drop (c.loop-item.item-index + 1) c.as_slice-item-items.result.now))) c.in_ok-push-in-Ok.ensures.ok
          ∙ each_more (g.T.Fill.filled known) c.loop-item.list c.as_slice-item-items.result.now c.loop-item.item-index c.item-item.result c.in-Ok.item _ c.loop-item-test.true c.item-item.is gives.0 so.1,
    )

pub returns-in-Err : goal.returns-in-Err
returns-in-Err g c = λ known table.
    let so = c.loop-item.invariant known table in
    list_fails known (g.T.Fill.filled known) c.loop-item.list c.as_slice-item-items.result.now c.loop-item.item-index c.item-item.result c.fill.new.filler c.in-Err.fault _ c.loop-item-test.true c.item-item.is (c.in-Err.ensures known so.0) (so.1 ∙ ap (each (g.T.Fill.filled known)) c.as_slice-item-items.ensures)

pub returns : goal.returns
returns g c = λ known table.
    let so = c.loop-item.invariant known table in
    (list_done (g.T.Fill.filled known) c.loop-item.list c.as_slice-item-items.result.now c.loop-item.item-index _ (drop_all c.loop-item.item-index c.as_slice-item-items.result.now c.loop-item-test.false) (so.1 ∙ ap (each (g.T.Fill.filled known)) c.as_slice-item-items.ensures), so.0)
