use Rattle.std.proofs.Common.{◌+◌, drop, ap, ◌∙◌}
use Rattle.std.proofs.lemmas.List.{drop_all}
use Rattle.interpolation.specs.Filling.{each}
use Rattle.interpolation.specs.Texts.{text_of}
use Rattle.interpolation.specs.Told.{prefixed}
use Rattle.interpolation.proofs.Lists.{each_more, list_done, list_fails}
use Rattle.interpolation.proofs.items.fill_texts.Goals as goal

pub loop-text-preserved : goal.loop-text-preserved
loop-text-preserved c = λ known table.
    let so = c.loop-text.invariant known table in
    let gives = c.in-Ok.ensures known so.0 in (
      gives.1,
      ap (λ l. prefixed l (each (text_of known c.args.element.now) (drop (c.loop-text.text-index + 1) c.as_slice-text-items.result.now))) c.in_ok-push-in-Ok.ensures.ok
          ∙ each_more (text_of known c.args.element.now) c.loop-text.list c.as_slice-text-items.result.now c.loop-text.text-index c.text-item.result c.in-Ok.text _ c.loop-text-test.true c.text-item.is gives.0 so.1,
    )

pub returns-in-Err : goal.returns-in-Err
returns-in-Err c = λ known table.
    let so = c.loop-text.invariant known table in
    list_fails known (text_of known c.args.element.now) c.loop-text.list c.as_slice-text-items.result.now c.loop-text.text-index c.text-item.result c.text.new.self c.in-Err.fault _ c.loop-text-test.true c.text-item.is (c.in-Err.ensures known so.0) (so.1 ∙ ap (each (text_of known c.args.element.now)) c.as_slice-text-items.ensures)

pub returns : goal.returns
returns c = λ known table.
    let so = c.loop-text.invariant known table in
    (list_done (text_of known c.args.element.now) c.loop-text.list c.as_slice-text-items.result.now c.loop-text.text-index _ (drop_all c.loop-text.text-index c.as_slice-text-items.result.now c.loop-text-test.false) (so.1 ∙ ap (each (text_of known c.args.element.now)) c.as_slice-text-items.ensures), so.0)
