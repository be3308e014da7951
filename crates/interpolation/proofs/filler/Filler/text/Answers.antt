use Rattle.std.proofs.Common.{[], ap, ◌∙◌}
use Rattle.std.proofs.lemmas.List.{drop_all}
use Rattle.interpolation.specs.KnownValues.{filled_from, value}
use Rattle.interpolation.proofs.ValueLists.{part_more, text_done, text_fails}
use Rattle.interpolation.specs.Texts.{text_of}
use Rattle.interpolation.proofs.filler.Filler.text.Goals as goal

pub loop-part-preserved : goal.loop-part-preserved
loop-part-preserved c = λ known table.
    let so = c.loop-part.invariant known table in
    let gives = c.in-Ok.ensures known so.0 in
    (gives.1, part_more c.args.place.now (value known []) c.loop-part.done c.in-Ok.more c.as_slice-part-items.result.now c.loop-part.part-index c.part-item.result _ c.loop-part-test.true c.part-item.is gives.0 so.1)

pub returns-in-Err : goal.returns-in-Err
unfolding text_of
returns-in-Err c = λ known table.
    let so = c.loop-part.invariant known table in
    let all = c.as_slice-part-items.ensures ∙ c.in_ok-list.ensures.value in
    text_fails known c.args.place.now c.loop-part.done c.as_slice-part-items.result.now c.loop-part.part-index c.part-item.result c.part.new.self c.in-Err.fault _ c.loop-part-test.true c.part-item.is (c.in-Err.ensures known so.0) (so.1 ∙ ap (filled_from c.args.place.now (value known []) []) all)

pub returns : goal.returns
unfolding text_of
returns c = λ known table.
    let so = c.loop-part.invariant known table in
    let all = c.as_slice-part-items.ensures ∙ c.in_ok-list.ensures.value in
    (text_done c.args.place.now (value known []) c.loop-part.done c.as_slice-part-items.result.now c.loop-part.part-index _ (drop_all c.loop-part.part-index c.as_slice-part-items.result.now c.loop-part-test.false) (so.1 ∙ ap (filled_from c.args.place.now (value known []) []) all), so.0)
