use Rattle.model_merge.specs.Keyed.{absorb}
use Rattle.model_merge.proofs.UnderKeys.{fold_more}
use Rattle.model_merge.proofs.joined.absorbed.Goals as goal

pub loop-item-preserved : goal.loop-item-preserved
loop-item-preserved g c =
    let done = c.loop-item.invariant in (
      absorb g.T.Keyed.key_of g.T.Mergeable.merge done.0 c.item-item.result,
      c.in_ok-absorb.ensures done.0 done.1,
      fold_more (absorb g.T.Keyed.key_of g.T.Mergeable.merge) c.args.further.now done.0 c.loop-item.item-index c.item-item.result _ c.loop-item-test.true c.item-item.is done.2,
    )
