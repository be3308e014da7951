use Rattle.std.proofs.Common.{◌≡◌, subst}
use Rattle.model_merge.specs.Keyed.{keyed, put}
use Rattle.model_merge.proofs.UnderKeys.{fold_more}
use Rattle.model_merge.proofs.keyed_join.index_of.Goals as goal

pub loop-item-preserved : goal.loop-item-preserved
loop-item-preserved g c =
    let done = c.loop-item.invariant in (
      put g.T.Keyed.key_of done.0 c.item-item.result,
      subst (λ x. c.put.new.index.entries ≡ keyed g.T.Keyed.key_of (put g.T.Keyed.key_of done.0 x)) c.in_ok-copy.ensures (c.in_ok-put.ensures done.0 done.1),
      fold_more (put g.T.Keyed.key_of) c.args.items.now done.0 c.loop-item.item-index c.item-item.result _ c.loop-item-test.true c.item-item.is done.2,
    )
