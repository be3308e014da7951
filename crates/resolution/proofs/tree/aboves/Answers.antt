use Rattle.resolution.specs.Resolved.{aboves_from}
use Rattle.resolution.proofs.Listed.{above_one}
use Rattle.resolution.proofs.tree.aboves.Goals as goal

pub loop-place-preserved : goal.loop-place-preserved
loop-place-preserved c =
    above_one c.loop-place.list c.add_above.new.list (aboves_from 0 c.args.winners.now) c.args.winners.now c.loop-place.place
    c.in_ok-add_above.ensures c.loop-place.invariant
