use Rattle.std.proofs.Common.{arith}
use Rattle.std.specs.HashMap.{get}
use Rattle.mvn_base.specs.Gav.{gav_eq}
use Rattle.model_resolver.proofs.Places.{one_more}
use Rattle.model_resolver.proofs.poms.places_of.Goals as goal

pub loop-at-preserved : goal.loop-at-preserved
loop-at-preserved c =
    one_more c.args.poms.now c.loop-at.at c.index-poms-at.result (get gav_eq c.loop-at.places) (get gav_eq c.put_place.new.places) c.loop-at-test.true (omega arith)
    c.loop-at.invariant c.in_ok-put_place.ensures
