use Rattle.std.proofs.Common.{false}
use Rattle.std.specs.HashSet.{contains}
use Rattle.std.specs.Str.{bytes_eq}
use Rattle.model_steps.specs.Once.{are_new}
use Rattle.model_steps.proofs.Apart.{turned}
use Rattle.model_steps.proofs.artifacts.are_apart.Goals as goal

pub loop-item-preserved : goal.loop-item-preserved
loop-item-preserved g c =
    turned g.T.Keyed.key_of c.args.items.now c.loop-item.item-index c.item-item.result (contains bytes_eq c.loop-item.names) (contains bytes_eq c.add_name.new.names)
    (are_new g.T.Keyed.key_of (λ name. false) c.args.items.now) c.in_ok-add_name.field-0 c.artifact.result.now c.value.result.now
    c.loop-item-test.true c.item-item.is c.value.ensures c.artifact.ensures c.if-not-branch.false c.in_ok-add_name.ensures.alone c.in_ok-add_name.ensures.all c.loop-item.invariant
