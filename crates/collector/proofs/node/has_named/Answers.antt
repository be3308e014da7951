use Rattle.std.proofs.Common.{◌∙◌}
use Rattle.collector.proofs.Named.{named}
use Rattle.collector.proofs.node.has_named.Goals as goal

pub returns : goal.returns
returns c =
    c.one_of.ensures
    ∙ named c.args.group.now c.args.artifact.now c.args.node.now c.has-by_both.result c.has-by_group.result c.has-by_artifact.result c.has-by_any.result
    c.has-by_both.ensures c.has-by_group.ensures c.has-by_artifact.ensures c.has-by_any.ensures
