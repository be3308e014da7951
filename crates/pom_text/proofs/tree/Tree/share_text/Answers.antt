-- share_text
use Rattle.std.proofs.Common.{rules, ◌<◌, length}
use Rattle.pom_text.proofs.Trees.{set_same}
use Rattle.pom_text.proofs.tree.Tree.share_text.Goals as goal

pub returns-in_ok-share_own_text-clause-nodes : goal.returns-in_ok-share_own_text-clause-nodes
returns-in_ok-share_own_text-clause-nodes c =
    let nodes = c.args.self.now.nodes.items in
    let low : c.args.at < length nodes = search (rules, c.if-at-len.true, c.len.ensures) in
    set_same c.args.at nodes c.index_mut.result.now c.share_own_text.new.node low c.index_mut.ensures.value c.in_ok-share_own_text.ensures
