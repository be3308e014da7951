use Rattle.std.proofs.Common.{rules, ◌<◌, ◌≤◌, length, sym}
use Rattle.pom_text.specs.Tree.{add_child}
use Rattle.pom_text.proofs.Trees.{not_changed, set_changed}
use Rattle.pom_text.proofs.tree.Tree.add_child.Goals as goal

pub returns-in_ok-push_child-clause-nodes : goal.returns-in_ok-push_child-clause-nodes
returns-in_ok-push_child-clause-nodes c =
    let nodes = c.args.self.now.nodes.items in
    let low : c.args.at < length nodes = search (rules, c.if-at-len.true, c.len.ensures) in
    set_changed (add_child c.args.child) c.args.at nodes c.index_mut.result.now c.push_child.new.node low c.index_mut.ensures.value c.in_ok-push_child.ensures

pub returns-else-at-len-clause-nodes : goal.returns-else-at-len-clause-nodes
returns-else-at-len-clause-nodes c =
    let nodes = c.args.self.now.nodes.items in
    let end : length nodes ≤ c.args.at = search (rules, c.if-at-len.false, c.len.ensures) in
    sym (not_changed (add_child c.args.child) c.args.at nodes end)
