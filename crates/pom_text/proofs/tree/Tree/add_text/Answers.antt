use Rattle.std.proofs.Common.{rules, ◌<◌, ◌≤◌, length, ap, sym}
use Rattle.pom_text.specs.Tree.{add_text}
use Rattle.pom_text.proofs.Trees.{not_changed, set_changed}
use Rattle.pom_text.proofs.tree.Tree.add_text.Goals as goal

pub returns-in_ok-push_str-clause-nodes : goal.returns-in_ok-push_str-clause-nodes
returns-in_ok-push_str-clause-nodes c =
    let nodes = c.args.self.now.nodes.items in
    let low : c.args.at < length nodes = search (rules, c.if-at-len.true, c.len.ensures) in
    set_changed (add_text c.args.more.now) c.args.at nodes c.index_mut.result.now (record { name = c.index_mut.result.now.name; attributes = c.index_mut.result.now.attributes; text = c.push_str.new.self; children = c.index_mut.result.now.children }) low c.index_mut.ensures.value (ap (λ l. record { name = c.index_mut.result.now.name; attributes = c.index_mut.result.now.attributes; text = l; children = c.index_mut.result.now.children }) c.in_ok-push_str.ensures.ok)

pub returns-else-at-len-clause-nodes : goal.returns-else-at-len-clause-nodes
returns-else-at-len-clause-nodes c =
    let nodes = c.args.self.now.nodes.items in
    let end : length nodes ≤ c.args.at = search (rules, c.if-at-len.false, c.len.ensures) in
    sym (not_changed (add_text c.args.more.now) c.args.at nodes end)
