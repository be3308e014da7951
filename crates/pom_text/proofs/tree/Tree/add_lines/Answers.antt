use Rattle.std.proofs.Common.{rules, ◌<◌, ◌≤◌, false, length, sym}
use Rattle.std.specs.Str.{chars, encode_utf8_all}
use Rattle.pom_text.specs.Parts.{lines}
use Rattle.pom_text.specs.Tree.{add_text}
use Rattle.pom_text.proofs.Trees.{not_changed, set_changed}
use Rattle.pom_text.proofs.tree.Tree.add_lines.Goals as goal

pub returns-in_ok-push_section-clause-nodes : goal.returns-in_ok-push_section-clause-nodes
returns-in_ok-push_section-clause-nodes c =
    let nodes = c.args.self.now.nodes.items in
    let low : c.args.at < length nodes = search (rules, c.if-at-len.true, c.len.ensures) in
    set_changed (add_text (encode_utf8_all (lines false (chars c.args.more.now)))) c.args.at nodes c.index_mut.result.now c.push_section.new.node low c.index_mut.ensures.value c.in_ok-push_section.ensures

pub returns-else-at-len-clause-nodes : goal.returns-else-at-len-clause-nodes
returns-else-at-len-clause-nodes c =
    let nodes = c.args.self.now.nodes.items in
    let end : length nodes ≤ c.args.at = search (rules, c.if-at-len.false, c.len.ensures) in
    sym (not_changed (add_text (encode_utf8_all (lines false (chars c.args.more.now)))) c.args.at nodes end)
