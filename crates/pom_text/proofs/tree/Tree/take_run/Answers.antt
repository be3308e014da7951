use Rattle.std.proofs.Common.{ap, sym, ◌∙◌}
use Rattle.std.specs.Str.{chars, encode_utf8_all}
use Rattle.pom_text.specs.Growth.{standing_of}
use Rattle.pom_text.specs.Tree.{add_text, changed}
use Rattle.pom_text.proofs.Bytes.{whole_again}
use Rattle.pom_text.proofs.Plain.{empty_run, grown_inside, outside_run, some_run}
use Rattle.pom_text.proofs.tree.Tree.take_run.Goals as goal

pub returns-then-is_over : goal.returns-then-is_over
returns-then-is_over c = empty_run (standing_of c.args.self.now) (chars c.args.run.now) (sym c.is_over.ensures ∙ c.if-is_over.true)

pub returns-in_default : goal.returns-in_default
returns-in_default c =
    outside_run (standing_of c.args.self.now) (chars c.args.run.now) (chars c.skip_space.result.now) c.is_over-in_default.result (sym c.is_over.ensures ∙ c.if-is_over.false) (sym c.innermost.ensures ∙ c.in_default.is) c.skip_space.ensures c.is_over-in_default.ensures

pub returns : goal.returns
returns c =
    let feed = c.behind_feed-fed.result.now in
    let fed = whole_again feed c.behind_feed-fed.utf8 ∙ ap encode_utf8_all c.behind_feed-fed.ensures in
    sym (grown_inside (standing_of c.args.self.now) c.in-Some.at (chars c.args.run.now) c.add_run.new.self.nodes.items c.add_run.new.self.path.items (sym c.innermost.ensures ∙ c.in-Some.is) c.requires
    (some_run (chars c.args.run.now) (sym c.is_over.ensures ∙ c.if-is_over.false))
    (c.in_ok-add_run.ensures.nodes ∙ ap (λ l. changed (add_text l) c.in-Some.at c.args.self.now.nodes.items) fed)
    c.add_run.ensures.path)
