use Rattle.std.proofs.Common.{rules, ◌++◌, false, ap, ◌∙◌}
use Rattle.std.specs.Str.{chars, encode_utf8_all}
use Rattle.pom_text.specs.Parts.{lines}
use Rattle.pom_text.proofs.Breaks.{line_last, line_more, line_shorter}
use Rattle.pom_text.proofs.Bytes.{whole_again}
use Rattle.pom_text.proofs.spelled.push_lines.Goals as goal

pub loop-line-smaller : goal.loop-line-smaller
loop-line-smaller c = line_shorter (chars c.loop-line.rest.now) (chars c.in-Some.line.now) (chars c.in-Some.behind.now) c.in-Some.ensures

pub loop-line-preserved : goal.loop-line-preserved
loop-line-preserved c =
    let feed = c.behind_feed.result.now in
    let fed = whole_again feed c.behind_feed.utf8 ∙ ap encode_utf8_all c.behind_feed.ensures in (
      search rules,
      line_more c.loop-line.returned (chars c.loop-line.rest.now) (chars c.in-Some.line.now) (chars c.in-Some.behind.now) c.loop-line.text feed c.push_str.new.self c.push_str-in-Some.new.self
          (c.args.text.now ++ encode_utf8_all (lines false (chars c.args.more.now))) c.in-Some.ensures fed c.in_ok-push_str.ensures.ok c.in_ok-push_str-2.ensures.ok c.loop-line.invariant.1,
    )

pub returns : goal.returns
returns c =
    let feed = c.behind_feed-2.result.now in
    let fed = whole_again feed c.behind_feed-2.utf8 ∙ ap encode_utf8_all c.behind_feed-2.ensures in
    line_last c.loop-line.returned (chars c.loop-line.rest.now) c.loop-line.text feed c.push_str-2.new.self
    (c.args.text.now ++ encode_utf8_all (lines false (chars c.args.more.now))) c.in_default.ensures fed c.in_ok-push_str-3.ensures.ok c.loop-line.invariant.1
