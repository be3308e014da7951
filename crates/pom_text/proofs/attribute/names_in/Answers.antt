use Rattle.std.proofs.Common.{rules, ◌++◌, append-nil, ap, sym, ◌∙◌}
use Rattle.std.specs.Str.{chars}
use Rattle.pom_text.specs.Reads.{attributes_of, names_of}
use Rattle.pom_text.proofs.Attributes.{attributes_end, names_more, shorter}
use Rattle.pom_text.proofs.attribute.names_in.Goals as goal

pub loop-attribute-smaller : goal.loop-attribute-smaller
loop-attribute-smaller c = shorter (chars c.loop-attribute.rest.now) ((chars c.in-Some.attribute.0.now, chars c.in-Some.attribute.1.now), chars c.in-Some.behind.now) (sym c.in-Some.ensures)

pub loop-attribute-preserved : goal.loop-attribute-preserved
loop-attribute-preserved c = (search rules, names_more (chars c.loop-attribute.rest.now) ((chars c.in-Some.attribute.0.now, chars c.in-Some.attribute.1.now), chars c.in-Some.behind.now) c.loop-attribute.names c.push.new.self (names_of (attributes_of (chars c.args.text.now)).0) c.in_ok-name.name c.in-Some.ensures c.loop-attribute.invariant.1 c.in_ok-name.ensures c.in_ok-push.ensures.ok)

pub returns : goal.returns
returns c =
    let end = attributes_end (chars c.loop-attribute.rest.now) (sym c.in_default.ensures) in
    sym (append-nil c.loop-attribute.names) ∙ ap (λ r. c.loop-attribute.names ++ names_of r.0) (sym end) ∙ c.loop-attribute.invariant.1
