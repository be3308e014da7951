use Rattle.std.proofs.Common.{rules, ap, sym, ◌∙◌}
use Rattle.std.specs.Str.{chars}
use Rattle.pom_text.specs.Reads.{attributes_of}
use Rattle.pom_text.proofs.Attributes.{attributes_end, rest_more, shorter}
use Rattle.pom_text.proofs.attribute_words.skip_attributes.Goals as goal

pub loop-behind-smaller : goal.loop-behind-smaller
loop-behind-smaller c = shorter (chars c.loop-behind.rest.now) ((chars c.in-Some.field-0-0.0.now, chars c.in-Some.field-0-0.1.now), chars c.in-Some.behind.now) (sym c.in-Some.ensures)

pub loop-behind-preserved : goal.loop-behind-preserved
loop-behind-preserved c = (search rules, rest_more (chars c.loop-behind.rest.now) ((chars c.in-Some.field-0-0.0.now, chars c.in-Some.field-0-0.1.now), chars c.in-Some.behind.now) (attributes_of (chars c.args.text.now)).1 c.in-Some.ensures c.loop-behind.invariant.1)

pub returns : goal.returns
returns c = ap (λ r. r.1) (sym (attributes_end (chars c.loop-behind.rest.now) (sym c.in_default.ensures))) ∙ c.loop-behind.invariant.1
