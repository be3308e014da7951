use Rattle.std.proofs.Common.{ap, sym, ◌∙◌}
use Rattle.pom_text.specs.Reads.{attributes_of}
use Rattle.pom_text.proofs.Attributes.{attributes_end, rest_more, shorter}
use Rattle.pom_text.proofs.declaration.skip_attributes.Goals as goal

pub loop-behind-smaller : goal.loop-behind-smaller
loop-behind-smaller c = shorter c.loop-behind.rest.now ((c.in-Some.field-0-0.name.now, c.in-Some.field-0-0.value.now), c.in-Some.behind.now) (sym c.in-Some.ensures)

pub loop-behind-preserved : goal.loop-behind-preserved
loop-behind-preserved c = rest_more c.loop-behind.rest.now ((c.in-Some.field-0-0.name.now, c.in-Some.field-0-0.value.now), c.in-Some.behind.now) (attributes_of c.args.text.now).1 c.in-Some.ensures c.loop-behind.invariant

pub returns : goal.returns
returns c = ap (λ r. r.1) (sym (attributes_end c.loop-behind.rest.now (sym c.in_default.ensures))) ∙ c.loop-behind.invariant
