use Rattle.std.proofs.Common.{arith, sym, ◌∙◌}
use Rattle.pom_text.proofs.Attributes.{shorter}
use Rattle.pom_text.proofs.Named.{encoding_end, encoding_found, encoding_more, value_within}
use Rattle.pom_text.proofs.declaration.encoding_from.Goals as goal

pub overflow_sub-place : goal.overflow_sub-place
overflow_sub-place c =
    let read = sym c.in-Some.ensures in
    let low = value_within c.loop-attribute.rest.now ((c.in-Some.attribute.name.now, c.in-Some.attribute.value.now), c.in-Some.behind.now) read in
    omega (arith, low, c.loop-attribute.invariant.within)

pub returns-then-is_encoding : goal.returns-then-is_encoding
returns-then-is_encoding c =
    sym (encoding_found c.args.total c.loop-attribute.rest.now ((c.in-Some.attribute.name.now, c.in-Some.attribute.value.now), c.in-Some.behind.now) (sym c.in-Some.ensures) (sym c.is_encoding.ensures ∙ c.if-is_encoding.true)) ∙ c.loop-attribute.invariant.same

pub loop-attribute-smaller : goal.loop-attribute-smaller
loop-attribute-smaller c = shorter c.loop-attribute.rest.now ((c.in-Some.attribute.name.now, c.in-Some.attribute.value.now), c.in-Some.behind.now) (sym c.in-Some.ensures)

pub loop-attribute-preserved : goal.loop-attribute-preserved
loop-attribute-preserved c =
    let read = sym c.in-Some.ensures in
    let low = shorter c.loop-attribute.rest.now ((c.in-Some.attribute.name.now, c.in-Some.attribute.value.now), c.in-Some.behind.now) read in
    record {
      same = sym (encoding_more c.args.total c.loop-attribute.rest.now ((c.in-Some.attribute.name.now, c.in-Some.attribute.value.now), c.in-Some.behind.now) read (sym c.is_encoding.ensures ∙ c.if-is_encoding.false)) ∙ c.loop-attribute.invariant.same;
      within = omega (arith, low, c.loop-attribute.invariant.within);
    }

pub returns : goal.returns
returns c = sym (encoding_end c.args.total c.loop-attribute.rest.now (sym c.in_default.ensures)) ∙ c.loop-attribute.invariant.same
