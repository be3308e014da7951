use Rattle.std.proofs.Common.{w64, sym, ap, ◌∙◌}
use Rattle.std.proofs.lemmas.Nat.Bits.{bit_at_clear_other, bit_at_clear_same, bit_at_set_other, bit_at_set_same}
use Rattle.event_core.specs.Fronts.{number_of_mark}
use Rattle.event_core.proofs.marks.with_bit.Goals as goal

pub returns-then-mark-clause-same : goal.returns-then-mark-clause-same
returns-then-mark-clause-same c = bit_at_set_same w64 c.args.word c.args.place c.requires ∙ ap number_of_mark (sym c.if-mark.true)

pub returns-then-mark-clause-others : goal.returns-then-mark-clause-others
returns-then-mark-clause-others c = λ i low other. bit_at_set_other w64 c.args.word c.args.place c.requires i other

pub returns-else-mark-clause-same : goal.returns-else-mark-clause-same
returns-else-mark-clause-same c = bit_at_clear_same w64 c.args.word c.args.place c.requires ∙ ap number_of_mark (sym c.if-mark.false)

pub returns-else-mark-clause-others : goal.returns-else-mark-clause-others
returns-else-mark-clause-others c = bit_at_clear_other w64 c.args.word c.args.place c.requires
