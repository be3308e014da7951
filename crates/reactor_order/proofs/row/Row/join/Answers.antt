use Rattle.std.proofs.Common.{◌≡◌, ◌<◌, ◌≤◌, ◌||◌, nat_eq, length, get_or, sym, ap, ◌∙◌, arith}
use Rattle.std.proofs.lemmas.List.{get_or_read}
use Rattle.std.specs.Int.{bit_at}
use Rattle.reactor_order.specs.Rows.{is_in}
use Rattle.reactor_order.proofs.Bits.{joins_first, joins_more, joined}
use Rattle.reactor_order.proofs.row.Row.join.Goals as goal

pub loop-at-init : goal.loop-at-init
loop-at-init c = joins_first c.self.inside.words.items c.more.inside.words.items

pub loop-at-preserved : goal.loop-at-preserved
loop-at-preserved c =
    let old = c.self.inside.words.items in
    let more = c.more.inside.words.items in
    let now = c.loop-at.self-inside.words.items in
    let at = c.loop-at.at in
    let low : at < length old = omega (arith, c.loop-at-test.true, c.len-at-end.ensures) in
    let same : length more ≡ length old = ap length c.more.view_is ∙ c.requires ∙ sym (ap length c.self.view_is) in
    let own : c.index.result.now ≡ get_or now at 0 = get_or_read now at c.index.result.now (omega (arith, low, c.loop-at.invariant.long)) c.index.ensures 0 in
    let other : c.index-in-loop-at.result.now ≡ get_or more at 0 = get_or_read more at c.index-in-loop-at.result.now (omega (arith, low, same)) c.index-in-loop-at.ensures 0 in
    joins_more old more now at c.both.result low c.loop-at.invariant
    (λ i. c.both.ensures i ∙ ap (λ x. nat_eq (bit_at x i) 1 || nat_eq (bit_at c.index-in-loop-at.result.now i) 1) own ∙ ap (λ x. nat_eq (bit_at (get_or now at 0) i) 1 || nat_eq (bit_at x i) 1) other)

pub returns-clause-each : goal.returns-clause-each
returns-clause-each c = λ j.
    let old = c.self.inside.words.items in
    let more = c.more.inside.words.items in
    let end : length old ≤ c.loop-at.at = omega (arith, c.loop-at-test.false, c.len-at-end.ensures) in
    let same : length more ≡ length old = ap length c.more.view_is ∙ c.requires ∙ sym (ap length c.self.view_is) in
    joined old more c.loop-at.self-inside.words.items c.loop-at.at end same c.loop-at.invariant j
    ∙ ap (λ v. is_in v j || is_in more j) c.self.view_is ∙ ap (λ v. is_in c.args.self.now j || is_in v j) c.more.view_is
