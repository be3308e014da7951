use Rattle.std.proofs.Common.{◌≡◌, ◌<◌, ◌≤◌, ◌+◌, ◌&&◌, not, nat_eq, length, get_or, sym, ap, subst, ◌∙◌, arith}
use Rattle.std.proofs.lemmas.List.{get_or_read}
use Rattle.std.specs.Int.{bit_at}
use Rattle.reactor_order.specs.Rows.{is_in}
use Rattle.reactor_order.proofs.Bits.{Differs, differs, differs_first, differs_more}
use Rattle.reactor_order.proofs.row.Row.without.Goals as goal

pub loop-at-init : goal.loop-at-init
loop-at-init c = differs_first c.self.inside.words.items c.less.inside.words.items c.in_ok-words.words.items c.in_ok-words.ensures.items

pub loop-at-preserved : goal.loop-at-preserved
loop-at-preserved c =
    let words = c.self.inside.words.items in
    let less = c.less.inside.words.items in
    let at = c.loop-at.at in
    let low : at < length words = omega (arith, c.loop-at-test.true, c.len-at-end.ensures) in
    let same : length less ≡ length words = ap length c.less.view_is ∙ c.requires ∙ sym (ap length c.self.view_is) in
    let own : c.index.result.now ≡ get_or words at 0 = get_or_read words at c.index.result.now low c.index.ensures 0 in
    let other : c.index-in-loop-at.result.now ≡ get_or less at 0 = get_or_read less at c.index-in-loop-at.result.now (omega (arith, low, same)) c.index-in-loop-at.ensures 0 in
    subst (λ l. Differs words less l (at + 1)) (sym c.in_ok-push.ensures.items)
    (differs_more words less c.loop-at.words.items at c.only.result c.loop-at.invariant
    (λ i small. c.only.ensures i small ∙ ap (λ x. nat_eq (bit_at x i) 1 && not (nat_eq (bit_at c.index-in-loop-at.result.now i) 1)) own ∙ ap (λ x. nat_eq (bit_at (get_or words at 0) i) 1 && not (nat_eq (bit_at x i) 1)) other))

pub returns-clause-long : goal.returns-clause-long
returns-clause-long c =
    let end : c.loop-at.at ≡ length c.self.inside.words.items = omega (arith, c.loop-at-test.false, c.loop-at.auto.at-end, c.len-at-end.ensures) in
    c.loop-at.invariant.long ∙ end ∙ ap length c.self.view_is

pub returns-clause-each : goal.returns-clause-each
returns-clause-each c = λ j.
    let words = c.self.inside.words.items in
    let less = c.less.inside.words.items in
    let end : length words ≤ c.loop-at.at = omega (arith, c.loop-at-test.false, c.len-at-end.ensures) in
    differs words less c.loop-at.words.items c.loop-at.at end c.loop-at.invariant j
    ∙ ap (λ v. is_in v j && not (is_in less j)) c.self.view_is ∙ ap (λ v. is_in c.args.self.now j && not (is_in v j)) c.less.view_is
