use Rattle.std.proofs.Common.{◌≡◌, ◌<◌, ◌≤◌, ◌||◌, [], length, get_or, ap, ◌∙◌, arith}
use Rattle.std.proofs.lemmas.List.{get_or_read}
use Rattle.reactor_order.specs.Rows.{is_in}
use Rattle.reactor_order.proofs.Spreading.{spreads_first, spreads_past, spreads_in, spread_ends}
use Rattle.reactor_order.proofs.reachability.spread.Goals as goal

pub loop-m-init : goal.loop-m-init
loop-m-init c = spreads_first c.args.n c.args.rows.now.items c.args.modules.now c.args.more.now c.requires.rows

pub loop-m-preserved-then-gap-eq0 : goal.loop-m-preserved-then-gap-eq0
loop-m-preserved-then-gap-eq0 c =
    let now = c.loop-m.rows.items in
    let m = c.loop-m.m in
    let low : m < length now = omega (arith, c.loop-m-test.true, c.loop-m.invariant.rows.long) in
    let read : c.index_mut.result.now ≡ get_or now m [] = get_or_read now m c.index_mut.result.now low c.index_mut.ensures.value [] in
    spreads_in c.args.n c.args.rows.now.items c.args.modules.now c.args.more.now m now c.join.new.self c.loop-m-test.true c.loop-m.invariant
    (c.gap-gap.ensures.none c.if-gap-eq0.true) (c.join.ensures.long ∙ ap length read)
    (λ b. c.join.ensures.each b ∙ ap (λ r. is_in r b || is_in c.args.more.now b) read)

pub loop-m-preserved : goal.loop-m-preserved
loop-m-preserved c =
    spreads_past c.args.n c.args.rows.now.items c.args.modules.now c.args.more.now c.loop-m.m c.saturating_add-m.result c.loop-m.rows.items c.loop-m.invariant
    (λ j after before low. c.gap-gap.ensures.free j after (omega (arith, before, c.saturating_add-m.ensures)))
    (omega (arith, c.saturating_add-m.ensures, c.loop-m-test.true, c.ranges.n.fits))

pub returns-clause-rows : goal.returns-clause-rows
returns-clause-rows c = c.loop-m.invariant.rows

pub returns-clause-each : goal.returns-clause-each
returns-clause-each c = spread_ends c.args.n c.args.rows.now.items c.args.modules.now c.args.more.now c.loop-m.m c.loop-m.rows.items c.loop-m-test.false c.loop-m.invariant
