use Rattle.std.proofs.Common.{◌≡◌, ◌<◌, length, ap, sym, subst, ◌∙◌, arith}
use Rattle.reactor_order.specs.Graph.{AreBelow, AreEdgesBelow}
use Rattle.reactor.specs.Upstreams.{all_upstreams}
use Rattle.reactor.proofs.InOrder.{built_in_order, edges_below, selected_stand}
use Rattle.reactor.proofs.modules.with_upstreams.Goals as goal

pub all_upstreams-requires-clause-few : goal.all_upstreams-requires-clause-few
all_upstreams-requires-clause-few c =
    let s = selected_stand c.args.modules.now c.args.resolutions.now c.args.line.now c.args.found.now c.args.numbers c.requires.ordered c.requires.selected in
    subst (λ l. length l < 4294967296) (sym c.as_slice-2.ensures) (omega (arith, s.few, c.requires.few))

pub all_upstreams-requires-clause-below : goal.all_upstreams-requires-clause-below
all_upstreams-requires-clause-below c =
    let s = selected_stand c.args.modules.now c.args.resolutions.now c.args.line.now c.args.found.now c.args.numbers c.requires.ordered c.requires.selected in
    subst (AreBelow (length c.args.modules.now)) (sym c.as_slice-2.ensures) s.below

pub all_upstreams-requires-clause-edges : goal.all_upstreams-requires-clause-edges
all_upstreams-requires-clause-edges c = subst (AreEdgesBelow (length c.args.modules.now)) (sym c.as_slice.ensures) (edges_below c.args.modules.now c.args.resolutions.now c.args.found.now c.requires.ordered)

pub returns-clause-order : goal.returns-clause-order
returns-clause-order c =
    let is : c.in_ok-upstreams.upstreams ≡ all_upstreams c.args.found.now.edges c.args.numbers =
    c.in_ok-upstreams.ensures ∙ ap (λ e. all_upstreams e c.as_slice-2.result.now) c.as_slice.ensures ∙ ap (λ n. all_upstreams c.args.found.now.edges n) c.as_slice-2.ensures in
    built_in_order c.args.modules.now c.args.resolutions.now c.args.line.now (record { numbers = c.args.numbers; upstreams = c.in_ok-upstreams.upstreams })
    (record { found = c.args.found.now; ordered = c.requires.ordered; selected = c.requires.selected; upstreams = is })
