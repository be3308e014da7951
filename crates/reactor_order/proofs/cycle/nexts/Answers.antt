use Rattle.std.proofs.Common.{◌≡◌, ◌<◌, get_or, take, subst, sym, ◌∙◌}
use Rattle.std.proofs.lemmas.List.{get_or_default, length-set, take_all}
use Rattle.reactor_order.specs.Walking.{earlier, Goes}
use Rattle.reactor_order.proofs.Going.{goes_on, goes_take}
use Rattle.reactor_order.proofs.cycle.nexts.Goals as goal

pub loop-m-preserved : goal.loop-m-preserved
loop-m-preserved c =
    let edges = c.args.edges.now in
    let i = c.loop-m.m-index in
    let e = get_or edges i (0, 0) in
    let nexts = c.loop-m.nexts.items in
    let below = c.requires.edges i c.loop-m-test.true in
    let here : c.index.result.now ≡ get_or nexts e.0 0 = c.index.ensures ∙ get_or_default nexts e.0 c.index.result.now 0 (subst (λ k. e.0 < k) (sym c.loop-m.invariant.long) below.0) in
    record {
      long = length-set nexts e.0 c.next_of.result ∙ c.loop-m.invariant.long;
      goes = λ list same. goes_take c.args.n i edges list _ c.loop-m-test.true
          (goes_on c.args.n (take i edges) list nexts e.0 e.1 c.next_of.result below.0 below.1 (c.loop-m.invariant.goes list same)
          (c.next_of.ensures ∙ (λ j. earlier e.0 (here j) e.1 (sym (same e.1) j))));
    }

pub returns : goal.returns
returns c = λ list same. subst (λ es. Goes c.args.n es list c.loop-m.nexts.items) (take_all c.loop-m.m-index c.args.edges.now c.loop-m-test.false) (c.loop-m.invariant.goes list same)
