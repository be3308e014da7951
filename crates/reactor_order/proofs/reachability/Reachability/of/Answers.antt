use Rattle.std.proofs.Common.{[], ◌∷◌, ◌++◌, take, get_or, sym, subst, ◌∙◌}
use Rattle.std.proofs.lemmas.List.{take_more}
use Rattle.reactor_order.specs.Rows.{IsReachability}
use Rattle.reactor_order.proofs.reachability.Reachability.of.Goals as goal

pub loop-m-preserved : goal.loop-m-preserved
loop-m-preserved c =
    let n = c.args.n in
    let edges = c.args.edges.now in
    let i = c.loop-m.m-index in
    let same = c.loop-m.invariant.number in
    record {
      number = c.in_ok-add.ensures.number ∙ same;
      so_far = subst (λ es. IsReachability n es c.add.new.self.ups.items c.add.new.self.downs.items) (sym (take_more edges i (0, 0) c.loop-m-test.true))
          (subst (λ k. IsReachability k (take i edges ++ get_or edges i (0, 0) ∷ []) c.add.new.self.ups.items c.add.new.self.downs.items) same
          (c.in_ok-add.ensures.more (take i edges) (subst (λ k. IsReachability k (take i edges) c.loop-m.reach.ups.items c.loop-m.reach.downs.items) (sym same) c.loop-m.invariant.so_far)));
    }
