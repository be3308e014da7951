use Rattle.std.proofs.Common.{subst, ◌∙◌}
use Rattle.reactor_order.specs.Rows.{IsReachability}
use Rattle.reactor_order.proofs.Keeping.{keeps_step}
use Rattle.reactor_order.proofs.kept.keep.Goals as goal

pub loop-m-preserved : goal.loop-m-preserved
loop-m-preserved c = record {
  number = c.in_ok-try_edge.ensures.number ∙ c.loop-m.invariant.number;
  reach = subst (λ k. IsReachability k c.try_edge.new.kept.items c.try_edge.new.reach.ups.items c.try_edge.new.reach.downs.items) c.loop-m.invariant.number c.in_ok-try_edge.ensures.reach;
  keeps = keeps_step c.args.firm.now c.args.soft.now c.loop-m.m-index c.loop-m.kept.items c.try_edge.new.kept.items c.loop-m-test.true c.loop-m.invariant.keeps c.in_ok-try_edge.ensures.step;
}
