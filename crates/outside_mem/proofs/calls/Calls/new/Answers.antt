use Rattle.std.proofs.Common.{◌+◌, length, length-take, ap, arith}
use Rattle.std.proofs.lemmas.Grind.{common_steps}
use Rattle.outside_mem.proofs.calls.Calls.new.Goals as goal

pub loop-n-preserved : goal.loop-n-preserved
loop-n-preserved c = record {
  so_far = λ q. grind (arith, common_steps, c.loop-n.invariant.so_far q, c.in_ok-insert.ensures.updates.0 q);
  none = λ e. absurd (omega (arith, ap length e, length-take (c.loop-n.n-index + 1) c.as_slice-n-items.result.now));
}
