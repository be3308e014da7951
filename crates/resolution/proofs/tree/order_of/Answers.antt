use Rattle.std.proofs.Common.{subst, sym, ◌∙◌}
use Rattle.resolution.specs.Preorder.{Ascends}
use Rattle.resolution.proofs.Listed.{ascend}
use Rattle.resolution.proofs.tree.order_of.Goals as goal

pub preorder-requires : goal.preorder-requires
preorder-requires c = subst Ascends (sym (c.as_slice.ensures ∙ c.in_ok-above.ensures)) (ascend c.args.winners.now)
