use Rattle.std.proofs.Common.{subst, sym, ◌∙◌, ap}
use Rattle.std.proofs.lemmas.List.{take_all}
use Rattle.reactor_order.specs.Graph.{flipped, AreEdgesBelow}
use Rattle.reactor_order.proofs.Beginning.{flipped_below}
use Rattle.reactor_order.proofs.place.flipped.Goals as goal

pub returns-clause-below : goal.returns-clause-below
returns-clause-below c = subst (AreEdgesBelow c.args.n) (sym (c.loop-m.invariant ∙ ap flipped (take_all c.loop-m.m-index c.args.edges.now c.loop-m-test.false))) (flipped_below c.args.n c.args.edges.now c.requires)
