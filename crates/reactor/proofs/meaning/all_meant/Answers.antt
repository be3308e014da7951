use Rattle.std.proofs.Common.{◌≡◌, length, sym, subst}
use Rattle.reactor_order.specs.Graph.{AreBelow}
use Rattle.reactor.proofs.Unknown.{all_below}
use Rattle.reactor.proofs.meaning.all_meant.Goals as goal

pub returns-clause-below : goal.returns-clause-below
returns-clause-below c = subst (AreBelow (length c.args.modules.now)) (sym c.in_ok-numbers.ensures) (all_below c.args.modules.now c.args.words.now)
