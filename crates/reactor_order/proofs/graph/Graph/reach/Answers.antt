use Rattle.std.proofs.Common.{[], length, get_or, subst}
use Rattle.reactor_order.specs.Marks.{AreReached}
use Rattle.reactor_order.proofs.Adjacency.{reached_by}
use Rattle.reactor_order.proofs.graph.Graph.reach.Goals as goal

pub returns-clause-reached : goal.returns-clause-reached
returns-clause-reached c = λ n edges g.
    reached_by n edges c.args.self.now.lists.items c.args.starts.now c.reach.new.marks.marks.items g
    (subst (λ lists. AreReached (λ m. get_or lists m []) c.args.starts.now (length lists) c.reach.new.marks.marks.items) c.deref.ensures.value c.in_ok-reach.ensures.reached)
