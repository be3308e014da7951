use Rattle.reactor_order.proofs.Marking.{all_free}
use Rattle.reactor_order.proofs.marks.Marks.new.Goals as goal

pub returns : goal.returns
returns c = rw (c.in_ok-vec.ensures.items_if_clones_equal (λ y e. e), c.new.ensures.items) (all_free c.args.n)
