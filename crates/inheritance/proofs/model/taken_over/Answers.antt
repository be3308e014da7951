use Rattle.std.proofs.Common.{◌≡◌, length, rules}
use Rattle.inheritance.proofs.Alone.{taken_alone}
use Rattle.inheritance.proofs.model.taken_over.Goals as goal

pub returns-then-child-eq0 : goal.returns-then-child-eq0
returns-then-child-eq0 g c =
    let none : length c.args.child.now ≡ 0 = search rules in
    taken_alone g.T.Keyed.key_of c.args.child.now c.args.parent.now c.settled.result none c.settled.ensures
