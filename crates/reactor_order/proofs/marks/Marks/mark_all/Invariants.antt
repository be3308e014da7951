use Rattle.std.proofs.Common.{take}
use Rattle.reactor_order.specs.Marks.{AreMarked}
use Rattle.reactor_order.proofs.marks.Marks.mark_all.Given as goal

abbrev pub invariant-loop-m : goal.invariant-loop-m
invariant-loop-m l = AreMarked (take l.m-index l.more) l.initial.self.marks.items l.self.marks.items l.initial.self.found.items l.self.found.items
