use Rattle.std.proofs.Common.{take}
use Rattle.reactor_order.specs.Waiting.{AreReleased}
use Rattle.reactor_order.proofs.waiting.release.Given as goal

abbrev pub invariant-loop-m : goal.invariant-loop-m
invariant-loop-m l = AreReleased (take l.m-index l.downs) l.initial.waits.items l.waits.items l.initial.ready l.ready
