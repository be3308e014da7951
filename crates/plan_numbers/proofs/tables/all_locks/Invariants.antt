use Rattle.std.proofs.Common.{◌≡◌, drop, flat_map}
use Rattle.std.specs.FinMap as finite
use Rattle.module_plan.specs.Numbers.{with_texts}
use Rattle.module_plan.specs.Ready.{ready_locks}
use Rattle.plan_numbers.proofs.tables.all_locks.Given as goal

abbrev pub invariant-loop-ready : goal.invariant-loop-ready
invariant-loop-ready l = with_texts l.set (flat_map ready_locks (drop l.ready-index l.modules)) ≡ with_texts finite.empty (flat_map ready_locks l.modules)
