use Rattle.std.proofs.Common.{◌≡◌, ◌≤◌, ◌+◌, drop}
use Rattle.module_plan.specs.Plans.{most_events}
use Rattle.module_plan.specs.Ready.{all_ready_events}
use Rattle.plan_numbers.proofs.events.count_events.Given as goal

-- the modules before this one are counted, and they aren't too many
abbrev pub invariant-loop-at : goal.invariant-loop-at
invariant-loop-at l = (l.total + all_ready_events (drop l.at l.modules) ≡ all_ready_events l.modules) × (l.total ≤ most_events)
