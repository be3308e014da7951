use Rattle.std.proofs.Common.{◌≡◌, drop}
use Rattle.module_plan.specs.Uses.{needs_path}
use Rattle.module_plan.proofs.winners.needs_path.Given as goal

-- no goal so far needs one
abbrev pub invariant-loop-call : goal.invariant-loop-call
invariant-loop-call l = needs_path (drop l.call-index l.calls) ≡ needs_path l.calls
