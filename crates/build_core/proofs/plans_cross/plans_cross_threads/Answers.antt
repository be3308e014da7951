use Rattle.build_core.proofs.Sharing.{plan_send, plan_sync}
use Rattle.build_core.proofs.plans_cross.plans_cross_threads.Goals as goal

pub returns : goal.returns
returns c = record { shared = plan_sync; sent = plan_send }
