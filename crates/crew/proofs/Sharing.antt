-- A crew may be shared by threads.
use denote.RattleType.{RattleType}
use denote.Ref.{NamedLft}
use denote.Param.Send.{IsSync, sendable}
use denote.Param.SendFields.{declared_sync}
use Rattle.std.proofs.Crossing
use Rattle.std.proofs.alloc.Global.TheSendSync as heap
use Rattle.build_core.proofs.Sharing.{plan_sync}
use Rattle.crew.specs.contracts.halves.Crew as crew

-- the plan, the repository as it was, and the allocator
pub crew_sync : (S : RattleType) (κ : NamedLft) → IsSync (crew.the_row κ S)
crew_sync S κ = declared_sync (crew.the_type κ S) (search (sendable, plan_sync), (search (Crossing.crosses, sendable), (search (heap.the_sync, Crossing.crosses, sendable) depth 60, tt)))
