-- A plan may be shared by threads, and may cross them.
use denote.Param.Send.{IsSend, IsSync, sendable}
use Rattle.std.proofs.Crossing
use Rattle.std.proofs.vec.Vec.TheSendSync as vec
use Rattle.mvn_shared.proofs.bytes.Bytes.TheSendSync as bytes
use Rattle.mvn_shared.proofs.list.List.TheSendSync as list
use Rattle.mvn_shared.proofs.text.Text.TheSendSync as text
use Rattle.mvn_base.proofs.file_name.FileName.TheSendSync as file_name
use Rattle.mvn_base.proofs.gav.Gav.TheSendSync as gav
use Rattle.mvn_base.proofs.phase.Phase.TheSendSync as phase
use Rattle.mvn_base.proofs.setting.Setting.TheLaws.TheKnot
use Rattle.goal_types.proofs.goal.Need.TheSendSync as need
use Rattle.goal_types.proofs.goal.Slot.TheSendSync as slot
use Rattle.goal_types.proofs.goal.SourceFile.TheSendSync as source
use Rattle.build_core.proofs.plan.Entry.TheSendSync as entry
use Rattle.build_core.proofs.plan.OwnFile.TheSendSync as own_file
use Rattle.build_core.specs.contracts.plan.Plan as plan

pub plan_sync : IsSync plan.the_row
plan_sync = search (entry.the_sync, own_file.the_sync, file_name.the_sync, gav.the_field_sync, phase.the_field_sync, need.the_field_sync, slot.the_field_sync, source.the_sync, bytes.the_sync, list.the_sync, text.the_sync, vec.the_sync, Crossing.crosses, TheKnot.crosses, sendable) depth 60 fits 20000

pub plan_send : IsSend plan.the_row
plan_send = search (entry.the_send, own_file.the_send, file_name.the_send, gav.the_field_send, phase.the_field_send, need.the_field_send, slot.the_field_send, source.the_send, bytes.the_send, list.the_send, text.the_send, vec.the_send, Crossing.crosses, TheKnot.crosses, sendable) depth 60 fits 20000
