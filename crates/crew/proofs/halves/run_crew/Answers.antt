use denote.Param.Send.{sendable}
use Rattle.board.proofs.Sharing.{lock_sync, pass_send}
use Rattle.crew.proofs.Sharing.{crew_sync}
use Rattle.crew.proofs.halves.run_crew.Goals as goal

pub run-requires-sync-T : goal.run-requires-sync-T
run-requires-sync-T g c κs within = search (sendable, crew_sync) depth 60

pub run-requires-sync-L : goal.run-requires-sync-L
run-requires-sync-L g c κs within = search (sendable, lock_sync) depth 60

pub run-requires-send-P : goal.run-requires-send-P
run-requires-send-P g c κs within = search (sendable, pass_send) depth 60
