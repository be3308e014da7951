use Rattle.std.proofs.Common.{ap, false, ◌∙◌}
use Rattle.std.specs.Option.{is_some}
use Rattle.std.specs.FinMap as map
use Rattle.mvn_outside.proofs.NumberMaps.{put_there}
use Rattle.device_tests.proofs.disk.a_piece_is_discarded.Goals as goal

pub discard-requires : goal.discard-requires
discard-requires g c = ap (λ m. is_some (map.get m c.in-Ok.piece)) c.in-Ok.ensures.open ∙ ap is_some (put_there _ c.in-Ok.piece false)
