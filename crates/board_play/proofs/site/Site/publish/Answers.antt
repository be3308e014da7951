use Rattle.std.proofs.Common.{true, ap, ◌∙◌}
use Rattle.std.specs.FinMap as map
use Rattle.mvn_outside.proofs.Stages.{put_there}
use Rattle.board_play.proofs.site.Site.publish.Goals as goal

pub put-requires : goal.put-requires
put-requires g c = ap (λ m. map.get m c.in-Ok.piece) c.in-Ok.ensures.sealed ∙ put_there _ c.in-Ok.piece true
