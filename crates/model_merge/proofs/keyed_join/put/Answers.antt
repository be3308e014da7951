use Rattle.std.proofs.Common.{◌∙◌}
use Rattle.model_merge.proofs.UnderKeys.{put_at}
use Rattle.model_merge.proofs.keyed_join.put.Goals as goal

pub returns : goal.returns
returns g c = λ items so. c.in_ok-insert.ensures.entries ∙ put_at g.T.Keyed.key_of c.args.index.now.entries items c.in_ok-key.key c.args.item c.in_ok-key.ensures so
