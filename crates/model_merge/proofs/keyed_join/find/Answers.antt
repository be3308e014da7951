use Rattle.std.proofs.Common.{ap, ◌∙◌}
use Rattle.std.specs.Map.{lookup}
use Rattle.model_merge.specs.Keyed.{same_key}
use Rattle.model_merge.proofs.UnderKeys.{find_keyed}
use Rattle.model_merge.proofs.keyed_join.find.Goals as goal

pub returns : goal.returns
returns g c = λ items so. c.get.ensures.value ∙ ap (lookup (same_key c.args.key.now)) so ∙ find_keyed g.T.Keyed.key_of items c.args.key.now
