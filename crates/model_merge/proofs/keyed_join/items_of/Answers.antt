use Rattle.std.proofs.Common.{◌≡◌, IfOk, ap, map, subst, ◌∙◌}
use Rattle.model_merge.proofs.UnderKeys.{values_keyed}
use Rattle.model_merge.proofs.keyed_join.items_of.Goals as goal

pub returns : goal.returns
returns g c = λ items so. subst (λ x. IfOk c.values_of.result (λ list. list ≡ x)) (ap (map (λ e. e.1)) so ∙ values_keyed g.T.Keyed.key_of items) c.values_of.ensures
