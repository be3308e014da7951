use Rattle.std.proofs.Common.{◌≡◌, ◌++◌, ◌∷◌, [], flat_map}
use Rattle.std.specs.Vec.Iter.{into_iter_items}
use Rattle.model_merge.specs.Keys.{key_of_plugin}
use Rattle.inheritance.specs.Others.{listed}
use Rattle.inheritance.proofs.placing.in_place.Given as goal

abbrev pub invariant-loop-plugin : goal.invariant-loop-plugin
invariant-loop-plugin l = l.list ++ flat_map (λ p. listed l.before (key_of_plugin p) ++ p ∷ []) (into_iter_items l.plugin-iterator) ≡ flat_map (λ p. listed l.before (key_of_plugin p) ++ p ∷ []) l.fn.parent
