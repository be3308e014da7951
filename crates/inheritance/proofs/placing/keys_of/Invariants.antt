use Rattle.std.proofs.Common.{◌≡◌, ◌||◌, drop}
use Rattle.std.specs.HashSet.{contains}
use Rattle.std.specs.List.{list_any}
use Rattle.mvn_base.specs.declared.key.Key.{Key}
use Rattle.model_merge.specs.Keyed.{same_key}
use Rattle.model_merge.specs.Keys.{key_of_plugin}
use Rattle.inheritance.proofs.placing.keys_of.Given as goal

abbrev pub invariant-loop-plugin : goal.invariant-loop-plugin
invariant-loop-plugin l = (q : Key) → (contains same_key l.keys q || list_any (λ p. same_key (key_of_plugin p) q) (drop l.plugin-index l.plugins)) ≡ list_any (λ p. same_key (key_of_plugin p) q) l.plugins
