-- Where nothing can stand twice.
use Rattle.std.proofs.Common.{◌≡◌, ℕ, ◌<◌, Bool, true, false, ◌&&◌, List, [], ◌∷◌, map, length, nat_lt, refl, arith, sym, ap, ◌∙◌}
use Rattle.std.specs.List.{list_all}
use Rattle.std.proofs.lemmas.Bool.{ltb-true}
use Rattle.mvn_base.specs.declared.key.Key.{Key}
use Rattle.model_types.specs.declared.plugin.Execution.{Execution}
use Rattle.model_types.specs.declared.plugin.Plugin.{Plugin}
use Rattle.model_merge.specs.Keyed.{settled}
use Rattle.model_merge.proofs.UnderKeys.{and_left, and_right}
use Rattle.model_merge.specs.Keys.{key_of_dependency, key_of_execution, key_of_name}
use Rattle.model_merge.specs.Merging.{settled_execution, settled_plugin}
use Rattle.model_merge.specs.Singles.{has_single_goal, is_single}

-- a list of at most one item is settled
pub single : {T : Type 0} (key : T → Key) (items : List T) → length items < 2 → settled key items ≡ items
single key [] low = refl
single key (x ∷ []) low = refl
single key (x ∷ y ∷ items) low = absurd (omega (arith, low))

-- so is an execution of at most one goal
execution_settled : (e : Execution) → length e.goals < 2 → settled_execution e ≡ e
unfolding settled_execution
execution_settled e low = λ i. record {
  id = e.id;
  phase = e.phase;
  goals = single key_of_name e.goals low i;
  inherited = e.inherited;
  configuration = e.configuration;
}

pub execution_kept : (e kept : Execution) → kept ≡ e → length e.goals < 2 → kept ≡ settled_execution e
execution_kept e kept same low = same ∙ sym (execution_settled e low)

few_executions : (es : List Execution) → length es < 2 → list_all has_single_goal es ≡ true → settled key_of_execution (map settled_execution es) ≡ es
few_executions [] low all = refl
few_executions (e ∷ []) low all = ap (λ x. x ∷ []) (execution_settled e (ltb-true (length e.goals) 2 (and_left (has_single_goal e) true all)))
few_executions (x ∷ y ∷ es) low all = absurd (omega (arith, low))

-- so is a plugin of at most one dependency and one execution, and this of at most one goal
plugin_settled : (p : Plugin) → length p.dependencies < 2 → length p.executions < 2 → list_all has_single_goal p.executions ≡ true → settled_plugin p ≡ p
unfolding settled_plugin
plugin_settled p few low all = λ i. record {
  group = p.group;
  artifact = p.artifact;
  version = p.version;
  inherited = p.inherited;
  dependencies = single key_of_dependency p.dependencies few i;
  executions = few_executions p.executions low all i;
  configuration = p.configuration;
}

pub plugin_kept : (p kept : Plugin) → kept ≡ p → is_single p ≡ true → kept ≡ settled_plugin p
plugin_kept p kept same is =
    let few = nat_lt (length p.dependencies) 2 in
    let low = nat_lt (length p.executions) 2 in
    let goals = list_all has_single_goal p.executions in
    let rest = and_right few (low && goals) is in
    same ∙ sym (plugin_settled p (ltb-true (length p.dependencies) 2 (and_left few (low && goals) is)) (ltb-true (length p.executions) 2 (and_left low goals rest)) (and_right low goals rest))
