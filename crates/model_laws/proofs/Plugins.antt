-- Plugins that are settled, and merged.
use Rattle.std.proofs.Common.{◌≡◌, true, List, [], ◌∷◌, map, Option, Some, None, refl, ap, ◌∙◌}
use Rattle.std.specs.List.{list_all}
use Rattle.std.specs.Option.{option_map_or}
use Rattle.model_types.specs.declared.plugin.Execution.{Execution}
use Rattle.model_types.specs.declared.plugin.Plugin.{Plugin}
use Rattle.model_merge.specs.Keyed.{item_of, others, overlaid, settled}
use Rattle.model_merge.specs.Keys.{key_of_dependency, key_of_execution, key_of_name, key_of_plugin}
use Rattle.model_merge.specs.Merging.{merged_execution, merged_plugin, settled_execution, settled_plugin}
use Rattle.model_merge.proofs.UnderKeys.{and_left, and_right}
use Rattle.model_laws.specs.Keys.{IsSettled, goals_once}
use Rattle.model_laws.proofs.Keys.{both_true, once_settled}
use Rattle.model_laws.proofs.Merges.{all_append, all_map, all_others, all_settled, join_merged, join_with_others, settled_kept}

-- a merged item has the child's key
pub execution_keeps : (c p : Execution) → key_of_execution (merged_execution c p) ≡ key_of_execution c
unfolding merged_execution
execution_keeps c p = refl

pub plugin_keeps : (c p : Plugin) → key_of_plugin (merged_plugin c p) ≡ key_of_plugin c
unfolding merged_plugin
plugin_keeps c p = refl

pub settled_keeps : (p : Plugin) → key_of_plugin (settled_plugin p) ≡ key_of_plugin p
unfolding settled_plugin
settled_keeps p = refl

goals_settled : (e : Execution) → goals_once (settled_execution e) ≡ true
unfolding settled_execution
goals_settled e = once_settled key_of_name e.goals

all_goals : (es : List Execution) → list_all goals_once (map settled_execution es) ≡ true
all_goals [] = refl
all_goals (e ∷ es) = both_true (goals_once (settled_execution e)) (list_all goals_once (map settled_execution es)) (goals_settled e) (all_goals es)

-- a settled plugin has each thing once
pub is_settled : (p : Plugin) → IsSettled (settled_plugin p)
unfolding settled_plugin
is_settled p = record {
  dependencies = once_settled key_of_dependency p.dependencies;
  executions = once_settled key_of_execution (map settled_execution p.executions);
  goals = all_settled key_of_execution goals_once (map settled_execution p.executions) (all_goals p.executions);
}

execution_stays : (e : Execution) → goals_once e ≡ true → settled_execution e ≡ e
unfolding settled_execution
execution_stays e once = λ i. record {
  id = e.id;
  phase = e.phase;
  goals = settled_kept key_of_name e.goals once i;
  inherited = e.inherited;
  configuration = e.configuration;
}

executions_stay : (es : List Execution) → list_all goals_once es ≡ true → map settled_execution es ≡ es
executions_stay [] all = refl
executions_stay (e ∷ es) all =
    ap (λ x. x ∷ map settled_execution es) (execution_stays e (and_left (goals_once e) (list_all goals_once es) all))
    ∙ ap (λ l. e ∷ l) (executions_stay es (and_right (goals_once e) (list_all goals_once es) all))

-- and is left as it is
pub settled_stays : (p : Plugin) → IsSettled p → settled_plugin p ≡ p
unfolding settled_plugin
settled_stays p is = λ i. record {
  group = p.group;
  artifact = p.artifact;
  version = p.version;
  inherited = p.inherited;
  dependencies = settled_kept key_of_dependency p.dependencies is.dependencies i;
  executions = (ap (settled key_of_execution) (executions_stay p.executions is.goals) ∙ settled_kept key_of_execution p.executions is.executions) i;
  configuration = p.configuration;
}

goals_merged : (c p : Execution) → goals_once (merged_execution c p) ≡ true
unfolding merged_execution
goals_merged c p = (join_with_others key_of_name p.goals c.goals).once

over_once : (child : List Execution) (e : Execution) → goals_once e ≡ true → goals_once (overlaid key_of_execution merged_execution child e) ≡ true
over_once child e once = by (item_of key_of_execution child (key_of_execution e))
  where
    by : (o : Option Execution) → goals_once (option_map_or (λ c. merged_execution c e) o e) ≡ true
    by None = once
    by (Some c) = goals_merged c e

-- two settled plugins merge to a settled one
pub merged_settled : (c p : Plugin) → IsSettled c → IsSettled p → IsSettled (merged_plugin c p)
unfolding merged_plugin
merged_settled c p child parent =
    let cs = settled key_of_execution c.executions in
    let ps = settled key_of_execution p.executions in
    let one = all_settled key_of_execution goals_once c.executions child.goals in
    let other = all_settled key_of_execution goals_once p.executions parent.goals in record {
      dependencies = (join_with_others key_of_dependency c.dependencies p.dependencies).once;
      executions = (join_merged key_of_execution merged_execution execution_keeps c.executions p.executions).once;
      goals = all_append key_of_execution goals_once (map (overlaid key_of_execution merged_execution cs) ps) (others key_of_execution ps cs)
          (all_map key_of_execution goals_once (overlaid key_of_execution merged_execution cs) (over_once cs) ps other)
          (all_others key_of_execution goals_once ps cs one);
    }
