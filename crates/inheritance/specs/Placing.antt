-- Where the plugins of a child and of its parent stand. Own rules of inheritance and of place.
use Rattle.std.specs.Prelude.{Bool, not, ◌&&◌, List, [], ◌∷◌, ◌++◌, map, filter, flat_map, Option, Some, None, if◌then◌else◌}
use Rattle.std.specs.List.{list_any}
use Rattle.std.specs.Option.{option_eq}
use Rattle.mvn_base.specs.declared.key.Key.{Key}
use Rattle.model_types.specs.declared.plugin.Execution.{Execution}
use Rattle.model_types.specs.declared.plugin.Plugin.{Plugin}
use Rattle.model_merge.specs.Keyed.{overlaid, same_key}
use Rattle.model_merge.specs.Keys.{key_of_plugin}
use Rattle.model_merge.specs.Merging.{merged_plugin, settled_plugins}

-- a parent's plugin as a child takes it over: without the executions that aren't inherited
abbrev pub handed_on : Plugin → Plugin
handed_on p = record {
  group = p.group;
  artifact = p.artifact;
  version = p.version;
  inherited = p.inherited;
  dependencies = p.dependencies;
  executions = filter (λ (e : Execution). e.inherited) p.executions;
  configuration = p.configuration;
}

-- the plugins that a parent passes on, each settled
abbrev pub inheritable : List Plugin → List Plugin
inheritable parent = map handed_on (filter (λ (p : Plugin). p.inherited) (settled_plugins parent))

-- whether both have a plugin
abbrev pub is_shared : List Plugin → Plugin → Bool
is_shared parent c = list_any (λ p. same_key (key_of_plugin p) (key_of_plugin c)) parent

-- the first shared plugin among some, by its key
abbrev pub next_shared : List Plugin → List Plugin → Option Key
next_shared parent [] = None
next_shared parent (c ∷ child) = if is_shared parent c then Some (key_of_plugin c) else next_shared parent child

-- the child's plugins that aren't shared, and whose next shared plugin is this one
abbrev pub leading : List Plugin → Option Key → List Plugin → List Plugin
leading parent target [] = []
leading parent target (c ∷ child) =
    if not (is_shared parent c) && option_eq same_key (next_shared parent child) target then c ∷ leading parent target child else leading parent target child

-- the parent's order, each shared plugin merged, the child's others in front of their next shared one or at the end
abbrev pub placed : List Plugin → List Plugin → List Plugin
placed child parent = flat_map (λ p. leading parent (Some (key_of_plugin p)) child ++ overlaid key_of_plugin merged_plugin child p ∷ []) parent ++ leading parent None child

unfoldable pub inherited_plugins : List Plugin → List Plugin → List Plugin
inherited_plugins child parent = placed (settled_plugins child) (inheritable parent)
