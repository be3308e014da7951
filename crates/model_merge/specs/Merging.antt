-- How executions and plugins are merged. POM Reference, "Plugins" and "Inheritance";
-- the order of merged lists is an own rule.
use Rattle.std.specs.Prelude.{◌&&◌, List, map}
use Rattle.std.specs.Option.{option_or}
use Rattle.model_types.specs.declared.plugin.Execution.{Execution}
use Rattle.model_types.specs.declared.plugin.Plugin.{Plugin}
use Rattle.model_merge.specs.Configuration.{merged_configuration}
use Rattle.model_merge.specs.Keys.{key_of_dependency, key_of_execution, key_of_name, key_of_plugin}
use Rattle.model_merge.specs.Keyed.{merged_lists, settled, with_others}

-- an execution that names each of its goals once
unfoldable pub settled_execution : Execution → Execution
settled_execution e = record {
  id = e.id;
  phase = e.phase;
  goals = settled key_of_name e.goals;
  inherited = e.inherited;
  configuration = e.configuration;
}

-- a plugin that has one dependency of each key and one execution of each id
unfoldable pub settled_plugin : Plugin → Plugin
settled_plugin p = record {
  group = p.group;
  artifact = p.artifact;
  version = p.version;
  inherited = p.inherited;
  dependencies = settled key_of_dependency p.dependencies;
  executions = settled key_of_execution (map settled_execution p.executions);
  configuration = p.configuration;
}

-- one plugin of each name, each settled
abbrev pub settled_plugins : List Plugin → List Plugin
settled_plugins plugins = settled key_of_plugin (map settled_plugin plugins)

-- an execution, and the one of its id that it builds on
unfoldable pub merged_execution : Execution → Execution → Execution
merged_execution child parent = record {
  id = child.id;
  phase = option_or child.phase parent.phase;
  goals = with_others key_of_name parent.goals child.goals;
  inherited = child.inherited && parent.inherited;
  configuration = merged_configuration child.configuration parent.configuration;
}

-- a plugin, and the one of its name that it builds on
unfoldable pub merged_plugin : Plugin → Plugin → Plugin
merged_plugin child parent = record {
  group = child.group;
  artifact = child.artifact;
  version = option_or child.version parent.version;
  inherited = child.inherited && parent.inherited;
  dependencies = with_others key_of_dependency child.dependencies parent.dependencies;
  executions = merged_lists key_of_execution merged_execution child.executions parent.executions;
  configuration = merged_configuration child.configuration parent.configuration;
}
