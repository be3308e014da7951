-- What the groups of a model hold that projects and profiles may state: what the read table gives to the elements of each name, defaults included.
-- POM Reference.
use Rattle.std.specs.Prelude.{ℕ, not, List, [], map, flat_map, codes, Option, Some}
use Rattle.mvn_base.specs.declared.gav.Gav.{Gav}
use Rattle.mvn_base.specs.declared.key.Key.{Key}
use Rattle.mvn_base.specs.Limits.{maven_plugins}
use Rattle.model_types.specs.declared.build.Build.{Build}
use Rattle.model_types.specs.declared.build.BuildBase.{BuildBase}
use Rattle.model_types.specs.declared.build.Outputs.{Outputs}
use Rattle.model_types.specs.declared.build.Sources.{Sources}
use Rattle.model_types.specs.declared.dependency.Dependency.{Dependency}
use Rattle.model_types.specs.declared.dependency.Exclusion.{Exclusion}
use Rattle.model_types.specs.declared.model.ModelBase.{ModelBase}
use Rattle.model_types.specs.declared.plugin.Execution.{Execution}
use Rattle.model_types.specs.declared.plugin.Plugin.{Plugin}
use Rattle.pom_text.specs.declared.node.Node.{Node}
use Rattle.pom_model.specs.Elements.{child, children, items, listed, named, own_text, text_is, text_of, text_or}
use Rattle.pom_model.specs.AnyNames.{configuration, properties}

-- what is read of each element of a name, in the first of another name
abbrev pub list_in : {A : Type 0} → (List Node → Node → A) → List Node → List ℕ → List ℕ → Option Node → List A
list_in value nodes outer name node = map (value nodes) (items nodes name (child nodes outer node))

abbrev pub text_item : List Node → Node → List ℕ
text_item nodes node = own_text node

unfoldable pub exclusion : List Node → Node → Exclusion
exclusion nodes node = record { group = text_or nodes (codes "groupId") (codes "*") (Some node); artifact = text_or nodes (codes "artifactId") (codes "*") (Some node) }

-- what a dependency is told apart by
unfoldable pub dependency_key : List Node → Node → Key
dependency_key nodes node = record {
  group = text_or nodes (codes "groupId") [] (Some node);
  artifact = text_or nodes (codes "artifactId") [] (Some node);
  kind = text_or nodes (codes "type") (codes "jar") (Some node);
  classifier = text_or nodes (codes "classifier") [] (Some node);
}

unfoldable pub dependency : List Node → Node → Dependency
dependency nodes node = record {
  group = (dependency_key nodes node).group;
  artifact = (dependency_key nodes node).artifact;
  version = text_of nodes (codes "version") (Some node);
  kind = (dependency_key nodes node).kind;
  classifier = (dependency_key nodes node).classifier;
  scope = text_of nodes (codes "scope") (Some node);
  optional = text_or nodes (codes "optional") [] (Some node);
  exclusions = list_in exclusion nodes (codes "exclusions") (codes "exclusion") (Some node);
}

abbrev pub dependencies : List Node → Option Node → List Dependency
dependencies nodes node = list_in dependency nodes (codes "dependencies") (codes "dependency") node

abbrev pub execution_name : List Node → Node → List ℕ × Option (List ℕ)
execution_name nodes node = (text_or nodes (codes "id") (codes "default") (Some node), text_of nodes (codes "phase") (Some node))

unfoldable pub execution : List Node → Node → Execution
execution nodes node = record {
  id = text_or nodes (codes "id") (codes "default") (Some node);
  phase = text_of nodes (codes "phase") (Some node);
  goals = list_in text_item nodes (codes "goals") (codes "goal") (Some node);
  inherited = not (text_is nodes (codes "inherited") (codes "false") (Some node));
  configuration = configuration nodes (Some node);
}

-- what a plugin is told apart by
unfoldable pub plugin_name : List Node → Node → List ℕ × List ℕ
plugin_name nodes node = (text_or nodes (codes "groupId") maven_plugins (Some node), text_or nodes (codes "artifactId") [] (Some node))

abbrev pub plugin_texts : List Node → Node → List ℕ × List ℕ × Option (List ℕ)
plugin_texts nodes node = ((plugin_name nodes node).0, (plugin_name nodes node).1, text_of nodes (codes "version") (Some node))

abbrev pub plugin_lists : List Node → Node → List Dependency × List Execution
plugin_lists nodes node = (dependencies nodes (Some node), list_in execution nodes (codes "executions") (codes "execution") (Some node))

unfoldable pub plugin : List Node → Node → Plugin
plugin nodes node = record {
  group = (plugin_name nodes node).0;
  artifact = (plugin_name nodes node).1;
  version = text_of nodes (codes "version") (Some node);
  inherited = not (text_is nodes (codes "inherited") (codes "false") (Some node));
  dependencies = dependencies nodes (Some node);
  executions = list_in execution nodes (codes "executions") (codes "execution") (Some node);
  configuration = configuration nodes (Some node);
}

abbrev pub plugins : List Node → Option Node → List Plugin
plugins nodes node = list_in plugin nodes (codes "plugins") (codes "plugin") node

-- those that are managed stand in an element of their own
abbrev pub managed_plugins : List Node → Option Node → List Plugin
managed_plugins nodes node = plugins nodes (child nodes (codes "pluginManagement") node)

abbrev pub managed : List Node → Option Node → List Dependency
managed nodes node = dependencies nodes (child nodes (codes "dependencyManagement") node)

unfoldable pub gav : List Node → Node → Gav
gav nodes node = record {
  group = text_or nodes (codes "groupId") [] (Some node);
  artifact = text_or nodes (codes "artifactId") [] (Some node);
  version = text_or nodes (codes "version") [] (Some node);
}

-- the folders of resources; one without a folder is left out
abbrev pub directories_among : List Node → List ℕ → List ℕ → List (List ℕ)
directories_among nodes name ks = flat_map (λ k. listed (text_of nodes (codes "directory") (named nodes name k))) ks

abbrev pub directories : List Node → List ℕ → List ℕ → Option Node → List (List ℕ)
directories nodes outer name node = directories_among nodes name (children (child nodes outer node))

-- the groups of a build
unfoldable pub outputs : List Node → Option Node → Outputs
outputs nodes node = record {
  directory = text_of nodes (codes "directory") node;
  output = text_of nodes (codes "outputDirectory") node;
  test_output = text_of nodes (codes "testOutputDirectory") node;
  final_name = text_of nodes (codes "finalName") node;
}

abbrev pub resources : List Node → Option Node → List (List ℕ) × List (List ℕ)
resources nodes node = (directories nodes (codes "resources") (codes "resource") node, directories nodes (codes "testResources") (codes "testResource") node)

unfoldable pub sources : List Node → Option Node → Sources
sources nodes node = record {
  source = text_of nodes (codes "sourceDirectory") node;
  test_source = text_of nodes (codes "testSourceDirectory") node;
  resources = directories nodes (codes "resources") (codes "resource") node;
  test_resources = directories nodes (codes "testResources") (codes "testResource") node;
}

unfoldable pub build_base : List Node → Option Node → BuildBase
build_base nodes node = record { plugins = plugins nodes node; managed_plugins = managed_plugins nodes node }

unfoldable pub build : List Node → Option Node → Build
build nodes node = record {
  outputs = outputs nodes node;
  sources = sources nodes node;
  base = build_base nodes node;
  extensions = list_in gav nodes (codes "extensions") (codes "extension") node;
}

abbrev pub modules : List Node → Option Node → List (List ℕ)
modules nodes node = list_in text_item nodes (codes "modules") (codes "module") node

-- what a project and a profile may both state
unfoldable pub model_base : List Node → Option Node → ModelBase
model_base nodes node = record {
  modules = modules nodes node;
  properties = properties nodes node;
  managed = managed nodes node;
  dependencies = dependencies nodes node;
}
