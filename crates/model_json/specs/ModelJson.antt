-- An effective model as JSON: compact, the keys of each object in byte order, which is where `put` puts them; an optional value that is
-- absent is left out, and a list is always there, but for an empty configuration. Project rule.
use Rattle.std.specs.Prelude.{ℕ, List, [], ◌∷◌, ◌++◌, codes, fold, Option, None, Some}
use Rattle.std.specs.Str.{bytes_eq}
use Rattle.serde_json.specs.Data.{Data, Members, boolean, no_members, object, put, string}
use Rattle.serde_json.specs.Written.{compact_text}
use Rattle.goal_types.specs.Requests.{list_data, setting_data}
use Rattle.mvn_base.specs.Gav.{gav_text}
use Rattle.mvn_base.specs.declared.gav.Gav.{Gav}
use Rattle.mvn_base.specs.declared.machine.Pair.{Pair}
use Rattle.mvn_base.specs.declared.setting.Setting.{Setting}
use Rattle.model_types.specs.declared.build.Build.{Build}
use Rattle.model_types.specs.declared.build.Outputs.{Outputs}
use Rattle.model_types.specs.declared.build.Sources.{Sources}
use Rattle.model_types.specs.declared.dependency.Dependency.{Dependency}
use Rattle.model_types.specs.declared.dependency.Exclusion.{Exclusion}
use Rattle.model_types.specs.declared.model.Model.{Model}
use Rattle.model_types.specs.declared.plugin.Execution.{Execution}
use Rattle.model_types.specs.declared.plugin.Plugin.{Plugin}

-- a text under a key, if it is there
abbrev pub text_at : List ℕ → List ℕ → Members → Members
text_at key text ms = put key (string text) ms

abbrev pub maybe_at : List ℕ → Option (List ℕ) → Members → Members
maybe_at key None ms = ms
maybe_at key (Some text) ms = put key (string text) ms

-- a configuration, unless it is empty
abbrev pub configuration_at : List Setting → Members → Members
configuration_at [] ms = ms
configuration_at (s ∷ ss) ms = put (codes "configuration") (list_data setting_data (s ∷ ss)) ms

abbrev pub exclusion_data : Exclusion → Data
exclusion_data e = string (e.group ++ 58 ∷ e.artifact)

abbrev pub gav_data : Gav → Data
gav_data gav = string (gav_text gav)

-- group, artifact, type and classifier; and the rest of a dependency
unfoldable pub key_members : Dependency → Members → Members
key_members d ms =
    text_at (codes "type") d.kind (text_at (codes "groupId") d.group
    (text_at (codes "classifier") d.classifier (text_at (codes "artifactId") d.artifact ms)))

unfoldable pub dependency_members : Dependency → Members
dependency_members d =
    maybe_at (codes "version") d.version (maybe_at (codes "scope") d.scope
    (put (codes "optional") (boolean (bytes_eq d.optional (codes "true")))
    (put (codes "exclusions") (list_data exclusion_data d.exclusions) (key_members d no_members))))

abbrev pub dependency_data : Dependency → Data
dependency_data d = object (dependency_members d)

unfoldable pub execution_members : Execution → Members
execution_members e =
    maybe_at (codes "phase") e.phase (text_at (codes "id") e.id
    (put (codes "goals") (list_data string e.goals) (configuration_at e.configuration no_members)))

abbrev pub execution_data : Execution → Data
execution_data e = object (execution_members e)

unfoldable pub plugin_members : Plugin → Members
plugin_members p =
    maybe_at (codes "version") p.version (text_at (codes "groupId") p.group
    (put (codes "executions") (list_data execution_data p.executions)
    (put (codes "dependencies") (list_data dependency_data p.dependencies)
    (configuration_at p.configuration (text_at (codes "artifactId") p.artifact no_members)))))

abbrev pub plugin_data : Plugin → Data
plugin_data p = object (plugin_members p)

unfoldable pub output_members : Outputs → Members → Members
output_members o ms =
    maybe_at (codes "testOutputDirectory") o.test_output (maybe_at (codes "outputDirectory") o.output
    (maybe_at (codes "finalName") o.final_name (maybe_at (codes "directory") o.directory ms)))

unfoldable pub source_members : Sources → Members → Members
source_members s ms =
    maybe_at (codes "testSourceDirectory") s.test_source
    (put (codes "testResources") (list_data string s.test_resources)
    (maybe_at (codes "sourceDirectory") s.source (put (codes "resources") (list_data string s.resources) ms)))

abbrev pub build_data : Build → Data
build_data b = object (source_members b.sources (output_members b.outputs no_members))

-- properties as an object, by their names
abbrev pub property_at : Members → Pair → Members
property_at ms p = put p.name (string p.value) ms

abbrev pub properties_data : List Pair → Data
properties_data pairs = object (fold property_at no_members pairs)

abbrev pub parent_at : Option Gav → Members → Members
parent_at None ms = ms
parent_at (Some gav) ms = put (codes "parent") (gav_data gav) ms

unfoldable pub coordinate_members : Model → Members → Members
coordinate_members m ms =
    text_at (codes "version") m.gav.version (text_at (codes "packaging") m.packaging
    (text_at (codes "groupId") m.gav.group (text_at (codes "artifactId") m.gav.artifact (parent_at m.parent ms))))

unfoldable pub base_members : Model → Members → Members
base_members m ms =
    put (codes "properties") (properties_data m.base.properties)
    (put (codes "modules") (list_data string m.base.modules)
    (put (codes "managed") (list_data dependency_data m.base.managed)
    (put (codes "dependencies") (list_data dependency_data m.base.dependencies) ms)))

unfoldable pub build_members : Model → Members → Members
build_members m ms =
    put (codes "plugins") (list_data plugin_data m.build.base.plugins)
    (put (codes "pluginManagement") (list_data plugin_data m.build.base.managed_plugins)
    (put (codes "extensions") (list_data gav_data m.build.extensions)
    (put (codes "build") (build_data m.build) ms)))

abbrev pub model_data : Model → Data
model_data m = object (build_members m (base_members m (coordinate_members m no_members)))

abbrev pub model_json : Model → List ℕ
model_json m = compact_text (model_data m)
