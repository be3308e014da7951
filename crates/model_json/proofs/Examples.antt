-- Worked examples: what stands in the JSON, character by character. Keys stand in byte order, what is absent is left out, and lists are
-- there even when empty.
use Rattle.std.proofs.Common.{◌≡◌, ℕ, true, List, [], ◌∷◌, codes, Some, None, refl}
use Rattle.serde_json.specs.Written.{compact_text}
use Rattle.serde_json.proofs.OnLiterals.{serde_json_on_literals}
use Rattle.mvn_base.specs.Gav.{gav_text}
use Rattle.mvn_base.specs.declared.gav.Gav.{Gav}
use Rattle.mvn_base.specs.declared.refusal.PomId.TheVariants as ids
use Rattle.model_types.specs.declared.build.Build.{Build}
use Rattle.model_types.specs.declared.dependency.Dependency.{Dependency}
use Rattle.model_types.specs.declared.model.Model.{Model}
use Rattle.model_types.specs.declared.plugin.Execution.{Execution}
use Rattle.model_types.specs.declared.plugin.Plugin.{Plugin}
use Rattle.model_json.specs.ModelJson.{base_members, build_members, coordinate_members, dependency_data, dependency_members, execution_members, key_members, model_json, output_members, plugin_data, plugin_members, source_members}

abbrev gav : List ℕ → Gav
gav artifact = record { group = codes "d"; artifact = artifact; version = codes "1" }

abbrev dependency : Dependency
dependency = record { group = codes "g"; artifact = codes "a"; version = Some (codes "1"); kind = codes "jar"; classifier = []; scope = None; optional = codes "true"; exclusions = record { group = codes "x"; artifact = codes "*" } ∷ [] }

-- a dependency without a scope
without_scope : compact_text (dependency_data dependency) ≡ codes "{\"artifactId\":\"a\",\"classifier\":\"\",\"exclusions\":[\"x:*\"],\"groupId\":\"g\",\"optional\":true,\"type\":\"jar\",\"version\":\"1\"}"
unfolding dependency_members key_members serde_json_on_literals
without_scope = refl

abbrev execution : Execution
execution = record { id = codes "e"; phase = None; goals = codes "run" ∷ []; inherited = true; configuration = [] }

abbrev plugin : Plugin
plugin = record { group = codes "g"; artifact = codes "p"; version = None; inherited = true; dependencies = []; executions = execution ∷ []; configuration = [] }

-- a plugin without a version and a configuration
without_configuration : compact_text (plugin_data plugin) ≡ codes "{\"artifactId\":\"p\",\"dependencies\":[],\"executions\":[{\"goals\":[\"run\"],\"id\":\"e\"}],\"groupId\":\"g\"}"
unfolding plugin_members execution_members serde_json_on_literals
without_configuration = refl

abbrev build : Build
build = record {
  outputs = record { directory = Some (codes "t"); output = None; test_output = None; final_name = Some (codes "f") };
  sources = record { source = Some (codes "s"); test_source = None; resources = codes "r" ∷ []; test_resources = [] };
  base = record { plugins = plugin ∷ []; managed_plugins = [] };
  extensions = gav (codes "e") ∷ [];
}

abbrev model : Model
model = record {
  pom = ids.Path (codes "pom.xml");
  gav = gav (codes "m");
  packaging = codes "pom";
  parent = Some (gav (codes "up"));
  base = record { modules = codes "n" ∷ []; properties = record { name = codes "b"; value = codes "\"\\" } ∷ record { name = codes "a"; value = [] } ∷ []; managed = []; dependencies = [] };
  build = build;
}

-- a whole model
whole : model_json model ≡ codes "{\"artifactId\":\"m\",\"build\":{\"directory\":\"t\",\"finalName\":\"f\",\"resources\":[\"r\"],\"sourceDirectory\":\"s\",\"testResources\":[]},\"dependencies\":[],\"extensions\":[\"d:e:1\"],\"groupId\":\"d\",\"managed\":[],\"modules\":[\"n\"],\"packaging\":\"pom\",\"parent\":\"d:up:1\",\"pluginManagement\":[],\"plugins\":[{\"artifactId\":\"p\",\"dependencies\":[],\"executions\":[{\"goals\":[\"run\"],\"id\":\"e\"}],\"groupId\":\"g\"}],\"properties\":{\"a\":\"\",\"b\":\"\\\"\\\\\"},\"version\":\"1\"}"
unfolding base_members build_members coordinate_members source_members output_members plugin_members execution_members gav_text serde_json_on_literals
whole = refl
