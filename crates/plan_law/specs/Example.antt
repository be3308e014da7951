-- An example: `app` depends on its sister `lib`, which is built before it, and on `web`, which is fetched. Both are jars that are compiled.
use Rattle.std.specs.Prelude.{ℕ, true, List, [], ◌∷◌, codes, None}
use Rattle.mvn_base.specs.declared.gav.Gav.{Gav}
use Rattle.mvn_base.specs.declared.refusal.PomId.TheVariants as ids
use Rattle.mvn_base.specs.Limits.{maven_plugins}
use Rattle.collector.specs.declared.scope.Scope.TheVariants.{Compile}
use Rattle.model_types.specs.declared.model.Model.{Model}
use Rattle.model_types.specs.declared.plugin.Plugin.{Plugin}
use Rattle.classpaths.specs.declared.resolution.Resolved.{Resolved}
use Rattle.module_plan.specs.declared.selected.SelectedModule.{SelectedModule}

abbrev pub named : List ℕ → Gav
named artifact = record { group = codes "g"; artifact = artifact; version = codes "1" }

abbrev pub compiler : Plugin
compiler = record {
  group = maven_plugins;
  artifact = codes "maven-compiler-plugin";
  version = None;
  inherited = true;
  dependencies = [];
  executions = (record { id = codes "default-compile"; phase = None; goals = codes "compile" ∷ []; inherited = true; configuration = [] }) ∷ [];
  configuration = [];
}

abbrev pub jar : List ℕ → Model
jar artifact = record {
  pom = ids.Path artifact;
  gav = named artifact;
  packaging = codes "jar";
  parent = None;
  base = record { modules = []; properties = []; managed = []; dependencies = [] };
  build = record {
    outputs = record { directory = None; output = None; test_output = None; final_name = None };
    sources = record { source = None; test_source = None; resources = []; test_resources = [] };
    base = record { plugins = compiler ∷ []; managed_plugins = [] };
    extensions = [];
  };
}

abbrev pub winner : List ℕ → Resolved
winner artifact = record { gav = named artifact; kind = codes "jar"; classifier = []; scope = Compile; pom_found = true }

abbrev pub selected : List ℕ → List Resolved → List ℕ → SelectedModule
selected artifact winners upstream = record { model = jar artifact; pom = artifact; resolution = record { winners = winners; notes = [] }; upstream = upstream; sources = [] }

abbrev pub lib : SelectedModule
lib = selected (codes "lib") [] []

abbrev pub app : SelectedModule
app = selected (codes "app") (winner (codes "lib") ∷ winner (codes "web") ∷ []) (0 ∷ [])
