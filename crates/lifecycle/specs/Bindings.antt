-- Which goals a packaging binds to which phases, and where they stand among declared plugins. Introduction to the Build Lifecycle,
-- "Built-in Lifecycle Bindings"; the place of bound plugins is an own rule.
use Rattle.std.specs.Prelude.{ℕ, true, List, [], ◌∷◌, ◌++◌, map, filter, codes, Option, Some, None, option_map, if◌then◌else◌}
use Rattle.std.specs.Str.{bytes_eq}
use Rattle.mvn_base.specs.Phase.{phase_name}
use Rattle.mvn_base.specs.declared.phase.Phase.{Phase}
use Rattle.mvn_base.specs.declared.phase.Phase.TheVariants as phase
use Rattle.mvn_base.specs.Limits.{maven_plugins}
use Rattle.model_types.specs.declared.plugin.Execution.{Execution}
use Rattle.model_types.specs.declared.plugin.Plugin.{Plugin}
use Rattle.model_merge.specs.Keyed.{others, overlaid, settled, underlaid}
use Rattle.model_merge.specs.Keys.{key_of_name, key_of_plugin}
use Rattle.model_merge.specs.Merging.{merged_plugin, settled_plugins}
use denote.Ref.{Bor}

-- a goal of one of Maven's plugins, bound to a phase
pub record Binding : Type 0 where
  pub plugin : List ℕ
  pub goal : List ℕ
  pub phase : Phase

abbrev pub binding : List ℕ → List ℕ → Phase → Binding
binding plugin goal phase = record { plugin = plugin; goal = goal; phase = phase }

-- a line of the program's tables
abbrev pub row_view : (Bor (List ℕ) × Bor (List ℕ) × Phase) → Binding
row_view r = binding r.0.now r.1.now r.2

-- what each packaging ends with
abbrev pub last_bindings : List Binding
last_bindings = binding (codes "maven-install-plugin") (codes "install") phase.Install ∷ binding (codes "maven-deploy-plugin") (codes "deploy") phase.Deploy ∷ []

-- the bindings of a packaging of compiled classes, by the plugin and the goal that pack them
abbrev pub class_bindings : List ℕ → List ℕ → List Binding
class_bindings plugin goal =
    binding (codes "maven-resources-plugin") (codes "resources") phase.ProcessResources
    ∷ binding (codes "maven-compiler-plugin") (codes "compile") phase.Compile
    ∷ binding (codes "maven-resources-plugin") (codes "testResources") phase.ProcessTestResources
    ∷ binding (codes "maven-compiler-plugin") (codes "testCompile") phase.TestCompile
    ∷ binding (codes "maven-surefire-plugin") (codes "test") phase.Test
    ∷ binding plugin goal phase.Package
    ∷ last_bindings

abbrev pub ear_bindings : List Binding
ear_bindings =
    binding (codes "maven-ear-plugin") (codes "generate-application-xml") phase.GenerateResources
    ∷ binding (codes "maven-resources-plugin") (codes "resources") phase.ProcessResources
    ∷ binding (codes "maven-ear-plugin") (codes "ear") phase.Package
    ∷ last_bindings

-- the bindings of a packaging, in order
unfoldable pub bindings_of : List ℕ → Option (List Binding)
bindings_of packaging =
    if bytes_eq packaging (codes "pom") then Some last_bindings
    else if bytes_eq packaging (codes "jar") then Some (class_bindings (codes "maven-jar-plugin") (codes "jar"))
    else if bytes_eq packaging (codes "ejb") then Some (class_bindings (codes "maven-ejb-plugin") (codes "ejb"))
    else if bytes_eq packaging (codes "rar") then Some (class_bindings (codes "maven-rar-plugin") (codes "rar"))
    else if bytes_eq packaging (codes "war") then Some (class_bindings (codes "maven-war-plugin") (codes "war"))
    else if bytes_eq packaging (codes "ear") then Some ear_bindings
    else None

abbrev pub bound_id : List ℕ → List ℕ
bound_id goal = codes "default-" ++ goal

abbrev pub bound_execution : Binding → Execution
bound_execution b = record { id = bound_id b.goal; phase = Some (phase_name b.phase); goals = b.goal ∷ []; inherited = true; configuration = [] }

-- a plugin with its bound executions
abbrev pub bound_plugin : List Binding → List ℕ → Plugin
bound_plugin rows name = record {
  group = maven_plugins;
  artifact = name;
  version = None;
  inherited = true;
  dependencies = [];
  executions = map bound_execution (filter (λ b. bytes_eq name b.plugin) rows);
  configuration = [];
}

-- the bound plugins, in the order of their first goals
abbrev pub bound_plugins : List Binding → List Plugin
bound_plugins rows = map (bound_plugin rows) (settled key_of_name (map (λ b. b.plugin) rows))

abbrev pub bindings : List ℕ → Option (List Plugin)
bindings packaging = option_map bound_plugins (bindings_of packaging)

-- the bound plugins that aren't declared
abbrev pub undeclared : List Plugin → List Plugin → List Plugin
undeclared plugins bound = others key_of_plugin (settled_plugins plugins) (settled_plugins bound)

-- declared plugins over the bound ones of their names, in place, and then the other bound ones below their managed entries, all of
-- them settled
abbrev pub bound_to : List Plugin → List Plugin → List Plugin → List Plugin
bound_to plugins managed bound =
    map (underlaid key_of_plugin merged_plugin (settled_plugins bound)) (settled_plugins plugins)
    ++ map (overlaid key_of_plugin merged_plugin (settled_plugins managed)) (undeclared plugins bound)
