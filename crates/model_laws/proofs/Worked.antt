-- Worked examples of the definitions, with texts of one letter.
use Rattle.std.proofs.Common.{◌≡◌, ℕ, true, List, [], ◌∷◌, codes, Some, None, refl}
use Rattle.model_types.specs.declared.plugin.Execution.{Execution}
use Rattle.model_types.specs.declared.plugin.Plugin.{Plugin}
use Rattle.model_merge.specs.Configuration.{merged_configuration}
use Rattle.model_merge.specs.Merging.{merged_execution, merged_plugin, settled_execution, settled_plugin}
use Rattle.inheritance.specs.Placing.{inherited_plugins}
use Rattle.managed_deps.specs.Managed.{apply_plugins}
use Rattle.lifecycle.specs.Bindings.{bound_to}

abbrev execution : List ℕ → List (List ℕ) → Execution
execution id goals = record { id = id; phase = None; goals = goals; inherited = true; configuration = [] }

abbrev in_phase : List ℕ → List ℕ → List (List ℕ) → Execution
in_phase id phase goals = record { id = id; phase = Some phase; goals = goals; inherited = true; configuration = [] }

abbrev plugin : List ℕ → List Execution → Plugin
plugin name executions = record {
  group = codes "g";
  artifact = name;
  version = None;
  inherited = true;
  dependencies = [];
  executions = executions;
  configuration = [];
}

abbrev x : List ℕ
x = codes "x"

abbrev y : List ℕ
y = codes "y"

-- the goals p q p, each once
goals_once : settled_execution (execution x (codes "p" ∷ codes "q" ∷ codes "p" ∷ [])) ≡ execution x (codes "p" ∷ codes "q" ∷ [])
unfolding settled_execution
goals_once = refl

-- the executions x y x: the later x at the place of the first
executions_once : settled_plugin (plugin x (execution x (codes "p" ∷ []) ∷ execution y [] ∷ execution x (codes "q" ∷ []) ∷ []))
    ≡ plugin x (execution x (codes "q" ∷ []) ∷ execution y [] ∷ [])
unfolding settled_plugin settled_execution
executions_once = refl

-- a plugin that only the child has, and one that only the parent has
each_alone : inherited_plugins (plugin x (execution x [] ∷ execution x [] ∷ []) ∷ []) (plugin y (execution y [] ∷ execution y [] ∷ []) ∷ [])
    ≡ plugin y (execution y [] ∷ []) ∷ plugin x (execution x [] ∷ []) ∷ []
unfolding inherited_plugins settled_plugin settled_execution
each_alone = refl

-- a plugin for which nothing is managed
unmanaged : apply_plugins (plugin x (execution x [] ∷ execution x [] ∷ []) ∷ []) (plugin y [] ∷ []) ≡ plugin x (execution x [] ∷ []) ∷ []
unfolding settled_plugin settled_execution
unmanaged = refl

-- the phase n that is managed for the execution x of a bound plugin counts over the binding's phase p
switched_off : bound_to [] (plugin y (in_phase x (codes "n") [] ∷ []) ∷ []) (plugin y (in_phase x (codes "p") (codes "j" ∷ []) ∷ []) ∷ [])
    ≡ plugin y (in_phase x (codes "n") (codes "j" ∷ []) ∷ []) ∷ []
unfolding settled_plugin settled_execution merged_plugin merged_execution merged_configuration
switched_off = refl
