-- The edges of modules: from a module to each that its model names. Guide to Working with Multiple Modules, "Reactor Sorting"; that edges
-- by plugins and extensions are soft, and the order in which they are tried, are project rules. `dependencyManagement` and
-- `pluginManagement` name nothing.
use Rattle.std.specs.Prelude.{ℕ, suc, List, [], ◌∷◌, ◌++◌, get_or, map, flat_map, Option, None, Some}
use Rattle.mvn_base.specs.declared.gav.Gav.{Gav}
use Rattle.model_types.specs.declared.dependency.Dependency.{Dependency}
use Rattle.model_types.specs.declared.model.Model.{Model}
use Rattle.model_types.specs.declared.plugin.Plugin.{Plugin}
use Rattle.reactor.specs.Naming.{named, stated}

module _ (modules : List Model) where
  abbrev pub by_dependency : Dependency → List ℕ
  by_dependency d = named modules d.group d.artifact d.version

  abbrev pub by_parent : Option Gav → List ℕ
  by_parent None = []
  by_parent (Some parent) = named modules parent.group parent.artifact (Some parent.version)

  -- what is built before a module in any case: what its dependencies and its parent name
  abbrev pub firm_upstreams : Model → List ℕ
  firm_upstreams m = flat_map by_dependency m.base.dependencies ++ by_parent m.parent

  -- what a winner of its dependencies names, by its coordinates
  abbrev pub by_winner : Gav → List ℕ
  by_winner gav = named modules gav.group gav.artifact (Some gav.version)

  -- a plugin, and then its dependencies
  abbrev pub by_plugin : Plugin → List ℕ
  by_plugin p = named modules p.group p.artifact p.version ++ flat_map by_dependency p.dependencies

  abbrev pub by_extension : Gav → List ℕ
  by_extension e = named modules e.group e.artifact (stated e.version)

  -- what is built before it unless that closes a circle: what its plugins and extensions name
  abbrev pub soft_upstreams : Model → List ℕ
  soft_upstreams m = flat_map by_plugin m.build.base.plugins ++ flat_map by_extension m.build.extensions

-- a module, and each of its upstreams
abbrev pub edges_to : ℕ → List ℕ → List (ℕ × ℕ)
edges_to n upstreams = map (λ u. (n, u)) upstreams

-- the edges of all modules, one module's behind another's, counted from one on; `winners` has each module's
abbrev pub firm_from : List Model → List (List Gav) → ℕ → List Model → List (ℕ × ℕ)
firm_from all winners n [] = []
firm_from all winners n (m ∷ modules) =
    edges_to n (firm_upstreams all m ++ flat_map (by_winner all) (get_or winners n [])) ++ firm_from all winners (suc n) modules

abbrev pub soft_from : List Model → ℕ → List Model → List (ℕ × ℕ)
soft_from all n [] = []
soft_from all n (m ∷ modules) = edges_to n (soft_upstreams all m) ++ soft_from all (suc n) modules

-- those that are kept in any case, and those that are tried one after another
unfoldable pub firm_edges : List Model → List (List Gav) → List (ℕ × ℕ)
firm_edges modules winners = firm_from modules winners 0 modules

unfoldable pub soft_edges : List Model → List (ℕ × ℕ)
soft_edges modules = soft_from modules 0 modules
