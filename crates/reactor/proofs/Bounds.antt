-- The edges that models, winners, plugins and extensions give are between modules.
use Rattle.std.proofs.Common.{◌≡◌, ℕ, zero, suc, ◌+◌, ◌<◌, ◌≤◌, Bool, true, false, List, [], ◌∷◌, ◌++◌, flat_map, get_or, length, map, Option, None, Some, refl, subst, arith, if◌then◌else◌}
use Rattle.mvn_base.specs.declared.gav.Gav.{Gav}
use Rattle.model_types.specs.declared.dependency.Dependency.{Dependency}
use Rattle.model_types.specs.declared.model.Model.{Model}
use Rattle.model_types.specs.declared.plugin.Plugin.{Plugin}
use Rattle.classpaths.specs.declared.resolution.Resolution.{Resolution}
use Rattle.reactor.specs.Edges as given
use Rattle.reactor.specs.Edges.{by_dependency, by_extension, by_parent, by_plugin, by_winner, edges_to, firm_from, firm_upstreams, soft_from, soft_upstreams}
use Rattle.reactor.specs.Naming.{named, stated}
use Rattle.reactor.specs.Numbers.{numbers_from, numbers_where}
use Rattle.reactor_order.specs.Graph.{AreEdgesBelow, Edges}
use Rattle.reactor.specs.Upstreams.{firm_edges, winner_gavs}

-- ---- edges of two lists, and of one module

below_none : (n : ℕ) → AreEdgesBelow n []
below_none n i lt = absurd (omega (arith, lt))

below_append : (n : ℕ) (xs ys : Edges) → AreEdgesBelow n xs → AreEdgesBelow n ys → AreEdgesBelow n (xs ++ ys)
below_append n [] ys a b i lt = b i lt
below_append n (x ∷ xs) ys a b zero lt = a 0 (omega arith)
below_append n (x ∷ xs) ys a b (suc i) lt = below_append n xs ys (λ j low. a (suc j) (omega (arith, low))) b i (omega (arith, lt))

abbrev Below : ℕ → List ℕ → Type 0
Below n [] = Unit {0}
Below n (u ∷ us) = (u < n) × Below n us

edges_below : (n m : ℕ) (us : List ℕ) → m < n → Below n us → AreEdgesBelow n (edges_to m us)
edges_below n m [] low b i lt = absurd (omega (arith, lt))
edges_below n m (u ∷ us) low b zero lt = (low, b.0)
edges_below n m (u ∷ us) low b (suc i) lt = edges_below n m us low b.1 i (omega (arith, lt))

-- ---- numbers of modules

append_below : (n : ℕ) (us vs : List ℕ) → Below n us → Below n vs → Below n (us ++ vs)
append_below n [] vs a b = b
append_below n (u ∷ us) vs a b = (a.0, append_below n us vs a.1 b)

flat_below : {A : Type 0} (n : ℕ) (f : A → List ℕ) → ((a : A) → Below n (f a)) → (xs : List A) → Below n (flat_map f xs)
flat_below n f each [] = tt
flat_below n f each (x ∷ xs) = append_below n (f x) (flat_map f xs) (each x) (flat_below n f each xs)

numbers_below : (test : Gav → Bool) (n at : ℕ) (modules : List Model) → at + length modules ≤ n → Below n (numbers_from test at modules)
numbers_below test n at [] low = tt
numbers_below test n at (m ∷ modules) low = by (test m.gav) (numbers_below test n (suc at) modules (omega (arith, low)))
  where
    by : (b : Bool) → Below n (numbers_from test (suc at) modules) → Below n (if b then at ∷ numbers_from test (suc at) modules else numbers_from test (suc at) modules)
    by true rest = (omega (arith, low), rest)
    by false rest = rest

named_below : (modules : List Model) (group artifact : List ℕ) (version : Option (List ℕ)) → Below (length modules) (named modules group artifact version)
unfolding named
named_below modules group artifact version = numbers_below _ (length modules) 0 modules (omega arith)

module _ (all : List Model) where
  dependency_below : (d : Dependency) → Below (length all) (by_dependency all d)
  dependency_below d = named_below all d.group d.artifact d.version

  dependencies_below : (ds : List Dependency) → Below (length all) (flat_map (by_dependency all) ds)
  dependencies_below ds = flat_below (length all) (by_dependency all) dependency_below ds

  parent_below : (parent : Option Gav) → Below (length all) (by_parent all parent)
  parent_below None = tt
  parent_below (Some gav) = named_below all gav.group gav.artifact (Some gav.version)

  firm_below : (m : Model) → Below (length all) (firm_upstreams all m)
  firm_below m = append_below (length all) (flat_map (by_dependency all) m.base.dependencies) (by_parent all m.parent) (dependencies_below m.base.dependencies) (parent_below m.parent)

  winners_below : (gavs : List Gav) → Below (length all) (flat_map (by_winner all) gavs)
  winners_below gavs = flat_below (length all) (by_winner all) (λ gav. named_below all gav.group gav.artifact (Some gav.version)) gavs

  plugin_below : (p : Plugin) → Below (length all) (by_plugin all p)
  plugin_below p = append_below (length all) (named all p.group p.artifact p.version) (flat_map (by_dependency all) p.dependencies) (named_below all p.group p.artifact p.version) (dependencies_below p.dependencies)

  extension_below : (e : Gav) → Below (length all) (by_extension all e)
  extension_below e = named_below all e.group e.artifact (stated e.version)

  soft_below : (m : Model) → Below (length all) (soft_upstreams all m)
  soft_below m = append_below (length all) (flat_map (by_plugin all) m.build.base.plugins) (flat_map (by_extension all) m.build.extensions)
      (flat_below (length all) (by_plugin all) plugin_below m.build.base.plugins) (flat_below (length all) (by_extension all) extension_below m.build.extensions)

  -- ---- of all modules

  firm_from_below : (winners : List (List Gav)) (at : ℕ) (modules : List Model) → at + length modules ≤ length all → AreEdgesBelow (length all) (firm_from all winners at modules)
  firm_from_below winners at [] low = below_none (length all)
  firm_from_below winners at (m ∷ modules) low =
      below_append (length all) (edges_to at (firm_upstreams all m ++ flat_map (by_winner all) (get_or winners at []))) (firm_from all winners (suc at) modules)
      (edges_below (length all) at (firm_upstreams all m ++ flat_map (by_winner all) (get_or winners at [])) (omega (arith, low))
      (append_below (length all) (firm_upstreams all m) (flat_map (by_winner all) (get_or winners at [])) (firm_below m) (winners_below (get_or winners at []))))
      (firm_from_below winners (suc at) modules (omega (arith, low)))

  soft_from_below : (at : ℕ) (modules : List Model) → at + length modules ≤ length all → AreEdgesBelow (length all) (soft_from all at modules)
  soft_from_below at [] low = below_none (length all)
  soft_from_below at (m ∷ modules) low =
      below_append (length all) (edges_to at (soft_upstreams all m)) (soft_from all (suc at) modules)
      (edges_below (length all) at (soft_upstreams all m) (omega (arith, low)) (soft_below m))
      (soft_from_below (suc at) modules (omega (arith, low)))

pub firm_are_below : (modules : List Model) (resolutions : List Resolution) → AreEdgesBelow (length modules) (firm_edges modules resolutions)
unfolding firm_edges given.firm_edges
firm_are_below modules resolutions = firm_from_below modules (map winner_gavs resolutions) 0 modules (omega arith)

pub soft_are_below : (modules : List Model) → AreEdgesBelow (length modules) (given.soft_edges modules)
unfolding given.soft_edges
soft_are_below modules = soft_from_below modules 0 modules (omega arith)
