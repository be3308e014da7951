-- In the lists of an effective model each key stands once.
use Rattle.std.proofs.Common.{◌≡◌, Bool, true, false, not, ◌&&◌, ◌||◌, List, [], ◌∷◌, map, filter, ℕ, Option, Some, None, Ok, refl, sym, ap, subst, ◌∙◌, if◌then◌else◌}
use Rattle.std.specs.List.{list_all}
use Rattle.std.specs.Option.{option_map_or}
use Rattle.mvn_base.specs.declared.key.Key.{Key}
use Rattle.mvn_base.specs.declared.refusal.PomId.{PomId}
use Rattle.mvn_base.specs.declared.refusal.PomId.TheVariants as ids
use Rattle.model_types.specs.declared.build.BuildBase.{BuildBase}
use Rattle.model_types.specs.declared.dependency.Dependency.{Dependency}
use Rattle.model_types.specs.declared.model.Model.{Model}
use Rattle.model_types.specs.declared.model.RawModel.{RawModel}
use Rattle.model_types.specs.declared.plugin.Plugin.{Plugin}
use Rattle.model_merge.specs.Keyed.{item_of, overlaid, same_key, settled, underlaid}
use Rattle.model_merge.specs.Keys.{key_of_dependency, key_of_execution, key_of_extension, key_of_plugin}
use Rattle.model_merge.specs.Merging.{merged_plugin, settled_plugin, settled_plugins}
use Rattle.model_merge.proofs.UnderKeys.{and_left, and_right}
use Rattle.managed_deps.specs.Managed.{all_entries, apply_one, apply_plugins}
use Rattle.lifecycle.specs.Bindings.{bindings, bound_to, undeclared}
use Rattle.profiles.specs.Activation.{is_of_project}
use Rattle.pom_source.specs.Answers.{Built}
use Rattle.pom_source.specs.Chains.{ok_is}
use Rattle.pom_source.specs.Worlds.{World}
use Rattle.pom_source.specs.declared.found.Given.{Given}
use Rattle.model_steps.specs.Assembly.{completed, is_dropped, kept_as, managed_set, model_of, plugins_as, with_scope}
use Rattle.model_steps.specs.Building.{bound_base, built, built_by}
use Rattle.effective.specs.Effective.{effective}
use Rattle.effective.proofs.Imported.{put_together}
use Rattle.model_laws.specs.Keys.{IsSettled, each_once, goals_once, has}
use Rattle.model_laws.specs.Once.{ArePluginsOnce, HasKeysOnce, parts_once}
use Rattle.model_laws.proofs.Composed.{join_bound, key_applied}
use Rattle.model_laws.proofs.FirstOfEach.{first_once}
use Rattle.model_laws.proofs.Keys.{both_true, not_true, once_map, once_settled}
use Rattle.model_laws.proofs.Merges.{all_append, all_map, all_others, all_settled}
use Rattle.model_laws.proofs.Plugins.{is_settled, merged_settled}

-- what is left of a list that has each key once has each key once
module _ {T : Type 0} (key : T → Key) (test : T → Bool) where
  fewer : (xs : List T) (k : Key) → has key xs k ≡ false → has key (filter test xs) k ≡ false
  fewer [] k lacks = refl
  fewer (y ∷ ys) k lacks = each (same_key k (key y)) refl (test y) (fewer ys k)
    where
      clash : true ≡ false → ⊥
      clash e = cc

      each : (s : Bool) → same_key k (key y) ≡ s → (b : Bool) → (has key ys k ≡ false → has key (filter test ys) k ≡ false) → has key (if b then y ∷ filter test ys else filter test ys) k ≡ false
      each true s b rest = absurd (clash (sym (ap (λ b. b || has key ys k) s) ∙ lacks))
      each false s true rest = ap (λ b. b || has key (filter test ys) k) s ∙ rest (sym (ap (λ b. b || has key ys k) s) ∙ lacks)
      each false s false rest = rest (sym (ap (λ b. b || has key ys k) s) ∙ lacks)

  once_left : (xs : List T) → each_once key xs ≡ true → each_once key (filter test xs) ≡ true
  once_left [] once = refl
  once_left (x ∷ xs) once = by (test x) (once_left xs (and_right (not (has key xs (key x))) (each_once key xs) once))
    where
      by : (b : Bool) → each_once key (filter test xs) ≡ true → each_once key (if b then x ∷ filter test xs else filter test xs) ≡ true
      by true rest =
          both_true (not (has key (filter test xs) (key x))) (each_once key (filter test xs))
          (ap not (fewer xs (key x) (not_true (has key xs (key x)) (and_left (not (has key xs (key x))) (each_once key xs) once))))
          rest
      by false rest = rest

-- the dependencies
once_kept : (pom : PomId) (ds : List Dependency) → each_once key_of_dependency ds ≡ true → each_once key_of_dependency (kept_as pom ds) ≡ true
once_kept (ids.Path path) ds once = once
once_kept (ids.Gav gav) ds once = once_left key_of_dependency (λ d. not (is_dropped d)) ds once

once_completed : (pom : PomId) (set : List (Key × Dependency)) (ds : List Dependency) → each_once key_of_dependency (completed pom set ds) ≡ true
once_completed pom set ds =
    let kept = kept_as pom (settled key_of_dependency ds) in
    once_map key_of_dependency with_scope (λ d. refl) (map (apply_one set) kept)
    ∙ once_map key_of_dependency (apply_one set) (key_applied set) kept
    ∙ once_kept pom (settled key_of_dependency ds) (once_settled key_of_dependency ds)

-- what is in a plugin that is settled or merged
settled_parts : (p : Plugin) → IsSettled p → parts_once p ≡ true
settled_parts p is =
    both_true (each_once key_of_dependency p.dependencies) (each_once key_of_execution p.executions && list_all goals_once p.executions) is.dependencies
    (both_true (each_once key_of_execution p.executions) (list_all goals_once p.executions) is.executions is.goals)

parts_settled : (p : Plugin) → parts_once p ≡ true → IsSettled p
parts_settled p once =
    let behind = and_right (each_once key_of_dependency p.dependencies) (each_once key_of_execution p.executions && list_all goals_once p.executions) once in record {
      dependencies = and_left (each_once key_of_dependency p.dependencies) (each_once key_of_execution p.executions && list_all goals_once p.executions) once;
      executions = and_left (each_once key_of_execution p.executions) (list_all goals_once p.executions) behind;
      goals = and_right (each_once key_of_execution p.executions) (list_all goals_once p.executions) behind;
    }

merged_parts : (c p : Plugin) → parts_once c ≡ true → parts_once p ≡ true → parts_once (merged_plugin c p) ≡ true
merged_parts c p child parent = settled_parts (merged_plugin c p) (merged_settled c p (parts_settled c child) (parts_settled p parent))

each_settled : (ps : List Plugin) → list_all parts_once (map settled_plugin ps) ≡ true
each_settled [] = refl
each_settled (p ∷ ps) = both_true (parts_once (settled_plugin p)) (list_all parts_once (map settled_plugin ps)) (settled_parts (settled_plugin p) (is_settled p)) (each_settled ps)

all_once : (ps : List Plugin) → list_all parts_once (settled_plugins ps) ≡ true
all_once ps = all_settled key_of_plugin parts_once (map settled_plugin ps) (each_settled ps)

none : (p : Plugin) → ◌≡◌ {A = Option Plugin} None (Some p) → ⊥
none p e = cc

-- what holds of all plugins holds of the one that is found
found_once : (ps : List Plugin) (k : Key) (p : Plugin) → list_all parts_once ps ≡ true → item_of key_of_plugin ps k ≡ Some p → parts_once p ≡ true
found_once [] k p all is = absurd (none p is)
found_once (x ∷ ps) k p all is = by (same_key k (key_of_plugin x)) is (found_once ps k p (and_right (parts_once x) (list_all parts_once ps) all))
  where
    same : ◌≡◌ {A = Option Plugin} (Some x) (Some p) → x ≡ p
    same e = cc

    by : (b : Bool) → (if b then Some x else item_of key_of_plugin ps k) ≡ Some p → (item_of key_of_plugin ps k ≡ Some p → parts_once p ≡ true) → parts_once p ≡ true
    by true is rest = subst (λ q. parts_once q ≡ true) (same is) (and_left (parts_once x) (list_all parts_once ps) all)
    by false is rest = rest is

under_once : (parent : List Plugin) → list_all parts_once parent ≡ true → (c : Plugin) → parts_once c ≡ true → parts_once (underlaid key_of_plugin merged_plugin parent c) ≡ true
under_once parent all c once = by (item_of key_of_plugin parent (key_of_plugin c)) refl
  where
    by : (o : Option Plugin) → item_of key_of_plugin parent (key_of_plugin c) ≡ o → parts_once (option_map_or (λ p. merged_plugin c p) o c) ≡ true
    by None is = once
    by (Some p) is = merged_parts c p once (found_once parent (key_of_plugin c) p all is)

over_once : (child : List Plugin) → list_all parts_once child ≡ true → (p : Plugin) → parts_once p ≡ true → parts_once (overlaid key_of_plugin merged_plugin child p) ≡ true
over_once child all p once = by (item_of key_of_plugin child (key_of_plugin p)) refl
  where
    by : (o : Option Plugin) → item_of key_of_plugin child (key_of_plugin p) ≡ o → parts_once (option_map_or (λ c. merged_plugin c p) o p) ≡ true
    by None is = once
    by (Some c) is = merged_parts c p (found_once child (key_of_plugin p) c all is) once

bound_parts : (declared managed bound : List Plugin) → list_all parts_once (bound_to declared managed bound) ≡ true
bound_parts declared managed bound =
    let under = underlaid key_of_plugin merged_plugin (settled_plugins bound) in
    let over = overlaid key_of_plugin merged_plugin (settled_plugins managed) in
    all_append key_of_plugin parts_once (map under (settled_plugins declared)) (map over (undeclared declared bound))
    (all_map key_of_plugin parts_once under (under_once (settled_plugins bound) (all_once bound)) (settled_plugins declared) (all_once declared))
    (all_map key_of_plugin parts_once over (over_once (settled_plugins managed) (all_once managed)) (undeclared declared bound) (all_others key_of_plugin parts_once (settled_plugins declared) (settled_plugins bound) (all_once bound)))

-- plugins that are settled, and those of a module
plugins_settled : (ps : List Plugin) → ArePluginsOnce (settled_plugins ps)
plugins_settled ps = record { names = once_settled key_of_plugin (map settled_plugin ps); parts = all_once ps }

plugins_bound : (declared managed bound : List Plugin) → ArePluginsOnce (bound_to declared managed bound)
plugins_bound declared managed bound = record { names = (join_bound declared managed bound).once; parts = bound_parts declared managed bound }

-- the plugins of a model and its managed ones
abbrev AreOnce : BuildBase → Type 0
AreOnce base = ArePluginsOnce base.plugins × ArePluginsOnce base.managed_plugins

-- those of a module are settled when goals are bound, and those of a POM by coordinates when the model is put together
built_once : (pom : PomId) (packaging : List ℕ) (own base : BuildBase) (bound : Option (List Plugin))
    → ◌≡◌ {A = Built BuildBase} (if is_of_project pom then built_by pom packaging own bound else Ok own) (Ok base) → AreOnce (plugins_as pom base)
built_once (ids.Path path) packaging own base None e = cc
built_once (ids.Path path) packaging own base (Some bound) e =
    subst AreOnce (ok_is (bound_base own bound) base e) (plugins_bound (apply_plugins own.plugins own.managed_plugins) own.managed_plugins bound, plugins_settled own.managed_plugins)
built_once (ids.Gav gav) packaging own base bound e = (plugins_settled base.plugins, plugins_settled base.managed_plugins)

-- a model that is put together
pub model_once : (filled : RawModel) (plugins : BuildBase) (imports : List (List Dependency)) → built filled ≡ Ok plugins → HasKeysOnce (model_of filled plugins imports)
unfolding built model_of
model_once filled plugins imports e =
    let both = built_once filled.pom filled.coordinates.packaging filled.build.base plugins (bindings filled.coordinates.packaging) e in record {
      dependencies = once_completed filled.pom (managed_set filled.base.managed imports) filled.base.dependencies;
      managed = first_once (all_entries filled.base.managed imports);
      extensions = once_settled key_of_extension filled.build.extensions;
      plugins = both.0;
      managed_plugins = both.1;
    }

pub effective_once : (world : World) (given : Given) (pom : PomId) (model : Model) → effective world given pom ≡ Ok model → HasKeysOnce model
effective_once world given pom model e =
    let put = put_together world given pom model e in
    subst HasKeysOnce (sym put.is_whole) (model_once put.filled put.plugins put.lists put.are_built)
