-- What is left of what each POM states.
use Rattle.std.proofs.Common.{◌≡◌, true, false, not, ◌||◌, List, [], ◌++◌, map, Option, Some, None, is_none, refl, sym, ap, ◌∙◌, if◌then◌else◌}
use Rattle.std.specs.Option.{option_or, option_map, option_map_or}
use Rattle.std.proofs.lemmas.List.{append-nil}
use Rattle.mvn_base.specs.declared.key.Key.{Key}
use Rattle.model_types.specs.declared.build.Build.{Build}
use Rattle.model_types.specs.declared.dependency.Dependency.{Dependency}
use Rattle.model_types.specs.declared.model.ModelBase.{ModelBase}
use Rattle.model_types.specs.declared.model.RawModel.{RawModel}
use Rattle.model_types.specs.declared.plugin.Plugin.{Plugin}
use Rattle.model_merge.specs.Keyed.{item_of, overlaid, settled, underlaid}
use Rattle.model_merge.specs.Keys.{key_of_dependency, key_of_pair, key_of_plugin}
use Rattle.model_merge.specs.Merging.{merged_plugin, settled_plugin, settled_plugins}
use Rattle.inheritance.specs.Inherit.{inherit, inherit_base, inherit_coordinates}
use Rattle.managed_deps.specs.Managed.{apply_one, apply_plugins, find_pair, with_managed}
use Rattle.profiles.specs.Injection.{inject, inject_base, inject_build, inject_build_base}
use Rattle.lifecycle.specs.Bindings.{bound_to, undeclared}
use Rattle.model_laws.specs.Keys.{IsJoin, has}
use Rattle.model_laws.specs.Stated.{IsStatedFirst, Stays, settled_base, settled_build, settled_model}
use Rattle.model_laws.proofs.Keys.{found_has, has_map, has_settled, item_append, item_others, item_with_others}
use Rattle.model_laws.proofs.Merges.{found_key, item_map, join_over, keys_append, keys_map, overlaid_key, underlaid_key}
use Rattle.model_laws.proofs.Plugins.{plugin_keeps, settled_keeps}

pub stated_first : (child parent : RawModel) → IsStatedFirst child parent (inherit child parent)
unfolding inherit inherit_coordinates inherit_base
stated_first child parent = record {
  group = λ text is. ap (λ o. option_or o parent.coordinates.group) is;
  version = λ text is. ap (λ o. option_or o parent.coordinates.version) is;
  properties = item_with_others key_of_pair child.base.properties parent.base.properties;
  managed = item_with_others key_of_dependency child.base.managed parent.base.managed;
  dependencies = item_with_others key_of_dependency child.base.dependencies parent.base.dependencies;
}

base_settled : (own : ModelBase) → inject_base own [] ≡ settled_base own
unfolding inject_base
base_settled own = λ i. record {
  modules = append-nil own.modules i;
  properties = settled key_of_pair (append-nil own.properties i);
  managed = settled key_of_dependency (append-nil own.managed i);
  dependencies = settled key_of_dependency (append-nil own.dependencies i);
}

build_settled : (own : Build) → inject_build own [] ≡ settled_build own
unfolding inject_build inject_build_base
build_settled own = refl

pub model_settled : (raw : RawModel) → inject raw [] ≡ settled_model raw
unfolding inject
model_settled raw = λ i. record {
  pom = raw.pom;
  parent = raw.parent;
  coordinates = raw.coordinates;
  base = base_settled raw.base i;
  build = build_settled raw.build i;
  profiles = raw.profiles;
}

pub key_applied : (set : List (Key × Dependency)) (own : Dependency) → key_of_dependency (apply_one set own) ≡ key_of_dependency own
key_applied set own = by (find_pair set (key_of_dependency own))
  where
    by : (o : Option Dependency) → key_of_dependency (with_managed own o) ≡ key_of_dependency own
    by None = refl
    by (Some m) = refl

pub version_stays : (set : List (Key × Dependency)) (own : Dependency) → Stays own.version (apply_one set own).version
version_stays set own = λ text is. by (find_pair set (key_of_dependency own)) text is
  where
    by : (o : Option Dependency) → Stays own.version (with_managed own o).version
    by None = λ text is. is
    by (Some m) = λ text is. ap (λ v. option_or v m.version) is

pub scope_stays : (set : List (Key × Dependency)) (own : Dependency) → Stays own.scope (apply_one set own).scope
scope_stays set own = λ text is. by (find_pair set (key_of_dependency own)) text is
  where
    by : (o : Option Dependency) → Stays own.scope (with_managed own o).scope
    by None = λ text is. is
    by (Some m) = λ text is. ap (λ v. option_or v m.scope) is

pub names_applied : (declared managed : List Plugin) → map key_of_plugin (apply_plugins declared managed) ≡ map key_of_plugin (settled_plugins declared)
names_applied declared managed = keys_map key_of_plugin (underlaid key_of_plugin merged_plugin (settled_plugins managed)) (underlaid_key key_of_plugin merged_plugin plugin_keeps (settled_plugins managed)) (settled_plugins declared)

pub names_bound : (declared managed bound : List Plugin) → map key_of_plugin (bound_to declared managed bound) ≡ map key_of_plugin (settled_plugins declared) ++ map key_of_plugin (undeclared declared bound)
names_bound declared managed bound =
    let over = map (underlaid key_of_plugin merged_plugin (settled_plugins bound)) (settled_plugins declared) in
    let below = map (overlaid key_of_plugin merged_plugin (settled_plugins managed)) (undeclared declared bound) in
    keys_append key_of_plugin over below
    ∙ ap (λ l. l ++ map key_of_plugin below) (keys_map key_of_plugin (underlaid key_of_plugin merged_plugin (settled_plugins bound)) (underlaid_key key_of_plugin merged_plugin plugin_keeps (settled_plugins bound)) (settled_plugins declared))
    ∙ ap (λ l. map key_of_plugin (settled_plugins declared) ++ l) (keys_map key_of_plugin (overlaid key_of_plugin merged_plugin (settled_plugins managed)) (overlaid_key key_of_plugin merged_plugin plugin_keeps (settled_plugins managed)) (undeclared declared bound))

pub join_bound : (declared managed bound : List Plugin) → IsJoin key_of_plugin declared bound (bound_to declared managed bound)
join_bound declared managed bound =
    let whole = join_over key_of_plugin merged_plugin plugin_keeps (map settled_plugin declared) (settled_plugins managed) (map settled_plugin bound) in record {
      keys = λ k. whole.keys k
          ∙ ap (λ b. b || has key_of_plugin (map settled_plugin bound) k) (has_map key_of_plugin settled_plugin settled_keeps declared k)
          ∙ ap (λ b. has key_of_plugin declared k || b) (has_map key_of_plugin settled_plugin settled_keeps bound k);
      once = whole.once;
    }

no_plugin : (items : List Plugin) (k : Key) → has key_of_plugin items k ≡ false → item_of key_of_plugin items k ≡ None
no_plugin items k lacks = by (item_of key_of_plugin items k) refl
  where
    clash : false ≡ true → ⊥
    clash e = cc

    by : (o : Option Plugin) → item_of key_of_plugin items k ≡ o → item_of key_of_plugin items k ≡ None
    by None is = is
    by (Some p) is = absurd (clash (sym (ap is_none is) ∙ found_has key_of_plugin items k ∙ ap not lacks))

-- a bound plugin that isn't declared lies below its managed entry
pub managed_over : (declared managed bound : List Plugin) (k : Key) (child parent : Plugin) → has key_of_plugin declared k ≡ false
    → item_of key_of_plugin (settled_plugins managed) k ≡ Some child → item_of key_of_plugin (settled_plugins bound) k ≡ Some parent
    → item_of key_of_plugin (bound_to declared managed bound) k ≡ Some (merged_plugin child parent)
managed_over declared managed bound k child parent lacks there is =
    let under = underlaid key_of_plugin merged_plugin (settled_plugins bound) in
    let over = overlaid key_of_plugin merged_plugin (settled_plugins managed) in
    let none = no_plugin (settled_plugins declared) k (has_settled key_of_plugin (map settled_plugin declared) k ∙ has_map key_of_plugin settled_plugin settled_keeps declared k ∙ lacks) in
    item_append key_of_plugin (map under (settled_plugins declared)) (map over (undeclared declared bound)) k
    ∙ ap (λ o. option_or o (item_of key_of_plugin (map over (undeclared declared bound)) k)) (item_map key_of_plugin under (underlaid_key key_of_plugin merged_plugin plugin_keeps (settled_plugins bound)) (settled_plugins declared) k ∙ ap (option_map under) none)
    ∙ item_map key_of_plugin over (overlaid_key key_of_plugin merged_plugin plugin_keeps (settled_plugins managed)) (undeclared declared bound) k
    ∙ ap (option_map over) (item_others key_of_plugin (settled_plugins declared) (settled_plugins bound) k ∙ ap (λ o. if is_none o then item_of key_of_plugin (settled_plugins bound) k else None) none ∙ is)
    ∙ ap (λ o. Some (option_map_or (λ c. merged_plugin c parent) o parent)) (ap (item_of key_of_plugin (settled_plugins managed)) (found_key key_of_plugin (settled_plugins bound) k parent is) ∙ there)
