-- What a POM has beside the contents of its profiles.
use Rattle.std.proofs.Common.{◌≡◌, ◌||◌, List, [], ◌∷◌, ◌++◌, map, Option, Some, None, refl, sym, ap, ◌∙◌, if◌then◌else◌}
use Rattle.std.specs.Prelude.{ℕ, flat_map}
use Rattle.std.specs.Option.{option_or}
use Rattle.mvn_base.specs.declared.key.Key.{Key}
use Rattle.model_types.specs.declared.model.RawModel.{RawModel}
use Rattle.model_types.specs.declared.plugin.Plugin.{Plugin}
use Rattle.model_types.specs.declared.profile.Profile.{Profile}
use Rattle.model_merge.specs.Keyed.{same_key}
use Rattle.model_merge.specs.Keys.{key_of_dependency, key_of_pair, key_of_plugin}
use Rattle.model_merge.specs.Merging.{merged_plugin, settled_plugin, settled_plugins}
use Rattle.profiles.specs.Injection.{inject, inject_base, inject_build, inject_build_base, plugins_in, profiles_at, with_items, with_plugins}
use Rattle.model_laws.specs.Injected.{HasKeysOfBoth, IsStatedByProfiles}
use Rattle.model_laws.specs.Keys.{HasFirst, IsJoin, has, last_of}
use Rattle.model_laws.proofs.Keys.{has_append, has_map, has_settled, item_settled, once_settled}
use Rattle.model_laws.proofs.Merges.{join_absorbed}
use Rattle.model_laws.proofs.Plugins.{plugin_keeps, settled_keeps}

module _ {T : Type 0} (key : T → Key) where
  -- the last of a key in two lists is the second's, or else the first's
  last_append : (xs ys : List T) (k : Key) → last_of key (xs ++ ys) k ≡ option_or (last_of key ys k) (last_of key xs k)
  last_append [] ys k = none (last_of key ys k)
    where
      none : (o : Option T) → o ≡ option_or o None
      none (Some y) = refl
      none None = refl
  last_append (x ∷ xs) ys k = ap (λ o. option_or o (if same_key k (key x) then Some x else None)) (last_append xs ys k) ∙ nested (last_of key ys k) (last_of key xs k) (if same_key k (key x) then Some x else None)
    where
      nested : (a b c : Option T) → option_or (option_or a b) c ≡ option_or a (option_or b c)
      nested (Some y) b c = refl
      nested None b c = refl

  items_first : (own : List T) (items : Profile → List T) (ps : List Profile) → HasFirst key (flat_map items ps) own (with_items key own items ps)
  items_first own items ps k = item_settled key (own ++ flat_map items ps) k ∙ last_append own (flat_map items ps) k

  items_join : (own : List T) (items : Profile → List T) (ps : List Profile) → IsJoin key own (flat_map items ps) (with_items key own items ps)
  items_join own items ps = record {
    keys = λ k. has_settled key (own ++ flat_map items ps) k ∙ has_append key own (flat_map items ps) k;
    once = once_settled key (own ++ flat_map items ps);
  }

pub stated_by : (raw : RawModel) (places : List ℕ) → IsStatedByProfiles raw (profiles_at raw.profiles places) (inject raw places)
unfolding inject inject_base
stated_by raw places =
    let active = profiles_at raw.profiles places in record {
      properties = items_first key_of_pair raw.base.properties (λ p. p.base.properties) active;
      managed = items_first key_of_dependency raw.base.managed (λ p. p.base.managed) active;
      dependencies = items_first key_of_dependency raw.base.dependencies (λ p. p.base.dependencies) active;
    }

-- settled plugins have the names of those that they were
has_plugins : (ps : List Plugin) (k : Key) → has key_of_plugin (settled_plugins ps) k ≡ has key_of_plugin ps k
has_plugins ps k = has_settled key_of_plugin (map settled_plugin ps) k ∙ has_map key_of_plugin settled_plugin settled_keeps ps k

has_in_all : (plugins : Profile → List Plugin) (ps : List Profile) (k : Key) → has key_of_plugin (flat_map (plugins_in plugins) ps) k ≡ has key_of_plugin (flat_map plugins ps) k
has_in_all plugins [] k = refl
has_in_all plugins (p ∷ ps) k =
    has_append key_of_plugin (settled_plugins (plugins p)) (flat_map (plugins_in plugins) ps) k
    ∙ ap (λ b. b || has key_of_plugin (flat_map (plugins_in plugins) ps) k) (has_plugins (plugins p) k)
    ∙ ap (λ b. has key_of_plugin (plugins p) k || b) (has_in_all plugins ps k)
    ∙ sym (has_append key_of_plugin (plugins p) (flat_map plugins ps) k)

plugins_join : (own : List Plugin) (plugins : Profile → List Plugin) (ps : List Profile) → IsJoin key_of_plugin own (flat_map plugins ps) (with_plugins own plugins ps)
plugins_join own plugins ps =
    let whole = join_absorbed key_of_plugin merged_plugin plugin_keeps (map settled_plugin own) (flat_map (plugins_in plugins) ps) in record {
      keys = λ k. whole.keys k
          ∙ ap (λ b. b || has key_of_plugin (flat_map (plugins_in plugins) ps) k) (has_map key_of_plugin settled_plugin settled_keeps own k)
          ∙ ap (λ b. has key_of_plugin own k || b) (has_in_all plugins ps k);
      once = whole.once;
    }

pub keys_of_both : (raw : RawModel) (places : List ℕ) → HasKeysOfBoth raw (profiles_at raw.profiles places) (inject raw places)
unfolding inject inject_base inject_build inject_build_base
keys_of_both raw places =
    let active = profiles_at raw.profiles places in record {
      properties = items_join key_of_pair raw.base.properties (λ p. p.base.properties) active;
      managed = items_join key_of_dependency raw.base.managed (λ p. p.base.managed) active;
      dependencies = items_join key_of_dependency raw.base.dependencies (λ p. p.base.dependencies) active;
      plugins = plugins_join raw.build.base.plugins (λ p. p.build.plugins) active;
      managed_plugins = plugins_join raw.build.base.managed_plugins (λ p. p.build.managed_plugins) active;
    }
