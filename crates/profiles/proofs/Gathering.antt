-- What profiles have, one behind another.
use Rattle.std.proofs.Common.{◌≡◌, List, [], ◌∷◌, fold, flat_map, sym, ◌∙◌}
use Rattle.std.proofs.lemmas.List.{append-nil, append_assoc}
use Rattle.model_types.specs.declared.build.BuildBase.{BuildBase}
use Rattle.model_types.specs.declared.model.ModelBase.{ModelBase}
use Rattle.model_types.specs.declared.profile.Profile.{Profile}
use Rattle.profiles.specs.Contents.{all_behind, all_built, base_behind, build_behind}
use Rattle.profiles.specs.Injection.{plugins_in}

nothing_behind : (b : ModelBase) → b ≡ all_behind b []
nothing_behind b = λ i. record {
  modules = sym (append-nil b.modules) i;
  properties = sym (append-nil b.properties) i;
  managed = sym (append-nil b.managed) i;
  dependencies = sym (append-nil b.dependencies) i;
}

one_behind : (b : ModelBase) (p : Profile) (ps : List Profile) → all_behind (base_behind b p) ps ≡ all_behind b (p ∷ ps)
one_behind b p ps = λ i. record {
  modules = append_assoc b.modules p.base.modules (flat_map (λ (p : Profile). p.base.modules) ps) i;
  properties = append_assoc b.properties p.base.properties (flat_map (λ (p : Profile). p.base.properties) ps) i;
  managed = append_assoc b.managed p.base.managed (flat_map (λ (p : Profile). p.base.managed) ps) i;
  dependencies = append_assoc b.dependencies p.base.dependencies (flat_map (λ (p : Profile). p.base.dependencies) ps) i;
}

-- the lists of profiles, gathered one by one
pub bases_behind : (b : ModelBase) (ps : List Profile) → fold base_behind b ps ≡ all_behind b ps
bases_behind b [] = nothing_behind b
bases_behind b (p ∷ ps) = bases_behind (base_behind b p) ps ∙ one_behind b p ps

nothing_built : (b : BuildBase) → b ≡ all_built b []
nothing_built b = λ i. record {
  plugins = sym (append-nil b.plugins) i;
  managed_plugins = sym (append-nil b.managed_plugins) i;
}

one_built : (b : BuildBase) (p : Profile) (ps : List Profile) → all_built (build_behind b p) ps ≡ all_built b (p ∷ ps)
one_built b p ps = λ i. record {
  plugins = append_assoc b.plugins (plugins_in (λ p. p.build.plugins) p) (flat_map (plugins_in (λ p. p.build.plugins)) ps) i;
  managed_plugins = append_assoc b.managed_plugins (plugins_in (λ p. p.build.managed_plugins) p) (flat_map (plugins_in (λ p. p.build.managed_plugins)) ps) i;
}

-- the plugins of profiles, gathered one by one
pub builds_behind : (b : BuildBase) (ps : List Profile) → fold build_behind b ps ≡ all_built b ps
builds_behind b [] = nothing_built b
builds_behind b (p ∷ ps) = builds_behind (build_behind b p) ps ∙ one_built b p ps
