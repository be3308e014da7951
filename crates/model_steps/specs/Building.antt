-- The plugins that build a module: the declared ones under their managed entries, and those that its packaging binds. POM Reference,
-- "Plugin Management"; Introduction to the Build Lifecycle, "Built-in Lifecycle Bindings".
use Rattle.std.specs.Prelude.{ℕ, List, Option, None, Some, Ok, Err, if◌then◌else◌}
use Rattle.mvn_base.specs.declared.refusal.PomId.{PomId}
use Rattle.mvn_base.specs.declared.rule.Rule.TheVariants.{UnknownPackaging}
use Rattle.model_types.specs.declared.build.BuildBase.{BuildBase}
use Rattle.model_types.specs.declared.model.RawModel.{RawModel}
use Rattle.model_types.specs.declared.plugin.Plugin.{Plugin}
use Rattle.lifecycle.specs.Bindings.{bindings, bound_to}
use Rattle.model_merge.specs.Merging.{settled_plugins}
use Rattle.managed_deps.specs.Managed.{apply_plugins}
use Rattle.profiles.specs.Activation.{is_of_project}
use Rattle.pom_source.specs.Answers.{Built}
use Rattle.pom_source.specs.Refusals.{text_refused}

-- the declared plugins under their managed entries, and the bound ones; expressions may have made keys equal, so all are settled
abbrev pub bound_base : BuildBase → List Plugin → BuildBase
bound_base base bound = record {
  plugins = bound_to (apply_plugins base.plugins base.managed_plugins) base.managed_plugins bound;
  managed_plugins = settled_plugins base.managed_plugins;
}

-- the plugins of a module, by what its packaging binds
abbrev pub built_by : PomId → List ℕ → BuildBase → Option (List Plugin) → Built BuildBase
built_by pom packaging base None = Err (text_refused pom UnknownPackaging packaging)
built_by pom packaging base (Some bound) = Ok (bound_base base bound)

-- the plugins of a model; a POM that was read by coordinates isn't built
unfoldable pub built : RawModel → Built BuildBase
built raw =
    if is_of_project raw.pom
    then built_by raw.pom raw.coordinates.packaging raw.build.base (bindings raw.coordinates.packaging)
    else Ok raw.build.base
