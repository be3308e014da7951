-- Dependencies and plugins that stand as they are written: each of their texts does.
use Rattle.std.specs.Prelude.{ℕ, Bool, true, ◌==◌, ◌&&◌, List, length, Option, Some, None}
use Rattle.std.specs.List.{list_all}
use Rattle.model_types.specs.declared.dependency.Dependency.{Dependency}
use Rattle.model_types.specs.declared.dependency.Exclusion.{Exclusion}
use Rattle.model_types.specs.declared.plugin.Plugin.{Plugin}
use Rattle.interpolation.specs.KnownValues.{stands}

-- a text that may be missing
abbrev pub stands_if : Option (List ℕ) → Bool
stands_if None = true
stands_if (Some text) = stands text

abbrev pub exclusion_stands : Exclusion → Bool
exclusion_stands e = stands e.group && stands e.artifact

abbrev pub dependency_stands : Dependency → Bool
dependency_stands d =
    stands d.group && (stands d.artifact && (stands_if d.version && (stands d.kind && (stands d.classifier && (stands_if d.scope && (stands d.optional && list_all exclusion_stands d.exclusions))))))

-- a plugin's executions and configuration aren't looked at: it has none
abbrev pub plugin_stands : Plugin → Bool
plugin_stands p =
    stands p.group && (stands p.artifact && (stands_if p.version && (list_all dependency_stands p.dependencies && (length p.executions == 0 && length p.configuration == 0))))
