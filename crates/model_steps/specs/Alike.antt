-- The program's own words for plugins that are equal and have names and versions alone.
use Rattle.std.specs.Prelude.{ℕ, Bool, true, false, not, ◌&&◌, List, [], ◌∷◌, Option, None, Some}
use Rattle.std.specs.Str.{bytes_eq}
use Rattle.model_types.specs.declared.build.BuildBase.{BuildBase}
use Rattle.model_types.specs.declared.plugin.Plugin.{Plugin}

abbrev pub is_stated_alike : Option (List ℕ) → Option (List ℕ) → Bool
is_stated_alike (Some a) (Some b) = bytes_eq a b
is_stated_alike (Some a) None = false
is_stated_alike None (Some b) = false
is_stated_alike None None = true

abbrev pub has_none : {T : Type 0} → List T → Bool
has_none [] = true
has_none (x ∷ items) = false

-- whether a plugin has no dependencies, no executions and no settings
abbrev pub is_plain : Plugin → Bool
is_plain p = has_none p.dependencies && (has_none p.executions && has_none p.configuration)

abbrev pub is_same : Bool → Bool → Bool
is_same true b = b
is_same false b = not b

abbrev pub is_alike : Plugin → Plugin → Bool
is_alike a b =
    is_plain a && (is_plain b && (bytes_eq a.artifact b.artifact
    && (bytes_eq a.group b.group && (is_stated_alike a.version b.version && is_same a.inherited b.inherited))))

abbrev pub begins_alike : Plugin → List Plugin → Bool
begins_alike p [] = false
begins_alike p (q ∷ rest) = is_alike p q

abbrev pub are_alike : List Plugin → List Plugin → Bool
are_alike [] [] = true
are_alike [] (q ∷ b) = false
are_alike (p ∷ a) [] = false
are_alike (p ∷ a) (q ∷ b) = is_alike p q && are_alike a b

abbrev pub is_base_alike : BuildBase → BuildBase → Bool
is_base_alike a b = are_alike a.managed_plugins b.managed_plugins && are_alike a.plugins b.plugins
