-- The program's own words: what is left of a script, with the module at hand.
use Rattle.std.specs.Prelude.{ℕ, Bool, false, slice_get, Option, Some, None}
use Rattle.std.specs.Option.{option_map_or}
use Rattle.scripts.specs.declared.outline.Outline.{Outline}
use Rattle.scripts.specs.declared.outline.ModuleOutline.{ModuleOutline}
use Rattle.scripts.specs.declared.script_place.ScriptPlace.{ScriptPlace}
use Rattle.scripts.specs.declared.rest.Rest.{Rest}
use Rattle.scripts.specs.declared.rest.Rest.TheVariants.{From, Nothing}
use Rattle.scripts.specs.ScriptPlaces.{rest_of}
use Rattle.scripts.specs.Scripts.{Script, whole}

-- what is left of the script of a module with this number: nothing where there is no such module
abbrev pub script_at : Outline → ℕ → ScriptPlace → Script
script_at o number p = option_map_or (λ m. rest_of m p) (slice_get o.modules number) whole

abbrev pub script_left : Rest → Script
script_left Nothing = whole
script_left (From m p) = rest_of m.now p

-- the module whose script it is
abbrev pub module_left : Rest → Option ModuleOutline
module_left Nothing = None
module_left (From m p) = Some m.now

abbrev pub goals_left : Rest → ℕ
goals_left rest = option_map_or (λ (m : ModuleOutline). m.goals) (module_left rest) 0

abbrev pub needs_artifact_left : Rest → Bool
needs_artifact_left rest = option_map_or (λ (m : ModuleOutline). m.needs_artifact) (module_left rest) false
