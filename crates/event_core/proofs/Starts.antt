-- Where the script of a module begins.
use Rattle.std.proofs.Common.{◌≡◌, ℕ, slice_get, Option, Some, None, refl}
use Rattle.std.specs.Option.{option_map_or}
use Rattle.scripts.specs.declared.outline.Outline.{Outline}
use Rattle.scripts.specs.declared.outline.ModuleOutline.{ModuleOutline}
use Rattle.scripts.specs.declared.script_place.ScriptPlace.TheVariants as place
use Rattle.scripts.specs.Scripts.{script_of, whole}
use Rattle.scripts.specs.ScriptPlaces.{rest_of}
use Rattle.scripts.specs.Rests.{script_at}
use Rattle.event_core.specs.Standing.{start_of}

-- a module begins at the first name of its batch
pub start_is : (o : Outline) (number : ℕ) → script_at o number (place.Sharing 0) ≡ start_of o number
unfolding rest_of
start_is o number = by (slice_get o.modules number)
  where
    by : (found : Option ModuleOutline) → option_map_or (λ x. rest_of x (place.Sharing 0)) found whole ≡ option_map_or script_of found whole
    by None = refl
    by (Some m) = refl
