-- The winners of the module of a number.
use Rattle.std.proofs.Common.{◌≡◌, ℕ, zero, suc, List, [], ◌∷◌, map, get_or, refl}
use Rattle.std.specs.Prelude.{slice_get}
use Rattle.std.specs.Option.{option_map_or}
use Rattle.mvn_base.specs.declared.gav.Gav.{Gav}
use Rattle.classpaths.specs.declared.resolution.Resolution.{Resolution}
use Rattle.reactor.specs.Upstreams.{winner_gavs}

-- those of its resolution, and none where it has no resolution
pub at_number : (resolutions : List Resolution) (n : ℕ) → get_or (map winner_gavs resolutions) n [] ≡ option_map_or winner_gavs (slice_get resolutions n) []
at_number [] n = refl
at_number (r ∷ resolutions) zero = refl
at_number (r ∷ resolutions) (suc n) = at_number resolutions n
