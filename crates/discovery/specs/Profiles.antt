-- The modules that a POM and its profiles list. POM Reference, "Aggregation".
use Rattle.std.specs.Prelude.{ℕ, List, [], ◌++◌, flat_map, slice_get, Option, None, Some}
use Rattle.model_types.specs.declared.model.RawModel.{RawModel}
use Rattle.model_types.specs.declared.profile.Profile.{Profile}

-- those of a profile, if there is one
abbrev pub modules_in : Option Profile → List (List ℕ)
modules_in None = []
modules_in (Some p) = p.base.modules

-- those of a POM, and then those of its profiles at some places
abbrev pub modules_at : RawModel → List ℕ → List (List ℕ)
modules_at raw places = raw.base.modules ++ flat_map (λ place. modules_in (slice_get raw.profiles place)) places
