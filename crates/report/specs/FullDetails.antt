-- What the report tells of each module besides how it ended. Project format.
use Rattle.std.specs.Prelude.{ℕ, Bool, true, false, List, [], ◌∷◌, Option, Some, None}
use Rattle.model_types.specs.declared.model.Model.{Model}
use Rattle.classpaths.specs.declared.resolution.Resolution.{Resolution}
use Rattle.report.specs.declared.row.FullPart.{FullPart}
use Rattle.report.specs.BuildDetails.{notes_of}
use Rattle.report.specs.declared.details.Details.{Details}
use Rattle.report.specs.Full.{full_part}

-- the full part, where all is asked for
abbrev pub full_of : (full : Bool) → Model → Resolution → Option FullPart
full_of true model resolution = Some (full_part model resolution)
full_of false model resolution = None

-- of a module: its notes, and what is told where all is asked for
abbrev pub details : (full : Bool) → Model → Resolution → (unbound : List (List ℕ)) → Details
details full model resolution unbound = record { notes = notes_of resolution.notes unbound; full = full_of full model resolution }

-- of these modules, in order
abbrev pub details_of : (full : Bool) → List Model → List Resolution → (unbound : List (List (List ℕ))) → List Details
details_of full [] resolutions unbound = []
details_of full (m ∷ models) [] unbound = []
details_of full (m ∷ models) (r ∷ resolutions) [] = []
details_of full (m ∷ models) (r ∷ resolutions) (u ∷ unbound) = details full m r u ∷ details_of full models resolutions unbound
