-- When the publish of a piece fits what a worker's hand tells. Project rule.
use Rattle.std.specs.Prelude.{◌≡◌, ℕ, is_some, Option, Some, IfSome}
use Rattle.std.specs.FinMap as map
use Rattle.mvn_outside.specs.Pieces.{Contents}
use Rattle.event_core.specs.Worlds.{FitsPublish, HandTold}
use Rattle.event_core.specs.declared.entry.Carried.{Carried}
use Rattle.event_core.specs.declared.entry.Carried.TheVariants as carried
use Rattle.crew_turns.specs.Seen.{Told}
use Rattle.crew_turns.specs.Tasks.{ModuleTask, stood_by}

-- the bytes that an entry carries are those of a piece, where the area tells them
abbrev pub TellsPiece : Option Contents → (piece : ℕ) → Carried → Type 0
TellsPiece area piece (carried.Published bytes) = IfSome area (λ contents. map.get contents piece ≡ Some bytes)
TellsPiece area piece other = Unit {0}

-- a publish of this piece fits what the hand tells, whatever it carries of it
pub record FitsPiece (t : ModuleTask) (told : HandTold) (file : ℕ) (area : Option Contents) (piece : ℕ) (pass : Told) : Type 0 where
  pub area_is : told.area ≡ is_some area
  pub bytes : (what : Carried) → TellsPiece area piece what → FitsPublish (stood_by t pass) told file what
