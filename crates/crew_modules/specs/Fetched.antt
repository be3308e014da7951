-- A file that a worker fetches from its hand's remote and stages. Project rule.
use Rattle.std.specs.Prelude.{◌≡◌, ◌⊎◌, ℕ, List, Option, None, Some, Result, Ok, Err, IfSome}
use Rattle.std.specs.FinMap as map
use Rattle.mvn_shared.specs.Files.{Files}
use Rattle.mvn_outside.specs.Pieces.{Contents}
use Rattle.build_core.specs.OneThread.{remote_bytes}
use Rattle.build_core.specs.declared.ending.Ending.{Ending}
use Rattle.crew_turns.specs.Endings.{IsFetchEnd, IsStageEnd}

-- how a stage stops by its answer: not at all where it has one
abbrev pub stop_of : {T : Type 0} → Result T Ending → Option Ending
stop_of (Ok x) = None
stop_of (Err e) = Some e

-- a piece has the bytes that the remote has under a name, as far as remote and area tell
abbrev pub HasFetched : Option Files → (name : List ℕ) → Option Contents → (piece : ℕ) → Type 0
HasFetched remote name area piece = IfSome remote (λ files. IfSome area (λ contents. map.get contents piece ≡ remote_bytes files name))

-- a file that is to be fetched and staged isn't had: it is missing, a device failed, or memory ran out
abbrev pub IsPieceEnd : (file : ℕ) → Ending → Type 0
IsPieceEnd file e = IsFetchEnd file e ⊎ IsStageEnd e
