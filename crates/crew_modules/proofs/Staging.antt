-- A file's bytes in a piece.
use Rattle.std.proofs.Common.{◌≡◌, ℕ, List, Option, Some, None, Result, Ok, Err, IfOk, IfSome, sym, subst, ◌∙◌}
use Rattle.mvn_shared.specs.Files.{Files}
use Rattle.mvn_outside.specs.Pieces.{Contents}
use Rattle.build_core.specs.OneThread.{remote_bytes}
use Rattle.build_core.specs.declared.ending.Ending.{Ending}
use Rattle.mvn_outside.specs.Staged.{staged}
use Rattle.mvn_outside.proofs.Stages.{put_there}
use Rattle.crew_modules.specs.Fetched.{HasFetched}

-- a piece with the remote's bytes
has_fetched : (remote : Option Files) (name : List ℕ) (before : Option Contents) (piece : ℕ) (bytes : List ℕ) → IfSome remote (λ files. remote_bytes files name ≡ Some bytes)
    → HasFetched remote name (staged before piece bytes) piece
has_fetched None name before piece bytes is = tt
has_fetched (Some files) name None piece bytes is = tt
has_fetched (Some files) name (Some contents) piece bytes is = put_there contents piece bytes ∙ sym is

pub staged_so : (remote : Option Files) (name : List ℕ) (before now : Option Contents) (bytes : List ℕ) (r : Result ℕ Ending) → IfSome remote (λ files. remote_bytes files name ≡ Some bytes)
    → IfOk r (λ piece. now ≡ staged before piece bytes) → IfOk r (λ piece. HasFetched remote name now piece)
staged_so remote name before now bytes (Ok piece) is put = subst (λ c. HasFetched remote name c piece) (sym put) (has_fetched remote name before piece bytes is)
staged_so remote name before now bytes (Err e) is put = tt
