-- A piece with the bytes that the remote has fits what the hand tells.
use Rattle.std.proofs.Common.{◌≡◌, ℕ, Bool, true, false, List, Option, Some, None, IfSome, is_some, refl, sym, subst, ◌∙◌}
use Rattle.std.proofs.lemmas.Bool.{false≢true}
use Rattle.mvn_shared.specs.Files.{Files}
use Rattle.mvn_outside.specs.Pieces.{Contents}
use Rattle.build_core.specs.OneThread.{name_of, remote_bytes}
use Rattle.scripts.specs.Outlines.{is_listed}
use Rattle.event_core.specs.Worlds.{FitsBytes, HandTold, TellsBytes, tells_bytes}
use Rattle.event_core.specs.declared.entry.Carried.{Carried}
use Rattle.event_core.specs.declared.entry.Carried.TheVariants as carried
use Rattle.scripts.proofs.Climbs.{both}
use Rattle.crew_turns.specs.Seen.{Told}
use Rattle.crew_turns.specs.Tasks.{ModuleTask, stood_by}
use Rattle.crew_turns.specs.Hands.{Test, told_by}
use Rattle.crew_turns.specs.Pieces.{FitsPiece, TellsPiece}
use Rattle.crew_modules.specs.Fetched.{HasFetched}

with_bytes : (remote : Option Files) (name : List ℕ) (now : Option Contents) (piece : ℕ) (what : Carried) → is_some now ≡ true → HasFetched remote name now piece → TellsPiece now piece what
    → IfSome remote (λ files. TellsBytes what (remote_bytes files name))
with_bytes None name now piece what some has tells = tt
with_bytes (Some files) name None piece what some has tells = absurd (false≢true some)
with_bytes (Some files) name (Some contents) piece (carried.Published bytes) some has tells = sym has ∙ tells
with_bytes (Some files) name (Some contents) piece carried.Nothing some has tells = tt
with_bytes (Some files) name (Some contents) piece (carried.Answered answer) some has tells = tt

pub fits_piece : (t : ModuleTask) (pass : Told) (file : ℕ) (remote : Option Files) (before now : Option Contents) (piece : ℕ) (gate : Option Test) → is_listed file t.unit.fetch ≡ true
    → is_some now ≡ is_some before → HasFetched remote (name_of t.plan file) now piece → FitsPiece t (told_by remote (is_some before) gate) file now piece pass
fits_piece t pass file remote before now piece gate listed tells has = record {
  area_is = sym tells;
  bytes = λ what says.
      subst (λ b. FitsBytes (tells_bytes (stood_by t pass) hand) b (stood_by t pass) hand file what) (sym listed)
      (by what says (tells_bytes (stood_by t pass) hand) refl);
}
  where
    hand : HandTold
    hand = told_by remote (is_some before) gate

    by : (what : Carried) → TellsPiece now piece what → (b : Bool) → tells_bytes (stood_by t pass) hand ≡ b → FitsBytes b true (stood_by t pass) hand file what
    by what says false e = tt
    by what says true e = with_bytes remote (name_of t.plan file) now piece what (tells ∙ (both (is_some (stood_by t pass).files) (is_some before) e).1) has says
