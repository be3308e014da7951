-- A piece that is published as an own file fits what a worker's hand tells, and what is left of the area.
use Rattle.std.proofs.Common.{◌≡◌, ℕ, Bool, true, false, ◌&&◌, List, slice_get, Option, Some, None, IfSome, is_some, option_and_then, refl, sym, ap, subst, ◌∙◌}
use Rattle.std.proofs.lemmas.Bool.{false≢true}
use Rattle.std.specs.FinMap as finite
use Rattle.mvn_shared.specs.Cause.{HasCause}
use Rattle.mvn_shared.specs.Files.{Files}
use Rattle.mvn_outside.specs.Pieces.{Contents, Pieces, removed}
use Rattle.mvn_outside.specs.declared.fault.DeviceFault.{DeviceFault}
use Rattle.mvn_outside.specs.declared.fault.DeviceFault.TheVariants as fault
use Rattle.mvn_outside.proofs.NumberMaps.{put_there}
use Rattle.mvn_outside.specs.Staged.{staged}
use Rattle.build_core.specs.OneThread.{own_bytes}
use Rattle.build_core.specs.Slots.{kept_of}
use Rattle.build_core.specs.declared.ending.Device.TheVariants as device
use Rattle.build_core.specs.declared.ending.Ending.{Ending}
use Rattle.build_core.specs.declared.plan.OwnFile.{OwnFile}
use Rattle.event_core.specs.declared.entry.Carried.{Carried}
use Rattle.event_core.specs.declared.entry.Carried.TheVariants as carried
use Rattle.scripts.specs.Outlines.{is_listed}
use Rattle.event_core.specs.Worlds.{FitsBytes, HandTold, IsInstallable, TellsBytes, own_of}
use Rattle.scripts.proofs.Climbs.{both}
use Rattle.atomic_table.specs.Seated.{TableId}
use Rattle.crew_turns.specs.Ends.{ends_as}
use Rattle.crew_turns.specs.Seen.{IsOf, KeepsFit, Told}
use Rattle.crew_turns.specs.Tasks.{IsTask, ModuleTask, stood_by}
use Rattle.crew_turns.specs.Endings.{is_fault_of, is_quiet_end, is_quiet_stop, publish_end, stops_by}
use Rattle.crew_turns.specs.Hands.{IsAreaLeft, Test, told_by}
use Rattle.crew_turns.specs.Pieces.{FitsPiece, TellsPiece}
use Rattle.crew_turns.specs.Stages.{own_at}
use Rattle.crew_modules.specs.Putting.{GoesOn, HasPut, is_put_end}
use Rattle.crew_modules.proofs.Going.{goes_more, sound_unit}
use Rattle.crew_modules.proofs.Owns.{found_at, listed_at}
use Rattle.crew_modules.proofs.InstallPieces.{put_and_taken}
use Rattle.crew_modules.proofs.InstallStopping.{area_settled, quiet_settled}

-- ---- what is published

-- an area that tells, tells the piece that was staged
told_bytes : (area : Option Contents) (piece : ℕ) (bytes what : List ℕ) → is_some area ≡ true → IfSome (staged area piece bytes) (λ contents. finite.get contents piece ≡ Some what) → Some bytes ≡ Some what
told_bytes None piece bytes what told is = absurd (false≢true told)
told_bytes (Some contents) piece bytes what told is = sym (put_there contents piece bytes) ∙ is

staged_tells : (area : Option Contents) (piece : ℕ) (bytes : List ℕ) → is_some (staged area piece bytes) ≡ is_some area
staged_tells None piece bytes = refl
staged_tells (Some contents) piece bytes = refl

module _ (t : ModuleTask) (lock : TableId) (before : Told) (of : IsOf t.plan lock t.worker before) (is : IsTask t) (at : ℕ) (own : OwnFile) (stands_at : slice_get t.unit.own at ≡ Some own)
    (bytes : List ℕ) (has : own_at t (kept_of (stood_by t before).goals) at ≡ Some bytes) (may : IsInstallable (stood_by t before)) where
  -- the bytes of an own file, by its place and by its number
  own_is : own_of (stood_by t before) own.file ≡ Some bytes
  own_is =
      ap (option_and_then (λ (o : OwnFile). own_bytes t.unit (kept_of (stood_by t before).goals) o.slot)) (found_at t.unit.own at own (sound_unit t lock before of is).own_files stands_at ∙ sym stands_at) ∙ has

  -- no own file is fetched
  not_fetched : is_listed own.file t.unit.fetch ≡ false
  not_fetched = of.sound.not_fetched own.file t.number t.number t.unit t.unit is is (listed_at t.unit.own at own stands_at)

  module _ (area : Option Contents) (piece : ℕ) (told : HandTold) (tells : told.area ≡ is_some area) where
    tells_own : told.area ≡ true → (what : Carried) → TellsPiece (staged area piece bytes) piece what → TellsBytes what (own_of (stood_by t before) own.file)
    tells_own on carried.Nothing piece_is = tt
    tells_own on (carried.Answered answer) piece_is = tt
    tells_own on (carried.Published other) piece_is = own_is ∙ told_bytes area piece bytes other (sym tells ∙ on) piece_is

    fits_bytes : (b : Bool) → (b ≡ true → told.area ≡ true) → (what : Carried) → TellsPiece (staged area piece bytes) piece what → FitsBytes b false (stood_by t before) told own.file what
    fits_bytes true on what piece_is = (may, tells_own (on refl) what piece_is)
    fits_bytes false on what piece_is = may

    -- so the publish of the piece fits
    pub fits_piece : FitsPiece t told own.file (staged area piece bytes) piece before
    fits_piece = record {
      area_is = tells ∙ sym (staged_tells area piece bytes);
      bytes = λ what piece_is. subst (λ f. FitsBytes (is_some (stood_by t before).files && told.area) f (stood_by t before) told own.file what) (sym not_fetched)
          (fits_bytes (is_some (stood_by t before).files && told.area) (λ b. (both (is_some (stood_by t before).files) told.area b).1) what piece_is);
    }

-- ---- what is left of the area

removed_tells : (area : Option Contents) (piece : ℕ) → is_some (removed area piece) ≡ is_some area
removed_tells None piece = refl
removed_tells (Some contents) piece = refl

publish_not_quiet : (f : DeviceFault) → is_quiet_end (publish_end f) ≡ true → ⊥
publish_not_quiet fault.Failed quiet = false≢true quiet
publish_not_quiet fault.Memory quiet = false≢true quiet

no_area_fault : (f : DeviceFault) → is_fault_of device.Area (publish_end f) ≡ false
no_area_fault fault.Failed = refl
no_area_fault fault.Memory = refl

pub publish_put_end : (f : DeviceFault) → is_put_end (publish_end f) ≡ true
publish_put_end fault.Failed = refl
publish_put_end fault.Memory = refl

module _ {A : Type 0} (contents : A → Option Contents) (faults : A → ℕ) (pieces : A → Pieces) where
  abbrev Left : A → A → Option Ending → Type 0
  Left = IsAreaLeft contents faults pieces

  -- untouched
  pub area_same : (area : A) → Left area area None
  area_same area = record { tells = refl; cause = refl; same = λ quiet. refl }

  module _ (old mid now : A) (piece : ℕ) (fresh : finite.get (pieces old) piece ≡ None) (sealed : pieces mid ≡ finite.insert (pieces old) piece true)
      (tells : is_some (contents mid) ≡ is_some (contents old)) (calm : faults mid ≡ faults old) (still : faults now ≡ faults mid) where
    -- a piece that was staged and published
    pub area_put : pieces now ≡ finite.remove (pieces mid) piece → contents now ≡ removed (contents mid) piece → Left old now None
    area_put taken gone = record {
      tells = ap is_some gone ∙ removed_tells (contents mid) piece ∙ tells;
      cause = still ∙ calm;
      same = λ quiet. taken ∙ ap (λ m. finite.remove m piece) sealed ∙ put_and_taken (pieces old) piece true fresh;
    }

    -- one that was staged, and wasn't
    pub area_unput : (f : DeviceFault) → contents now ≡ contents mid → Left old now (Some (publish_end f))
    area_unput f kept = record {
      tells = ap is_some kept ∙ tells;
      cause = subst (HasCause (faults old) (faults now)) (sym (no_area_fault f)) (still ∙ calm);
      same = λ quiet. absurd (publish_not_quiet f quiet);
    }

  -- two stages
  pub area_more : (a b c : A) (stop : Option Ending) → Left a b None → Left b c stop → Left a c stop
  area_more a b c stop one two = record {
    tells = two.tells ∙ one.tells;
    cause = subst (λ n. HasCause n (faults c) (stops_by device.Area stop)) one.cause two.cause;
    same = λ quiet. two.same quiet ∙ one.same refl;
  }

  -- by what the module ended as
  pub area_ended : (a b : A) (stop : Option Ending) (e : Ending) (marked : Bool) → is_fault_of device.Area e ≡ stops_by device.Area stop → (is_quiet_end e ≡ true → is_quiet_stop stop ≡ true) → Left a b stop → Left a b (Some (ends_as e marked))
  area_ended a b stop e marked blame quiet left = record {
    tells = left.tells;
    cause = subst (HasCause (faults a) (faults b)) (sym (area_settled e marked ∙ blame)) left.cause;
    same = λ ends. left.same (quiet (quiet_settled e marked ends));
  }

  module _ (t : ModuleTask) (lock : TableId) where
    abbrev Put : Told → Told → A → A → Option Ending → Type 0
    Put = HasPut contents faults pieces t lock

    pub put_more : (a b c : Told) (x y z : A) (stop : Option Ending) → Put a b x y None → Put b c y z stop → Put a c x z stop
    put_more a b c x y z stop one two = record {
      on = goes_more t lock a b c one.on two.on;
      area_left = area_more x y z stop one.area_left two.area_left;
      fits = λ remote gate fit. subst (λ told. KeepsFit t.plan t.worker (told_by remote told gate) b c) one.area_left.tells (two.fits remote gate) (one.fits remote gate fit);
    }

    -- a turn behind a stage
    pub put_once : (a b : Told) (x y : A) (stop : Option Ending) → GoesOn t lock a b → Left x y stop → ((remote : Option Files) (gate : Option Test) → KeepsFit t.plan t.worker (told_by remote (is_some (contents x)) gate) a b) → Put a b x y stop
    put_once a b x y stop on left fits = record { on = on; area_left = left; fits = fits }
