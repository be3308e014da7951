-- A file is published in a turn.
use Rattle.std.proofs.Common.{◌≡◌, ℕ, Bool, true, false, List, [], ◌∷◌, ◌++◌, slice_get, Option, Some, None, is_some, IfSome, Result, Ok, Err, IfOk, OnOk, OnErr, ◌&&◌, refl, sym, ap, subst, ◌∙◌}
use Rattle.std.specs.Prelude.{◌==◌, find, option_and_then, option_map}
use Rattle.std.proofs.lemmas.Bool.{false≢true}
use Rattle.mvn_shared.specs.Files.{Files}
use Rattle.mvn_outside.specs.Pieces.{Contents}
use Rattle.mvn_outside.specs.Shelf.{files_now}
use Rattle.mvn_outside.specs.declared.fault.DeviceFault.{DeviceFault}
use Rattle.mvn_outside.specs.declared.shelf.ShelfTold.{ShelfTold}
use Rattle.build_core.specs.OneThread.{own_bytes}
use Rattle.build_core.specs.Slots.{GoalsEnd, kept_of}
use Rattle.build_core.specs.declared.event.Event.TheVariants as event
use Rattle.build_core.specs.declared.plan.OwnFile.{OwnFile}
use Rattle.build_core.specs.declared.plan.Plan.{Plan}
use Rattle.build_core.specs.declared.plan.PlanModule.{PlanModule}
use Rattle.scripts.specs.declared.deed.Deed.TheVariants as deed
use Rattle.event_core.specs.declared.entry.Carried.{Carried}
use Rattle.event_core.specs.declared.entry.Carried.TheVariants as carried
use Rattle.event_core.specs.declared.entry.RunEntry.{RunEntry}
use Rattle.event_core.specs.Causes.{stage_at}
use Rattle.event_core.specs.Enabled.{Enabled, IsEnabled, is_due}
use Rattle.scripts.specs.Outlines.{is_listed, outline_of}
use Rattle.event_core.specs.Runs.{IsRunOf, contents, module_by, standing_of_run}
use Rattle.event_core.specs.Standing.{course_of, module_of}
use Rattle.event_core.specs.Worlds.{Fits, FitsBytes, FitsModule, FitsPublish, HandTold, Stood, TellsBytes, is_told, is_told_by, stood}
use Rattle.run_law.proofs.Staying.{course_stays, goals_stay}
use Rattle.run_law.specs.Absent.{IsFirstAbsent}
use Rattle.run_law.proofs.Ending.{installable}
use Rattle.atomic_table.specs.Seated.{TableId}
use Rattle.board.specs.Builds.{Build, MayCome, Publishes, with_entry, with_fault, with_shelf}
use Rattle.board.specs.Logs.{publishes_in, told_after}
use Rattle.crew_turns.specs.Seen.{IsOf, Told, course_by, seen_by, start_by}
use Rattle.crew_turns.specs.Taken.{IsOut}
use Rattle.crew_turns.proofs.Ends.{at_module}
use Rattle.crew_turns.proofs.Takes.{due_here}
use Rattle.crew_turns.specs.Pieces.{TellsPiece}
use Rattle.crew_turns.specs.Looked.{LooksBehind}
use Rattle.crew_turns.proofs.Owns.{own_all, publish_low}
use Rattle.crew_turns.proofs.Results.{IsLeft, marked_log, marked_opening, marked_plan}

-- what a publish leaves of a board, by its result
pub publish_left : {S : Type 0} (b now : Build S) (k w f : ℕ) → k ≡ w → (failed : Bool) (Q : Carried → Type 0) (r : Result (Unit {0}) DeviceFault) → OnOk r ((what : Carried) × Q what × (now ≡ with_shelf (with_entry b (event.Publish k f) what) now.shelf))
    → OnErr r (now ≡ with_shelf (with_fault b k failed) now.shelf) → IsLeft b (event.Publish w f) Q r now
publish_left {S} b now k w f same failed Q (Ok done) ok err = record {
  log = (ok.0, ok.1, ap (λ (x : Build S). x.log) ok.2 ∙ ap (λ v. b.log ++ (record { event = event.Publish v f; carried = ok.0 }) ∷ []) same);
  plan = ap (λ (x : Build S). x.plan) ok.2;
  opening = ap (λ (x : Build S). x.opening) ok.2;
}
publish_left {S} b now k w f same failed Q (Err fault) ok err = record {
  log = ap (λ (x : Build S). x.log) err ∙ marked_log b k failed;
  plan = ap (λ (x : Build S). x.plan) err ∙ marked_plan b k failed;
  opening = ap (λ (x : Build S). x.opening) err ∙ marked_opening b k failed;
}

-- ---- the look behind it

module _ (there : List Bool) (files : List ℕ) (from : ℕ) where
  -- what a publish gave holds of the look's answer
  pub looked_ok : (P : Type 0) (r : Result (Unit {0}) DeviceFault) (looked : Result (Option ℕ) DeviceFault) → LooksBehind there files from r looked → OnOk r P → OnOk looked P
  looked_ok P (Ok done) looked behind holds = subst (λ x. OnOk x P) (sym behind.1) holds
  looked_ok P (Err fault) looked behind holds = subst (λ x. OnOk x P) (sym behind) tt

  pub looked_err : (P : Type 0) (r : Result (Unit {0}) DeviceFault) (looked : Result (Option ℕ) DeviceFault) → LooksBehind there files from r looked → OnErr r P → OnErr looked P
  looked_err P (Ok done) looked behind holds = subst (λ x. OnErr x P) (sym behind.1) tt
  looked_err P (Err fault) looked behind holds = subst (λ x. OnErr x P) (sym behind) holds

  -- and so do the last two of three
  pub looked_left : (A B C : Type 0) (r : Result (Unit {0}) DeviceFault) (looked : Result (Option ℕ) DeviceFault) → LooksBehind there files from r looked → OnErr r (A × B × C) → OnErr looked (B × C)
  looked_left A B C (Ok done) looked behind holds = subst (λ x. OnErr x (B × C)) (sym behind.1) tt
  looked_left A B C (Err fault) looked behind holds = subst (λ x. OnErr x (B × C)) (sym behind) (holds.1, holds.2)

  -- and it is the first that isn't there
  pub looked_first : (r : Result (Unit {0}) DeviceFault) (looked : Result (Option ℕ) DeviceFault) → LooksBehind there files from r looked → IfOk looked (λ found. IsFirstAbsent there files from found)
  looked_first (Ok done) looked behind = subst (λ x. IfOk x (λ found. IsFirstAbsent there files from found)) (sym behind.1) behind.2
  looked_first (Err fault) looked behind = subst (λ x. IfOk x (λ found. IsFirstAbsent there files from found)) (sym behind) tt

-- ---- what it carries

none_some : {A : Type 0} (x : A) → None ≡ Some x → ⊥
none_some x e = false≢true (ap is_some e)

-- of the piece
pub tells_piece : (before now : Option ShelfTold) (area : Option Contents) (piece : ℕ) (name : List ℕ) (what : Carried) → Publishes before now area piece name what → TellsPiece area piece what
tells_piece None now area piece name what is = subst (TellsPiece area piece) (sym is.1) tt
tells_piece (Some told) now area piece name what is = subst (TellsPiece area piece) (sym is.2) is.3

published_told : (told : Bool) (w f : ℕ) (bytes : List ℕ) → is_told told (event.Publish w f) (carried.Published bytes) ≡ true
published_told true w f bytes = refl
published_told false w f bytes = refl

-- and what it has to
pub carries : (plan : Plan) (log : List RunEntry) (first before now : Option ShelfTold) (area : Option Contents) (piece : ℕ) (name : List ℕ) (what : Carried) (told : HandTold) (w f : ℕ) → now ≡ told_after plan log first
    → Publishes before now area piece name what → is_told (is_told_by (option_map files_now first) (λ v. told) (event.Publish w f)) (event.Publish w f) what ≡ true
carries plan log None None now area piece name what told w f same is = ap (is_told false (event.Publish w f)) is.1
carries plan log (Some t) None now area piece name what told w f same is = absurd (none_some (record t { publishes = t.publishes ++ publishes_in plan log }) (sym is.0 ∙ same))
carries plan log first (Some t) now area piece name what told w f same is =
    ap (is_told (is_told_by (option_map files_now first) (λ v. told) (event.Publish w f)) (event.Publish w f)) is.2
    ∙ published_told (is_told_by (option_map files_now first) (λ v. told) (event.Publish w f)) w f is.0

-- ---- what fits

-- whether files are told, however they changed
told_still : (start : Option Files) (f g : Files → Files) → is_some (option_map f start) ≡ is_some (option_map g start)
told_still None f g = refl
told_still (Some files) f g = refl

module _ (plan : Plan) (lock : TableId) (w : ℕ) (before : Told) (of : IsOf plan lock w before) {S : Type 0} (b : Build S) (is : IsOut plan w before b) (f : ℕ)
    (due : is_due (course_by plan w before) (deed.Publish f) ≡ true) where
  -- a publish that is due may come
  pub publish_may : MayCome b (event.Publish w f)
  unfolding Enabled
  publish_may =
      subst (λ p. IsEnabled (outline_of p) (standing_of_run p b.log) (event.Publish w f)) (sym is.plan_is)
      (is.low, publish_low plan of.sound (seen_by before) of.run w f due, subst (λ p. is_due (course_of (standing_of_run p b.log) w) (deed.Publish f) ≡ true) is.plan_is (due_here plan lock w before of b is (deed.Publish f) due))

  module _ (number : ℕ) (m : PlanModule) (whose : module_by plan (seen_by before) w ≡ Some number) (at : slice_get plan.modules number ≡ Some m) (told : HandTold) (what : Carried) where
    abbrev seen : List RunEntry
    seen = seen_by before

    abbrev others : List RunEntry
    others = is.came.others

    abbrev start : Option Files
    start = start_by before

    abbrev stands : List RunEntry → Stood
    stands log = stood plan start log number m

    run : IsRunOf plan (seen ++ others)
    run = subst (IsRunOf plan) is.came.is is.run

    -- one that fits fits behind others' entries
    bytes_stay : (tells listed : Bool) → is_listed f m.fetch ≡ listed → FitsBytes tells listed (stands seen) told f what → FitsBytes tells listed (stands (seen ++ others)) told f what
    bytes_stay false true l fits = tt
    bytes_stay true true l fits = fits
    bytes_stay false false l fits = installable plan seen others w number m of.sound run whose at (own_all plan seen of.run w f number m due whose at l) is.came.apart start fits
    bytes_stay true false l fits = (
      installable plan seen others w number m of.sound run whose at (own_all plan seen of.run w f number m due whose at l) is.came.apart start fits.0,
      subst (λ (g : GoalsEnd). TellsBytes what (option_and_then (λ (o : OwnFile). own_bytes m (kept_of g) o.slot) (find (λ (o : OwnFile). o.file == f) m.own))) (sym (goals_stay plan seen others w number m run is.came.apart whose)) fits.1,
    )

    fits_stay : FitsPublish (stands seen) told f what → FitsPublish (stands b.log) told f what
    fits_stay fits =
        subst (λ log. FitsPublish (stands log) told f what) (sym is.came.is)
        (subst (λ t. FitsBytes (t && told.area) (is_listed f m.fetch) (stands (seen ++ others)) told f what) (told_still start (λ files. contents plan files seen) (λ files. contents plan files (seen ++ others)))
        (bytes_stay (is_some (option_map (λ files. contents plan files seen) start) && told.area) (is_listed f m.fetch) refl fits))

    stays : module_by plan b.log w ≡ Some number
    stays = ap (λ log. module_of (course_of (standing_of_run plan log) w)) is.came.is ∙ ap module_of (course_stays plan seen others w is.came.apart) ∙ whose

    -- so the entry fits in the turn
    pub publish_fits : FitsPublish (stands seen) told f what → is_told (is_told_by start (λ v. told) (event.Publish w f)) (event.Publish w f) what ≡ true
        → Fits plan start (λ v. told) b.log (record { event = event.Publish w f; carried = what })
    publish_fits fits has = (
      has,
      at_module (module_by plan b.log w) number (λ k. IfSome (slice_get plan.modules k) (λ u. FitsModule (stood plan start b.log k u) told (stage_at (course_of (standing_of_run plan b.log) w)) (event.Publish w f) what)) stays
          (at_module (slice_get plan.modules number) m (λ u. FitsModule (stood plan start b.log number u) told (stage_at (course_of (standing_of_run plan b.log) w)) (event.Publish w f) what) at
          (fits_stay fits)),
    )
