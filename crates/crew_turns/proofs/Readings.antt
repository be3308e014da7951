-- A file is read in a turn.
use Rattle.std.proofs.Common.{◌≡◌, ◌<◌, ℕ, Bool, true, false, List, [], ◌∷◌, ◌++◌, length, slice_get, Option, Some, None, is_some, IfSome, Result, Ok, Err, IfErr, OnOk, refl, arith, sym, ap, subst, ◌∙◌}
use Rattle.std.specs.Option.{option_map, option_and_then}
use Rattle.std.proofs.lemmas.Bool.{false≢true}
use Rattle.mvn_shared.specs.Files.{Files}
use Rattle.mvn_outside.specs.Shelf.{files_now}
use Rattle.mvn_outside.specs.declared.fault.ReadFault.{ReadFault}
use Rattle.mvn_outside.specs.declared.shelf.ShelfTold.{ShelfTold}
use Rattle.build_core.specs.declared.event.Event.TheVariants as event
use Rattle.build_core.specs.declared.plan.Plan.{Plan}
use Rattle.scripts.specs.declared.deed.Deed.TheVariants as deed
use Rattle.event_core.specs.declared.entry.Carried.{Carried}
use Rattle.event_core.specs.declared.entry.Carried.TheVariants as carried
use Rattle.event_core.specs.declared.entry.RunEntry.{RunEntry}
use Rattle.event_core.specs.Enabled.{Enabled, IsEnabled, is_due}
use Rattle.scripts.specs.Outlines.{outline_of}
use Rattle.event_core.specs.Runs.{contents, module_by, standing_of_run}
use Rattle.event_core.specs.Worlds.{Fits, HandTold, is_told, is_told_by}
use Rattle.atomic_table.specs.Seated.{TableId}
use Rattle.turn_lock.specs.Passes.{with_view}
use Rattle.turn_lock.specs.Turns.{given, with_turn}
use Rattle.board.specs.Builds.{Build, MayCome, has_failed, with_event, with_fault, with_shelf}
use Rattle.board.specs.Logs.{publishes_in, role, told_after}
use Rattle.board.specs.declared.kept.Opened.{Opened}
use Rattle.crew_turns.specs.Seen.{IsOf, Told, course_by, seen_by, start_by, view}
use Rattle.crew_turns.specs.Taken.{IsOut, opened_of}
use Rattle.crew_turns.proofs.Taken.{gave}
use Rattle.crew_turns.proofs.Takes.{due_here}
use Rattle.crew_turns.proofs.Turning.{asks_nothing}
use Rattle.crew_turns.proofs.Results.{IsLeft, marked_log, marked_opening, marked_plan, seen_is}

abbrev pub IsBare : Carried → Type 0
IsBare what = what ≡ carried.Nothing

-- what a read leaves of a board, by its result
pub read_left : {S : Type 0} (b now : Build S) (k w f : ℕ) → k ≡ w → (r : Result (List ℕ) ReadFault) → OnOk r (now ≡ with_shelf (with_event b (event.Read k f)) now.shelf) → IfErr r (λ fault. now ≡ with_shelf (with_fault b k (has_failed fault)) now.shelf)
    → IsLeft b (event.Read w f) IsBare r now
read_left {S} b now k w f same (Ok bytes) ok err = record {
  log = (carried.Nothing, refl, ap (λ (x : Build S). x.log) ok ∙ ap (λ v. b.log ++ (record { event = event.Read v f; carried = carried.Nothing }) ∷ []) same);
  plan = ap (λ (x : Build S). x.plan) ok;
  opening = ap (λ (x : Build S). x.opening) ok;
}
read_left {S} b now k w f same (Err fault) ok err = record {
  log = ap (λ (x : Build S). x.log) err ∙ marked_log b k (has_failed fault);
  plan = ap (λ (x : Build S). x.plan) err ∙ marked_plan b k (has_failed fault);
  opening = ap (λ (x : Build S). x.opening) err ∙ marked_opening b k (has_failed fault);
}

bare_read : (told : Bool) (w f : ℕ) → is_told told (event.Read w f) carried.Nothing ≡ true
bare_read true w f = refl
bare_read false w f = refl

-- an entry of a read that carries nothing fits
pub read_fits : (plan : Plan) (start : Option Files) (told : HandTold) (past : List RunEntry) (w f : ℕ) (what : Carried) → IsBare what → Fits plan start (λ v. told) past (record { event = event.Read w f; carried = what })
read_fits plan start told past w f what none =
    subst (λ x. Fits plan start (λ v. told) past (record { event = event.Read w f; carried = x })) (sym none)
    (bare_read (is_told_by start (λ v. told) (event.Read w f)) w f, asks_nothing (module_by plan past w) (λ number. slice_get plan.modules number))

module _ (plan : Plan) (lock : TableId) (w : ℕ) (before : Told) (of : IsOf plan lock w before) {S : Type 0} (b : Build S) (is : IsOut plan w before b) where
  -- a read that is due may come
  pub read_may : (f : ℕ) → f < length plan.files → is_due (course_by plan w before) (deed.Read f) ≡ true → MayCome b (event.Read w f)
  unfolding Enabled
  read_may f low due =
      let many = of.sound.present in
      subst (λ p. IsEnabled (outline_of p) (standing_of_run p b.log) (event.Read w f)) (sym is.plan_is)
      (is.low, omega (arith, low, many), subst (λ p. is_due (Rattle.event_core.specs.Standing.course_of (standing_of_run p b.log) w) (deed.Read f) ≡ true) is.plan_is (due_here plan lock w before of b is (deed.Read f) due))

-- ---- the files that are read

none_some : {A : Type 0} (x : A) → None ≡ Some x → ⊥
none_some x e = false≢true (ap is_some e)

-- what holds of the files that a repository tells holds of those that the log says
told_files : (plan : Plan) (log : List RunEntry) (first now : Option ShelfTold) (P : Files → Type 0) → now ≡ told_after plan log first
    → IfSome first (λ f. IfSome now (λ t. files_now t ≡ contents plan (files_now f) log)) → IfSome now (λ t. P (files_now t)) → IfSome (option_map (λ files. contents plan files log) (option_map files_now first)) P
told_files plan log None now P is same holds = tt
told_files plan log (Some f) None P is same holds = absurd (none_some (record f { publishes = f.publishes ++ publishes_in plan log }) is)
told_files plan log (Some f) (Some t) P is same holds = subst P same holds

-- what the repository told at first is what the pass knows of the start
pub start_at : {S : Type 0} (told : S → Option ShelfTold) (faults : S → ℕ) (before : Told) (b : Build S) → Some (opened_of told faults b) ≡ (view before).fixed → start_by before ≡ option_map files_now (told b.opening)
start_at told faults before b known = ap (option_and_then (λ (o : Opened). option_map files_now o.told)) (sym known)

module _ {S : Type 0} (told : S → Option ShelfTold) (faults : S → ℕ) (plan : Plan) (before : Told) (b now : Build S) (mid pass : Told) (took : mid ≡ with_view before (with_turn (view before) b.log)) (gives : pass ≡ with_view mid (given role (view mid) now.log))
    (known : Some (opened_of told faults b) ≡ (view before).fixed) (over : now.plan ≡ plan) (opening : now.opening ≡ b.opening) where
  -- and so behind the turn
  start_is : start_by pass ≡ option_map files_now (told now.opening)
  start_is =
      sym (ap start_by (gave before b.log now.log mid pass took gives))
      ∙ start_at told faults before b known
      ∙ ap (λ s. option_map files_now (told s)) (sym opening)

  -- so what holds of the files that it tells now holds of the files as the run stands that the pass has seen
  pub files_by : (P : Files → Type 0) → told now.shelf ≡ told_after now.plan now.log (told now.opening)
      → IfSome (told now.opening) (λ f. IfSome (told now.shelf) (λ t. files_now t ≡ contents now.plan (files_now f) now.log)) → IfSome (told now.shelf) (λ t. P (files_now t))
      → IfSome (option_map (λ files. contents plan files (seen_by pass)) (start_by pass)) P
  files_by P is same holds =
      subst (λ p. IfSome (option_map (λ files. contents p files (seen_by pass)) (start_by pass)) P) over
      (subst (λ log. IfSome (option_map (λ files. contents now.plan files log) (start_by pass)) P) (seen_is before b.log now.log mid pass took gives)
      (subst (λ s. IfSome (option_map (λ files. contents now.plan files now.log) s) P) (sym start_is)
      (told_files now.plan now.log (told now.opening) (told now.shelf) P is same holds)))

-- what follows from a fault follows from the same fault
pub by_fault : {T F : Type 0} (P Q : F → Type 0) → ((f : F) → P f → Q f) → (r : Result T F) → IfErr r P → IfErr r Q
by_fault P Q gives (Ok x) holds = tt
by_fault P Q gives (Err f) holds = gives f holds
