-- A board whose repository was asked.
use Rattle.std.proofs.Common.{◌≡◌, ℕ, suc, ◌+◌, ◌<◌, ◌≤◌, ◌⊎◌, inl, inr, Bool, true, false, List, [], ◌∷◌, ◌++◌, length, drop, set, Option, Some, None, IfSome, is_some, Ok, Err, refl, arith, sym, ap, subst, ◌∙◌}
use Rattle.std.proofs.lemmas.Bool.{false≢true}
use Rattle.std.proofs.lemmas.List.{append-nil, append_assoc, length-append, length-set}
use Rattle.mvn_shared.specs.Cause.{HasCause, HasRisen}
use Rattle.mvn_outside.specs.Faults.{device_failed, read_failed}
use Rattle.mvn_outside.specs.declared.fault.ReadFault.{ReadFault}
use Rattle.mvn_outside.specs.declared.fault.ReadFault.TheVariants as fault
use Rattle.mvn_outside.specs.declared.fault.DeviceFault.{DeviceFault}
use Rattle.mvn_outside.specs.declared.fault.DeviceFault.TheVariants as device
use Rattle.mvn_outside.specs.Pieces.{Contents}
use Rattle.mvn_shared.specs.Files.{file_at}
use Rattle.mvn_outside.specs.Shelf.{Publishes as ShelfPublishes, files_now}
use Rattle.mvn_outside.specs.declared.shelf.Published.{Published}
use Rattle.mvn_outside.specs.declared.shelf.ShelfTold.{ShelfTold}
use Rattle.build_core.specs.OneThread.{name_of}
use Rattle.build_core.specs.declared.event.Answered.{Answered}
use Rattle.build_core.specs.declared.event.Event.{Event}
use Rattle.build_core.specs.declared.event.Event.TheVariants as event
use Rattle.build_core.specs.declared.plan.Plan.{Plan}
use Rattle.event_core.specs.Enabled.{Enabled, is_due}
use Rattle.event_core.specs.Runs.{answers_in}
use Rattle.event_core.specs.Standing.{course_of, module_of, standing_of}
use Rattle.scripts.specs.declared.deed.Deed.{Deed}
use Rattle.scripts.specs.declared.deed.Deed.TheVariants as deed
use Rattle.event_core.specs.declared.entry.Carried.{Carried}
use Rattle.event_core.specs.declared.entry.Carried.TheVariants as carried
use Rattle.event_core.specs.declared.entry.RunEntry.{RunEntry}
use Rattle.scripts.specs.declared.outline.Outline.{Outline}
use Rattle.event_core.proofs.Ties.{any_idle}
use Rattle.run_law.proofs.Complete.{at_work}
use Rattle.run_law.proofs.Kept.{answers_more}
use Rattle.board.specs.Builds.{AreBusy, AreCaused, Build, IsCalm, Publishes, has_failed}
use Rattle.board.specs.Keeping.{IsBoard, Room, log_by, publish_count}
use Rattle.board.specs.Logs.{log_of, marked, published_since, publishes_in, shelf_endings, told_after}
use Rattle.board.proofs.Boards.{calm_more, caused_less, event_board, log_more, marked_set, not_empty, rose_less, rose_more}
use Rattle.board.proofs.Busy.{busy_marked, busy_more, some_marked}
use Rattle.board.proofs.Logs.{answers_append, endings_one, entry, publish_more, publishes_append, publishes_one, untold_more}

-- ---- lists

pub drop_front : {A : Type 0} (xs ys : List A) → drop (length xs) (xs ++ ys) ≡ ys
drop_front [] ys = refl
drop_front (x ∷ xs) ys = drop_front xs ys

-- ---- counts

-- a count that didn't fall, and then didn't again
not_less : (before now later : ℕ) → before ≤ now → now ≤ later → before ≤ later
not_less before now later low high = omega (arith, low, high)

still_low : (now later : ℕ) → later ≡ now → now ≤ later
still_low now later still = omega (arith, still)

-- one fault more, and one mark
pub caused_more : (told : Option ShelfTold) (before now later w : ℕ) (log : List RunEntry) (marks : List Bool) → AreCaused told before now log marks → HasRisen now later → AreCaused told before later log (set marks w true)
caused_more None before now later w log marks caused risen = tt
caused_more (Some t) before now later w log marks caused risen =
    rose_less (suc (shelf_endings log + marked marks)) (shelf_endings log + marked (set marks w true)) before later (omega (arith, marked_set marks w)) (rose_more (shelf_endings log + marked marks) before now later caused risen)

module _ {S : Type 0} (told : S → Option ShelfTold) (faults : S → ℕ) (plan : Plan) (core : Outline × List Event) (opening shelf : S) (answers : List Answered) (marks : List Bool) (room : Room)
    (board : IsBoard told faults plan core opening shelf answers marks room) where
  abbrev log : List RunEntry
  log = log_by (told opening) (told shelf) answers core.1

  -- the repository was asked, and tells the same; its count didn't fall
  pub asked_board : (later : S) (then_marks : List Bool) → told later ≡ told shelf → (core.1 ≡ [] → ⊥) → length then_marks ≡ length marks → faults shelf ≤ faults later → AreCaused (told opening) (faults opening) (faults later) (log_by (told opening) (told shelf) answers core.1) then_marks
      → IsCalm (faults opening) (faults later) (log_by (told opening) (told shelf) answers core.1) then_marks → AreBusy (standing_of core.0 core.1) then_marks → IsBoard told faults plan core opening later answers then_marks room
  asked_board later then_marks same begun long low caused calm busy = record {
    outline = board.outline;
    sound = board.sound;
    short = board.short;
    few = board.few;
    tells = subst (λ t. t ≡ told_after plan (log_by (told opening) t answers core.1) (told opening)) (sym same) board.tells;
    published = subst (λ t. IfSome (published_since (told opening) t) (λ since. publish_count core.1 ≡ length since)) (sym same) board.published;
    answered = board.answered;
    kept = subst (λ t. answers ≡ answers_in plan (log_by (told opening) t answers core.1)) (sym same) board.kept;
    workers = long ∙ board.workers;
    roomy = board.roomy;
    goals = board.goals;
    states = board.states;
    present = board.present;
    caused = subst (λ t. AreCaused (told opening) (faults opening) (faults later) (log_by (told opening) t answers core.1) then_marks) (sym same) caused;
    calm = subst (λ t. IsCalm (faults opening) (faults later) (log_by (told opening) t answers core.1) then_marks) (sym same) calm;
    no_fall = not_less (faults opening) (faults shelf) (faults later) board.no_fall low;
    busy = busy;
    untouched = λ none. absurd (begun none);
  }

  -- it tells at the start exactly where it tells now
  pub tells_at_first : told shelf ≡ None → told opening ≡ None
  tells_at_first none = by (told opening) refl
    where
      by : (t : Option ShelfTold) → told opening ≡ t → told opening ≡ None
      by None e = e
      by (Some t) e = absurd (false≢true (ap is_some (sym none ∙ board.tells ∙ ap (told_after plan log) e)))

  -- what it tells that it didn't at first are the log's publishes
  since_is : (t : ShelfTold) → told opening ≡ Some t → published_since (told opening) (told shelf) ≡ Some (publishes_in plan log)
  since_is t e = ap (λ x. published_since x (told shelf)) e ∙ ap (published_since (Some t)) (board.tells ∙ ap (told_after plan log) e) ∙ ap (λ x. Some x) (drop_front t.publishes (publishes_in plan log))

  -- ---- one publish more

  module _ (w f : ℕ) (later : S) (area : Option Contents) (piece : ℕ) (gives : ShelfPublishes (told shelf) (told later) area piece (name_of plan f)) where
    abbrev one : List ℕ → Published
    one bytes = record { name = name_of plan f; bytes = bytes }

    -- the bytes that it tells, and what follows
    pub record Grown : Type 0 where
      pub what : Carried
      pub tells : Publishes (told shelf) (told later) area piece (name_of plan f) what
      pub log_is : log_by (told opening) (told later) answers (core.1 ++ event.Publish w f ∷ []) ≡ log_by (told opening) (told shelf) answers core.1 ++ entry (event.Publish w f) what ∷ []
      pub told_is : told later ≡ told_after plan (log_by (told opening) (told shelf) answers core.1 ++ entry (event.Publish w f) what ∷ []) (told opening)
      pub counted : IfSome (published_since (told opening) (told later)) (λ since. publish_count (core.1 ++ event.Publish w f ∷ []) ≡ length since)
      pub nothing : answers_in plan (log_by (told opening) (told shelf) answers core.1 ++ entry (event.Publish w f) what ∷ []) ≡ answers_in plan (log_by (told opening) (told shelf) answers core.1)

    pub grown : Grown
    grown = by (told opening) refl
      where
        by : (t : Option ShelfTold) → told opening ≡ t → Grown
        by None e =
            let none : told shelf ≡ None = board.tells ∙ ap (told_after plan log) e in
            let later_none : told later ≡ None = subst (λ t. ShelfPublishes t (told later) area piece (name_of plan f)) none gives in
            record {
              what = carried.Nothing;
              tells = subst (λ t. Publishes t (told later) area piece (name_of plan f) carried.Nothing) (sym none) (later_none, refl);
              log_is = ap (λ x. log_of (published_since x (told later)) answers (core.1 ++ event.Publish w f ∷ [])) e ∙ untold_more answers core.1 w f board.answered
                  ∙ ap (λ x. log_of (published_since x (told shelf)) answers core.1 ++ entry (event.Publish w f) carried.Nothing ∷ []) (sym e);
              told_is = later_none ∙ ap (told_after plan (log ++ entry (event.Publish w f) carried.Nothing ∷ [])) (sym e);
              counted = subst (λ x. IfSome (published_since x (told later)) (λ since. publish_count (core.1 ++ event.Publish w f ∷ []) ≡ length since)) (sym e) tt;
              nothing = answers_more plan log (entry (event.Publish w f) carried.Nothing) ∙ append-nil (answers_in plan log);
            }
        by (Some t) e =
            let old : told shelf ≡ Some (record t { publishes = t.publishes ++ publishes_in plan log }) = board.tells ∙ ap (told_after plan log) e in
            let gift = subst (λ x. ShelfPublishes x (told later) area piece (name_of plan f)) old gives in
            let bytes = gift.0 in
            let what : Carried = carried.Published bytes in
            let now : told later ≡ Some (record t { publishes = (t.publishes ++ publishes_in plan log) ++ one bytes ∷ [] }) = gift.1 in
            let since : published_since (told opening) (told later) ≡ Some (publishes_in plan log ++ one bytes ∷ []) =
            ap (λ x. published_since x (told later)) e ∙ ap (published_since (Some t)) now
            ∙ ap (λ ps. Some (drop (length t.publishes) ps)) (append_assoc t.publishes (publishes_in plan log) (one bytes ∷ []))
            ∙ ap (λ x. Some x) (drop_front t.publishes (publishes_in plan log ++ one bytes ∷ [])) in
            let count : publish_count core.1 ≡ length (publishes_in plan log) = subst (λ x. IfSome x (λ since. publish_count core.1 ≡ length since)) (since_is t e) board.published in
            record {
              what = what;
              tells = subst (λ x. Publishes x (told later) area piece (name_of plan f) what) (sym old) (bytes, gift.1, refl, gift.2);
              log_is = ap (λ x. log_of x answers (core.1 ++ event.Publish w f ∷ [])) since ∙ publish_more (publishes_in plan log) (one bytes) answers core.1 w f count board.answered
                  ∙ ap (λ x. log_of x answers core.1 ++ entry (event.Publish w f) what ∷ []) (sym (since_is t e));
              told_is = now ∙ ap (λ ps. Some (record t { publishes = ps })) (append_assoc t.publishes (publishes_in plan log) (one bytes ∷ []))
                  ∙ ap (λ ps. Some (record t { publishes = t.publishes ++ ps })) (sym (publishes_one plan log (entry (event.Publish w f) what)))
                  ∙ ap (told_after plan (log ++ entry (event.Publish w f) what ∷ [])) (sym e);
              counted = subst (λ x. IfSome x (λ since. publish_count (core.1 ++ event.Publish w f ∷ []) ≡ length since)) (sym since)
                  (omega (arith, publishes_append core.1 (event.Publish w f ∷ []), length-append (publishes_in plan log) (one bytes ∷ []), count));
              nothing = answers_more plan log (entry (event.Publish w f) what) ∙ append-nil (answers_in plan log);
            }

    pub published_board : faults later ≡ faults shelf → IsBoard told faults plan (core.0, core.1 ++ event.Publish w f ∷ []) opening later answers marks room
    published_board still = record {
      outline = board.outline;
      sound = board.sound;
      short = board.short;
      few = board.few;
      tells = grown.told_is ∙ ap (λ l. told_after plan l (told opening)) (sym grown.log_is);
      published = grown.counted;
      answered = omega (arith, answers_append core.1 (event.Publish w f ∷ []), board.answered);
      kept = board.kept ∙ sym grown.nothing ∙ ap (answers_in plan) (sym grown.log_is);
      workers = board.workers;
      roomy = board.roomy;
      goals = board.goals;
      states = board.states;
      present = board.present;
      caused = subst (λ l. AreCaused (told opening) (faults opening) (faults later) l marks) (sym grown.log_is)
          (subst (λ n. AreCaused (told opening) (faults opening) n (log ++ entry (event.Publish w f) grown.what ∷ []) marks) (sym still)
          (caused_less (told opening) (faults opening) (faults shelf) log (log ++ entry (event.Publish w f) grown.what ∷ []) marks marks (omega (arith, endings_one log (event.Publish w f) grown.what)) board.caused));
      calm = subst (λ l. IsCalm (faults opening) (faults later) l marks) (sym grown.log_is)
          (subst (λ n. IsCalm (faults opening) n (log ++ entry (event.Publish w f) grown.what ∷ []) marks) (sym still)
          (calm_more (faults opening) (faults shelf) log (entry (event.Publish w f) grown.what) marks marks (λ quiet none. none) board.calm));
      no_fall = not_less (faults opening) (faults shelf) (faults later) board.no_fall (still_low (faults shelf) (faults later) still);
      busy = busy_more core.0 core.1 (event.Publish w f) marks refl board.busy;
      untouched = λ none. absurd (not_empty core.1 (event.Publish w f) none);
    }

-- ---- where a deed is due something has happened

pub begun_by : (o : Outline) (events : List Event) (w : ℕ) (d : Deed) → is_due (course_of (standing_of o events) w) d ≡ true → events ≡ [] → ⊥
begun_by o events w d due none = false≢true (sym (ap (λ c. is_due c d) (any_idle o.workers w)) ∙ subst (λ es. is_due (course_of (standing_of o es) w) d ≡ true) none due)

-- a worker that asks the repository: something has happened, it is one of the workers, and it builds a module
pub record IsAsking (o : Outline) (events : List Event) (w : ℕ) : Type 0 where
  pub begun : events ≡ [] → ⊥
  pub low : w < o.workers
  pub busy : is_some (module_of (course_of (standing_of o events) w)) ≡ true

asking : (o : Outline) (events : List Event) (w : ℕ) (d : Deed) → w < o.workers → is_due (course_of (standing_of o events) w) d ≡ true → IsAsking o events w
asking o events w d low due = record {
  begun = begun_by o events w d due;
  low = low;
  busy = by (module_of (course_of (standing_of o events) w)) refl;
}
  where
    by : (found : Option ℕ) → module_of (course_of (standing_of o events) w) ≡ found → is_some (module_of (course_of (standing_of o events) w)) ≡ true
    by None e = absurd (at_work (course_of (standing_of o events) w) d due e)
    by (Some m) e = ap is_some e

-- the cause of a fault, and of want of memory
pub risen_by : (before now : ℕ) (d : DeviceFault) → d ≡ device.Failed → HasCause before now (device_failed {T = Unit {0}} (Err d)) → HasRisen before now
risen_by before now d is cause = subst (λ x. HasCause before now (device_failed {T = Unit {0}} (Err x))) is cause

pub still_by : (before now : ℕ) (d : DeviceFault) → d ≡ device.Memory → HasCause before now (device_failed {T = Unit {0}} (Err d)) → now ≡ before
still_by before now d is cause = subst (λ x. HasCause before now (device_failed {T = Unit {0}} (Err x))) is cause

-- a read that isn't refused as a fault leaves the count
pub still_ok : (told : Option ShelfTold) (before now : ℕ) (bytes : List ℕ) → HasCause before now (read_failed {T = List ℕ} (Ok bytes)) ⊎ ((told ≡ None) × (now ≡ before)) → now ≡ before
still_ok told before now bytes (inl cause) = cause
still_ok told before now bytes (inr none) = none.1

pub still_read : (told : Option ShelfTold) (before now : ℕ) (d e : ReadFault) → has_failed e ≡ false → d ≡ e → HasCause before now (read_failed {T = List ℕ} (Err d)) ⊎ ((told ≡ None) × (now ≡ before)) → now ≡ before
still_read told before now d e quiet is (inr none) = none.1
still_read told before now d e quiet is (inl cause) = by e quiet (subst (λ x. HasCause before now (read_failed {T = List ℕ} (Err x))) is cause)
  where
    by : (e : ReadFault) → has_failed e ≡ false → HasCause before now (read_failed {T = List ℕ} (Err e)) → now ≡ before
    by fault.Failed quiet cause = absurd (false≢true (sym quiet))
    by fault.TooLarge quiet cause = cause
    by fault.Memory quiet cause = cause

pub begun_publish : (o : Outline) (events : List Event) (w f : ℕ) → Enabled o events (event.Publish w f) → IsAsking o events w
unfolding Enabled
begun_publish o events w f is = asking o events w (deed.Publish f) is.0 is.2

pub begun_read : (o : Outline) (events : List Event) (w f : ℕ) → Enabled o events (event.Read w f) → IsAsking o events w
unfolding Enabled
begun_read o events w f is = asking o events w (deed.Read f) is.0 is.2

pub read_low : (o : Outline) (events : List Event) (w f : ℕ) → Enabled o events (event.Read w f) → f < length o.present
unfolding Enabled
read_low o events w f is = is.1

pub publish_low : (o : Outline) (events : List Event) (w f : ℕ) → Enabled o events (event.Publish w f) → f < length o.present
unfolding Enabled
publish_low o events w f is = is.1

module _ {S : Type 0} (told : S → Option ShelfTold) (faults : S → ℕ) (plan : Plan) (core : Outline × List Event) (opening shelf : S) (answers : List Answered) (marks : List Bool) (room : Room)
    (board : IsBoard told faults plan core opening shelf answers marks room) (later : S) where
  -- where a worker is marked nothing is said of the count
  marked_calm : (w : ℕ) → IsAsking core.0 core.1 w → IsCalm (faults opening) (faults later) (log_by (told opening) (told shelf) answers core.1) (set marks w true)
  marked_calm w at = λ quiet none. absurd (some_marked marks w low none)
    where
      low : w < length marks
      low = let same = ap (λ o. o.workers) board.outline in omega (arith, at.low, same, board.workers)

  -- the repository failed, and the worker is marked
  pub failed_board : {then_marks : List Bool} (w : ℕ) → told later ≡ told shelf → IsAsking core.0 core.1 w → then_marks ≡ set marks w true → HasRisen (faults shelf) (faults later) → IsBoard told faults plan core opening later answers then_marks room
  failed_board {then_marks} w same at set_so risen = subst (λ ms. IsBoard told faults plan core opening later answers ms room) (sym set_so)
      (asked_board told faults plan core opening shelf answers marks room board later (set marks w true) same at.begun (length-set marks w true) risen.no_fall
      (caused_more (told opening) (faults opening) (faults shelf) (faults later) w (log_by (told opening) (told shelf) answers core.1) marks board.caused risen)
      (marked_calm w at) (busy_marked (standing_of core.0 core.1) w marks at.busy board.busy))

  -- it answered, and nothing has changed
  pub same_board : {w : ℕ} → told later ≡ told shelf → IsAsking core.0 core.1 w → faults later ≡ faults shelf → IsBoard told faults plan core opening later answers marks room
  same_board same at still = asked_board told faults plan core opening shelf answers marks room board later marks same at.begun refl (still_low (faults shelf) (faults later) still)
      (subst (λ n. AreCaused (told opening) (faults opening) n (log_by (told opening) (told shelf) answers core.1) marks) (sym still) board.caused)
      (subst (λ n. IsCalm (faults opening) n (log_by (told opening) (told shelf) answers core.1) marks) (sym still) board.calm) board.busy

  -- the build after a publish
  pub published_build : (w f : ℕ) (area : Option Contents) (piece : ℕ) (gives : ShelfPublishes (told shelf) (told later) area piece (name_of plan f)) {next_core : Outline × List Event} → next_core ≡ (core.0, core.1 ++ event.Publish w f ∷ [])
      → (what : Carried) × Publishes (told shelf) (told later) area piece (name_of plan f) what
      × (◌≡◌ {A = Build S} (record { plan = plan; opening = opening; shelf = later; log = log_by (told opening) (told later) answers next_core.1; marks = marks }) (record { plan = plan; opening = opening; shelf = later; log = log_by (told opening) (told shelf) answers core.1 ++ entry (event.Publish w f) what ∷ []; marks = marks }))
  published_build w f area piece gives is =
      let it = grown told faults plan core opening shelf answers marks room board w f later area piece gives in
      (it.what, it.tells, ap (λ l. record { plan = plan; opening = opening; shelf = later; log = l; marks = marks }) (ap (λ t. log_by (told opening) (told later) answers t.1) is ∙ it.log_is))

  -- one event more that carries nothing, of a repository that tells the same
  pub read_board : (w f : ℕ) {next_core : Outline × List Event} → told later ≡ told shelf → faults later ≡ faults shelf → IsAsking core.0 core.1 w → next_core ≡ (core.0, core.1 ++ event.Read w f ∷ []) → IsBoard told faults plan next_core opening later answers marks room
  read_board w f {next_core} same still at is = subst (λ t. IsBoard told faults plan t opening later answers marks room) (sym is)
      (event_board told faults plan core opening later answers marks room (same_board same at still) (event.Read w f) refl marks refl (omega arith)
      (λ quiet none. none) (busy_more core.0 core.1 (event.Read w f) marks refl board.busy))

  pub read_build : (w f : ℕ) {next_core : Outline × List Event} → told later ≡ told shelf → next_core ≡ (core.0, core.1 ++ event.Read w f ∷ [])
      → ◌≡◌ {A = Build S} (record { plan = plan; opening = opening; shelf = later; log = log_by (told opening) (told later) answers next_core.1; marks = marks }) (record { plan = plan; opening = opening; shelf = later; log = log_by (told opening) (told shelf) answers core.1 ++ entry (event.Read w f) carried.Nothing ∷ []; marks = marks })
  read_build w f {next_core} same is =
      ap (λ l. record { plan = plan; opening = opening; shelf = later; log = l; marks = marks })
      (ap (λ t. log_by (told opening) t answers next_core.1) same ∙ ap (λ t. log_by (told opening) (told shelf) answers t.1) is ∙ log_more told faults plan core opening shelf answers marks room board (event.Read w f) refl)

  -- absent where nothing is told: nothing has to be caused, and the count stands
  pub absent_board : {then_marks : List Bool} (w : ℕ) → told later ≡ told shelf → told shelf ≡ None → faults later ≡ faults shelf → IsAsking core.0 core.1 w → then_marks ≡ set marks w true → IsBoard told faults plan core opening later answers then_marks room
  absent_board {then_marks} w same none still at set_so = subst (λ ms. IsBoard told faults plan core opening later answers ms room) (sym set_so)
      (asked_board told faults plan core opening shelf answers marks room board later (set marks w true) same at.begun (length-set marks w true) (still_low (faults shelf) (faults later) still)
      (subst (λ t. AreCaused t (faults opening) (faults later) (log_by (told opening) (told shelf) answers core.1) (set marks w true)) (sym (tells_at_first told faults plan core opening shelf answers marks room board none)) tt)
      (marked_calm w at) (busy_marked (standing_of core.0 core.1) w marks at.busy board.busy))

  -- a read that failed, or found nothing where nothing is told
  pub failed_read : {then_marks : List Bool} (w : ℕ) (d : ReadFault) → told later ≡ told shelf → IsAsking core.0 core.1 w → then_marks ≡ set marks w true → d ≡ fault.Failed
      → HasCause (faults shelf) (faults later) (read_failed {T = List ℕ} (Err d)) ⊎ ((told shelf ≡ None) × (faults later ≡ faults shelf)) → IsBoard told faults plan core opening later answers then_marks room
  failed_read {then_marks} w d same at set_so is (inl cause) = failed_board w same at set_so (subst (λ x. HasCause (faults shelf) (faults later) (read_failed {T = List ℕ} (Err x))) is cause)
  failed_read {then_marks} w d same at set_so is (inr none) = absent_board w same none.0 none.1 at set_so

-- a file that is told to be there isn't absent
pub untold_where_absent : (t : Option ShelfTold) (name : List ℕ) → IfSome t (λ told. is_some (file_at (files_now told) name) ≡ true) → IfSome t (λ told. None ≡ file_at (files_now told) name) → t ≡ None
untold_where_absent None name there absent = refl
untold_where_absent (Some told) name there absent = absurd (false≢true (ap is_some absent ∙ there))
