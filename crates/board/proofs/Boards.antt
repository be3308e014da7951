-- A board, one event more.
use Rattle.std.proofs.Common.{◌≡◌, ℕ, zero, suc, ◌+◌, ◌≤◌, Bool, true, false, ◌&&◌, List, [], ◌∷◌, ◌++◌, length, set, get_or, Option, Some, None, IfSome, refl, arith, sym, ap, subst, ◌∙◌}
use Rattle.std.specs.List.{list_all}
use Rattle.std.proofs.lemmas.Bool.{false≢true}
use Rattle.std.proofs.lemmas.List.{length-append}
use Rattle.mvn_shared.specs.Cause.{HasRisen, RoseBy}
use Rattle.mvn_outside.specs.declared.shelf.Published.{Published}
use Rattle.mvn_outside.specs.declared.shelf.ShelfTold.{ShelfTold}
use Rattle.build_core.specs.declared.event.Answered.{Answered}
use Rattle.build_core.specs.declared.event.Event.{Event}
use Rattle.build_core.specs.declared.plan.Plan.{Plan}
use Rattle.event_core.specs.Runs.{IsQuiet, answers_in, is_quiet_event}
use Rattle.event_core.specs.Standing.{standing_of}
use Rattle.event_core.specs.declared.entry.Carried.TheVariants as carried
use Rattle.event_core.specs.declared.entry.RunEntry.{RunEntry}
use Rattle.scripts.specs.declared.outline.Outline.{Outline}
use Rattle.scripts.proofs.Climbs.{both}
use Rattle.board.specs.Builds.{AreBusy, AreCaused, IsCalm}
use Rattle.board.specs.Keeping.{IsBoard, Room, is_plain, log_by, publish_count}
use Rattle.board.specs.Logs.{is_shelf_end, marked, published_since, shelf_endings, told_after}
use Rattle.board.proofs.Logs.{answers_append, answers_same, endings_one, entry, none_counted, one_of, plain_more, publishes_append, told_same}

-- ---- faults

pub rose_less : (n less before now : ℕ) → less ≤ n → RoseBy n before now → RoseBy less before now
rose_less n less before now low rose = record { no_fall = rose.no_fall; rise = (let r = rose.rise in omega (arith, low, r)) }

pub rose_more : (n before now later : ℕ) → RoseBy n before now → HasRisen now later → RoseBy (suc n) before later
rose_more n before now later rose risen = record { no_fall = omega (arith, rose.no_fall, risen.no_fall); rise = omega (arith, rose.rise, risen.rise, rose.no_fall) }

-- what is caused stays so where no more is to be caused
pub caused_less : (told : Option ShelfTold) (before faults : ℕ) (log later : List RunEntry) (marks then_marks : List Bool) → shelf_endings later + marked then_marks ≤ shelf_endings log + marked marks → AreCaused told before faults log marks → AreCaused told before faults later then_marks
caused_less None before faults log later marks then_marks low caused = caused
caused_less (Some t) before faults log later marks then_marks low caused = rose_less (shelf_endings log + marked marks) (shelf_endings later + marked then_marks) before faults low caused

-- ---- quiet runs

-- what is quiet with an entry more was quiet before, and the entry is
pub quiet_before : (log : List RunEntry) (e : RunEntry) → IsQuiet (log ++ e ∷ []) → IsQuiet log × (is_quiet_event e.event ≡ true)
quiet_before [] e quiet = (refl, (both (is_quiet_event e.event) true quiet).0)
quiet_before (x ∷ log) e quiet =
    let parts = both (is_quiet_event x.event) (list_all (λ (y : RunEntry). is_quiet_event y.event) (log ++ e ∷ [])) quiet in
    let again = quiet_before log e parts.1 in
    (ap (λ b. b && list_all (λ (y : RunEntry). is_quiet_event y.event) log) parts.0 ∙ again.0, again.1)

-- an entry more behind which the repository wasn't asked
pub calm_more : (before now : ℕ) (log : List RunEntry) (e : RunEntry) (marks then_marks : List Bool) → (is_quiet_event e.event ≡ true → marked then_marks ≡ 0 → marked marks ≡ 0) → IsCalm before now log marks → IsCalm before now (log ++ e ∷ []) then_marks
calm_more before now log e marks then_marks fewer calm = λ quiet none. (let parts = quiet_before log e quiet in calm parts.0 (fewer parts.1 none))

-- ---- lists with an item more

pub not_empty : {A : Type 0} (xs : List A) (x : A) → xs ++ x ∷ [] ≡ [] → ⊥
not_empty xs x e = let n = ap length e in let m = length-append xs (x ∷ []) in omega (arith, n, m)

-- ---- an event that carries nothing

module _ {S : Type 0} (told : S → Option ShelfTold) (faults : S → ℕ) (plan : Plan) (core : Outline × List Event) (opening shelf : S) (answers : List Answered) (marks : List Bool) (room : Room)
    (board : IsBoard told faults plan core opening shelf answers marks room) (e : Event) (plain : is_plain e ≡ true) where
  abbrev log : List RunEntry
  log = log_by (told opening) (told shelf) answers core.1

  pub log_more : log_by (told opening) (told shelf) answers (core.1 ++ e ∷ []) ≡ log_by (told opening) (told shelf) answers core.1 ++ entry e carried.Nothing ∷ []
  log_more = plain_more (published_since (told opening) (told shelf)) answers core.1 e board.published board.answered plain

  published_more : (since : Option (List Published)) → IfSome since (λ ps. publish_count core.1 ≡ length ps) → IfSome since (λ ps. publish_count (core.1 ++ e ∷ []) ≡ length ps)
  published_more None is = is
  published_more (Some ps) is = omega (arith, publishes_append core.1 (e ∷ []), (none_counted e plain).0, is)

  pub event_board : (then_marks : List Bool) → length then_marks ≡ length marks → one_of (is_shelf_end e) + marked then_marks ≤ marked marks → (is_quiet_event e ≡ true → marked then_marks ≡ 0 → marked marks ≡ 0) → AreBusy (standing_of core.0 (core.1 ++ e ∷ [])) then_marks
      → IsBoard told faults plan (core.0, core.1 ++ e ∷ []) opening shelf answers then_marks room
  event_board then_marks long less fewer busy = record {
    outline = board.outline;
    sound = board.sound;
    short = board.short;
    few = board.few;
    tells = board.tells ∙ sym (told_same plan log e (told opening)) ∙ ap (λ t. told_after plan t (told opening)) (sym log_more);
    published = published_more (published_since (told opening) (told shelf)) board.published;
    answered = omega (arith, answers_append core.1 (e ∷ []), (none_counted e plain).1, board.answered);
    kept = board.kept ∙ sym (answers_same plan log e) ∙ ap (answers_in plan) (sym log_more);
    workers = long ∙ board.workers;
    roomy = board.roomy;
    goals = board.goals;
    states = board.states;
    present = board.present;
    caused = subst (λ t. AreCaused (told opening) (faults opening) (faults shelf) t then_marks) (sym log_more)
        (caused_less (told opening) (faults opening) (faults shelf) log (log ++ entry e carried.Nothing ∷ []) marks then_marks (omega (arith, endings_one log e carried.Nothing, less)) board.caused);
    calm = subst (λ t. IsCalm (faults opening) (faults shelf) t then_marks) (sym log_more) (calm_more (faults opening) (faults shelf) log (entry e carried.Nothing) marks then_marks fewer board.calm);
    no_fall = board.no_fall;
    busy = busy;
    untouched = λ none. absurd (not_empty core.1 e none);
  }

-- ---- marks

pub marked_set : (marks : List Bool) (w : ℕ) → marked (set marks w true) ≤ suc (marked marks)
marked_set [] w = omega arith
marked_set (true ∷ marks) zero = omega arith
marked_set (false ∷ marks) zero = omega arith
marked_set (true ∷ marks) (suc w) = let again = marked_set marks w in omega (arith, again)
marked_set (false ∷ marks) (suc w) = marked_set marks w

pub marked_unset : (marks : List Bool) (w : ℕ) → marked (set marks w false) ≤ marked marks
marked_unset [] w = omega arith
marked_unset (true ∷ marks) zero = omega arith
marked_unset (false ∷ marks) zero = omega arith
marked_unset (true ∷ marks) (suc w) = let again = marked_unset marks w in omega (arith, again)
marked_unset (false ∷ marks) (suc w) = marked_unset marks w

pub marked_one : (marks : List Bool) (w : ℕ) → get_or marks w false ≡ true → suc (marked (set marks w false)) ≡ marked marks
marked_one [] w is = absurd (false≢true is)
marked_one (true ∷ marks) zero is = refl
marked_one (false ∷ marks) zero is = absurd (false≢true is)
marked_one (true ∷ marks) (suc w) is = ap suc (marked_one marks w is)
marked_one (false ∷ marks) (suc w) is = marked_one marks w is

pub marked_same : (marks : List Bool) (w : ℕ) → get_or marks w false ≡ false → marked (set marks w false) ≡ marked marks
marked_same [] w is = refl
marked_same (true ∷ marks) zero is = absurd (false≢true (sym is))
marked_same (false ∷ marks) zero is = refl
marked_same (true ∷ marks) (suc w) is = ap suc (marked_same marks w is)
marked_same (false ∷ marks) (suc w) is = marked_same marks w is
