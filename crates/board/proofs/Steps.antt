-- A board's calls, by what its parts do.
use Rattle.std.proofs.Common.{◌≡◌, ℕ, zero, suc, ◌+◌, ◌≤◌, ◌<◌, ◌^◌, Bool, true, false, nat_lt, List, [], ◌∷◌, ◌++◌, length, find, set, get_or, replicate, drop, Option, Some, None, is_some, is_none, IfSome, Result, Ok, Err, OnOk, IfErr, refl, arith, sym, ap, subst, ◌∙◌, if◌then◌else◌, unwrap_or}
use Rattle.std.specs.List.{list_all}
use Rattle.std.specs.Option.{option_or}
use Rattle.std.proofs.lemmas.Bool.{false≢true, lt-ltb}
use Rattle.std.proofs.lemmas.List.{append-nil, length-replicate, length-set}
use Rattle.std.proofs.lemmas.List.Folds.{find-append}
use Rattle.mvn_outside.specs.declared.shelf.ShelfTold.{ShelfTold}
use Rattle.build_core.specs.Locks.{below, blocker}
use Rattle.build_core.specs.declared.mode.Mode.{Mode}
use Rattle.build_core.specs.declared.ending.Ending.{Ending}
use Rattle.build_core.specs.declared.ending.Ending.TheVariants.{Built}
use Rattle.build_core.specs.declared.event.Answered.{Answered}
use Rattle.build_core.specs.declared.event.Event.{Event}
use Rattle.build_core.specs.declared.event.Event.TheVariants as event
use Rattle.build_core.specs.declared.plan.Plan.{Plan}
use Rattle.event_core.specs.Causes.{cause_now, hold_cause, where_found}
use Rattle.event_core.specs.Enabled.{Enabled, is_due, may_end_so}
use Rattle.event_core.specs.Going.{AreOn, GoesOn, IsDue, NamesAscend, NeverWaits}
use Rattle.scripts.specs.Outlines.{outline_of}
use Rattle.event_core.specs.Sound.{IsSound}
use Rattle.event_core.specs.SoundPlans.{IsSoundPlan}
use Rattle.event_core.specs.Runs.{events_of, is_quiet_event}
use Rattle.event_core.specs.HowFar.{first_lost, first_not_built, is_ready, is_skippable, is_waiting, progress_of}
use Rattle.event_core.specs.Standing.{Course, Standing, course_of, held_by, idle, is_complete, module_of, off_course, on_course, standing_of}
use Rattle.scripts.specs.declared.deed.Deed.TheVariants as deed
use Rattle.scripts.specs.declared.outline.Outline.{Outline}
use Rattle.event_core.specs.declared.refused.NotEnabled.{NotEnabled}
use Rattle.event_core.specs.declared.refused.NotEnabled.TheVariants.{Lock}
use Rattle.scripts.proofs.Climbs.{both}
use Rattle.event_core.proofs.Law.{cause_none, none_above}
use Rattle.event_core.proofs.Weights.{nothing_is}
use Rattle.board.specs.Tables.{goal_counts}
use Rattle.mvn_outside.specs.Shelf.{files_now}
use Rattle.run_law.specs.Given.{IsPresent}
use Rattle.run_law.proofs.Complete.{at_work}
use Rattle.board.specs.Builds.{AreCaused, Build, MayCome, next_in, next_of, standing_at, with_event, with_mark}
use Rattle.board.specs.declared.next.Next.{Next}
use Rattle.board.specs.declared.next.Next.TheVariants as next
use Rattle.board.specs.Keeping.{IsBoard, Room, is_ending, is_plain, log_by}
use Rattle.board.specs.Logs.{is_shelf_end, marked, published_since, told_after}
use Rattle.board.proofs.Boards.{event_board, log_more, marked_one, marked_same, marked_unset}
use Rattle.board.proofs.Busy.{busy_closed, busy_more, none_busy}
use Rattle.board.proofs.Logs.{events_are, one_of}

-- an event that ends nothing ends nothing by the repository's fault
not_shelf : (e : Event) → is_ending e ≡ false → is_shelf_end e ≡ false
not_shelf (event.Start w m) within = refl
not_shelf (event.Skip m) within = refl
not_shelf (event.Take w n mode) within = refl
not_shelf (event.Free w n) within = refl
not_shelf (event.Read w f) within = refl
not_shelf (event.Publish w f) within = refl
not_shelf (event.Answer w g) within = refl
not_shelf (event.End w x) within = absurd (false≢true (sym within))

-- ---- answers of the core

-- an event that may come has no cause
pub no_why : (o : Outline) (events : List Event) (e : Event) (why : NotEnabled) → Enabled o events e → cause_now o (standing_of o events) e ≡ Some why → ⊥
unfolding Enabled
no_why o events e why is because = nothing_is why (sym (cause_none o (standing_of o events) e is) ∙ because)

-- ---- what is found below a number

pub find_is : (p : ℕ → Bool) (n h : ℕ) → find p (below n) ≡ Some h → (h < n) × (p h ≡ true)
find_is p zero h e = absurd (nothing_is h e)
find_is p (suc n) h e = by (find p (below n)) refl (λ again. find_is p n h again) (sym (find-append p (below n) (n ∷ [])) ∙ e)
  where
    last : (b : Bool) → p n ≡ b → (if b then Some n else None) ≡ Some h → (h < suc n) × (p h ≡ true)
    last true is found = let here : n ≡ h = ap (λ o. unwrap_or o 0) found in (omega (arith, here), subst (λ k. p k ≡ true) here is)
    last false is found = absurd (nothing_is h found)

    by : (found : Option ℕ) → find p (below n) ≡ found → (find p (below n) ≡ Some h → (h < n) × (p h ≡ true)) → option_or found (find p (n ∷ [])) ≡ Some h → (h < suc n) × (p h ≡ true)
    by None none again is = last (p n) refl is
    by (Some k) some again is = let less = again (some ∙ is) in (omega (arith, less.0), less.1)

-- ---- what a worker does next

module _ (o : Outline) (events : List Event) where
  abbrev now : Standing
  now = standing_of o events

  pub skip_enabled : (m : ℕ) → next_in o (standing_of o events) ≡ next.Skipped m → Enabled o events (event.Skip m)
  unfolding Enabled
  skip_enabled m is =
      let found = skipped (find (is_skippable o now.progress) (below (length o.modules))) (find (is_ready o now.progress) (below (length o.modules))) (is_complete now) is in
      let at = find_is (is_skippable o now.progress) (length o.modules) m found in
      let parts = both (is_waiting (progress_of now.progress m)) (is_some (first_lost o now.progress m)) at.1 in
      (at.0, parts.0, parts.1)
    where
      number_of : Next → ℕ
      number_of (next.Skipped k) = k
      number_of other = 0

      is_skip : Next → Bool
      is_skip (next.Skipped k) = true
      is_skip other = false

      skipped : (s r : Option ℕ) (c : Bool) → next_of s r c ≡ next.Skipped m → s ≡ Some m
      skipped (Some k) r c e = ap (λ n. Some (number_of n)) e
      skipped None (Some k) c e = absurd (false≢true (ap is_skip e))
      skipped None None true e = absurd (false≢true (ap is_skip e))
      skipped None None false e = absurd (false≢true (ap is_skip e))

  pub start_enabled : (w m : ℕ) → w < o.workers → module_of (course_of (standing_of o events) w) ≡ None → next_in o (standing_of o events) ≡ next.Module m → Enabled o events (event.Start w m)
  unfolding Enabled
  start_enabled w m low free is =
      let found = begun (find (is_skippable o now.progress) (below (length o.modules))) (find (is_ready o now.progress) (below (length o.modules))) (is_complete now) is in
      let at = find_is (is_ready o now.progress) (length o.modules) m found in
      let parts = both (is_waiting (progress_of now.progress m)) (is_none (first_not_built o now.progress m)) at.1 in
      (low, at.0, parts.0, none_is (first_not_built o now.progress m) parts.1, free)
    where
      none_is : (x : Option ℕ) → is_none x ≡ true → x ≡ None
      none_is None e = refl
      none_is (Some k) e = absurd (false≢true e)

      number_of : Next → ℕ
      number_of (next.Module k) = k
      number_of other = 0

      is_module : Next → Bool
      is_module (next.Module k) = true
      is_module other = false

      begun : (s r : Option ℕ) (c : Bool) → next_of s r c ≡ next.Module m → r ≡ Some m
      begun (Some k) r c e = absurd (false≢true (ap is_module e))
      begun None (Some k) c e = ap (λ n. Some (number_of n)) e
      begun None None true e = absurd (false≢true (ap is_module e))
      begun None None false e = absurd (false≢true (ap is_module e))

  -- where a worker waits, nothing is ready or to be skipped, and not all is over
  waits : (s r : Option ℕ) (c : Bool) → next_of s r c ≡ next.Wait → (s ≡ None) × (r ≡ None) × (c ≡ false)
  waits (Some k) r c e = absurd (false≢true (ap is_wait e))
    where
      is_wait : Next → Bool
      is_wait next.Wait = true
      is_wait other = false
  waits None (Some k) c e = absurd (false≢true (ap is_wait e))
    where
      is_wait : Next → Bool
      is_wait next.Wait = true
      is_wait other = false
  waits None None true e = absurd (false≢true (ap is_wait e))
    where
      is_wait : Next → Bool
      is_wait next.Wait = true
      is_wait other = false
  waits None None false e = (refl, refl, refl)

  -- who goes on builds a module
  goes_busy : (v : ℕ) → GoesOn o now v → module_of (course_of now v) ≡ None → ⊥
  goes_busy v goes free = by goes.next goes.due
    where
      none_ends : (c : Course) → module_of c ≡ None → may_end_so o c Built ≡ true → ⊥
      none_ends idle e may = false≢true may
      none_ends (on_course m script last) e may = nothing_is m (sym e)
      none_ends (off_course m file gathered) e may = nothing_is m (sym e)

      by : (e : Event) → IsDue o now v e → ⊥
      by (event.Take w n mode) due = at_work (course_of now v) (deed.Take mode n) due.1 free
      by (event.Free w n) due = at_work (course_of now v) deed.Free due.1 free
      by (event.Read w f) due = at_work (course_of now v) (deed.Read f) due.1 free
      by (event.Publish w f) due = at_work (course_of now v) (deed.Publish f) due.1 free
      by (event.Answer w g) due = at_work (course_of now v) (deed.Answer g) due.1 free
      by (event.End w e) due = none_ends (course_of now v) free due.2
      by (event.Start w m) due = false≢true due
      by (event.Skip m) due = false≢true due

  pub wait_goes : (w : ℕ) → NeverWaits o (standing_of o events) → IsSound o → module_of (course_of (standing_of o events) w) ≡ None → next_in o (standing_of o events) ≡ next.Wait → AreOn o (standing_of o events) → (u : ℕ) × ((u ≡ w) → ⊥) × (u < o.workers) × GoesOn o (standing_of o events) u
  wait_goes w law sound free is on =
      let none = waits (find (is_skippable o now.progress) (below (length o.modules))) (find (is_ready o now.progress) (below (length o.modules))) (is_complete now) is in
      let other = law sound on none.2 none.1 none.0 in
      (other.0, (λ same. goes_busy other.0 other.2 (subst (λ k. module_of (course_of now k) ≡ None) (sym same) free)), other.1, other.2)

  -- ---- names

  -- a due name may not be taken exactly for another's hold
  pub take_cause_is : (w n : ℕ) (mode : Mode) → w < o.workers → n < o.names → list_all (λ h. nat_lt h n) (held_by (standing_of o events) w) ≡ true → is_due (course_of (standing_of o events) w) (deed.Take mode n) ≡ true
      → cause_now o (standing_of o events) (event.Take w n mode) ≡ where_found (blocker (standing_of o events).locks n w mode) (λ h. Lock h) None
  unfolding cause_now
  take_cause_is w n mode low small above due =
      rw (lt-ltb w o.workers low) (rw (lt-ltb n o.names small) (ap (λ rest. where_found (blocker now.locks n w mode) (λ h. Lock h) rest) hold))
    where
      hold : hold_cause now w n mode ≡ None
      hold = rw (none_above (held_by now w) n above) (rw due refl)

  pub locked_is : (w n : ℕ) (mode : Mode) (why : NotEnabled) → NamesAscend o (standing_of o events) → IsSound o → w < o.workers → is_due (course_of (standing_of o events) w) (deed.Take mode n) ≡ true → cause_now o (standing_of o events) (event.Take w n mode) ≡ Some why
      → (h : ℕ) × (why ≡ Lock h) × (blocker (standing_of o events).locks n w mode ≡ Some h)
  locked_is w n mode why law sound low due because =
      let ascends = law sound w n mode low due in
      by (blocker now.locks n w mode) refl (sym (take_cause_is w n mode low ascends.0 ascends.1 due) ∙ because)
    where
      by : (found : Option ℕ) → blocker now.locks n w mode ≡ found → where_found found (λ h. Lock h) None ≡ Some why → (h : ℕ) × (why ≡ Lock h) × (blocker now.locks n w mode ≡ Some h)
      by None e is = absurd (nothing_is why is)
      by (Some h) e is = (h, sym (ap (λ x. unwrap_or x why) is), e)

-- ---- a board by its parts

module _ {S : Type 0} (told : S → Option ShelfTold) (faults : S → ℕ) (plan : Plan) (core : Outline × List Event) (opening shelf : S) (answers : List Answered) (marks : List Bool) (room : Room)
    (board : IsBoard told faults plan core opening shelf answers marks room) where
  abbrev pub build : (Outline × List Event) → List Bool → Build S
  build at m = record { plan = plan; opening = opening; shelf = shelf; log = log_by (told opening) (told shelf) answers at.1; marks = m }

  pub events_same : events_of (log_by (told opening) (told shelf) answers core.1) ≡ core.1
  events_same = events_are (published_since (told opening) (told shelf)) answers core.1

  -- the core's outline and events are the build's
  pub at_build : (P : Outline → List Event → Type 0) → P core.0 core.1 → P (outline_of plan) (events_of (log_by (told opening) (told shelf) answers core.1))
  at_build P is = subst (λ o. P o (events_of (log_by (told opening) (told shelf) answers core.1))) board.outline (subst (P core.0) (sym events_same) is)

  pub at_core : (P : Outline → List Event → Type 0) → P (outline_of plan) (events_of (log_by (told opening) (told shelf) answers core.1)) → P core.0 core.1
  at_core P is = subst (P core.0) events_same (subst (λ o. P o (events_of (log_by (told opening) (told shelf) answers core.1))) (sym board.outline) is)

  -- an event that was tried
  pub tried_board : (e : Event) → is_plain e ≡ true → is_ending e ≡ false → {X : Type 0} (next_core : Outline × List Event) (r : Result X NotEnabled) → OnOk r (Enabled core.0 core.1 e × (next_core ≡ (core.0, core.1 ++ e ∷ [])))
      → IfErr r (λ why. (cause_now core.0 (standing_of core.0 core.1) e ≡ Some why) × (next_core ≡ core)) → IsBoard told faults plan next_core opening shelf answers marks room
  tried_board e plain within next_core (Ok x) ok err = subst (λ t. IsBoard told faults plan t opening shelf answers marks room) (sym ok.1)
      (event_board told faults plan core opening shelf answers marks room board e plain marks refl (subst (λ b. one_of b + marked marks ≤ marked marks) (sym (not_shelf e within)) (omega arith))
      (λ quiet none. none) (busy_more core.0 core.1 e marks within board.busy))
  tried_board e plain within next_core (Err why) ok err = subst (λ t. IsBoard told faults plan t opening shelf answers marks room) (sym err.1) board

  pub with_is : (e : Event) → is_plain e ≡ true → (next_core : Outline × List Event) (m : List Bool) → next_core ≡ (core.0, core.1 ++ e ∷ []) → build next_core m ≡ record (with_event (build core marks) e) { marks = m }
  with_is e plain next_core m is = ap (λ t. build t m) is ∙ ap (λ l. record (build core m) { log = l }) (log_more told faults plan core opening shelf answers marks room board e plain)

  pub tried_ok : (e : Event) → is_plain e ≡ true → {X : Type 0} (next_core : Outline × List Event) (r : Result X NotEnabled) → OnOk r (Enabled core.0 core.1 e × (next_core ≡ (core.0, core.1 ++ e ∷ []))) → OnOk r (MayCome (build core marks) e × (build next_core marks ≡ with_event (build core marks) e))
  tried_ok e plain next_core (Ok x) ok = (at_build (λ o es. Enabled o es e) ok.0, with_is e plain next_core marks ok.1)
  tried_ok e plain next_core (Err why) ok = ok

  pub tried_err : (e : Event) → {X : Type 0} (next_core : Outline × List Event) (r : Result X NotEnabled) → IfErr r (λ why. (cause_now core.0 (standing_of core.0 core.1) e ≡ Some why) × (next_core ≡ core)) → IfErr r (λ why. (cause_now (outline_of plan) (standing_at (build core marks)) e ≡ Some why) × (build next_core marks ≡ build core marks))
  tried_err e next_core (Ok x) err = err
  tried_err e next_core (Err why) err = (at_build (λ o es. cause_now o (standing_of o es) e ≡ Some why) err.0, ap (λ t. build t marks) err.1)

-- ---- a new board

all_dropped : {A : Type 0} (xs : List A) → drop (length xs) xs ≡ []
all_dropped [] = refl
all_dropped (x ∷ xs) = all_dropped xs

none_marked : (n : ℕ) → marked (replicate n false) ≡ 0
none_marked zero = refl
none_marked (suc n) = none_marked n

pub nothing_told : (plan : Plan) (t : Option ShelfTold) → t ≡ told_after plan [] t
nothing_told plan None = refl
nothing_told plan (Some t) = ap (λ ps. Some (record t { publishes = ps })) (sym (append-nil t.publishes))

pub nothing_published : (t : Option ShelfTold) → IfSome (published_since t t) (λ since. 0 ≡ length since)
nothing_published None = tt
nothing_published (Some t) = ap length (sym (all_dropped t.publishes))

pub nothing_caused : (t : Option ShelfTold) (count workers : ℕ) → AreCaused t count count [] (replicate workers false)
nothing_caused None count workers = tt
nothing_caused (Some t) count workers = record { no_fall = omega arith; rise = (let none = none_marked workers in omega (arith, none)) }

-- ---- ends

module _ {S : Type 0} (told : S → Option ShelfTold) (faults : S → ℕ) (plan : Plan) (core : Outline × List Event) (opening shelf : S) (answers : List Answered) (marks : List Bool) (room : Room)
    (board : IsBoard told faults plan core opening shelf answers marks room) (w : ℕ) (x : Ending) where
  fewer : (b : Bool) → (b ≡ true → get_or marks w false ≡ true) → one_of b + marked (set marks w false) ≤ marked marks
  fewer true is = omega (arith, marked_one marks w (is refl))
  fewer false is = omega (arith, marked_unset marks w)

  -- where the ending is quiet no mark is taken away
  left : (get_or marks w false ≡ true → is_quiet_event (event.End w x) ≡ false) → is_quiet_event (event.End w x) ≡ true → marked (set marks w false) ≡ 0 → marked marks ≡ 0
  left honest quiet none = by (get_or marks w false) refl
    where
      by : (b : Bool) → get_or marks w false ≡ b → marked marks ≡ 0
      by true e = absurd (false≢true (sym (honest e) ∙ quiet))
      by false e = sym (marked_same marks w e) ∙ none

  pub ended_board : {next_core : Outline × List Event} {then_marks : List Bool} → next_core ≡ (core.0, core.1 ++ event.End w x ∷ []) → then_marks ≡ set marks w false → (is_shelf_end (event.End w x) ≡ true → get_or marks w false ≡ true)
      → (get_or marks w false ≡ true → is_quiet_event (event.End w x) ≡ false) → IsBoard told faults plan next_core opening shelf answers then_marks room
  ended_board {next_core} {then_marks} is same marked_is honest =
      subst (λ t. IsBoard told faults plan t opening shelf answers then_marks room) (sym is)
      (subst (λ ms. IsBoard told faults plan (core.0, core.1 ++ event.End w x ∷ []) opening shelf answers ms room) (sym same)
      (event_board told faults plan core opening shelf answers marks room board (event.End w x) refl (set marks w false) (length-set marks w false) (fewer (is_shelf_end (event.End w x)) marked_is)
      (left honest) (busy_closed core.0 core.1 w x marks board.busy)))

  pub ended_build : {next_core : Outline × List Event} {then_marks : List Bool} → next_core ≡ (core.0, core.1 ++ event.End w x ∷ []) → then_marks ≡ set marks w false
      → build told faults plan core opening shelf answers marks room board next_core then_marks ≡ with_mark (with_event (build told faults plan core opening shelf answers marks room board core marks) (event.End w x)) w false
  ended_build {next_core} {then_marks} is same =
      with_is told faults plan core opening shelf answers marks room board (event.End w x) refl next_core then_marks is
      ∙ ap (λ ms. record (with_event (build told faults plan core opening shelf answers marks room board core marks) (event.End w x)) { marks = ms }) same

-- ---- a board of nothing

pub new_board : {S : Type 0} (told : S → Option ShelfTold) (faults : S → ℕ) (plan : Plan) {core : Outline × List Event} {opening shelf : S} {answers : List Answered} {marks : List Bool} (room : Room)
    → core ≡ (outline_of plan, []) → opening ≡ shelf → answers ≡ [] → marks ≡ replicate plan.workers false → IsSoundPlan plan → plan.events < 2 ^ 62 → length plan.modules < 2 ^ 32 → plan.events ≤ room.answers
    → room.goals ≡ goal_counts plan.modules → length plan.modules ≤ room.states → IfSome (told shelf) (λ t. IsPresent plan (files_now t))
    → IsBoard told faults plan core opening shelf answers marks room
new_board told faults plan {core} {opening} {shelf} {answers} {marks} room core_is opening_is none marks_are sound short few roomy goals states present =
    subst (λ t. IsBoard told faults plan t opening shelf answers marks room) (sym core_is)
    (subst (λ t. IsBoard told faults plan (outline_of plan, []) t shelf answers marks room) (sym opening_is)
    (subst (λ t. IsBoard told faults plan (outline_of plan, []) shelf shelf t marks room) (sym none)
    (subst (λ t. IsBoard told faults plan (outline_of plan, []) shelf shelf [] t room) (sym marks_are) fresh)))
  where
    fresh : IsBoard told faults plan (outline_of plan, []) shelf shelf [] (replicate plan.workers false) room
    fresh = record {
      outline = refl;
      sound = sound;
      short = short;
      few = few;
      tells = nothing_told plan (told shelf);
      published = nothing_published (told shelf);
      answered = refl;
      kept = refl;
      workers = length-replicate plan.workers false;
      roomy = roomy;
      goals = goals;
      states = states;
      present = present;
      caused = nothing_caused (told shelf) (faults shelf) plan.workers;
      calm = λ quiet none. refl;
      no_fall = omega arith;
      busy = none_busy (standing_of (outline_of plan) []) plan.workers;
      untouched = λ none. refl;
    }

-- ---- who keeps a worker from a name

pub same_holder : (a h : ℕ) → Lock a ≡ Lock h → a ≡ h
same_holder a h e = ap number_of e
  where
    number_of : NotEnabled → ℕ
    number_of (Lock k) = k
    number_of other = 0
