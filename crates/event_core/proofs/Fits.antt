-- What holds of where a build stands, and that each event leaves fewer.
use Rattle.std.proofs.Common.{◌≡◌, ℕ, zero, suc, ◌+◌, ◌<◌, ◌≤◌, ◌⊎◌, inl, inr, Bool, true, false, ◌||◌, nat_eq, nat_lt, fold, All, List, [], ◌∷◌, ◌++◌, length, map, replicate, get_or, set, slice_get, Option, Some, None, is_some, refl, arith, sym, ap, subst, ◌∙◌}
use Rattle.std.specs.List.{list_all}
use Rattle.std.specs.Option.{option_map_or}
use Rattle.std.proofs.lemmas.Bool.{eqb-true, false≢true, ltb-true, lt-ltb}
use Rattle.std.proofs.lemmas.Cmp.{nat_eq_equiv}
use Rattle.std.proofs.lemmas.List.{get_or-set_other, get_or-set_same, length-replicate, length-set}
use Rattle.std.proofs.lemmas.List.Elements.{All-get_or, All-replicate, All-set}
use Rattle.build_core.specs.declared.mode.Mode.{Mode}
use Rattle.build_core.specs.Locks.{hold, hold_in, with_hold}
use Rattle.build_core.specs.declared.ending.Ending.{Ending}
use Rattle.build_core.specs.declared.event.Event.{Event}
use Rattle.build_core.specs.declared.event.Event.TheVariants as event
use Rattle.scripts.specs.declared.outline.Outline.{Outline}
use Rattle.scripts.specs.declared.outline.ModuleOutline.{ModuleOutline}
use Rattle.event_core.specs.declared.module_steps.Progress.{Progress}
use Rattle.event_core.specs.declared.module_steps.Progress.TheVariants.{Waiting, Running, Skipped, Ended}
use Rattle.scripts.specs.declared.deed.Deed.{Deed}
use Rattle.scripts.specs.declared.deed.Deed.TheVariants as deed
use Rattle.event_core.specs.EventsLeft.{course_events, events_left, waiting_events}
use Rattle.scripts.specs.Bounds.{module_events, script_events, total}
use Rattle.scripts.specs.Climbing.{Climbs, but}
use Rattle.event_core.specs.Enabled.{IsEnabled, is_due, may_end_so}
use Rattle.event_core.specs.Fitting.{IsFit}
use Rattle.scripts.specs.Outlines.{is_empty, is_listed}
use Rattle.scripts.specs.Scripts.{settled, script_of, whole}
use Rattle.event_core.specs.HowFar.{is_waiting, progress_of}
use Rattle.event_core.specs.Standing.{Course, Standing, after, after_deed, after_free, at_first, course_of, ended, held_by, idle, module_of, off_course, on_course, standing_of, start_of, turned_to}
use Rattle.scripts.proofs.Climbs.{all_but, all_more, any_default, but_shorter, both, climbs_but, climbs_more, get_map, listed_but, listed_last, listed_more, none_beyond}
use Rattle.event_core.proofs.LockRows.{free_holds, row_in, take_holds}
use Rattle.event_core.proofs.Weights.{cost, due_lighter, free_lighter, nothing_is, set_total, settled_lighter, waiting_gone, waiting_set}

-- ---- where nothing has happened

no_hold : (n w k v : ℕ) → is_some (hold_in (row_in (replicate n (replicate w None)) k) v) ≡ true → ⊥
no_hold zero w k v is = empty v is
  where
    empty : (v : ℕ) → is_some (hold_in [] v) ≡ true → ⊥
    empty zero is = false≢true is
    empty (suc v) is = false≢true is
no_hold (suc n) w zero v is = free w v is
  where
    free : (w v : ℕ) → is_some (hold_in (replicate w None) v) ≡ true → ⊥
    free zero zero is = false≢true is
    free zero (suc v) is = false≢true is
    free (suc w) zero is = false≢true is
    free (suc w) (suc v) is = free w v is
no_hold (suc n) w (suc k) v is = no_hold n w k v is

pub fit_first : (o : Outline) → IsFit o (at_first o)
fit_first o = record {
  names = refl;
  workers = refl;
  rows = length-replicate o.workers [];
  courses = length-replicate o.workers idle;
  modules = length-replicate (length o.modules) Waiting;
  climbing = All-replicate (Climbs 0) o.workers [] tt;
  low = All-replicate (λ held. list_all (λ h. nat_lt h o.names) held ≡ true) o.workers [] refl;
  listed = λ w n low is. absurd (no_hold o.names o.workers n w is);
}

-- ---- a part that changes

fit_turned : (o : Outline) (now : Standing) (w : ℕ) (course : Course) → IsFit o now → IsFit o (turned_to now w course)
fit_turned o now w course fit = record { names = fit.names; workers = fit.workers; rows = fit.rows; courses = length-set now.courses w course ∙ fit.courses; modules = fit.modules; climbing = fit.climbing; low = fit.low; listed = fit.listed }

fit_progress : (o : Outline) (now : Standing) (progress : List Progress) → length progress ≡ length now.progress → IsFit o now → IsFit o (record now { progress = progress })
fit_progress o now progress long fit = record { names = fit.names; workers = fit.workers; rows = fit.rows; courses = fit.courses; modules = long ∙ fit.modules; climbing = fit.climbing; low = fit.low; listed = fit.listed }

fit_there : (o : Outline) (now : Standing) (there : List Bool) → IsFit o now → IsFit o (record now { there = there })
fit_there o now there fit = record { names = fit.names; workers = fit.workers; rows = fit.rows; courses = fit.courses; modules = fit.modules; climbing = fit.climbing; low = fit.low; listed = fit.listed }

-- two workers are one, or not
pub same_or_not : (v w : ℕ) → (v ≡ w) ⊎ ((v ≡ w) → ⊥)
same_or_not v w = by (nat_eq v w) refl
  where
    by : (b : Bool) → nat_eq v w ≡ b → (v ≡ w) ⊎ ((v ≡ w) → ⊥)
    by true e = inl (eqb-true v w e)
    by false e = inr (λ same. false≢true (sym e ∙ ap (nat_eq v) (sym same) ∙ nat_eq_equiv.refl v))

row_climbs : (o : Outline) (now : Standing) (w : ℕ) → IsFit o now → w < o.workers → Climbs 0 (held_by now w)
row_climbs o now w fit low = All-get_or (Climbs 0) now.held w [] (omega (arith, low, fit.rows)) fit.climbing

row_low : (o : Outline) (now : Standing) (w : ℕ) → IsFit o now → w < o.workers → list_all (λ h. nat_lt h o.names) (held_by now w) ≡ true
row_low o now w fit low = All-get_or (λ held. list_all (λ h. nat_lt h o.names) held ≡ true) now.held w [] (omega (arith, low, fit.rows)) fit.low

pub fit_taken : (o : Outline) (now : Standing) (w n : ℕ) (mode : Mode) → IsFit o now → w < o.workers → n < o.names → list_all (λ h. nat_lt h n) (held_by now w) ≡ true
    → IsFit o (record now { held = set now.held w (held_by now w ++ n ∷ []); locks = with_hold now.locks n w (Some mode) })
fit_taken o now w n mode fit low small above = record {
  names = fit.names;
  workers = fit.workers;
  rows = length-set now.held w more ∙ fit.rows;
  courses = fit.courses;
  modules = fit.modules;
  climbing = All-set (Climbs 0) now.held w more (climbs_more (held_by now w) 0 n (row_climbs o now w fit low) above (omega arith)) fit.climbing;
  low = All-set (λ held. list_all (λ h. nat_lt h o.names) held ≡ true) now.held w more (all_more (λ h. nat_lt h o.names) (held_by now w) n (row_low o now w fit low) (lt-ltb n o.names small)) fit.low;
  listed = λ v k inside is. by v k inside (take_holds now.locks.2 n w k v mode is) (same_or_not v w);
}
  where
    more : List ℕ
    more = held_by now w ++ n ∷ []

    wide : w < length now.held
    wide = omega (arith, low, fit.rows)

    here : get_or (set now.held w more) w [] ≡ more
    here = get_or-set_same now.held w more [] wide

    by : (v k : ℕ) → v < o.workers → ((k ≡ n) × (v ≡ w)) ⊎ (is_some (hold_in (row_in now.locks.2 k) v) ≡ true) → (v ≡ w) ⊎ ((v ≡ w) → ⊥) → is_listed k (get_or (set now.held w more) v []) ≡ true
    by v k inside (inl e) same = subst (λ u. is_listed k (get_or (set now.held w more) u []) ≡ true) (sym e.1) (subst (λ t. is_listed k t ≡ true) (sym here) (subst (λ j. is_listed j more ≡ true) (sym e.0) (listed_last (held_by now w) n)))
    by v k inside (inr is) (inl same) =
        subst (λ u. is_listed k (get_or (set now.held w more) u []) ≡ true) (sym same) (subst (λ t. is_listed k t ≡ true) (sym here) (listed_more (held_by now w) k n (subst (λ u. is_listed k (held_by now u) ≡ true) same (fit.listed v k inside is))))
    by v k inside (inr is) (inr other) = subst (λ t. is_listed k t ≡ true) (sym (get_or-set_other now.held w v more [] other)) (fit.listed v k inside is)

pub fit_freed : (o : Outline) (now : Standing) (w n : ℕ) → IsFit o now → w < o.workers → IsFit o (record now { held = set now.held w (but n (held_by now w)); locks = with_hold now.locks n w None })
fit_freed o now w n fit low = record {
  names = fit.names;
  workers = fit.workers;
  rows = length-set now.held w less ∙ fit.rows;
  courses = fit.courses;
  modules = fit.modules;
  climbing = All-set (Climbs 0) now.held w less (climbs_but (held_by now w) 0 n (row_climbs o now w fit low)) fit.climbing;
  low = All-set (λ held. list_all (λ h. nat_lt h o.names) held ≡ true) now.held w less (all_but (λ h. nat_lt h o.names) (held_by now w) n (row_low o now w fit low)) fit.low;
  listed = λ v k inside is. by v k inside (free_holds now.locks.2 n w k v is) (same_or_not v w);
}
  where
    less : List ℕ
    less = but n (held_by now w)

    wide : w < length now.held
    wide = omega (arith, low, fit.rows)

    here : get_or (set now.held w less) w [] ≡ less
    here = get_or-set_same now.held w less [] wide

    by : (v k : ℕ) → v < o.workers → ((k ≡ n) → (v ≡ w) → ⊥) × (is_some (hold_in (row_in now.locks.2 k) v) ≡ true) → (v ≡ w) ⊎ ((v ≡ w) → ⊥) → is_listed k (get_or (set now.held w less) v []) ≡ true
    by v k inside h (inl same) =
        subst (λ u. is_listed k (get_or (set now.held w less) u []) ≡ true) (sym same) (subst (λ t. is_listed k t ≡ true) (sym here) (listed_but (held_by now w) k n (subst (λ u. is_listed k (held_by now u) ≡ true) same (fit.listed v k inside h.1)) (λ e. h.0 e same)))
    by v k inside h (inr other) = subst (λ t. is_listed k t ≡ true) (sym (get_or-set_other now.held w v less [] other)) (fit.listed v k inside h.1)

pub fit_after : (o : Outline) (now : Standing) (e : Event) → IsFit o now → IsEnabled o now e → IsFit o (after o now e)
unfolding after
fit_after o now (event.Start w m) fit is = fit_turned o (record now { progress = set now.progress m (Running w) }) w (on_course m (settled now.there (is_empty (held_by now w)) (start_of o m)) None) (fit_progress o now (set now.progress m (Running w)) (length-set now.progress m (Running w)) fit)
fit_after o now (event.Skip m) fit is = fit_progress o now (set now.progress m Skipped) (length-set now.progress m Skipped) fit
fit_after o now (event.Take w n mode) fit is =
    let mid = record now { held = set now.held w (held_by now w ++ n ∷ []); locks = with_hold now.locks n w (Some mode) } in
    fit_turned o mid w (after_deed now.there (held_by mid w) (deed.Take mode n) None (course_of now w)) (fit_taken o now w n mode fit is.0 is.1 is.3)
fit_after o now (event.Free w n) fit is =
    let mid = record now { held = set now.held w (but n (held_by now w)); locks = with_hold now.locks n w None } in
    fit_turned o mid w (after_free o now.there (held_by mid w) (course_of now w)) (fit_freed o now w n fit is.0)
fit_after o now (event.Read w f) fit is = fit_turned o now w (after_deed now.there (held_by now w) (deed.Read f) None (course_of now w)) fit
fit_after o now (event.Publish w f) fit is = fit_turned o (record now { there = set now.there f true }) w (after_deed (set now.there f true) (held_by now w) (deed.Publish f) None (course_of now w)) (fit_there o now (set now.there f true) fit)
fit_after o now (event.Answer w g) fit is = fit_turned o now w (after_deed now.there (held_by now w) (deed.Answer g) (Some g) (course_of now w)) fit
fit_after o now (event.End w e) fit is = fit_turned o (record now { progress = ended (module_of (course_of now w)) e now.progress }) w idle (fit_progress o now (ended (module_of (course_of now w)) e now.progress) (long (module_of (course_of now w))) fit)
  where
    long : (m : Option ℕ) → length (ended m e now.progress) ≡ length now.progress
    long None = refl
    long (Some m) = length-set now.progress m (Ended e)

-- ---- each event leaves fewer

deed_fewer : (o : Outline) (now : Standing) (w : ℕ) (held : List ℕ) (there : List Bool) (d : Deed) (answered : Option ℕ) → IsFit o now → w < o.workers → is_due (course_of now w) d ≡ true → total course_events (set now.courses w (after_deed there held d answered (course_of now w))) + cost d ≤ total course_events now.courses
deed_fewer o now w held there d answered fit low is =
    let sum = set_total course_events now.courses w (after_deed there held d answered (course_of now w)) idle (omega (arith, low, fit.courses)) in
    let less = due_lighter there held d answered (course_of now w) is in
    omega (arith, sum, less)

longer : (xs : List ℕ) (n : ℕ) → length (xs ++ n ∷ []) ≡ suc (length xs)
longer [] n = refl
longer (x ∷ xs) n = ap suc (longer xs n)

idle_is : (course : Course) → module_of course ≡ None → course_events course ≡ 0
idle_is idle e = refl
idle_is (on_course m script last) e = absurd (nothing_is m (sym e))
idle_is (off_course m file gathered) e = absurd (nothing_is m (sym e))

busy_is : (o : Outline) (course : Course) (e : Ending) → may_end_so o course e ≡ true → 1 ≤ course_events course
busy_is o idle e is = absurd (false≢true is)
busy_is o (on_course m script last) e is = omega arith
busy_is o (off_course m file gathered) e is = omega arith

module_is : (o : Outline) (m : ℕ) (x : ModuleOutline) → slice_get o.modules m ≡ Some x → start_of o m ≡ script_of x
module_is o m x at = ap (λ found. option_map_or script_of found whole) at

waits_at : (o : Outline) (now : Standing) (m : ℕ) (d : Progress) → IsFit o now → m < length o.modules → is_waiting (progress_of now.progress m) ≡ true → is_waiting (get_or now.progress m d) ≡ true
waits_at o now m d fit low is = ap is_waiting (any_default now.progress m d Waiting (omega (arith, low, fit.modules))) ∙ is

start_fewer : (o : Outline) (now : Standing) (w m : ℕ) → IsFit o now → IsEnabled o now (event.Start w m) → (found : Option ModuleOutline) → slice_get o.modules m ≡ found
    → suc (events_left o (after o now (event.Start w m))) ≤ events_left o now
unfolding after
start_fewer o now w m fit is None at = let far = none_beyond o.modules m at in absurd (omega (arith, far, is.1))
start_fewer o now w m fit is (Some x) at =
    let course = on_course m (settled now.there (is_empty (held_by now w)) (start_of o m)) None in
    let sum = set_total course_events now.courses w course idle (omega (arith, is.0, fit.courses)) in
    let none = idle_is (course_of now w) is.4 in
    let light = settled_lighter now.there (is_empty (held_by now w)) (start_of o m) in
    let same = ap script_events (module_is o m x at) in
    let gone = waiting_gone now.progress o.modules m (Running w) x refl (waits_at o now m (Running w) fit is.1 is.2) at in
    omega (arith, sum, none, light, same, gone)

skip_fewer : (o : Outline) (now : Standing) (m : ℕ) → IsFit o now → IsEnabled o now (event.Skip m) → (found : Option ModuleOutline) → slice_get o.modules m ≡ found
    → suc (events_left o (after o now (event.Skip m))) ≤ events_left o now
unfolding after
skip_fewer o now m fit is None at = let far = none_beyond o.modules m at in absurd (omega (arith, far, is.0))
skip_fewer o now m fit is (Some x) at =
    let gone = waiting_gone now.progress o.modules m Skipped x refl (waits_at o now m Skipped fit is.0 is.1) at in
    omega (arith, gone)

pub fewer_after : (o : Outline) (now : Standing) (e : Event) → IsFit o now → IsEnabled o now e → suc (events_left o (after o now e)) ≤ events_left o now
unfolding after
fewer_after o now (event.Start w m) fit is = start_fewer o now w m fit is (slice_get o.modules m) refl
fewer_after o now (event.Skip m) fit is = skip_fewer o now m fit is (slice_get o.modules m) refl
fewer_after o now (event.Take w n mode) fit is =
    let more = held_by now w ++ n ∷ [] in
    let mid = record now { held = set now.held w more; locks = with_hold now.locks n w (Some mode) } in
    let less = deed_fewer o now w (held_by mid w) now.there (deed.Take mode n) None fit is.0 is.4 in
    let sum = set_total (λ held. length held) now.held w more [] (omega (arith, is.0, fit.rows)) in
    let long = longer (held_by now w) n in
    omega (arith, less, sum, long)
fewer_after o now (event.Free w n) fit is =
    let few = but n (held_by now w) in
    let mid = record now { held = set now.held w few; locks = with_hold now.locks n w None } in
    let turned = set_total course_events now.courses w (after_free o now.there (held_by mid w) (course_of now w)) idle (omega (arith, is.0, fit.courses)) in
    let light = free_lighter o now.there (held_by mid w) (course_of now w) in
    let sum = set_total (λ held. length held) now.held w few [] (omega (arith, is.0, fit.rows)) in
    let short = but_shorter (held_by now w) n (fit.listed w n is.0 is.2) in
    omega (arith, turned, light, sum, short)
fewer_after o now (event.Read w f) fit is = let less = deed_fewer o now w (held_by now w) now.there (deed.Read f) None fit is.0 is.2 in omega (arith, less)
fewer_after o now (event.Publish w f) fit is = let less = deed_fewer o now w (held_by now w) (set now.there f true) (deed.Publish f) None fit is.0 is.2 in omega (arith, less)
fewer_after o now (event.Answer w g) fit is = let less = deed_fewer o now w (held_by now w) now.there (deed.Answer g) (Some g) fit is.0 is.2 in omega (arith, less)
fewer_after o now (event.End w e) fit is =
    let sum = set_total course_events now.courses w idle idle (omega (arith, is.0, fit.courses)) in
    let busy = busy_is o (course_of now w) e is.3 in
    let less = ends (module_of (course_of now w)) in
    omega (arith, sum, busy, less)
  where
    ends : (m : Option ℕ) → waiting_events (ended m e now.progress) o.modules ≤ waiting_events now.progress o.modules
    ends None = omega arith
    ends (Some m) = waiting_set now.progress o.modules m (Ended e) refl

-- ---- at first

all_wait : (ms : List ModuleOutline) → waiting_events (replicate (length ms) Waiting) ms ≡ total module_events ms
all_wait [] = refl
all_wait (m ∷ ms) = let again = all_wait ms in omega (arith, again)

all_idle : (n : ℕ) → total course_events (replicate n idle) ≡ 0
all_idle zero = refl
all_idle (suc n) = let again = all_idle n in omega (arith, again)

all_empty : (n : ℕ) → total (λ (held : List ℕ). length held) (replicate n []) ≡ 0
all_empty zero = refl
all_empty (suc n) = let again = all_empty n in omega (arith, again)

pub most_first : (o : Outline) → events_left o (at_first o) ≡ total module_events o.modules
most_first o = let a = all_wait o.modules in let b = all_idle o.workers in let c = all_empty o.workers in omega (arith, a, b, c)

-- ---- what a step needs

none_listed : (xs : List ℕ) (n : ℕ) → list_all (λ h. nat_lt h n) xs ≡ true → is_listed n xs ≡ true → ⊥
none_listed [] n all is = false≢true is
none_listed (x ∷ xs) n all is =
    let parts = both (nat_lt x n) (list_all (λ h. nat_lt h n) xs) all in
    by (nat_eq x n) refl is (none_listed xs n parts.1) (ltb-true x n parts.0)
  where
    by : (b : Bool) → nat_eq x n ≡ b → (b || is_listed n xs) ≡ true → (is_listed n xs ≡ true → ⊥) → x < n → ⊥
    by true e h again less = let same = eqb-true x n e in omega (arith, same, less)
    by false e h again less = again h

pub hold_none : (o : Outline) (now : Standing) (w n : ℕ) → IsFit o now → w < o.workers → list_all (λ h. nat_lt h n) (held_by now w) ≡ true → hold now.locks n w ≡ None
hold_none o now w n fit low all = by (hold now.locks n w) refl
  where
    by : (held : Option Mode) → hold now.locks n w ≡ held → hold now.locks n w ≡ None
    by None e = e
    by (Some mode) e = absurd (none_listed (held_by now w) n all (fit.listed w n low (ap is_some e)))

long_map : {X : Type 0} (f : X → List ℕ) (rows : List X) → length (map f rows) ≡ length rows
long_map f [] = refl
long_map f (x ∷ rows) = ap suc (long_map f rows)

pub all_back : {X : Type 0} (f : X → List ℕ) (P : List ℕ → Type 0) (rows : List X) → All P (map f rows) → All (λ x. P (f x)) rows
all_back f P rows all = λ k d low. subst P (get_map f rows k d) (All-get_or P (map f rows) k (f d) (omega (arith, low, long_map f rows)) all)

pub fold_more : {A B : Type 0} (f : B → A → B) (xs : List A) (s : B) (x : A) → fold f s (xs ++ x ∷ []) ≡ f (fold f s xs) x
fold_more f [] s x = refl
fold_more f (y ∷ xs) s x = fold_more f xs (f s y) x

pub one_more : (o : Outline) (events : List Event) (e : Event) → standing_of o (events ++ e ∷ []) ≡ after o (standing_of o events) e
one_more o events e = fold_more (after o) events (at_first o) e

pub longer_by_one : (events : List Event) (e : Event) → length (events ++ e ∷ []) ≡ suc (length events)
longer_by_one [] e = refl
longer_by_one (x ∷ events) e = ap suc (longer_by_one events e)
