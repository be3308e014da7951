-- There is no cause exactly where an event may come.
use Rattle.std.proofs.Common.{◌≡◌, ℕ, suc, ◌-◌, ◌<◌, Bool, true, false, ◌&&◌, nat_lt, List, [], ◌∷◌, length, slice_get, Option, Some, None, is_some, option_and_then, refl, arith, sym, ap, subst, ◌∙◌, if◌then◌else◌}
use Rattle.std.specs.List.{list_all}
use Rattle.std.proofs.lemmas.Bool.{false≢true, ltb-true, lt-ltb}
use Rattle.std.proofs.lemmas.List.Elements.{All-get_or}
use Rattle.build_core.specs.Locks.{blocker, hold}
use Rattle.build_core.specs.declared.event.Event.{Event}
use Rattle.build_core.specs.declared.event.Event.TheVariants as event
use Rattle.scripts.specs.declared.outline.Outline.{Outline}
use Rattle.scripts.specs.declared.deed.Deed.TheVariants as deed
use Rattle.event_core.specs.declared.refused.NotEnabled.{NotEnabled}
use Rattle.event_core.specs.declared.refused.NotEnabled.TheVariants.{Range, Module, Upstream, Worker, Lock, Unordered, Stage}
use Rattle.scripts.specs.Climbing.{Climbs}
use Rattle.event_core.specs.Enabled.{IsEnabled, ending_in_range, goal_in_range, is_due, may_end_so}
use Rattle.event_core.specs.Causes.{begin_cause, by_file, cause_now, hold_cause, last_of, not_below, number_of, publish_due, read_due, stage_at, unless, where_found, wrong_end}
use Rattle.event_core.specs.Fitting.{IsFit}
use Rattle.event_core.specs.HowFar.{first_lost, first_not_built, is_waiting, progress_of, state_of}
use Rattle.event_core.specs.Standing.{Standing, course_of, held_by, module_of}
use Rattle.scripts.specs.Outlines.{is_empty}
use Rattle.scripts.proofs.Climbs.{both}
use Rattle.event_core.proofs.Weights.{nothing_is}

holds_of : (b : Bool) (cause : NotEnabled) (rest : Option NotEnabled) → unless b cause rest ≡ None → (b ≡ true) × (rest ≡ None)
holds_of true cause rest e = (refl, e)
holds_of false cause rest e = absurd (nothing_is cause (sym e))

unless_holds : (b : Bool) (cause : NotEnabled) (rest : Option NotEnabled) → b ≡ true → rest ≡ None → unless b cause rest ≡ None
unless_holds b cause rest is none = subst (λ t. unless t cause rest ≡ None) (sym is) none

not_found : (found : Option ℕ) (cause : ℕ → NotEnabled) (rest : Option NotEnabled) → where_found found cause rest ≡ None → (found ≡ None) × (rest ≡ None)
not_found None cause rest e = (refl, e)
not_found (Some n) cause rest e = absurd (nothing_is (cause n) (sym e))

where_none : (found : Option ℕ) (cause : ℕ → NotEnabled) (rest : Option NotEnabled) → found ≡ None → rest ≡ None → where_found found cause rest ≡ None
where_none found cause rest is none = subst (λ t. where_found t cause rest ≡ None) (sym is) none

below : (a b : ℕ) → nat_lt a b ≡ true → a < b
below a b e = ltb-true a b e

is_below : (a b : ℕ) → a < b → nat_lt a b ≡ true
is_below a b low = lt-ltb a b low

-- ---- the last of names that ascend is the greatest

pub last_more : (x y : ℕ) (ys : List ℕ) → last_of (x ∷ y ∷ ys) ≡ last_of (y ∷ ys)
last_more x y ys = let e : length (x ∷ y ∷ ys) - 1 ≡ suc (length (y ∷ ys) - 1) = omega arith in ap (slice_get (x ∷ y ∷ ys)) e

one_below : (x n : ℕ) → (if nat_lt x n then None else Some x) ≡ None → nat_lt x n ≡ true
one_below x n = by (nat_lt x n)
  where
    by : (b : Bool) → (if b then None else Some x) ≡ None → b ≡ true
    by true e = refl
    by false e = absurd (nothing_is x (sym e))

pub all_below : (xs : List ℕ) (low n : ℕ) → Climbs low xs → not_below n xs ≡ None → list_all (λ h. nat_lt h n) xs ≡ true
all_below [] low n climbs e = refl
all_below (x ∷ []) low n climbs e = rw (one_below x n e) refl
all_below (x ∷ y ∷ ys) low n climbs e =
    let again = all_below (y ∷ ys) (suc x) n climbs.1 (ap (option_and_then (λ h. if nat_lt h n then None else Some h)) (sym (last_more x y ys)) ∙ e) in
    let first = both (nat_lt y n) (list_all (λ h. nat_lt h n) ys) again in
    let under = below y n first.0 in
    let is : nat_lt x n ≡ true = is_below x n (omega (arith, under, climbs.1.0)) in
    subst (λ b. (b && list_all (λ h. nat_lt h n) (y ∷ ys)) ≡ true) (sym is) again

pub none_above : (xs : List ℕ) (n : ℕ) → list_all (λ h. nat_lt h n) xs ≡ true → not_below n xs ≡ None
none_above [] n all = refl
none_above (x ∷ []) n all = let first = both (nat_lt x n) true all in rw first.0 refl
none_above (x ∷ y ∷ ys) n all =
    let first = both (nat_lt x n) (list_all (λ h. nat_lt h n) (y ∷ ys)) all in
    ap (option_and_then (λ h. if nat_lt h n then None else Some h)) (last_more x y ys) ∙ none_above (y ∷ ys) n first.1

climbs_at : (o : Outline) (now : Standing) (w : ℕ) → IsFit o now → w < o.workers → Climbs 0 (held_by now w)
climbs_at o now w fit low = All-get_or (Climbs 0) now.held w [] (omega (arith, low, fit.rows)) fit.climbing

empty_is : (xs : List ℕ) → is_empty xs ≡ true → xs ≡ []
empty_is [] e = refl
empty_is (x ∷ xs) e = absurd (false≢true e)

-- ---- no cause, so it may come

pub no_cause : (o : Outline) (now : Standing) (e : Event) → IsFit o now → cause_now o now e ≡ None → IsEnabled o now e
unfolding cause_now
no_cause o now (event.Start w m) fit e =
    let a = holds_of (nat_lt w o.workers) (Range w) (unless (nat_lt m (length o.modules)) (Range m) (unless (is_waiting (progress_of now.progress m)) (Module (state_of o now.progress m)) (begin_cause o now w m))) e in
    let b = holds_of (nat_lt m (length o.modules)) (Range m) (unless (is_waiting (progress_of now.progress m)) (Module (state_of o now.progress m)) (begin_cause o now w m)) a.1 in
    let c = holds_of (is_waiting (progress_of now.progress m)) (Module (state_of o now.progress m)) (begin_cause o now w m) b.1 in
    let d = not_found (first_not_built o now.progress m) (λ u. Upstream u) (where_found (module_of (course_of now w)) (λ at. Worker at) None) c.1 in
    let f = not_found (module_of (course_of now w)) (λ at. Worker at) None d.1 in
    (below w o.workers a.0, below m (length o.modules) b.0, c.0, d.0, f.0)
no_cause o now (event.Skip m) fit e =
    let both_hold = is_waiting (progress_of now.progress m) && is_some (first_lost o now.progress m) in
    let a = holds_of (nat_lt m (length o.modules)) (Range m) (unless both_hold (Module (state_of o now.progress m)) None) e in
    let b = holds_of both_hold (Module (state_of o now.progress m)) None a.1 in
    let c = both (is_waiting (progress_of now.progress m)) (is_some (first_lost o now.progress m)) b.0 in
    (below m (length o.modules) a.0, c.0, c.1)
no_cause o now (event.Take w n mode) fit e =
    let due = unless (is_due (course_of now w) (deed.Take mode n)) (Stage (stage_at (course_of now w))) None in
    let a = holds_of (nat_lt w o.workers) (Range w) (unless (nat_lt n o.names) (Range n) (where_found (blocker now.locks n w mode) (λ h. Lock h) (hold_cause now w n mode))) e in
    let b = holds_of (nat_lt n o.names) (Range n) (where_found (blocker now.locks n w mode) (λ h. Lock h) (hold_cause now w n mode)) a.1 in
    let c = not_found (blocker now.locks n w mode) (λ h. Lock h) (hold_cause now w n mode) b.1 in
    let d = not_found (not_below n (held_by now w)) (λ h. Unordered h) due c.1 in
    let f = holds_of (is_due (course_of now w) (deed.Take mode n)) (Stage (stage_at (course_of now w))) None d.1 in
    let low = below w o.workers a.0 in
    (low, below n o.names b.0, c.0, all_below (held_by now w) 0 n (climbs_at o now w fit low) d.0, f.0)
no_cause o now (event.Free w n) fit e =
    let a = holds_of (nat_lt w o.workers) (Range w) (unless (nat_lt n o.names) (Range n) (unless (is_some (hold now.locks n w)) (Stage (stage_at (course_of now w))) None)) e in
    let b = holds_of (nat_lt n o.names) (Range n) (unless (is_some (hold now.locks n w)) (Stage (stage_at (course_of now w))) None) a.1 in
    let c = holds_of (is_some (hold now.locks n w)) (Stage (stage_at (course_of now w))) None b.1 in
    (below w o.workers a.0, below n o.names b.0, c.0)
no_cause o now (event.Read w f) fit e =
    let why = by_file (read_due (course_of now w)) (course_of now w) in
    let a = holds_of (nat_lt w o.workers) (Range w) (unless (nat_lt f (length o.present)) (Range f) (unless (is_due (course_of now w) (deed.Read f)) why None)) e in
    let b = holds_of (nat_lt f (length o.present)) (Range f) (unless (is_due (course_of now w) (deed.Read f)) why None) a.1 in
    let c = holds_of (is_due (course_of now w) (deed.Read f)) why None b.1 in
    (below w o.workers a.0, below f (length o.present) b.0, c.0)
no_cause o now (event.Publish w f) fit e =
    let why = by_file (publish_due (course_of now w)) (course_of now w) in
    let a = holds_of (nat_lt w o.workers) (Range w) (unless (nat_lt f (length o.present)) (Range f) (unless (is_due (course_of now w) (deed.Publish f)) why None)) e in
    let b = holds_of (nat_lt f (length o.present)) (Range f) (unless (is_due (course_of now w) (deed.Publish f)) why None) a.1 in
    let c = holds_of (is_due (course_of now w) (deed.Publish f)) why None b.1 in
    (below w o.workers a.0, below f (length o.present) b.0, c.0)
no_cause o now (event.Answer w g) fit e =
    let a = holds_of (nat_lt w o.workers) (Range w) (unless (goal_in_range o (course_of now w) g) (Range g) (unless (is_due (course_of now w) (deed.Answer g)) (Stage (stage_at (course_of now w))) None)) e in
    let b = holds_of (goal_in_range o (course_of now w) g) (Range g) (unless (is_due (course_of now w) (deed.Answer g)) (Stage (stage_at (course_of now w))) None) a.1 in
    let c = holds_of (is_due (course_of now w) (deed.Answer g)) (Stage (stage_at (course_of now w))) None b.1 in
    (below w o.workers a.0, b.0, c.0)
no_cause o now (event.End w x) fit e =
    let may = is_empty (held_by now w) && may_end_so o (course_of now w) x in
    let why = wrong_end (course_of now w) (held_by now w) x in
    let a = holds_of (nat_lt w o.workers) (Range w) (unless (ending_in_range o (course_of now w) x) (Range (number_of x)) (unless may why None)) e in
    let b = holds_of (ending_in_range o (course_of now w) x) (Range (number_of x)) (unless may why None) a.1 in
    let c = holds_of may why None b.1 in
    let d = both (is_empty (held_by now w)) (may_end_so o (course_of now w) x) c.0 in
    (below w o.workers a.0, b.0, empty_is (held_by now w) d.0, d.1)

-- ---- it may come, so there is no cause

pub cause_none : (o : Outline) (now : Standing) (e : Event) → IsEnabled o now e → cause_now o now e ≡ None
unfolding cause_now
cause_none o now (event.Start w m) is =
    rw (is_below w o.workers is.0) (rw (is_below m (length o.modules) is.1) (rw is.2 (where_none (first_not_built o now.progress m) (λ u. Upstream u) (where_found (module_of (course_of now w)) (λ at. Worker at) None) is.3 (where_none (module_of (course_of now w)) (λ at. Worker at) None is.4 refl))))
cause_none o now (event.Skip m) is = rw (is_below m (length o.modules) is.0) (rw is.1 (rw is.2 refl))
cause_none o now (event.Take w n mode) is =
    rw (is_below w o.workers is.0) (rw (is_below n o.names is.1) (where_none (blocker now.locks n w mode) (λ h. Lock h) (hold_cause now w n mode) is.2 (where_none (not_below n (held_by now w)) (λ h. Unordered h) (unless (is_due (course_of now w) (deed.Take mode n)) (Stage (stage_at (course_of now w))) None) (none_above (held_by now w) n is.3) (rw is.4 refl))))
cause_none o now (event.Free w n) is = rw (is_below w o.workers is.0) (rw (is_below n o.names is.1) (rw is.2 refl))
cause_none o now (event.Read w f) is = rw (is_below w o.workers is.0) (rw (is_below f (length o.present) is.1) (rw is.2 refl))
cause_none o now (event.Publish w f) is = rw (is_below w o.workers is.0) (rw (is_below f (length o.present) is.1) (rw is.2 refl))
cause_none o now (event.Answer w g) is = rw (is_below w o.workers is.0) (rw is.1 (rw is.2 refl))
cause_none o now (event.End w x) is = rw (is_below w o.workers is.0) (rw is.1 (unless_holds (is_empty (held_by now w) && may_end_so o (course_of now w) x) (wrong_end (course_of now w) (held_by now w) x) None (ap (λ held. is_empty held && may_end_so o (course_of now w) x) is.2 ∙ is.3) refl))
