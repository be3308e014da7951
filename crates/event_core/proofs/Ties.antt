-- Names that are listed are held, and a module that runs is what its worker is at.
use Rattle.std.proofs.Common.{◌≡◌, ℕ, zero, suc, ◌<◌, ◌≤◌, ◌⊎◌, inl, inr, Bool, true, false, ◌||◌, nat_eq, All, List, [], ◌∷◌, ◌++◌, length, replicate, get_or, set, unwrap_or, not, Option, Some, None, is_some, refl, arith, sym, ap, subst, ◌∙◌, if◌then◌else◌}
use Rattle.std.specs.Option.{option_map_or}
use Rattle.std.proofs.lemmas.Bool.{eqb-true, false≢true}
use Rattle.std.proofs.lemmas.List.{get_or-set_other, get_or-set_same, length-replicate, length-set}
use Rattle.std.proofs.lemmas.List.Elements.{All-replicate, All-set}
use Rattle.build_core.specs.declared.mode.Mode.{Mode}
use Rattle.build_core.specs.Locks.{hold, hold_in, with_hold}
use Rattle.build_core.specs.declared.ending.Ending.{Ending}
use Rattle.build_core.specs.declared.event.Event.{Event}
use Rattle.build_core.specs.declared.event.Event.TheVariants as event
use Rattle.scripts.specs.declared.outline.Outline.{Outline}
use Rattle.event_core.specs.declared.module_steps.Progress.{Progress}
use Rattle.event_core.specs.declared.module_steps.Progress.TheVariants.{Waiting, Running, Skipped, Ended}
use Rattle.scripts.specs.declared.deed.Deed.{Deed}
use Rattle.scripts.specs.declared.deed.Deed.TheVariants as deed
use Rattle.scripts.specs.Climbing.{but}
use Rattle.event_core.specs.Enabled.{IsEnabled}
use Rattle.event_core.specs.Fitting.{IsFit, IsTied}
use Rattle.scripts.specs.Outlines.{is_empty, is_listed}
use Rattle.scripts.specs.Scripts.{Script, done, is_gathered, settled, wanted}
use Rattle.event_core.specs.HowFar.{is_over, is_waiting, progress_of}
use Rattle.event_core.specs.Standing.{Course, Standing, after, after_deed, after_free, at_first, course_of, ended, goals_of, held_by, idle, module_of, off_course, on_course, start_of}
use Rattle.scripts.proofs.Dues.{below_or_not}
use Rattle.event_core.proofs.Fits.{same_or_not}
use Rattle.event_core.proofs.LockRows.{row_in}
use Rattle.event_core.proofs.Weights.{nothing_is}

-- ---- holds after one is changed

pub row_same : (row : List (Option Mode)) (w : ℕ) (x : Option Mode) → w < length row → hold_in (set row w x) w ≡ x
row_same [] w x low = absurd (omega (arith, low))
row_same (y ∷ row) zero x low = by x
  where
    by : (x : Option Mode) → hold_in (x ∷ row) zero ≡ x
    by None = refl
    by (Some mode) = refl
row_same (y ∷ row) (suc w) x low = row_same row w x (omega (arith, low))

pub row_other : (row : List (Option Mode)) (w v : ℕ) (x : Option Mode) → (v ≡ w → ⊥) → hold_in (set row w x) v ≡ hold_in row v
row_other [] w v x other = refl
row_other (y ∷ row) zero zero x other = absurd (other refl)
row_other (y ∷ row) zero (suc v) x other = refl
row_other (y ∷ row) (suc w) zero x other = refl
row_other (y ∷ row) (suc w) (suc v) x other = row_other row w v x (λ e. other (ap suc e))

pub rows_same : (rows : List (List (Option Mode))) (n w : ℕ) (x : Option Mode) (width : ℕ) → n < length rows → All (λ row. length row ≡ width) rows → w < width → hold_in (row_in (set rows n (set (row_in rows n) w x)) n) w ≡ x
rows_same [] n w x width low all inside = absurd (omega (arith, low))
rows_same (r ∷ rows) zero w x width low all inside = let long = all 0 [] (omega arith) in row_same r w x (omega (arith, inside, long))
rows_same (r ∷ rows) (suc n) w x width low all inside = rows_same rows n w x width (omega (arith, low)) (λ k d less. all (suc k) d (omega (arith, less))) inside

pub rows_other : (rows : List (List (Option Mode))) (n w k v : ℕ) (x : Option Mode) → ((k ≡ n) → (v ≡ w) → ⊥) → hold_in (row_in (set rows n (set (row_in rows n) w x)) k) v ≡ hold_in (row_in rows k) v
rows_other [] n w k v x other = refl
rows_other (r ∷ rows) zero w zero v x other = row_other r w v x (λ e. other refl e)
rows_other (r ∷ rows) zero w (suc k) v x other = refl
rows_other (r ∷ rows) (suc n) w zero v x other = refl
rows_other (r ∷ rows) (suc n) w (suc k) v x other = rows_other rows n w k v x (λ e f. other (ap suc e) f)

pub row_length : (rows : List (List (Option Mode))) (n w : ℕ) (x : Option Mode) (width : ℕ) → n < length rows → All (λ row. length row ≡ width) rows → length (set (row_in rows n) w x) ≡ width
row_length [] n w x width low all = absurd (omega (arith, low))
row_length (r ∷ rows) zero w x width low all = length-set r w x ∙ all 0 [] (omega arith)
row_length (r ∷ rows) (suc n) w x width low all = row_length rows n w x width (omega (arith, low)) (λ k d less. all (suc k) d (omega (arith, less)))

-- ---- what is listed behind a change

pub listed_split : (xs : List ℕ) (k n : ℕ) → is_listed k (xs ++ n ∷ []) ≡ true → (k ≡ n) ⊎ (is_listed k xs ≡ true)
listed_split [] k n is = by (nat_eq n k) refl is
  where
    by : (b : Bool) → nat_eq n k ≡ b → (b || false) ≡ true → (k ≡ n) ⊎ (false ≡ true)
    by true e h = inl (sym (eqb-true n k e))
    by false e h = absurd (false≢true h)
listed_split (x ∷ xs) k n is = by (nat_eq x k) is (listed_split xs k n)
  where
    by : (b : Bool) → (b || is_listed k (xs ++ n ∷ [])) ≡ true → (is_listed k (xs ++ n ∷ []) ≡ true → (k ≡ n) ⊎ (is_listed k xs ≡ true)) → (k ≡ n) ⊎ ((b || is_listed k xs) ≡ true)
    by true h again = inr refl
    by false h again = again h

pub listed_left : (xs : List ℕ) (k n : ℕ) → is_listed k (but n xs) ≡ true → ((k ≡ n) → ⊥) × (is_listed k xs ≡ true)
listed_left [] k n is = absurd (false≢true is)
listed_left (x ∷ xs) k n is = by (nat_eq x n) refl is (nat_eq x k) refl (listed_left xs k n)
  where
    by : (b : Bool) → nat_eq x n ≡ b → is_listed k (if not b then x ∷ but n xs else but n xs) ≡ true → (c : Bool) → nat_eq x k ≡ c → (is_listed k (but n xs) ≡ true → ((k ≡ n) → ⊥) × (is_listed k xs ≡ true)) → ((k ≡ n) → ⊥) × ((c || is_listed k xs) ≡ true)
    by true e h true f again = let rest = again h in (rest.0, refl)
    by true e h false f again = again h
    by false e h true f again = (λ same. false≢true (sym e ∙ ap (nat_eq x) (sym same) ∙ f), refl)
    by false e h false f again = again (sym (ap (λ b. b || is_listed k (but n xs)) f) ∙ h)

pub set_far : {X : Type 0} (xs : List X) (i : ℕ) (x : X) → length xs ≤ i → set xs i x ≡ xs
set_far [] i x far = refl
set_far (y ∷ xs) zero x far = absurd (omega (arith, far))
set_far (y ∷ xs) (suc i) x far = ap (λ t. y ∷ t) (set_far xs i x (omega (arith, far)))

pub some_same : (a b : ℕ) → Some a ≡ Some b → a ≡ b
some_same a b e = ap (λ o. unwrap_or o 0) e

-- ---- modules that run

pub deed_module : (there : List Bool) (held : List ℕ) (d : Deed) (answered : Option ℕ) (course : Course) → module_of (after_deed there held d answered course) ≡ module_of course
deed_module there held d answered idle = refl
deed_module there held d answered (off_course m file gathered) = refl
deed_module there held d answered (on_course m script last) = by (done script d)
  where
    by : (o : Option Script) → module_of (option_map_or (λ rest. on_course m (settled there (is_empty held) rest) answered) o (on_course m script last)) ≡ Some m
    by None = refl
    by (Some rest) = refl

pub free_module : (o : Outline) (there : List Bool) (held : List ℕ) (course : Course) → module_of (after_free o there held course) ≡ module_of course
free_module o there held idle = refl
free_module o there held (off_course m file gathered) = refl
free_module o there held (on_course m script last) = by (done script deed.Free)
  where
    by : (found : Option Script) → module_of (option_map_or (λ rest. on_course m (settled there (is_empty held) rest) None) found (off_course m (wanted script) (is_gathered (goals_of o m) script))) ≡ Some m
    by None = refl
    by (Some rest) = refl

-- a course that is put at a worker's place: its module, or that of the course that stands there
turned_real : (o : Outline) (now : Standing) (w : ℕ) (course : Course) → IsFit o now → ((m : ℕ) → module_of course ≡ Some m → m < length o.modules) → ((v m : ℕ) → module_of (course_of now v) ≡ Some m → m < length o.modules) → (v m : ℕ) → module_of (get_or (set now.courses w course) v idle) ≡ Some m → m < length o.modules
turned_real o now w course fit new old v m is = by (below_or_not w (length now.courses)) (same_or_not v w)
  where
    by : (w < length now.courses) ⊎ (length now.courses ≤ w) → (v ≡ w) ⊎ ((v ≡ w) → ⊥) → m < length o.modules
    by (inl low) (inl e) = new m (sym (ap module_of (get_or-set_same now.courses w course idle low)) ∙ subst (λ u. module_of (get_or (set now.courses w course) u idle) ≡ Some m) e is)
    by (inr far) (inl e) = old v m (sym (ap (λ t. module_of (get_or t v idle)) (set_far now.courses w course far)) ∙ is)
    by any (inr other) = old v m (sym (ap module_of (get_or-set_other now.courses w v course idle other)) ∙ is)

-- a worker whose module stays
turned_runs : (o : Outline) (now : Standing) (w : ℕ) (course : Course) → IsFit o now → IsTied o now → module_of course ≡ module_of (course_of now w) → (m v : ℕ) → progress_of now.progress m ≡ Running v → (v < o.workers) × (module_of (get_or (set now.courses w course) v idle) ≡ Some m)
turned_runs o now w course fit tied same m v is = by (same_or_not v w) (tied.running m v is)
  where
    by : (v ≡ w) ⊎ ((v ≡ w) → ⊥) → (v < o.workers) × (module_of (course_of now v) ≡ Some m) → (v < o.workers) × (module_of (get_or (set now.courses w course) v idle) ≡ Some m)
    by (inl e) run =
        let low : w < length now.courses = omega (arith, run.0, e, fit.courses) in
        (run.0, subst (λ u. module_of (get_or (set now.courses w course) u idle) ≡ Some m) (sym e) (ap module_of (get_or-set_same now.courses w course idle low) ∙ same ∙ subst (λ u. module_of (course_of now u) ≡ Some m) e run.1))
    by (inr other) run = (run.0, ap module_of (get_or-set_other now.courses w v course idle other) ∙ run.1)

-- a course that is put at a worker's place with the module that its own has
pub turned_module : (now : Standing) (w v : ℕ) (course : Course) → module_of course ≡ module_of (course_of now w) → module_of (get_or (set now.courses w course) v idle) ≡ module_of (course_of now v)
turned_module now w v course same = by (below_or_not w (length now.courses)) (same_or_not v w)
  where
    by : (w < length now.courses) ⊎ (length now.courses ≤ w) → (v ≡ w) ⊎ ((v ≡ w) → ⊥) → module_of (get_or (set now.courses w course) v idle) ≡ module_of (course_of now v)
    by (inl low) (inl e) = ap (λ u. module_of (get_or (set now.courses w course) u idle)) e ∙ ap module_of (get_or-set_same now.courses w course idle low) ∙ same ∙ ap (λ u. module_of (course_of now u)) (sym e)
    by (inr far) (inl e) = ap (λ t. module_of (get_or t v idle)) (set_far now.courses w course far)
    by any (inr other) = ap module_of (get_or-set_other now.courses w v course idle other)

turned_busy : (o : Outline) (now : Standing) (w : ℕ) (course : Course) → IsTied o now → module_of course ≡ module_of (course_of now w) → (v m : ℕ) → module_of (get_or (set now.courses w course) v idle) ≡ Some m → progress_of now.progress m ≡ Running v
turned_busy o now w course tied same v m is = tied.busy v m (sym (turned_module now w v course same) ∙ is)

pub waits_still : (p : Progress) → is_waiting p ≡ true → is_over p ≡ false
waits_still Waiting e = refl
waits_still (Running w) e = absurd (false≢true e)
waits_still Skipped e = absurd (false≢true e)
waits_still (Ended x) e = absurd (false≢true e)

runs_not : (p : Progress) (w : ℕ) → is_waiting p ≡ true → p ≡ Running w → ⊥
runs_not p w waits runs = false≢true (sym (ap is_waiting runs) ∙ waits)

-- a module that waits is no worker's
pub waits_alone : (o : Outline) (now : Standing) (m v k : ℕ) → IsTied o now → is_waiting (progress_of now.progress m) ≡ true → module_of (course_of now v) ≡ Some k → k ≡ m → ⊥
waits_alone o now m v k tied waits at same = runs_not (progress_of now.progress m) v waits (ap (progress_of now.progress) (sym same) ∙ tied.busy v k at)

abbrev runs_of : Progress → Bool
runs_of (Running v) = true
runs_of other = false

abbrev worker_of : Progress → ℕ
worker_of (Running v) = v
worker_of other = 0

pub not_running : (ps : List Progress) (m : ℕ) (p : Progress) (w : ℕ) → (p ≡ Running w → ⊥) → progress_of (set ps m p) m ≡ Running w → ⊥
not_running [] m p w isnt is = wait w is
  where
    wait : (w : ℕ) → Waiting ≡ Running w → ⊥
    wait w e = false≢true (ap runs_of e)
not_running (q ∷ ps) zero p w isnt is = isnt is
not_running (q ∷ ps) (suc m) p w isnt is = not_running ps m p w isnt is

skipped_rests : (w : ℕ) → Skipped ≡ Running w → ⊥
skipped_rests w e = false≢true (ap runs_of e)

ended_rests : (e : Ending) (w : ℕ) → Ended e ≡ Running w → ⊥
ended_rests x w e = false≢true (ap runs_of e)

-- a progress that is put at a place and isn't running: what runs elsewhere ran before
still_runs : (now : Standing) (k : ℕ) (p : Progress) → ((w : ℕ) → p ≡ Running w → ⊥) → (m w : ℕ) → progress_of (set now.progress k p) m ≡ Running w → ((m ≡ k) → ⊥) × (progress_of now.progress m ≡ Running w)
still_runs now k p isnt m w is = by (same_or_not m k)
  where
    by : (m ≡ k) ⊎ ((m ≡ k) → ⊥) → ((m ≡ k) → ⊥) × (progress_of now.progress m ≡ Running w)
    by (inl same) = absurd (not_running now.progress k p w (isnt w) (subst (λ j. progress_of (set now.progress k p) j ≡ Running w) same is))
    by (inr other) = (other, sym (get_or-set_other now.progress k m p Waiting other) ∙ is)

-- ---- at first

no_progress : (n m w : ℕ) → progress_of (replicate n Waiting) m ≡ Running w → ⊥
no_progress zero m w is = false≢true (ap runs_of is)
no_progress (suc n) zero w is = false≢true (ap runs_of is)
no_progress (suc n) (suc m) w is = no_progress n m w is

none_listed : (n w k : ℕ) → is_listed k (get_or (replicate n []) w []) ≡ true → ⊥
none_listed zero w k is = false≢true is
none_listed (suc n) zero k is = false≢true is
none_listed (suc n) (suc w) k is = none_listed n w k is

pub any_idle : (n w : ℕ) → get_or (replicate n idle) w idle ≡ idle
any_idle zero w = refl
any_idle (suc n) zero = refl
any_idle (suc n) (suc w) = any_idle n w

pub tied_first : (o : Outline) → IsTied o (at_first o)
tied_first o = record {
  depth = length-replicate o.names (replicate o.workers None);
  width = All-replicate (λ row. length row ≡ o.workers) o.names (replicate o.workers None) (length-replicate o.workers None);
  held = λ w n low is. absurd (none_listed o.workers w n is);
  running = λ m w is. absurd (no_progress (length o.modules) m w is);
  real = λ w m is. absurd (nothing_is m (sym (ap module_of (any_idle o.workers w)) ∙ is));
  busy = λ w m is. absurd (nothing_is m (sym (ap module_of (any_idle o.workers w)) ∙ is));
}

-- ---- a name more and a name less

tied_taken : (o : Outline) (now : Standing) (w n : ℕ) (mode : Mode) → IsFit o now → IsTied o now → w < o.workers → n < o.names
    → (v k : ℕ) → v < o.workers → is_listed k (get_or (set now.held w (held_by now w ++ n ∷ [])) v []) ≡ true → is_some (hold (with_hold now.locks n w (Some mode)) k v) ≡ true
tied_taken o now w n mode fit tied low small v k inside is = by (same_or_not v w) (same_or_not k n)
  where
    more : List ℕ
    more = held_by now w ++ n ∷ []

    here : get_or (set now.held w more) w [] ≡ more
    here = get_or-set_same now.held w more [] (omega (arith, low, fit.rows))

    same_hold : hold (with_hold now.locks n w (Some mode)) n w ≡ Some mode
    same_hold = rows_same now.locks.2 n w (Some mode) o.workers (omega (arith, small, tied.depth)) tied.width low

    old : (v ≡ w → k ≡ n → ⊥) → is_listed k (held_by now v) ≡ true → is_some (hold (with_hold now.locks n w (Some mode)) k v) ≡ true
    old other listed = ap is_some (rows_other now.locks.2 n w k v (Some mode) (λ e f. other f e)) ∙ tied.held v k inside listed

    by : (v ≡ w) ⊎ ((v ≡ w) → ⊥) → (k ≡ n) ⊎ ((k ≡ n) → ⊥) → is_some (hold (with_hold now.locks n w (Some mode)) k v) ≡ true
    by (inl a) (inl b) = subst (λ u. is_some (hold (with_hold now.locks n w (Some mode)) k u) ≡ true) (sym a) (subst (λ j. is_some (hold (with_hold now.locks n w (Some mode)) j w) ≡ true) (sym b) (ap is_some same_hold))
    by (inl a) (inr other) = old (λ e f. other f) (last (listed_split (held_by now w) k n (subst (λ t. is_listed k t ≡ true) here (subst (λ u. is_listed k (get_or (set now.held w more) u []) ≡ true) a is))))
      where
        last : (k ≡ n) ⊎ (is_listed k (held_by now w) ≡ true) → is_listed k (held_by now v) ≡ true
        last (inl e) = absurd (other e)
        last (inr listed) = subst (λ u. is_listed k (held_by now u) ≡ true) (sym a) listed
    by (inr other) any = old (λ e f. other e) (subst (λ t. is_listed k t ≡ true) (get_or-set_other now.held w v more [] other) is)

tied_freed : (o : Outline) (now : Standing) (w n : ℕ) → IsFit o now → IsTied o now → w < o.workers
    → (v k : ℕ) → v < o.workers → is_listed k (get_or (set now.held w (but n (held_by now w))) v []) ≡ true → is_some (hold (with_hold now.locks n w None) k v) ≡ true
tied_freed o now w n fit tied low v k inside is = by (same_or_not v w)
  where
    less : List ℕ
    less = but n (held_by now w)

    here : get_or (set now.held w less) w [] ≡ less
    here = get_or-set_same now.held w less [] (omega (arith, low, fit.rows))

    old : ((k ≡ n) → (v ≡ w) → ⊥) → is_listed k (held_by now v) ≡ true → is_some (hold (with_hold now.locks n w None) k v) ≡ true
    old other listed = ap is_some (rows_other now.locks.2 n w k v None other) ∙ tied.held v k inside listed

    by : (v ≡ w) ⊎ ((v ≡ w) → ⊥) → is_some (hold (with_hold now.locks n w None) k v) ≡ true
    by (inl a) =
        let left = listed_left (held_by now w) k n (subst (λ t. is_listed k t ≡ true) here (subst (λ u. is_listed k (get_or (set now.held w less) u []) ≡ true) a is)) in
        old (λ e f. left.0 e) (subst (λ u. is_listed k (held_by now u) ≡ true) (sym a) left.1)
    by (inr other) = old (λ e f. other f) (subst (λ t. is_listed k t ≡ true) (get_or-set_other now.held w v less [] other) is)

wide_after : (o : Outline) (now : Standing) (n w : ℕ) (x : Option Mode) → IsTied o now → n < o.names → All (λ row. length row ≡ o.workers) (set now.locks.2 n (set (row_in now.locks.2 n) w x))
wide_after o now n w x tied small = All-set (λ row. length row ≡ o.workers) now.locks.2 n (set (row_in now.locks.2 n) w x) (row_length now.locks.2 n w x o.workers (omega (arith, small, tied.depth)) tied.width) tied.width

pub tied_after : (o : Outline) (now : Standing) (e : Event) → IsFit o now → IsTied o now → IsEnabled o now e → IsTied o (after o now e)
unfolding after
tied_after o now (event.Start w m) fit tied is = record {
  depth = tied.depth;
  width = tied.width;
  held = tied.held;
  running = λ k v run. by k v run (same_or_not k m);
  real = turned_real o now w course fit (λ k e. subst (λ j. j < length o.modules) (some_same m k e) is.1) tied.real;
  busy = λ v k at. begun v k at (same_or_not v w);
}
  where
    course : Course
    course = on_course m (settled now.there (is_empty (held_by now w)) (start_of o m)) None

    at_w : get_or (set now.courses w course) w idle ≡ course
    at_w = get_or-set_same now.courses w course idle (omega (arith, is.0, fit.courses))

    begun : (v k : ℕ) → module_of (get_or (set now.courses w course) v idle) ≡ Some k → (v ≡ w) ⊎ ((v ≡ w) → ⊥) → progress_of (set now.progress m (Running w)) k ≡ Running v
    begun v k at (inl e) =
        let whose : m ≡ k = some_same m k (sym (ap module_of at_w) ∙ subst (λ u. module_of (get_or (set now.courses w course) u idle) ≡ Some k) e at) in
        ap (progress_of (set now.progress m (Running w))) (sym whose) ∙ get_or-set_same now.progress m (Running w) Waiting (omega (arith, is.1, fit.modules)) ∙ ap (λ u. Running u) (sym e)
    begun v k at (inr other) =
        let before = sym (ap module_of (get_or-set_other now.courses w v course idle other)) ∙ at in
        get_or-set_other now.progress m k (Running w) Waiting (waits_alone o now m v k tied is.2 before) ∙ tied.busy v k before

    old : (k v : ℕ) → (v < o.workers) × (module_of (course_of now v) ≡ Some k) → (v ≡ w) ⊎ ((v ≡ w) → ⊥) → (v < o.workers) × (module_of (get_or (set now.courses w course) v idle) ≡ Some k)
    old k v run (inl e) = absurd (nothing_is k (sym is.4 ∙ subst (λ u. module_of (course_of now u) ≡ Some k) e run.1))
    old k v run (inr other) = (run.0, ap module_of (get_or-set_other now.courses w v course idle other) ∙ run.1)

    by : (k v : ℕ) → progress_of (set now.progress m (Running w)) k ≡ Running v → (k ≡ m) ⊎ ((k ≡ m) → ⊥) → (v < o.workers) × (module_of (get_or (set now.courses w course) v idle) ≡ Some k)
    by k v run (inl e) =
        let placed : progress_of (set now.progress m (Running w)) m ≡ Running w = get_or-set_same now.progress m (Running w) Waiting (omega (arith, is.1, fit.modules)) in
        let who : w ≡ v = ap worker_of (sym placed ∙ subst (λ j. progress_of (set now.progress m (Running w)) j ≡ Running v) e run) in
        (omega (arith, is.0, who), subst (λ u. module_of (get_or (set now.courses w course) u idle) ≡ Some k) who (ap module_of at_w ∙ ap (λ j. Some j) (sym e)))
    by k v run (inr other) = old k v (tied.running k v (sym (get_or-set_other now.progress m k (Running w) Waiting other) ∙ run)) (same_or_not v w)
tied_after o now (event.Skip m) fit tied is = record { depth = tied.depth; width = tied.width; held = tied.held; running = λ k v run. tied.running k v (still_runs now m Skipped (λ w e. skipped_rests w e) k v run).1; real = tied.real; busy = λ v k at. get_or-set_other now.progress m k Skipped Waiting (waits_alone o now m v k tied is.1 at) ∙ tied.busy v k at }
tied_after o now (event.Take w n mode) fit tied is =
    let mid = record now { held = set now.held w (held_by now w ++ n ∷ []); locks = with_hold now.locks n w (Some mode) } in
    record {
      depth = length-set now.locks.2 n (set (row_in now.locks.2 n) w (Some mode)) ∙ tied.depth;
      width = wide_after o now n w (Some mode) tied is.1;
      held = λ v k inside listed. tied_taken o now w n mode fit tied is.0 is.1 v k inside listed;
      running = turned_runs o now w (after_deed now.there (held_by mid w) (deed.Take mode n) None (course_of now w)) fit tied (deed_module now.there (held_by mid w) (deed.Take mode n) None (course_of now w));
      real = turned_real o now w (after_deed now.there (held_by mid w) (deed.Take mode n) None (course_of now w)) fit (λ k e. tied.real w k (sym (deed_module now.there (held_by mid w) (deed.Take mode n) None (course_of now w)) ∙ e)) tied.real;
      busy = turned_busy o now w (after_deed now.there (held_by mid w) (deed.Take mode n) None (course_of now w)) tied (deed_module now.there (held_by mid w) (deed.Take mode n) None (course_of now w));
    }
tied_after o now (event.Free w n) fit tied is =
    let mid = record now { held = set now.held w (but n (held_by now w)); locks = with_hold now.locks n w None } in
    record {
      depth = length-set now.locks.2 n (set (row_in now.locks.2 n) w None) ∙ tied.depth;
      width = wide_after o now n w None tied is.1;
      held = λ v k inside listed. tied_freed o now w n fit tied is.0 v k inside listed;
      running = turned_runs o now w (after_free o now.there (held_by mid w) (course_of now w)) fit tied (free_module o now.there (held_by mid w) (course_of now w));
      real = turned_real o now w (after_free o now.there (held_by mid w) (course_of now w)) fit (λ k e. tied.real w k (sym (free_module o now.there (held_by mid w) (course_of now w)) ∙ e)) tied.real;
      busy = turned_busy o now w (after_free o now.there (held_by mid w) (course_of now w)) tied (free_module o now.there (held_by mid w) (course_of now w));
    }
tied_after o now (event.Read w f) fit tied is = record { depth = tied.depth; width = tied.width; held = tied.held; running = turned_runs o now w (after_deed now.there (held_by now w) (deed.Read f) None (course_of now w)) fit tied (deed_module now.there (held_by now w) (deed.Read f) None (course_of now w)); real = turned_real o now w (after_deed now.there (held_by now w) (deed.Read f) None (course_of now w)) fit (λ k e. tied.real w k (sym (deed_module now.there (held_by now w) (deed.Read f) None (course_of now w)) ∙ e)) tied.real; busy = turned_busy o now w (after_deed now.there (held_by now w) (deed.Read f) None (course_of now w)) tied (deed_module now.there (held_by now w) (deed.Read f) None (course_of now w)) }
tied_after o now (event.Publish w f) fit tied is = record { depth = tied.depth; width = tied.width; held = tied.held; running = turned_runs o now w (after_deed (set now.there f true) (held_by now w) (deed.Publish f) None (course_of now w)) fit tied (deed_module (set now.there f true) (held_by now w) (deed.Publish f) None (course_of now w)); real = turned_real o now w (after_deed (set now.there f true) (held_by now w) (deed.Publish f) None (course_of now w)) fit (λ k e. tied.real w k (sym (deed_module (set now.there f true) (held_by now w) (deed.Publish f) None (course_of now w)) ∙ e)) tied.real; busy = turned_busy o now w (after_deed (set now.there f true) (held_by now w) (deed.Publish f) None (course_of now w)) tied (deed_module (set now.there f true) (held_by now w) (deed.Publish f) None (course_of now w)) }
tied_after o now (event.Answer w g) fit tied is = record { depth = tied.depth; width = tied.width; held = tied.held; running = turned_runs o now w (after_deed now.there (held_by now w) (deed.Answer g) (Some g) (course_of now w)) fit tied (deed_module now.there (held_by now w) (deed.Answer g) (Some g) (course_of now w)); real = turned_real o now w (after_deed now.there (held_by now w) (deed.Answer g) (Some g) (course_of now w)) fit (λ k e. tied.real w k (sym (deed_module now.there (held_by now w) (deed.Answer g) (Some g) (course_of now w)) ∙ e)) tied.real; busy = turned_busy o now w (after_deed now.there (held_by now w) (deed.Answer g) (Some g) (course_of now w)) tied (deed_module now.there (held_by now w) (deed.Answer g) (Some g) (course_of now w)) }
tied_after o now (event.End w e) fit tied is = record { depth = tied.depth; width = tied.width; held = tied.held; running = λ k v run. by (module_of (course_of now w)) refl k v run; real = turned_real o now w idle fit (λ k x. absurd (nothing_is k x)) tied.real; busy = λ v k at. rests v k at (same_or_not v w) }
  where
    kept : (m : Option ℕ) → module_of (course_of now w) ≡ m → (v k : ℕ) → (v ≡ w → ⊥) → module_of (course_of now v) ≡ Some k → progress_of (ended m e now.progress) k ≡ progress_of now.progress k
    kept None at v k other before = refl
    kept (Some m) at v k other before = get_or-set_other now.progress m k (Ended e) Waiting (λ same. other (ap worker_of (sym (tied.busy v k before) ∙ ap (progress_of now.progress) same ∙ tied.busy w m at)))

    rests : (v k : ℕ) → module_of (get_or (set now.courses w idle) v idle) ≡ Some k → (v ≡ w) ⊎ ((v ≡ w) → ⊥) → progress_of (ended (module_of (course_of now w)) e now.progress) k ≡ Running v
    rests v k at (inl same) = absurd (nothing_is k (sym (ap module_of (get_or-set_same now.courses w idle idle (omega (arith, is.0, fit.courses)))) ∙ subst (λ u. module_of (get_or (set now.courses w idle) u idle) ≡ Some k) same at))
    rests v k at (inr other) =
        let before = sym (ap module_of (get_or-set_other now.courses w v idle idle other)) ∙ at in
        kept (module_of (course_of now w)) refl v k other before ∙ tied.busy v k before

    past : (k v : ℕ) → (v < o.workers) × (module_of (course_of now v) ≡ Some k) → ((v ≡ w) → ⊥) → (v < o.workers) × (module_of (get_or (set now.courses w idle) v idle) ≡ Some k)
    past k v run other = (run.0, ap module_of (get_or-set_other now.courses w v idle idle other) ∙ run.1)

    by : (m : Option ℕ) → module_of (course_of now w) ≡ m → (k v : ℕ) → progress_of (ended m e now.progress) k ≡ Running v → (v < o.workers) × (module_of (get_or (set now.courses w idle) v idle) ≡ Some k)
    by None at k v run = let before = tied.running k v run in past k v before (λ same. nothing_is k (sym at ∙ subst (λ u. module_of (course_of now u) ≡ Some k) same before.1))
    by (Some m) at k v run =
        let rest = still_runs now m (Ended e) (λ u x. ended_rests e u x) k v run in
        let before = tied.running k v rest.1 in
        past k v before (λ same. rest.0 (sym (some_same m k (sym at ∙ subst (λ u. module_of (course_of now u) ≡ Some k) same before.1))))
