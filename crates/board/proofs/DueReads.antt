-- A file that is to be read next is there.
use Rattle.std.proofs.Common.{◌≡◌, ℕ, ◌⊎◌, inl, inr, Bool, true, false, ◌&&◌, ◌||◌, nat_eq, nat_lt, List, [], ◌∷◌, ◌++◌, length, fold, get_or, set, slice_get, Option, Some, None, is_some, unwrap_or, refl, arith, sym, ap, subst, ◌∙◌, if◌then◌else◌}
use Rattle.std.specs.List.{list_all}
use Rattle.std.specs.Option.{option_map_or}
use Rattle.std.proofs.lemmas.Bool.{eqb-true, false≢true}
use Rattle.std.proofs.lemmas.List.{length-set}
use Rattle.build_core.specs.Locks.{below}
use Rattle.build_core.specs.declared.mode.Mode.TheVariants.{Shared, Exclusive}
use Rattle.build_core.specs.declared.event.Event.{Event}
use Rattle.build_core.specs.declared.event.Event.TheVariants as event
use Rattle.build_core.specs.declared.plan.Entry.{Entry}
use Rattle.build_core.specs.declared.plan.Origin.{Origin}
use Rattle.build_core.specs.declared.plan.Origin.TheVariants as origin
use Rattle.build_core.specs.declared.plan.Plan.{Plan}
use Rattle.build_core.specs.declared.plan.PlanModule.{PlanModule}
use Rattle.scripts.specs.declared.deed.Deed.{Deed}
use Rattle.scripts.specs.declared.deed.Deed.TheVariants as deed
use Rattle.scripts.specs.declared.outline.ModuleOutline.{ModuleOutline}
use Rattle.scripts.specs.declared.outline.Outline.{Outline}
use Rattle.scripts.specs.Climbing.{but}
use Rattle.event_core.specs.Enabled.{Enabled, IsRun, is_due}
use Rattle.scripts.specs.Outlines.{files_of, files_read, is_empty, is_listed, module_outline, once_more, outline_of}
use Rattle.scripts.specs.Scripts.{Script, Step, absent, answers, choice_script, done, fetches, frees, install_script, is_there, is_wanted, lock_script, may_publish, own_script, publishes, read_script, reads, release_script, script_of, settled, stage_of, step, steps, takes, whole, is_gathered, wanted}
use Rattle.event_core.specs.SoundPlans.{IsSoundPlan, is_backed}
use Rattle.event_core.specs.Standing.{Course, Standing, after, after_deed, after_free, course_of, goals_of, held_by, idle, module_of, off_course, on_course, standing_of, start_of}
use Rattle.event_core.proofs.Ties.{any_idle}
use Rattle.event_core.proofs.Weights.{nothing_is}
use Rattle.run_law.proofs.Basics.{and_is, both3, chosen}
use Rattle.run_law.proofs.Complete.{by_events, standing}
use Rattle.run_law.proofs.Courses.{at_place, courses_after, courses_first}
use Rattle.run_law.proofs.RunGathering.{all_here, gathering_after, gathering_first, late_none}
use Rattle.run_law.proofs.Invariants.{AreCoursesFit, AreGathering, IsGathering, pending}
use Rattle.run_law.proofs.Once.{both, listed_first, listed_later}
use Rattle.run_law.proofs.Ready.{all_listed}
use Rattle.run_law.proofs.Stored.{due_on, get_in, get_map, length_map}

-- the reads of a script are of these files, and behind the gathering
abbrev reads_fit : (files : List ℕ) → Script → Bool
reads_fit files whole = true
reads_fit files (absent fetch this that) = reads_fit files this && reads_fit files that
reads_fit files (step stage (reads f) rest) = nat_lt 3 stage && is_listed f files && reads_fit files rest
reads_fit files (step stage (may_publish f) rest) = reads_fit files rest && reads_fit [] rest
reads_fit files (step stage other rest) = reads_fit files rest

settled_reads : (files : List ℕ) (there : List Bool) (empty : Bool) (s : Script) → reads_fit files s ≡ true → reads_fit files (settled there empty s) ≡ true
settled_reads files there empty whole is = refl
settled_reads files there empty (absent fetch this that) is =
    let parts = both (reads_fit files this) (reads_fit files that) is in
    by (list_all (is_there there) fetch) (settled_reads files there empty this parts.0) (settled_reads files there empty that parts.1)
  where
    by : (b : Bool) → reads_fit files (settled there empty this) ≡ true → reads_fit files (settled there empty that) ≡ true → reads_fit files (if b then settled there empty that else settled there empty this) ≡ true
    by true a c = c
    by false a c = a
settled_reads files there empty (step stage frees rest) is = by empty (settled_reads files there empty rest is)
  where
    by : (b : Bool) → reads_fit files (settled there empty rest) ≡ true → reads_fit files (if b then settled there empty rest else step stage frees rest) ≡ true
    by true a = a
    by false a = is
settled_reads files there empty (step stage (fetches f) rest) is = by (is_there there f) (settled_reads files there empty rest is)
  where
    by : (b : Bool) → reads_fit files (settled there empty rest) ≡ true → reads_fit files (if b then settled there empty rest else step stage (fetches f) rest) ≡ true
    by true a = a
    by false a = is
settled_reads files there empty (step stage (takes mode name) rest) is = is
settled_reads files there empty (step stage (reads f) rest) is = is
settled_reads files there empty (step stage (publishes f) rest) is = is
settled_reads files there empty (step stage (may_publish f) rest) is = is
settled_reads files there empty (step stage (answers g) rest) is = is

done_reads : (files : List ℕ) (s : Script) (d : Deed) (rest : Script) → reads_fit files s ≡ true → done s d ≡ Some rest → reads_fit files rest ≡ true
done_reads files whole d rest is e = absurd (nothing_is rest e)
done_reads files (absent fetch this that) d rest is e = absurd (nothing_is rest e)
done_reads files (step stage (may_publish f) more) d rest is e =
    let parts = both (reads_fit files more) (reads_fit [] more) is in
    by (is_wanted (may_publish f) d) e parts.0 (done_reads files more d rest parts.0)
  where
    by : (b : Bool) → (if b then Some more else done more d) ≡ Some rest → reads_fit files more ≡ true → (done more d ≡ Some rest → reads_fit files rest ≡ true) → reads_fit files rest ≡ true
    by true h here again = subst (λ t. reads_fit files t ≡ true) (ap (λ o. unwrap_or o whole) h) here
    by false h here again = again h
done_reads files (step stage (takes m n) more) d rest is e = subst (λ t. reads_fit files t ≡ true) (chosen (is_wanted (takes m n) d) more rest e).1 is
done_reads files (step stage (reads f) more) d rest is e = subst (λ t. reads_fit files t ≡ true) (chosen (is_wanted (reads f) d) more rest e).1 (both3 (nat_lt 3 stage) (is_listed f files) (reads_fit files more) is).2
done_reads files (step stage (answers g) more) d rest is e = subst (λ t. reads_fit files t ≡ true) (chosen (is_wanted (answers g) d) more rest e).1 is
done_reads files (step stage frees more) d rest is e = subst (λ t. reads_fit files t ≡ true) (chosen (is_wanted frees d) (step stage frees more) rest e).1 is
done_reads files (step stage (fetches f) more) d rest is e = subst (λ t. reads_fit files t ≡ true) (chosen (is_wanted (fetches f) d) more rest e).1 is
done_reads files (step stage (publishes f) more) d rest is e = subst (λ t. reads_fit files t ≡ true) (chosen (is_wanted (publishes f) d) more rest e).1 is

some_chosen : (b : Bool) (s : Script) → is_some (if b then Some s else None) ≡ true → b ≡ true
some_chosen true s e = refl
some_chosen false s e = absurd (false≢true e)

-- a read that is due is of one of them, behind the gathering
due_read : (files : List ℕ) (s : Script) (f : ℕ) → reads_fit files s ≡ true → is_some (done s (deed.Read f)) ≡ true → (nat_lt 3 (stage_of s) ≡ true) × (is_listed f files ≡ true)
due_read files whole f is due = absurd (false≢true due)
due_read files (absent fetch this that) f is due = absurd (false≢true due)
due_read files (step stage (takes m n) more) f is due = absurd (false≢true (some_chosen (is_wanted (takes m n) (deed.Read f)) more due))
due_read files (step stage frees more) f is due = absurd (false≢true (some_chosen (is_wanted frees (deed.Read f)) (step stage frees more) due))
due_read files (step stage (answers g) more) f is due = absurd (false≢true (some_chosen (is_wanted (answers g) (deed.Read f)) more due))
due_read files (step stage (fetches g) more) f is due = absurd (false≢true (some_chosen (is_wanted (fetches g) (deed.Read f)) more due))
due_read files (step stage (publishes g) more) f is due = absurd (false≢true (some_chosen (is_wanted (publishes g) (deed.Read f)) more due))
due_read files (step stage (may_publish g) more) f is due = absurd (false≢true (due_read [] more f (both (reads_fit files more) (reads_fit [] more) is).1 due).1)
due_read files (step stage (reads g) more) f is due =
    let parts = both3 (nat_lt 3 stage) (is_listed g files) (reads_fit files more) is in
    let same = eqb-true f g (some_chosen (nat_eq f g) more due) in
    (parts.0, subst (λ x. is_listed x files ≡ true) (sym same) parts.1)

-- ---- at the start

plain_reads : (files : List ℕ) (rest : Script) (f : ℕ → Step) (stage : ℕ) → ((x : ℕ) (more : Script) → reads_fit files (step stage (f x) more) ≡ reads_fit files more) → (xs : List ℕ) → reads_fit files rest ≡ true → reads_fit files (steps stage f xs rest) ≡ true
plain_reads files rest f stage same [] is = is
plain_reads files rest f stage same (x ∷ xs) is = same x (steps stage f xs rest) ∙ plain_reads files rest f stage same xs is

read_reads : (files : List ℕ) (rest : Script) (xs : List ℕ) → ((f : ℕ) → is_listed f xs ≡ true → is_listed f files ≡ true) → reads_fit files rest ≡ true → reads_fit files (steps 4 reads xs rest) ≡ true
read_reads files rest [] sub is = is
read_reads files rest (x ∷ xs) sub is = and_is (is_listed x files) (reads_fit files (steps 4 reads xs rest)) (sub x (listed_first x xs)) (read_reads files rest xs (λ f l. sub f (listed_later x f xs l)) is)

may_reads : (files xs : List ℕ) → reads_fit files (steps 6 may_publish xs (step 6 frees whole)) ≡ true
may_reads files [] = refl
may_reads files (x ∷ xs) = and_is (reads_fit files (steps 6 may_publish xs (step 6 frees whole))) (reads_fit [] (steps 6 may_publish xs (step 6 frees whole))) (may_reads files xs) (may_reads [] xs)

own_reads : (files own : List ℕ) → reads_fit files (own_script own) ≡ true
own_reads files [] = refl
own_reads files (pom ∷ others) = may_reads files others

install_reads : (files : List ℕ) (m : ModuleOutline) → reads_fit files (install_script m) ≡ true
install_reads files m = by m.installs
  where
    by : (b : Bool) → reads_fit files (if b then step 6 (takes Exclusive m.own_name) (own_script m.own) else whole) ≡ true
    by true = own_reads files m.own
    by false = refl

whole_reads : (m : ModuleOutline) → reads_fit m.reads (read_script m) ≡ true
whole_reads m = read_reads m.reads (release_script m) m.reads (λ f l. l) (plain_reads m.reads (install_script m) answers 5 (λ x more. refl) (below m.goals) (install_reads m.reads m))

start_reads : (m : ModuleOutline) → reads_fit m.reads (script_of m) ≡ true
start_reads m =
    plain_reads m.reads (choice_script m) (takes Shared) 2 (λ x more. refl) m.batch
    (and_is (reads_fit m.reads (lock_script m)) (reads_fit m.reads (read_script m))
    (plain_reads m.reads (steps 3 fetches m.fetch (read_script m)) (takes Exclusive) 3 (λ x more. refl) m.batch (plain_reads m.reads (read_script m) fetches 3 (λ x more. refl) m.fetch (whole_reads m))) (whole_reads m))

-- ---- courses

abbrev IsReading : Outline → Course → Type 0
IsReading o idle = Unit {0}
IsReading o (off_course number file gathered) = Unit {0}
IsReading o (on_course number script last) = (m : ModuleOutline) → slice_get o.modules number ≡ Some m → reads_fit m.reads script ≡ true

deed_reads : (o : Outline) (there : List Bool) (held : List ℕ) (d : Deed) (answered : Option ℕ) (c : Course) → IsReading o c → IsReading o (after_deed there held d answered c)
deed_reads o there held d answered idle fit = tt
deed_reads o there held d answered (off_course m file gathered) fit = tt
deed_reads o there held d answered (on_course number script last) fit = by (done script d) refl
  where
    by : (found : Option Script) → done script d ≡ found → IsReading o (option_map_or (λ rest. on_course number (settled there (is_empty held) rest) answered) found (on_course number script last))
    by None e = fit
    by (Some rest) e = λ m at. settled_reads m.reads there (is_empty held) rest (done_reads m.reads script d rest (fit m at) e)

free_reads : (o : Outline) (there : List Bool) (held : List ℕ) (c : Course) → IsReading o c → IsReading o (after_free o there held c)
free_reads o there held idle fit = tt
free_reads o there held (off_course m file gathered) fit = tt
free_reads o there held (on_course number script last) fit = by (done script deed.Free) refl
  where
    by : (found : Option Script) → done script deed.Free ≡ found → IsReading o (option_map_or (λ rest. on_course number (settled there (is_empty held) rest) None) found (off_course number (wanted script) (is_gathered (goals_of o number) script)))
    by None e = tt
    by (Some rest) e = λ m at. settled_reads m.reads there (is_empty held) rest (done_reads m.reads script deed.Free rest (fit m at) e)

begun_reads : (o : Outline) (there : List Bool) (held : List ℕ) (number : ℕ) → IsReading o (on_course number (settled there (is_empty held) (start_of o number)) None)
begun_reads o there held number = λ m at. settled_reads m.reads there (is_empty held) (start_of o number) (subst (λ found. reads_fit m.reads (option_map_or script_of found whole) ≡ true) (sym at) (start_reads m))

abbrev AreReading : Outline → Standing → Type 0
AreReading o now = (w : ℕ) → IsReading o (course_of now w)

reading_after : (o : Outline) (now : Standing) (e : Event) → AreReading o now → AreReading o (after o now e)
unfolding after
reading_after o now (event.Start w m) fit = at_place (IsReading o) now.courses w (on_course m (settled now.there (is_empty (held_by now w)) (start_of o m)) None) idle (begun_reads o now.there (held_by now w) m) fit
reading_after o now (event.Skip m) fit = fit
reading_after o now (event.Take w n mode) fit = at_place (IsReading o) now.courses w (after_deed now.there (get_or (set now.held w (held_by now w ++ n ∷ [])) w []) (deed.Take mode n) None (course_of now w)) idle (deed_reads o now.there (get_or (set now.held w (held_by now w ++ n ∷ [])) w []) (deed.Take mode n) None (course_of now w) (fit w)) fit
reading_after o now (event.Free w n) fit = at_place (IsReading o) now.courses w (after_free o now.there (get_or (set now.held w (but n (held_by now w))) w []) (course_of now w)) idle (free_reads o now.there (get_or (set now.held w (but n (held_by now w))) w []) (course_of now w) (fit w)) fit
reading_after o now (event.Read w f) fit = at_place (IsReading o) now.courses w (after_deed now.there (held_by now w) (deed.Read f) None (course_of now w)) idle (deed_reads o now.there (held_by now w) (deed.Read f) None (course_of now w) (fit w)) fit
reading_after o now (event.Publish w f) fit = at_place (IsReading o) now.courses w (after_deed (set now.there f true) (held_by now w) (deed.Publish f) None (course_of now w)) idle (deed_reads o (set now.there f true) (held_by now w) (deed.Publish f) None (course_of now w) (fit w)) fit
reading_after o now (event.Answer w g) fit = at_place (IsReading o) now.courses w (after_deed now.there (held_by now w) (deed.Answer g) (Some g) (course_of now w)) idle (deed_reads o now.there (held_by now w) (deed.Answer g) (Some g) (course_of now w) (fit w)) fit
reading_after o now (event.End w e) fit = at_place (IsReading o) now.courses w idle idle tt fit

-- ---- of runs

record IsFull (o : Outline) (now : Standing) : Type 0 where
  courses : AreCoursesFit o now
  gathering : AreGathering o now
  sized : length now.there ≡ length o.present
  reading : AreReading o now

-- marks keep their number
pub sized_after : (o : Outline) (now : Standing) (e : Event) → length (after o now e).there ≡ length now.there
unfolding after
sized_after o now (event.Start v m) = refl
sized_after o now (event.Skip m) = refl
sized_after o now (event.Take v n mode) = refl
sized_after o now (event.Free v n) = refl
sized_after o now (event.Read v f) = refl
sized_after o now (event.Publish v f) = length-set now.there f true
sized_after o now (event.Answer v g) = refl
sized_after o now (event.End v x) = refl

full : (o : Outline) (events : List Event) → IsRun o [] events → IsFull o (standing_of o events)
full o events run = by_events o (IsFull o)
    (λ now e s is. record { courses = courses_after o now e s.courses; gathering = gathering_after o now e s.courses s.gathering is s.sized; sized = sized_after o now e ∙ s.sized; reading = reading_after o now e s.reading })
    [] events (record { courses = courses_first o; gathering = gathering_first o; sized = refl; reading = λ w. subst (IsReading o) (sym (any_idle o.workers w)) tt }) run

-- ---- what is read is fetched

entry_backed : (m : PlanModule) (e : Entry) (entries : List Entry) (from : Origin) (x : ℕ) → is_backed m from ≡ true → (is_listed x (files_of entries) ≡ true → is_listed x m.fetch ≡ true) → is_listed x (files_of ((record e { origin = from }) ∷ entries)) ≡ true → is_listed x m.fetch ≡ true
entry_backed m e entries (origin.File f) x back again l = by (nat_eq f x) refl l
  where
    by : (b : Bool) → nat_eq f x ≡ b → (b || is_listed x (files_of entries)) ≡ true → is_listed x m.fetch ≡ true
    by true e l = subst (λ y. is_listed y m.fetch ≡ true) (eqb-true f x e) back
    by false e l = again l
entry_backed m e entries (origin.Module u s) x back again l = again l
entry_backed m e entries origin.Nothing x back again l = again l

entries_backed : (m : PlanModule) (entries : List Entry) → list_all (λ (e : Entry). is_backed m e.origin) entries ≡ true → (x : ℕ) → is_listed x (files_of entries) ≡ true → is_listed x m.fetch ≡ true
entries_backed m [] back x l = absurd (false≢true l)
entries_backed m (e ∷ entries) back x l =
    let parts = both (is_backed m e.origin) (list_all (λ (e : Entry). is_backed m e.origin) entries) back in
    entry_backed m e entries e.origin x parts.0 (entries_backed m entries parts.1 x) l

-- what is gathered once was listed
listed_last : (xs : List ℕ) (y x : ℕ) → is_listed x (xs ++ y ∷ []) ≡ true → (is_listed x xs ≡ true) ⊎ (is_listed x (y ∷ []) ≡ true)
listed_last [] y x l = inr l
listed_last (z ∷ xs) y x l = by (nat_eq z x) l (listed_last xs y x)
  where
    by : (b : Bool) → (b || is_listed x (xs ++ y ∷ [])) ≡ true → (is_listed x (xs ++ y ∷ []) ≡ true → (is_listed x xs ≡ true) ⊎ (is_listed x (y ∷ []) ≡ true)) → ((b || is_listed x xs) ≡ true) ⊎ (is_listed x (y ∷ []) ≡ true)
    by true l again = inl refl
    by false l again = again l

once_listed : (xs met : List ℕ) (x : ℕ) → is_listed x (fold once_more met xs) ≡ true → (is_listed x met ≡ true) ⊎ (is_listed x xs ≡ true)
once_listed [] met x l = inl l
once_listed (y ∷ xs) met x l = by (is_listed y met) refl (once_listed xs (once_more met y) x l)
  where
    or_first : (b c : Bool) → b ≡ true → (b || c) ≡ true
    or_first true c e = refl
    or_first false c e = absurd (false≢true e)

    or_later : (b c : Bool) → c ≡ true → (b || c) ≡ true
    or_later true c e = refl
    or_later false c e = e

    one_is : (b : Bool) → (b || false) ≡ true → b ≡ true
    one_is true e = refl
    one_is false e = absurd (false≢true e)

    split : (is_listed x met ≡ true) ⊎ (is_listed x (y ∷ []) ≡ true) → (is_listed x met ≡ true) ⊎ (is_listed x (y ∷ xs) ≡ true)
    split (inl l) = inl l
    split (inr l) = inr (or_first (nat_eq y x) (is_listed x xs) (one_is (nat_eq y x) l))

    by : (b : Bool) → is_listed y met ≡ b → (is_listed x (once_more met y) ≡ true) ⊎ (is_listed x xs ≡ true) → (is_listed x met ≡ true) ⊎ (is_listed x (y ∷ xs) ≡ true)
    by b e (inr l) = inr (or_later (nat_eq y x) (is_listed x xs) l)
    by true e (inl l) = inl (subst (λ b. is_listed x (if b then met else met ++ y ∷ []) ≡ true) e l)
    by false e (inl l) = split (listed_last met y x (subst (λ b. is_listed x (if b then met else met ++ y ∷ []) ≡ true) e l))

read_fetched : (m : PlanModule) → list_all (λ (e : Entry). is_backed m e.origin) m.entries ≡ true → (x : ℕ) → is_listed x (files_read m) ≡ true → is_listed x m.fetch ≡ true
read_fetched m back x l = by (once_listed (files_of m.entries) [] x l)
  where
    by : (is_listed x [] ≡ true) ⊎ (is_listed x (files_of m.entries) ≡ true) → is_listed x m.fetch ≡ true
    by (inl none) = absurd (false≢true none)
    by (inr listed) = entries_backed m m.entries back x listed

-- a file that is to be read next is there
module _ (plan : Plan) (sound : IsSoundPlan plan) (events : List Event) (run : IsRun (outline_of plan) [] events) where
  abbrev o : Outline
  o = outline_of plan

  abbrev now : Standing
  now = standing_of o events

  pub due_there : (w f : ℕ) → is_due (course_of (standing_of (outline_of plan) events) w) (deed.Read f) ≡ true → is_there (standing_of (outline_of plan) events).there f ≡ true
  due_there w f due =
      let on = due_on (course_of now w) (deed.Read f) due in
      let whole = full o events run in
      let long = length_map module_outline plan.modules in
      let real = (standing o events run).tied.real w on.0 (ap module_of on.3) in
      let found = get_in plan.modules on.0 (omega (arith, long, real)) in
      let at : slice_get o.modules on.0 ≡ Some (module_outline found.0) = get_map module_outline plan.modules on.0 found.0 found.1 in
      let reading : IsReading o (on_course on.0 on.1 on.2) = subst (IsReading o) on.3 (whole.reading w) in
      let gathering : IsGathering o now.there (on_course on.0 on.1 on.2) = subst (IsGathering o now.there) on.3 (whole.gathering w) in
      let mine = gathering (module_outline found.0) at in
      let next = due_read (files_read found.0) on.1 f (reading (module_outline found.0) at) (subst (λ c. is_due c (deed.Read f) ≡ true) on.3 due) in
      all_listed (is_there now.there) found.0.fetch (all_here now.there found.0.fetch (pending on.1) mine.1 (late_none found.0.fetch on.1 mine.0 next.0)) f
      (read_fetched found.0 (sound.modules on.0 found.0 found.1).entries f next.1)

pub read_there : (plan : Plan) (sound : IsSoundPlan plan) (events : List Event) → IsRun (outline_of plan) [] events → (w f : ℕ) → Enabled (outline_of plan) events (event.Read w f) → is_there (standing_of (outline_of plan) events).there f ≡ true
unfolding Enabled
read_there plan sound events run w f is = due_there plan sound events run w f is.2
