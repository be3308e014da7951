-- Courses stay fit.
use Rattle.std.proofs.Common.{◌≡◌, ℕ, zero, suc, ◌⊎◌, inl, inr, Bool, true, false, nat_eq, List, [], ◌∷◌, ◌++◌, get_or, set, Option, Some, None, is_some, unwrap_or, refl, sym, ap, subst, ◌∙◌, if◌then◌else◌}
use Rattle.std.specs.List.{list_all}
use Rattle.std.specs.Option.{option_map_or}
use Rattle.std.proofs.lemmas.Bool.{eqb-true, false≢true}
use Rattle.build_core.specs.declared.event.Event.{Event}
use Rattle.build_core.specs.declared.event.Event.TheVariants as event
use Rattle.scripts.specs.declared.deed.Deed.{Deed}
use Rattle.scripts.specs.declared.deed.Deed.TheVariants as deed
use Rattle.build_core.specs.declared.mode.Mode.TheVariants.{Shared, Exclusive}
use Rattle.scripts.specs.declared.outline.Outline.{Outline}
use Rattle.scripts.specs.declared.outline.ModuleOutline.{ModuleOutline}
use Rattle.scripts.specs.Climbing.{but}
use Rattle.event_core.specs.Enabled.{IsRun}
use Rattle.run_law.proofs.Invariants.{AreCoursesFit, IsCourseFit, files_fit}
use Rattle.build_core.specs.Locks.{below}
use Rattle.scripts.specs.Outlines.{is_empty, is_listed}
use Rattle.scripts.specs.Scripts.{Script, Step, absent, answers, choice_script, done, fetches, frees, install_script, is_gathered, is_there, is_wanted, lock_script, may_publish, own_script, publishes, read_script, reads, release_script, script_of, settled, step, steps, takes, wanted, whole}
use Rattle.event_core.specs.Standing.{Course, Standing, after, after_deed, after_free, at_first, course_of, goals_of, held_by, idle, off_course, on_course, standing_of, start_of}
use Rattle.run_law.proofs.Complete.{by_events}
use Rattle.run_law.proofs.Once.{both, listed_first, listed_later}
use Rattle.event_core.proofs.Ties.{any_idle}
use Rattle.event_core.proofs.Weights.{nothing_is}
use Rattle.run_law.proofs.Basics.{and_is, and_is3, both3, chosen}

-- ---- settling

-- settling leaves a script's files of their lists
settled_fit : (fetch own : List ℕ) (there : List Bool) (empty : Bool) (s : Script) → files_fit fetch own s ≡ true → files_fit fetch own (settled there empty s) ≡ true
settled_fit fetch own there empty whole is = refl
settled_fit fetch own there empty (absent files this that) is =
    let parts = both (files_fit fetch own this) (files_fit fetch own that) is in
    by (list_all (is_there there) files) (settled_fit fetch own there empty this parts.0) (settled_fit fetch own there empty that parts.1)
  where
    by : (b : Bool) → files_fit fetch own (settled there empty this) ≡ true → files_fit fetch own (settled there empty that) ≡ true → files_fit fetch own (if b then settled there empty that else settled there empty this) ≡ true
    by true a c = c
    by false a c = a
settled_fit fetch own there empty (step stage frees rest) is = by empty (settled_fit fetch own there empty rest is)
  where
    by : (b : Bool) → files_fit fetch own (settled there empty rest) ≡ true → files_fit fetch own (if b then settled there empty rest else step stage frees rest) ≡ true
    by true a = a
    by false a = is
settled_fit fetch own there empty (step stage (fetches f) rest) is = by (is_there there f) (settled_fit fetch own there empty rest (both (is_listed f fetch) (files_fit fetch own rest) is).1)
  where
    by : (b : Bool) → files_fit fetch own (settled there empty rest) ≡ true → files_fit fetch own (if b then settled there empty rest else step stage (fetches f) rest) ≡ true
    by true a = a
    by false a = is
settled_fit fetch own there empty (step stage (takes mode name) rest) is = is
settled_fit fetch own there empty (step stage (reads f) rest) is = is
settled_fit fetch own there empty (step stage (publishes f) rest) is = is
settled_fit fetch own there empty (step stage (may_publish f) rest) is = is
settled_fit fetch own there empty (step stage (answers g) rest) is = is

-- options with equal values have equal values
some_is : (a b : ℕ) → Some a ≡ Some b → a ≡ b
some_is a b e = ap (λ o. unwrap_or o 0) e

-- what a settled script is to fetch is absent
pub settled_wants : (there : List Bool) (empty : Bool) (s : Script) (f : ℕ) → wanted (settled there empty s) ≡ Some f → is_there there f ≡ false
settled_wants there empty whole f is = absurd (nothing_is f is)
settled_wants there empty (absent files this that) f is = by (list_all (is_there there) files) is (settled_wants there empty this f) (settled_wants there empty that f)
  where
    by : (b : Bool) → wanted (if b then settled there empty that else settled there empty this) ≡ Some f → (wanted (settled there empty this) ≡ Some f → is_there there f ≡ false) → (wanted (settled there empty that) ≡ Some f → is_there there f ≡ false) → is_there there f ≡ false
    by true e a c = c e
    by false e a c = a e
settled_wants there empty (step stage frees rest) f is = by empty is (settled_wants there empty rest f)
  where
    by : (b : Bool) → wanted (if b then settled there empty rest else step stage frees rest) ≡ Some f → (wanted (settled there empty rest) ≡ Some f → is_there there f ≡ false) → is_there there f ≡ false
    by true e a = a e
    by false e a = absurd (nothing_is f e)
settled_wants there empty (step stage (fetches g) rest) f is = by (is_there there g) refl is (settled_wants there empty rest f)
  where
    by : (b : Bool) → is_there there g ≡ b → wanted (if b then settled there empty rest else step stage (fetches g) rest) ≡ Some f → (wanted (settled there empty rest) ≡ Some f → is_there there f ≡ false) → is_there there f ≡ false
    by true e w a = a w
    by false e w a = subst (λ x. is_there there x ≡ false) (some_is g f w) e
settled_wants there empty (step stage (takes mode name) rest) f is = absurd (nothing_is f is)
settled_wants there empty (step stage (reads g) rest) f is = absurd (nothing_is f is)
settled_wants there empty (step stage (publishes g) rest) f is = absurd (nothing_is f is)
settled_wants there empty (step stage (may_publish g) rest) f is = absurd (nothing_is f is)
settled_wants there empty (step stage (answers g) rest) f is = absurd (nothing_is f is)

-- ---- a deed

-- so does a deed
done_fit : (fetch own : List ℕ) (s : Script) (d : Deed) (rest : Script) → files_fit fetch own s ≡ true → done s d ≡ Some rest → files_fit fetch own rest ≡ true
done_fit fetch own whole d rest is e = absurd (nothing_is rest e)
done_fit fetch own (absent files this that) d rest is e = absurd (nothing_is rest e)
done_fit fetch own (step stage (may_publish f) more) d rest is e =
    let parts = both3 (is_listed f own) (files_fit fetch own more) (files_fit [] own more) is in
    by (is_wanted (may_publish f) d) e parts.1 (done_fit fetch own more d rest parts.1)
  where
    by : (b : Bool) → (if b then Some more else done more d) ≡ Some rest → files_fit fetch own more ≡ true → (done more d ≡ Some rest → files_fit fetch own rest ≡ true) → files_fit fetch own rest ≡ true
    by true h here again = subst (λ t. files_fit fetch own t ≡ true) (ap (λ o. unwrap_or o whole) h) here
    by false h here again = again h
done_fit fetch own (step stage (takes m n) more) d rest is e = subst (λ t. files_fit fetch own t ≡ true) (chosen (is_wanted (takes m n) d) more rest e).1 is
done_fit fetch own (step stage (reads f) more) d rest is e = subst (λ t. files_fit fetch own t ≡ true) (chosen (is_wanted (reads f) d) more rest e).1 is
done_fit fetch own (step stage (answers g) more) d rest is e = subst (λ t. files_fit fetch own t ≡ true) (chosen (is_wanted (answers g) d) more rest e).1 is
done_fit fetch own (step stage frees more) d rest is e = subst (λ t. files_fit fetch own t ≡ true) (chosen (is_wanted frees d) (step stage frees more) rest e).1 is
done_fit fetch own (step stage (fetches f) more) d rest is e = subst (λ t. files_fit fetch own t ≡ true) (chosen (is_wanted (fetches f) d) more rest e).1 (both (is_listed f fetch) (files_fit fetch own more) is).1
done_fit fetch own (step stage (publishes f) more) d rest is e = subst (λ t. files_fit fetch own t ≡ true) (chosen (is_wanted (publishes f) d) more rest e).1 (both (is_listed f own) (files_fit fetch own more) is).1

-- a script that is left by a test is left where the test holds
some_chosen : (b : Bool) (s : Script) → is_some (if b then Some s else None) ≡ true → b ≡ true
some_chosen true s e = refl
some_chosen false s e = absurd (false≢true e)

-- a publish that is due is the file to be fetched, or one of its own
pub due_file : (fetch own : List ℕ) (s : Script) (f : ℕ) → files_fit fetch own s ≡ true → is_some (done s (deed.Publish f)) ≡ true → ((wanted s ≡ Some f) × (is_listed f fetch ≡ true)) ⊎ (is_listed f own ≡ true)
due_file fetch own whole f is due = absurd (false≢true due)
due_file fetch own (absent files this that) f is due = absurd (false≢true due)
due_file fetch own (step stage (takes m n) more) f is due = absurd (false≢true (some_chosen (is_wanted (takes m n) (deed.Publish f)) more due))
due_file fetch own (step stage frees more) f is due = absurd (false≢true (some_chosen (is_wanted frees (deed.Publish f)) (step stage frees more) due))
due_file fetch own (step stage (reads g) more) f is due = absurd (false≢true (some_chosen (is_wanted (reads g) (deed.Publish f)) more due))
due_file fetch own (step stage (answers g) more) f is due = absurd (false≢true (some_chosen (is_wanted (answers g) (deed.Publish f)) more due))
due_file fetch own (step stage (fetches g) more) f is due =
    let same = eqb-true f g (some_chosen (nat_eq f g) more due) in
    inl (ap (λ x. Some x) (sym same), subst (λ x. is_listed x fetch ≡ true) (sym same) (both (is_listed g fetch) (files_fit fetch own more) is).0)
due_file fetch own (step stage (publishes g) more) f is due =
    let same = eqb-true f g (some_chosen (nat_eq f g) more due) in
    inr (subst (λ x. is_listed x own ≡ true) (sym same) (both (is_listed g own) (files_fit fetch own more) is).0)
due_file fetch own (step stage (may_publish g) more) f is due =
    let parts = both3 (is_listed g own) (files_fit fetch own more) (files_fit [] own more) is in
    by (nat_eq f g) refl due parts.0 (due_file [] own more f parts.2)
  where
    by : (b : Bool) → nat_eq f g ≡ b → is_some (if b then Some more else done more (deed.Publish f)) ≡ true → is_listed g own ≡ true → (is_some (done more (deed.Publish f)) ≡ true → ((wanted more ≡ Some f) × (is_listed f [] ≡ true)) ⊎ (is_listed f own ≡ true)) → ((None ≡ Some f) × (is_listed f fetch ≡ true)) ⊎ (is_listed f own ≡ true)
    by true e h here again = inr (subst (λ x. is_listed x own ≡ true) (sym (eqb-true f g e)) here)
    by false e h here again = only (again h)
      where
        only : ((wanted more ≡ Some f) × (is_listed f [] ≡ true)) ⊎ (is_listed f own ≡ true) → ((None ≡ Some f) × (is_listed f fetch ≡ true)) ⊎ (is_listed f own ≡ true)
        only (inl none) = absurd (false≢true none.1)
        only (inr own) = inr own

-- ---- at the start

-- steps that name no file
plain_fit : (fetch own : List ℕ) (rest : Script) (f : ℕ → Step) (stage : ℕ) → ((x : ℕ) (more : Script) → files_fit fetch own (step stage (f x) more) ≡ files_fit fetch own more) → (xs : List ℕ) → files_fit fetch own rest ≡ true → files_fit fetch own (steps stage f xs rest) ≡ true
plain_fit fetch own rest f stage same [] is = is
plain_fit fetch own rest f stage same (x ∷ xs) is = same x (steps stage f xs rest) ∙ plain_fit fetch own rest f stage same xs is

-- further own files are of the module's own list
may_fit : (own xs : List ℕ) → ((f : ℕ) → is_listed f xs ≡ true → is_listed f own ≡ true) → (fetch : List ℕ) → files_fit fetch own (steps 6 may_publish xs (step 6 frees whole)) ≡ true
may_fit own [] sub fetch = refl
may_fit own (x ∷ xs) sub fetch =
    let rest = may_fit own xs (λ f is. sub f (listed_later x f xs is)) in
    and_is3 (is_listed x own) (files_fit fetch own (steps 6 may_publish xs (step 6 frees whole))) (files_fit [] own (steps 6 may_publish xs (step 6 frees whole))) (sub x (listed_first x xs)) (rest fetch) (rest [])

-- fetched files are of the fetch list
fetch_fit : (fetch own : List ℕ) (rest : Script) (xs : List ℕ) → ((f : ℕ) → is_listed f xs ≡ true → is_listed f fetch ≡ true) → files_fit fetch own rest ≡ true → files_fit fetch own (steps 3 fetches xs rest) ≡ true
fetch_fit fetch own rest [] sub is = is
fetch_fit fetch own rest (x ∷ xs) sub is = and_is (is_listed x fetch) (files_fit fetch own (steps 3 fetches xs rest)) (sub x (listed_first x xs)) (fetch_fit fetch own rest xs (λ f l. sub f (listed_later x f xs l)) is)

-- own files are of the own list
own_fit : (fetch own : List ℕ) → files_fit fetch own (own_script own) ≡ true
own_fit fetch [] = refl
own_fit fetch (pom ∷ others) = and_is (is_listed pom (pom ∷ others)) (files_fit fetch (pom ∷ others) (steps 6 may_publish others (step 6 frees whole))) (listed_first pom others) (may_fit (pom ∷ others) others (λ f is. listed_later pom f others is) fetch)

-- so are those of installing
install_fit : (m : ModuleOutline) → files_fit m.fetch m.own (install_script m) ≡ true
install_fit m = by m.installs
  where
    by : (b : Bool) → files_fit m.fetch m.own (if b then step 6 (takes Exclusive m.own_name) (own_script m.own) else whole) ≡ true
    by true = own_fit m.fetch m.own
    by false = refl

-- so are those behind reading
read_fit : (m : ModuleOutline) → files_fit m.fetch m.own (read_script m) ≡ true
read_fit m = plain_fit m.fetch m.own (release_script m) reads 4 (λ x more. refl) m.reads (plain_fit m.fetch m.own (install_script m) answers 5 (λ x more. refl) (below m.goals) (install_fit m))

-- so are all files of a module's script
pub start_fit : (m : ModuleOutline) → files_fit m.fetch m.own (script_of m) ≡ true
start_fit m =
    plain_fit m.fetch m.own (choice_script m) (takes Shared) 2 (λ x more. refl) m.batch
    (and_is (files_fit m.fetch m.own (lock_script m)) (files_fit m.fetch m.own (read_script m))
    (plain_fit m.fetch m.own (steps 3 fetches m.fetch (read_script m)) (takes Exclusive) 3 (λ x more. refl) m.batch (fetch_fit m.fetch m.own (read_script m) m.fetch (λ f is. is) (read_fit m))) (read_fit m))

-- ---- courses

-- what isn't there wasn't at the start, as files only come
absent_first : (o : Outline) (there : List Bool) → ((f : ℕ) → is_there o.present f ≡ true → is_there there f ≡ true) → (f : ℕ) → is_there there f ≡ false → is_there o.present f ≡ false
absent_first o there grows f none = by (is_there o.present f) refl
  where
    by : (b : Bool) → is_there o.present f ≡ b → is_there o.present f ≡ false
    by false e = e
    by true e = absurd (false≢true (sym none ∙ grows f e))

-- a course stays fit behind a deed
deed_fit : (o : Outline) (there : List Bool) (held : List ℕ) (d : Deed) (answered : Option ℕ) (c : Course) → ((f : ℕ) → is_there o.present f ≡ true → is_there there f ≡ true) → IsCourseFit o c → IsCourseFit o (after_deed there held d answered c)
deed_fit o there held d answered idle grows fit = tt
deed_fit o there held d answered (off_course m file gathered) grows fit = tt
deed_fit o there held d answered (on_course number script last) grows fit = by (done script d) refl
  where
    by : (found : Option Script) → done script d ≡ found → IsCourseFit o (option_map_or (λ rest. on_course number (settled there (is_empty held) rest) answered) found (on_course number script last))
    by None e = fit
    by (Some rest) e = (λ m at. settled_fit m.fetch m.own there (is_empty held) rest (done_fit m.fetch m.own script d rest (fit.0 m at) e), λ f w. absent_first o there grows f (settled_wants there (is_empty held) rest f w))

-- and behind a free
free_fit : (o : Outline) (there : List Bool) (held : List ℕ) (c : Course) → ((f : ℕ) → is_there o.present f ≡ true → is_there there f ≡ true) → IsCourseFit o c → IsCourseFit o (after_free o there held c)
free_fit o there held idle grows fit = tt
free_fit o there held (off_course m file gathered) grows fit = tt
free_fit o there held (on_course number script last) grows fit = by (done script deed.Free) refl
  where
    by : (found : Option Script) → done script deed.Free ≡ found → IsCourseFit o (option_map_or (λ rest. on_course number (settled there (is_empty held) rest) None) found (off_course number (wanted script) (is_gathered (goals_of o number) script)))
    by None e = tt
    by (Some rest) e = (λ m at. settled_fit m.fetch m.own there (is_empty held) rest (done_fit m.fetch m.own script deed.Free rest (fit.0 m at) e), λ f w. absent_first o there grows f (settled_wants there (is_empty held) rest f w))

-- a course that begins is fit
begun_fit : (o : Outline) (there : List Bool) (held : List ℕ) (number : ℕ) → ((f : ℕ) → is_there o.present f ≡ true → is_there there f ≡ true) → IsCourseFit o (on_course number (settled there (is_empty held) (start_of o number)) None)
begun_fit o there held number grows = (λ m at. settled_fit m.fetch m.own there (is_empty held) (start_of o number) (subst (λ found. files_fit m.fetch m.own (option_map_or script_of found whole) ≡ true) (sym at) (start_fit m)), λ f w. absent_first o there grows f (settled_wants there (is_empty held) (start_of o number) f w))

-- a course at a worker's place: with what is said of it, of all
pub at_place : {X : Type 0} (P : X → Type 0) (xs : List X) (w : ℕ) (x d : X) → P x → ((v : ℕ) → P (get_or xs v d)) → (v : ℕ) → P (get_or (set xs w x) v d)
at_place P [] w x d new old v = old v
at_place P (y ∷ xs) zero x d new old zero = new
at_place P (y ∷ xs) zero x d new old (suc v) = old (suc v)
at_place P (y ∷ xs) (suc w) x d new old zero = old zero
at_place P (y ∷ xs) (suc w) x d new old (suc v) = at_place P xs w x d new (λ k. old (suc k)) v

-- a file that is there stays, with another put
pub there_grows : (there : List Bool) (f g : ℕ) → is_there there g ≡ true → is_there (set there f true) g ≡ true
there_grows [] f g is = is
there_grows (b ∷ there) zero zero is = refl
there_grows (b ∷ there) zero (suc g) is = is
there_grows (b ∷ there) (suc f) zero is = is
there_grows (b ∷ there) (suc f) (suc g) is = there_grows there f g is

-- all courses stay fit behind each event
pub courses_after : (o : Outline) (now : Standing) (e : Event) → AreCoursesFit o now → AreCoursesFit o (after o now e)
unfolding after
courses_after o now (event.Start w m) fit = record { courses = at_place (IsCourseFit o) now.courses w (on_course m (settled now.there (is_empty (held_by now w)) (start_of o m)) None) idle (begun_fit o now.there (held_by now w) m fit.grows) fit.courses; grows = fit.grows }
courses_after o now (event.Skip m) fit = record { courses = fit.courses; grows = fit.grows }
courses_after o now (event.Take w n mode) fit = record { courses = at_place (IsCourseFit o) now.courses w (after_deed now.there (get_or (set now.held w (held_by now w ++ n ∷ [])) w []) (deed.Take mode n) None (course_of now w)) idle (deed_fit o now.there (get_or (set now.held w (held_by now w ++ n ∷ [])) w []) (deed.Take mode n) None (course_of now w) fit.grows (fit.courses w)) fit.courses; grows = fit.grows }
courses_after o now (event.Free w n) fit = record { courses = at_place (IsCourseFit o) now.courses w (after_free o now.there (get_or (set now.held w (but n (held_by now w))) w []) (course_of now w)) idle (free_fit o now.there (get_or (set now.held w (but n (held_by now w))) w []) (course_of now w) fit.grows (fit.courses w)) fit.courses; grows = fit.grows }
courses_after o now (event.Read w f) fit = record { courses = at_place (IsCourseFit o) now.courses w (after_deed now.there (held_by now w) (deed.Read f) None (course_of now w)) idle (deed_fit o now.there (held_by now w) (deed.Read f) None (course_of now w) fit.grows (fit.courses w)) fit.courses; grows = fit.grows }
courses_after o now (event.Publish w f) fit =
    let more : (g : ℕ) → is_there o.present g ≡ true → is_there (set now.there f true) g ≡ true = (λ g is. there_grows now.there f g (fit.grows g is)) in
    record { courses = at_place (IsCourseFit o) now.courses w (after_deed (set now.there f true) (held_by now w) (deed.Publish f) None (course_of now w)) idle (deed_fit o (set now.there f true) (held_by now w) (deed.Publish f) None (course_of now w) more (fit.courses w)) fit.courses; grows = more }
courses_after o now (event.Answer w g) fit = record { courses = at_place (IsCourseFit o) now.courses w (after_deed now.there (held_by now w) (deed.Answer g) (Some g) (course_of now w)) idle (deed_fit o now.there (held_by now w) (deed.Answer g) (Some g) (course_of now w) fit.grows (fit.courses w)) fit.courses; grows = fit.grows }
courses_after o now (event.End w e) fit = record { courses = at_place (IsCourseFit o) now.courses w idle idle tt fit.courses; grows = fit.grows }

-- they are where nothing has happened
pub courses_first : (o : Outline) → AreCoursesFit o (at_first o)
courses_first o = record { courses = λ w. subst (IsCourseFit o) (sym (any_idle o.workers w)) tt; grows = λ f is. is }

-- so they are behind every run
pub courses_fit : (o : Outline) (events : List Event) → IsRun o [] events → AreCoursesFit o (standing_of o events)
courses_fit o events run = by_events o (AreCoursesFit o) (λ now e fit is. courses_after o now e fit) [] events (courses_first o) run
