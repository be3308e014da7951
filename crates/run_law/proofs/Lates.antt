-- Own files are published by their module alone, once all else of it is done.
use Rattle.std.proofs.Common.{◌≡◌, ℕ, ◌<◌, ◌⊎◌, inl, inr, Bool, true, false, ◌&&◌, nat_eq, set, List, [], ◌∷◌, ◌++◌, length, get_or, slice_get, Option, Some, None, is_some, unwrap_or, refl, arith, sym, ap, subst, ◌∙◌, if◌then◌else◌}
use Rattle.std.specs.List.{list_all}
use Rattle.std.specs.Option.{option_map_or}
use Rattle.std.proofs.lemmas.Bool.{eqb-true, false≢true}
use Rattle.std.proofs.lemmas.List.{get_or-set_other, get_or-set_same}
use Rattle.scripts.specs.declared.deed.Deed.{Deed}
use Rattle.scripts.specs.declared.deed.Deed.TheVariants as deed
use Rattle.build_core.specs.declared.mode.Mode.TheVariants.{Shared, Exclusive}
use Rattle.build_core.specs.declared.ending.Ending.{Ending}
use Rattle.build_core.specs.declared.ending.Ending.TheVariants as ending
use Rattle.build_core.specs.declared.event.Event.{Event}
use Rattle.build_core.specs.declared.event.Event.TheVariants as event
use Rattle.scripts.specs.declared.outline.Outline.{Outline}
use Rattle.scripts.specs.declared.outline.ModuleOutline.{ModuleOutline}
use Rattle.event_core.specs.declared.module_steps.Progress.{Progress}
use Rattle.event_core.specs.declared.module_steps.Progress.TheVariants.{Waiting, Running, Skipped, Ended}
use Rattle.scripts.specs.Climbing.{but}
use Rattle.event_core.specs.HowFar.{is_over, is_this, is_waiting, progress_of}
use Rattle.event_core.specs.Enabled.{IsEnabled, is_due, may_end_so, needs_artifact, on_ends, off_ends}
use Rattle.run_law.proofs.Invariants.{pending}
use Rattle.build_core.specs.Locks.{below}
use Rattle.scripts.specs.Scripts.{Script, Step, absent, answers, choice_script, done, fetches, frees, install_script, is_gathered, is_there, is_to_install, is_wanted, lock_script, may_publish, own_script, publishes, read_script, reads, release_script, script_of, settled, step, steps, takes, wanted, whole}
use Rattle.event_core.specs.Standing.{Course, Standing, after, after_deed, after_free, after_publish, at_first, course_of, ended, goals_of, held_by, idle, module_of, off_course, on_course, start_of}
use Rattle.scripts.specs.Outlines.{is_empty}
use Rattle.run_law.proofs.Complete.{IsStanding}
use Rattle.run_law.proofs.Courses.{at_place}
use Rattle.event_core.proofs.Fits.{same_or_not}
use Rattle.run_law.proofs.Once.{both}
use Rattle.run_law.proofs.Ordered.{over_stays}
use Rattle.event_core.proofs.Ties.{any_idle}
use Rattle.event_core.proofs.Weights.{nothing_is}
use Rattle.run_law.proofs.Basics.{and_is, both3, chosen}

-- nothing is left but own files and frees
abbrev pub is_late : Script → Bool
is_late whole = true
is_late (absent files this that) = false
is_late (step stage (publishes f) rest) = is_late rest
is_late (step stage (may_publish f) rest) = is_late rest
is_late (step stage frees rest) = is_late rest
is_late (step stage other rest) = false

-- behind an own file nothing else follows, and there is one only where the module installs
abbrev pub owns_late : Bool → Script → Bool
owns_late installs whole = true
owns_late installs (absent files this that) = owns_late installs this && owns_late installs that
owns_late installs (step stage (publishes f) rest) = installs && is_late rest && owns_late installs rest
owns_late installs (step stage (may_publish f) rest) = installs && is_late rest && owns_late installs rest
owns_late installs (step stage other rest) = owns_late installs rest

-- ---- settling

-- settling leaves a script late
late_settled : (there : List Bool) (empty : Bool) (s : Script) → is_late s ≡ true → is_late (settled there empty s) ≡ true
late_settled there empty whole is = refl
late_settled there empty (absent files this that) is = absurd (false≢true is)
late_settled there empty (step stage frees rest) is = by empty (late_settled there empty rest is)
  where
    by : (b : Bool) → is_late (settled there empty rest) ≡ true → is_late (if b then settled there empty rest else step stage frees rest) ≡ true
    by true a = a
    by false a = is
late_settled there empty (step stage (publishes f) rest) is = is
late_settled there empty (step stage (may_publish f) rest) is = is
late_settled there empty (step stage (fetches f) rest) is = absurd (false≢true is)
late_settled there empty (step stage (takes m n) rest) is = absurd (false≢true is)
late_settled there empty (step stage (reads f) rest) is = absurd (false≢true is)
late_settled there empty (step stage (answers g) rest) is = absurd (false≢true is)

-- and its own files behind all else
owns_settled : (installs : Bool) (there : List Bool) (empty : Bool) (s : Script) → owns_late installs s ≡ true → owns_late installs (settled there empty s) ≡ true
owns_settled i there empty whole is = refl
owns_settled i there empty (absent files this that) is =
    let parts = both (owns_late i this) (owns_late i that) is in by (list_all (is_there there) files) (owns_settled i there empty this parts.0) (owns_settled i there empty that parts.1)
  where
    by : (b : Bool) → owns_late i (settled there empty this) ≡ true → owns_late i (settled there empty that) ≡ true → owns_late i (if b then settled there empty that else settled there empty this) ≡ true
    by true a c = c
    by false a c = a
owns_settled i there empty (step stage frees rest) is = by empty (owns_settled i there empty rest is)
  where
    by : (b : Bool) → owns_late i (settled there empty rest) ≡ true → owns_late i (if b then settled there empty rest else step stage frees rest) ≡ true
    by true a = a
    by false a = is
owns_settled i there empty (step stage (fetches f) rest) is = by (is_there there f) (owns_settled i there empty rest is)
  where
    by : (b : Bool) → owns_late i (settled there empty rest) ≡ true → owns_late i (if b then settled there empty rest else step stage (fetches f) rest) ≡ true
    by true a = a
    by false a = is
owns_settled i there empty (step stage (publishes f) rest) is = is
owns_settled i there empty (step stage (may_publish f) rest) is = is
owns_settled i there empty (step stage (takes m n) rest) is = is
owns_settled i there empty (step stage (reads f) rest) is = is
owns_settled i there empty (step stage (answers g) rest) is = is

-- ---- a deed

-- of what is late only publishes and frees are due
abbrev is_late_deed : Deed → Bool
is_late_deed (deed.Publish f) = true
is_late_deed deed.Free = true
is_late_deed other = false

-- a free is a late deed
frees_deed : (d : Deed) → is_wanted frees d ≡ true → is_late_deed d ≡ true
frees_deed deed.Free w = refl
frees_deed (deed.Take m n) w = absurd (false≢true w)
frees_deed (deed.Read f) w = absurd (false≢true w)
frees_deed (deed.Publish f) w = absurd (false≢true w)
frees_deed (deed.Answer g) w = absurd (false≢true w)

-- so is a publish of a further own file
may_deed : (f : ℕ) (d : Deed) → is_wanted (may_publish f) d ≡ true → is_late_deed d ≡ true
may_deed f (deed.Publish g) w = refl
may_deed f deed.Free w = absurd (false≢true w)
may_deed f (deed.Take m n) w = absurd (false≢true w)
may_deed f (deed.Read g) w = absurd (false≢true w)
may_deed f (deed.Answer g) w = absurd (false≢true w)

-- so is one of the first
pub_deed : (f : ℕ) (d : Deed) → is_wanted (publishes f) d ≡ true → is_late_deed d ≡ true
pub_deed f (deed.Publish g) w = refl
pub_deed f deed.Free w = absurd (false≢true w)
pub_deed f (deed.Take m n) w = absurd (false≢true w)
pub_deed f (deed.Read g) w = absurd (false≢true w)
pub_deed f (deed.Answer g) w = absurd (false≢true w)

-- of a late script only late deeds are due, and it stays late
pub late_done : (s : Script) (d : Deed) (rest : Script) → is_late s ≡ true → done s d ≡ Some rest → (is_late rest ≡ true) × (is_late_deed d ≡ true)
late_done whole d rest is e = absurd (nothing_is rest e)
late_done (absent files this that) d rest is e = absurd (nothing_is rest e)
late_done (step stage frees more) d rest is e = let c = chosen (is_wanted frees d) (step stage frees more) rest e in (subst (λ t. is_late t ≡ true) c.1 is, frees_deed d c.0)
late_done (step stage (publishes f) more) d rest is e = let c = chosen (is_wanted (publishes f) d) more rest e in (subst (λ t. is_late t ≡ true) c.1 is, pub_deed f d c.0)
late_done (step stage (may_publish f) more) d rest is e = by (is_wanted (may_publish f) d) refl e (late_done more d rest is)
  where
    by : (b : Bool) → is_wanted (may_publish f) d ≡ b → (if b then Some more else done more d) ≡ Some rest → (done more d ≡ Some rest → (is_late rest ≡ true) × (is_late_deed d ≡ true)) → (is_late rest ≡ true) × (is_late_deed d ≡ true)
    by true w h again = (subst (λ t. is_late t ≡ true) (ap (λ o. unwrap_or o whole) h) is, may_deed f d w)
    by false w h again = again h
late_done (step stage (fetches f) more) d rest is e = absurd (false≢true is)
late_done (step stage (takes m n) more) d rest is e = absurd (false≢true is)
late_done (step stage (reads f) more) d rest is e = absurd (false≢true is)
late_done (step stage (answers g) more) d rest is e = absurd (false≢true is)

-- a deed leaves own files behind all else
owns_done : (i : Bool) (s : Script) (d : Deed) (rest : Script) → owns_late i s ≡ true → done s d ≡ Some rest → owns_late i rest ≡ true
owns_done i whole d rest is e = absurd (nothing_is rest e)
owns_done i (absent files this that) d rest is e = absurd (nothing_is rest e)
owns_done i (step stage (may_publish f) more) d rest is e = let p = both3 i (is_late more) (owns_late i more) is in by (is_wanted (may_publish f) d) e p.2 (owns_done i more d rest p.2)
  where
    by : (b : Bool) → (if b then Some more else done more d) ≡ Some rest → owns_late i more ≡ true → (done more d ≡ Some rest → owns_late i rest ≡ true) → owns_late i rest ≡ true
    by true h here again = subst (λ t. owns_late i t ≡ true) (ap (λ o. unwrap_or o whole) h) here
    by false h here again = again h
owns_done i (step stage (publishes f) more) d rest is e = subst (λ t. owns_late i t ≡ true) (chosen (is_wanted (publishes f) d) more rest e).1 (both3 i (is_late more) (owns_late i more) is).2
owns_done i (step stage frees more) d rest is e = subst (λ t. owns_late i t ≡ true) (chosen (is_wanted frees d) (step stage frees more) rest e).1 is
owns_done i (step stage (fetches f) more) d rest is e = subst (λ t. owns_late i t ≡ true) (chosen (is_wanted (fetches f) d) more rest e).1 is
owns_done i (step stage (takes m n) more) d rest is e = subst (λ t. owns_late i t ≡ true) (chosen (is_wanted (takes m n) d) more rest e).1 is
owns_done i (step stage (reads f) more) d rest is e = subst (λ t. owns_late i t ≡ true) (chosen (is_wanted (reads f) d) more rest e).1 is
owns_done i (step stage (answers g) more) d rest is e = subst (λ t. owns_late i t ≡ true) (chosen (is_wanted (answers g) d) more rest e).1 is

-- a publish that is due and isn't wanted for fetching leaves what is late, of a module that installs
pub own_due : (i : Bool) (s : Script) (f : ℕ) (rest : Script) → owns_late i s ≡ true → (wanted s ≡ Some f → ⊥) → done s (deed.Publish f) ≡ Some rest → (is_late s ≡ true) × (is_late rest ≡ true) × (i ≡ true)
own_due i whole f rest is other e = absurd (nothing_is rest e)
own_due i (absent files this that) f rest is other e = absurd (nothing_is rest e)
own_due i (step stage (publishes g) more) f rest is other e = let p = both3 i (is_late more) (owns_late i more) is in (p.1, subst (λ t. is_late t ≡ true) (chosen (nat_eq f g) more rest e).1 p.1, p.0)
own_due i (step stage (may_publish g) more) f rest is other e = let p = both3 i (is_late more) (owns_late i more) is in (p.1, (late_done (step stage (may_publish g) more) (deed.Publish f) rest p.1 e).0, p.0)
own_due i (step stage (fetches g) more) f rest is other e = absurd (other (ap (λ x. Some x) (sym (eqb-true f g (chosen (nat_eq f g) more rest e).0))))
own_due i (step stage frees more) f rest is other e = absurd (false≢true (chosen (is_wanted frees (deed.Publish f)) (step stage frees more) rest e).0)
own_due i (step stage (takes m n) more) f rest is other e = absurd (false≢true (chosen (is_wanted (takes m n) (deed.Publish f)) more rest e).0)
own_due i (step stage (reads g) more) f rest is other e = absurd (false≢true (chosen (is_wanted (reads g) (deed.Publish f)) more rest e).0)
own_due i (step stage (answers g) more) f rest is other e = absurd (false≢true (chosen (is_wanted (answers g) (deed.Publish f)) more rest e).0)

-- a late script has nothing to fetch
pub late_pending : (s : Script) → is_late s ≡ true → pending s ≡ []
late_pending whole is = refl
late_pending (absent files this that) is = absurd (false≢true is)
late_pending (step stage (publishes f) rest) is = late_pending rest is
late_pending (step stage (may_publish f) rest) is = late_pending rest is
late_pending (step stage frees rest) is = late_pending rest is
late_pending (step stage (fetches f) rest) is = absurd (false≢true is)
late_pending (step stage (takes m n) rest) is = absurd (false≢true is)
late_pending (step stage (reads f) rest) is = absurd (false≢true is)
late_pending (step stage (answers g) rest) is = absurd (false≢true is)

-- nor is anything wanted next
pub late_wants : (s : Script) → is_late s ≡ true → wanted s ≡ None
late_wants whole is = refl
late_wants (absent files this that) is = refl
late_wants (step stage (publishes f) rest) is = refl
late_wants (step stage (may_publish f) rest) is = refl
late_wants (step stage frees rest) is = refl
late_wants (step stage (fetches f) rest) is = absurd (false≢true is)
late_wants (step stage (takes m n) rest) is = refl
late_wants (step stage (reads f) rest) is = refl
late_wants (step stage (answers g) rest) is = refl

-- nor is installing still to begin
pub late_uninstall : (s : Script) → is_late s ≡ true → is_to_install s ≡ false
late_uninstall whole is = refl
late_uninstall (absent files this that) is = refl
late_uninstall (step stage (publishes f) rest) is = refl
late_uninstall (step stage (may_publish f) rest) is = refl
late_uninstall (step stage frees rest) is = refl
late_uninstall (step stage (fetches f) rest) is = refl
late_uninstall (step stage (takes Shared n) rest) is = refl
late_uninstall (step stage (takes Exclusive n) rest) is = absurd (false≢true is)
late_uninstall (step stage (reads f) rest) is = refl
late_uninstall (step stage (answers g) rest) is = refl

-- ---- at the start of a module

-- plain steps before own files
plain_owns : (i : Bool) (rest : Script) (f : ℕ → Step) (stage : ℕ) → ((x : ℕ) (more : Script) → owns_late i (step stage (f x) more) ≡ owns_late i more) → (xs : List ℕ) → owns_late i rest ≡ true → owns_late i (steps stage f xs rest) ≡ true
plain_owns i rest f stage same [] is = is
plain_owns i rest f stage same (x ∷ xs) is = same x (steps stage f xs rest) ∙ plain_owns i rest f stage same xs is

-- further own files are late
may_late : (xs : List ℕ) → is_late (steps 6 may_publish xs (step 6 frees whole)) ≡ true
may_late [] = refl
may_late (x ∷ xs) = may_late xs

-- and behind all else
may_owns : (xs : List ℕ) → owns_late true (steps 6 may_publish xs (step 6 frees whole)) ≡ true
may_owns [] = refl
may_owns (x ∷ xs) = and_is (is_late (steps 6 may_publish xs (step 6 frees whole))) (owns_late true (steps 6 may_publish xs (step 6 frees whole))) (may_late xs) (may_owns xs)

-- so are own files
own_owns : (own : List ℕ) → owns_late true (own_script own) ≡ true
own_owns [] = refl
own_owns (pom ∷ others) = and_is (is_late (steps 6 may_publish others (step 6 frees whole))) (owns_late true (steps 6 may_publish others (step 6 frees whole))) (may_late others) (may_owns others)

-- so they are in installing
install_owns : (m : ModuleOutline) → owns_late m.installs (install_script m) ≡ true
install_owns m = by m.installs
  where
    by : (b : Bool) → owns_late b (if b then step 6 (takes Exclusive m.own_name) (own_script m.own) else whole) ≡ true
    by true = own_owns m.own
    by false = refl

-- and behind reading
read_owns : (m : ModuleOutline) → owns_late m.installs (read_script m) ≡ true
read_owns m = plain_owns m.installs (release_script m) reads 4 (λ x more. refl) m.reads (plain_owns m.installs (install_script m) answers 5 (λ x more. refl) (below m.goals) (install_owns m))

-- and in a module's script
start_owns : (m : ModuleOutline) → owns_late m.installs (script_of m) ≡ true
start_owns m = plain_owns m.installs (choice_script m) (takes Shared) 2 (λ x more. refl) m.batch
    (and_is (owns_late m.installs (lock_script m)) (owns_late m.installs (read_script m))
    (plain_owns m.installs (steps 3 fetches m.fetch (read_script m)) (takes Exclusive) 3 (λ x more. refl) m.batch (plain_owns m.installs (read_script m) fetches 3 (λ x more. refl) m.fetch (read_owns m))) (read_owns m))

-- ---- courses

abbrev pub IsOwnLate : Outline → Course → Type 0
IsOwnLate o idle = Unit {0}
IsOwnLate o (off_course number file gathered) = Unit {0}
IsOwnLate o (on_course number script last) = (m : ModuleOutline) → slice_get o.modules number ≡ Some m → owns_late m.installs script ≡ true

-- so they are behind a deed
deed_owns : (o : Outline) (there : List Bool) (held : List ℕ) (d : Deed) (answered : Option ℕ) (c : Course) → IsOwnLate o c → IsOwnLate o (after_deed there held d answered c)
deed_owns o there held d answered idle is = tt
deed_owns o there held d answered (off_course m file gathered) is = tt
deed_owns o there held d answered (on_course number script last) is = by (done script d) refl
  where
    by : (found : Option Script) → done script d ≡ found → IsOwnLate o (option_map_or (λ rest. on_course number (settled there (is_empty held) rest) answered) found (on_course number script last))
    by None e = is
    by (Some rest) e = λ m at. owns_settled m.installs there (is_empty held) rest (owns_done m.installs script d rest (is m at) e)

-- and behind a free
free_owns : (o : Outline) (there : List Bool) (held : List ℕ) (c : Course) → IsOwnLate o c → IsOwnLate o (after_free o there held c)
free_owns o there held idle is = tt
free_owns o there held (off_course m file gathered) is = tt
free_owns o there held (on_course number script last) is = by (done script deed.Free) refl
  where
    by : (found : Option Script) → done script deed.Free ≡ found → IsOwnLate o (option_map_or (λ rest. on_course number (settled there (is_empty held) rest) None) found (off_course number (wanted script) (is_gathered (goals_of o number) script)))
    by None e = tt
    by (Some rest) e = λ m at. owns_settled m.installs there (is_empty held) rest (owns_done m.installs script deed.Free rest (is m at) e)

-- and in a course that begins
begun_owns : (o : Outline) (there : List Bool) (empty : Bool) (number : ℕ) → IsOwnLate o (on_course number (settled there empty (start_of o number)) None)
begun_owns o there empty number m at = owns_settled m.installs there empty (start_of o number) (subst (λ found. owns_late m.installs (option_map_or script_of found whole) ≡ true) (sym at) (start_owns m))

abbrev pub AreOwnsLate : Outline → Standing → Type 0
AreOwnsLate o now = (w : ℕ) → IsOwnLate o (course_of now w)

-- so in all courses behind each event
pub owns_after : (o : Outline) (now : Standing) (e : Event) → AreOwnsLate o now → AreOwnsLate o (after o now e)
unfolding after
owns_after o now (event.Start w m) is = at_place (IsOwnLate o) now.courses w (on_course m (settled now.there (is_empty (held_by now w)) (start_of o m)) None) idle (begun_owns o now.there (is_empty (held_by now w)) m) is
owns_after o now (event.Skip m) is = is
owns_after o now (event.Take w n mode) is = at_place (IsOwnLate o) now.courses w (after_deed now.there (get_or (set now.held w (held_by now w ++ n ∷ [])) w []) (deed.Take mode n) None (course_of now w)) idle (deed_owns o now.there (get_or (set now.held w (held_by now w ++ n ∷ [])) w []) (deed.Take mode n) None (course_of now w) (is w)) is
owns_after o now (event.Free w n) is = at_place (IsOwnLate o) now.courses w (after_free o now.there (get_or (set now.held w (but n (held_by now w))) w []) (course_of now w)) idle (free_owns o now.there (get_or (set now.held w (but n (held_by now w))) w []) (course_of now w) (is w)) is
owns_after o now (event.Read w f) is = at_place (IsOwnLate o) now.courses w (after_deed now.there (held_by now w) (deed.Read f) None (course_of now w)) idle (deed_owns o now.there (held_by now w) (deed.Read f) None (course_of now w) (is w)) is
owns_after o now (event.Publish w f) is = at_place (IsOwnLate o) now.courses w (after_deed (set now.there f true) (held_by now w) (deed.Publish f) None (course_of now w)) idle (deed_owns o (set now.there f true) (held_by now w) (deed.Publish f) None (course_of now w) (is w)) is
owns_after o now (event.Answer w g) is = at_place (IsOwnLate o) now.courses w (after_deed now.there (held_by now w) (deed.Answer g) (Some g) (course_of now w)) idle (deed_owns o now.there (held_by now w) (deed.Answer g) (Some g) (course_of now w) (is w)) is
owns_after o now (event.End w e) is = at_place (IsOwnLate o) now.courses w idle idle tt is

-- so where nothing has happened
pub owns_first : (o : Outline) → AreOwnsLate o (at_first o)
owns_first o w = subst (IsOwnLate o) (sym (any_idle o.workers w)) tt

-- ---- a module that publishes its own files

abbrev pub IsLate : Course → Type 0
IsLate idle = ⊥
IsLate (on_course number script last) = (is_late script ≡ true) × (last ≡ None)
IsLate (off_course number file gathered) = file ≡ None

abbrev pub is_late_end : Ending → Bool
is_late_end ending.Built = true
is_late_end ending.ClasspathTooLarge = true
is_late_end (ending.Fault device) = true
is_late_end ending.Memory = true
is_late_end other = false

abbrev pub IsLateAt : Standing → ℕ → Type 0
IsLateAt now number = ((w : ℕ) × (progress_of now.progress number ≡ Running w) × IsLate (course_of now w)) ⊎ ((e : Ending) × (progress_of now.progress number ≡ Ended e) × (is_late_end e ≡ true))

-- of a late course only late deeds are due, and it stays late
pub late_deed : (there : List Bool) (held : List ℕ) (d : Deed) (c : Course) → IsLate c → is_due c d ≡ true → (is_late_deed d ≡ true) × IsLate (after_deed there held d None c)
late_deed there held d idle is due = absurd is
late_deed there held d (off_course number file gathered) is due = absurd (false≢true due)
late_deed there held d (on_course number script last) is due = by (done script d) refl due
  where
    by : (found : Option Script) → done script d ≡ found → is_some found ≡ true → (is_late_deed d ≡ true) × IsLate (option_map_or (λ rest. on_course number (settled there (is_empty held) rest) None) found (on_course number script last))
    by None e due = absurd (false≢true due)
    by (Some rest) e due = let left = late_done script d rest is.0 e in (left.1, (late_settled there (is_empty held) rest left.0, refl))

-- a free leaves a course late
late_free : (o : Outline) (there : List Bool) (held : List ℕ) (c : Course) → IsLate c → IsLate (after_free o there held c)
late_free o there held idle is = is
late_free o there held (off_course number file gathered) is = is
late_free o there held (on_course number script last) is = by (done script deed.Free) refl
  where
    by : (found : Option Script) → done script deed.Free ≡ found → IsLate (option_map_or (λ rest. on_course number (settled there (is_empty held) rest) None) found (off_course number (wanted script) (is_gathered (goals_of o number) script)))
    by None e = late_wants script is.0
    by (Some rest) e = (late_settled there (is_empty held) rest (late_done script deed.Free rest is.0 e).0, refl)

-- a late course ends in a late way
late_ends : (o : Outline) (c : Course) (e : Ending) → IsLate c → may_end_so o c e ≡ true → is_late_end e ≡ true
late_ends o idle e is may = absurd is
late_ends o (off_course number file gathered) e is may = by e may
  where
    by : (e : Ending) → off_ends file gathered e ≡ true → is_late_end e ≡ true
    by ending.Built may = refl
    by ending.ClasspathTooLarge may = refl
    by (ending.Fault device) may = refl
    by ending.Memory may = refl
    by (ending.Missing f) may = absurd (false≢true (subst (λ x. is_this x f ≡ true) is may))
    by ending.NoArtifact may = may
    by (ending.Goal i) may = may
    by (ending.OutputTooLarge i) may = may
late_ends o (on_course number script last) e is may = by e may
  where
    by : (e : Ending) → on_ends o number script last e ≡ true → is_late_end e ≡ true
    by ending.Built may = refl
    by ending.ClasspathTooLarge may = refl
    by (ending.Fault device) may = refl
    by ending.Memory may = refl
    by (ending.Missing f) may = absurd (false≢true (subst (λ x. is_this x f ≡ true) (late_wants script is.0) may))
    by ending.NoArtifact may = absurd (false≢true (sym (late_uninstall script is.0) ∙ (both (is_to_install script) (needs_artifact o number) may).0))
    by (ending.Goal i) may = absurd (false≢true (subst (λ x. is_this x i ≡ true) is.1 may))
    by (ending.OutputTooLarge i) may = absurd (false≢true (subst (λ x. is_this x i ≡ true) is.1 may))

abbrev script_in : Course → Script
script_in (on_course number script last) = script
script_in other = whole

abbrev runs_by : Progress → ℕ
runs_by (Running w) = w
runs_by other = 0

-- it stays so
module _ (o : Outline) (now : Standing) (s : IsStanding o now) (number v : ℕ) (run : progress_of now.progress number ≡ Running v) (late : IsLate (course_of now v)) where
  -- who is at the module
  whose : (v < o.workers) × (module_of (course_of now v) ≡ Some number)
  whose = s.tied.running number v run

  -- where a worker's course is changed
  turned : (w : ℕ) (c : Course) → (v ≡ w → IsLate c) → IsLate (get_or (set now.courses w c) v idle)
  turned w c new = by (same_or_not v w)
    where
      by : (v ≡ w) ⊎ ((v ≡ w) → ⊥) → IsLate (get_or (set now.courses w c) v idle)
      by (inl e) = subst (λ k. IsLate (get_or (set now.courses w c) k idle)) (sym e) (subst IsLate (sym (get_or-set_same now.courses w c idle (let low = whose.0 in let rows = s.fit.courses in omega (arith, low, rows, e)))) (new e))
      by (inr other) = subst IsLate (sym (get_or-set_other now.courses w v c idle other)) late

  -- another module's progress leaves it running
  other_progress : (m : ℕ) (p : Progress) → (m ≡ number → ⊥) → progress_of (set now.progress m p) number ≡ Running v
  other_progress m p other = get_or-set_other now.progress m number p Waiting (λ e. other (sym e)) ∙ run

  -- a deed of its worker is late, and leaves it late
  deed_of : (there : List Bool) (w : ℕ) (held : List ℕ) (d : Deed) → is_due (course_of now w) d ≡ true → v ≡ w → (is_late_deed d ≡ true) × IsLate (after_deed there held d None (course_of now w))
  deed_of there w held d due e = late_deed there held d (course_of now w) (subst (λ k. IsLate (course_of now k)) e late) due

  -- no other deed is due for its worker
  not_late : (there : List Bool) (w : ℕ) (d : Deed) → is_late_deed d ≡ false → is_due (course_of now w) d ≡ true → v ≡ w → ⊥
  not_late there w d isnt due e = false≢true (sym isnt ∙ (deed_of there w [] d due e).0)

  -- a module that waits is another
  waiting_other : (m : ℕ) → is_waiting (progress_of now.progress m) ≡ true → m ≡ number → ⊥
  waiting_other m waits e = false≢true (sym (ap is_waiting run) ∙ subst (λ k. is_waiting (progress_of now.progress k) ≡ true) e waits)

  -- so it is late behind each event
  late_runs : (e : Event) → IsEnabled o now e → IsLateAt (after o now e) number
  unfolding after
  late_runs (event.Start w m) is = inl (v, other_progress m (Running w) (waiting_other m is.2), turned w (on_course m (settled now.there (is_empty (held_by now w)) (start_of o m)) None) (λ e. absurd (nothing_is number (sym is.4 ∙ subst (λ k. module_of (course_of now k) ≡ Some number) e whose.1))))
  late_runs (event.Skip m) is = inl (v, other_progress m Skipped (waiting_other m is.1), late)
  late_runs (event.Take w n mode) is = inl (v, run, turned w (after_deed now.there (get_or (set now.held w (held_by now w ++ n ∷ [])) w []) (deed.Take mode n) None (course_of now w)) (λ e. absurd (not_late now.there w (deed.Take mode n) refl is.4 e)))
  late_runs (event.Free w n) is = inl (v, run, turned w (after_free o now.there (get_or (set now.held w (but n (held_by now w))) w []) (course_of now w)) (λ e. late_free o now.there (get_or (set now.held w (but n (held_by now w))) w []) (course_of now w) (subst (λ k. IsLate (course_of now k)) e late)))
  late_runs (event.Read w f) is = inl (v, run, turned w (after_deed now.there (held_by now w) (deed.Read f) None (course_of now w)) (λ e. absurd (not_late now.there w (deed.Read f) refl is.2 e)))
  late_runs (event.Answer w g) is = inl (v, run, turned w (after_deed now.there (held_by now w) (deed.Answer g) (Some g) (course_of now w)) (λ e. absurd (not_late now.there w (deed.Answer g) refl is.2 e)))
  late_runs (event.Publish w f) is = inl (v, run, turned w (after_deed (set now.there f true) (held_by now w) (deed.Publish f) None (course_of now w)) (λ e. (deed_of (set now.there f true) w (held_by now w) (deed.Publish f) is.2 e).1))
  late_runs (event.End w x) is = by (same_or_not v w)
    where
      by : (v ≡ w) ⊎ ((v ≡ w) → ⊥) → IsLateAt (record now { progress = ended (module_of (course_of now w)) x now.progress; courses = set now.courses w idle }) number
      by (inl e) =
          let mine : module_of (course_of now w) ≡ Some number = subst (λ k. module_of (course_of now k) ≡ Some number) e whose.1 in
          inr (
            x,
            ap (λ found. progress_of (ended found x now.progress) number) mine ∙ get_or-set_same now.progress number (Ended x) Waiting (let low = s.tied.real v number whose.1 in let rows = s.fit.modules in omega (arith, low, rows)),
            late_ends o (course_of now w) x (subst (λ k. IsLate (course_of now k)) e late) is.3,
          )
      by (inr other) = inl (v, at (module_of (course_of now w)) refl, subst IsLate (sym (get_or-set_other now.courses w v idle idle other)) late)
        where
          at : (found : Option ℕ) → module_of (course_of now w) ≡ found → progress_of (ended found x now.progress) number ≡ Running v
          at None e = run
          at (Some k) e = other_progress k (Ended x) (λ same. other (ap runs_by (sym run ∙ ap (progress_of now.progress) (sym same) ∙ s.tied.busy w k e)))

-- what is late stays late
pub late_stays : (o : Outline) (now : Standing) (e : Event) → IsStanding o now → IsEnabled o now e → (number : ℕ) → IsLateAt now number → IsLateAt (after o now e) number
late_stays o now e s is number (inl a) = late_runs o now s number a.0 a.1 a.2 e is
late_stays o now e s is number (inr b) = inr (b.0, over_stays o now e s is number (ap is_over b.1) ∙ b.1, b.2)

-- and an own publish begins it
pub late_begins : (o : Outline) (now : Standing) (w f number : ℕ) (m : ModuleOutline) → IsStanding o now → AreOwnsLate o now → IsEnabled o now (event.Publish w f) → module_of (course_of now w) ≡ Some number → slice_get o.modules number ≡ Some m
    → ((script : Script) (last : Option ℕ) → course_of now w ≡ on_course number script last → wanted script ≡ Some f → ⊥)
    → IsLateAt (after o now (event.Publish w f)) number × (m.installs ≡ true) × ((script : Script) (last : Option ℕ) → course_of now w ≡ on_course number script last → is_late script ≡ true)
unfolding after
late_begins o now w f number m s owns is whose at other = by (course_of now w) refl (owns w) whose is.2
  where
    by : (c : Course) → course_of now w ≡ c → IsOwnLate o c → module_of c ≡ Some number → is_due c (deed.Publish f) ≡ true
        → IsLateAt (after_publish now w f) number × (m.installs ≡ true) × ((script : Script) (last : Option ℕ) → course_of now w ≡ on_course number script last → is_late script ≡ true)
    by idle e own mine due = absurd (false≢true due)
    by (off_course n file gathered) e own mine due = absurd (false≢true due)
    by (on_course n script last) e own mine due = at_done (done script (deed.Publish f)) refl due
      where
        same : n ≡ number
        same = ap (λ x. unwrap_or x 0) mine

        at_done : (found : Option Script) → done script (deed.Publish f) ≡ found → is_some found ≡ true → IsLateAt (after_publish now w f) number × (m.installs ≡ true) × ((script : Script) (last : Option ℕ) → course_of now w ≡ on_course number script last → is_late script ≡ true)
        at_done None d some = absurd (false≢true some)
        at_done (Some rest) d some =
            let left = own_due m.installs script f rest (own m (subst (λ k. slice_get o.modules k ≡ Some m) (sym same) at)) (λ w. other script last (e ∙ ap (λ k. on_course k script last) same) w) d in
            let low : w < length now.courses = let rows = s.fit.courses in omega (arith, is.0, rows) in (
              inl (
                w,
                s.tied.busy w number whose,
                subst IsLate (sym (get_or-set_same now.courses w (after_deed (set now.there f true) (held_by now w) (deed.Publish f) None (course_of now w)) idle low
                    ∙ ap (after_deed (set now.there f true) (held_by now w) (deed.Publish f) None) e
                    ∙ ap (λ found. option_map_or (λ rest. on_course n (settled (set now.there f true) (is_empty (held_by now w)) rest) None) found (on_course n script last)) d))
                    (late_settled (set now.there f true) (is_empty (held_by now w)) rest left.1, refl),
              ),
              left.2,
              λ script' last' e'. subst (λ t. is_late t ≡ true) (ap script_in (sym e ∙ e')) left.0,
            )
