-- Files are fetched in order.
use Rattle.std.proofs.Common.{◌≡◌, ℕ, ◌⊎◌, inl, inr, Bool, true, false, nat_eq, nat_lt, List, [], ◌∷◌, ◌++◌, length, get_or, set, Option, Some, None, is_some, unwrap_or, refl, arith, sym, ap, subst, ◌∙◌, if◌then◌else◌}
use Rattle.std.specs.List.{list_all}
use Rattle.std.specs.Option.{option_map_or}
use Rattle.std.proofs.lemmas.Bool.{eqb-true, false≢true}
use Rattle.std.proofs.lemmas.List.{append-nil, append_assoc, get_or-set_same}
use Rattle.build_core.specs.declared.event.Event.{Event}
use Rattle.build_core.specs.declared.event.Event.TheVariants as event
use Rattle.scripts.specs.declared.deed.Deed.{Deed}
use Rattle.scripts.specs.declared.deed.Deed.TheVariants as deed
use Rattle.build_core.specs.declared.mode.Mode.TheVariants.{Shared, Exclusive}
use Rattle.scripts.specs.declared.outline.Outline.{Outline}
use Rattle.scripts.specs.declared.outline.ModuleOutline.{ModuleOutline}
use Rattle.scripts.specs.Climbing.{but}
use Rattle.event_core.specs.Enabled.{IsEnabled}
use Rattle.run_law.proofs.Invariants.{AreCoursesFit, AreGathering, IsCourseFit, IsGathering, IsPassed, IsShaped, is_answering, pending}
use Rattle.build_core.specs.Locks.{below}
use Rattle.scripts.specs.Scripts.{Script, Step, absent, answer_script, answers, choice_script, done, fetches, frees, install_script, is_gathered, is_there, is_wanted, lock_script, may_publish, own_script, publishes, read_script, reads, release_script, answers_left, script_of, settled, stage_of, step, steps, takes, wanted, whole}
use Rattle.event_core.specs.Standing.{Course, Standing, after, after_deed, after_free, at_first, course_of, goals_of, held_by, idle, off_course, on_course, start_of}
use Rattle.scripts.specs.Outlines.{is_empty}
use Rattle.run_law.proofs.Courses.{at_place, there_grows}
use Rattle.run_law.proofs.Once.{both}
use Rattle.event_core.proofs.Ties.{any_idle}
use Rattle.event_core.proofs.Weights.{nothing_is}
use Rattle.run_law.proofs.Basics.{chosen}

-- a list with an item isn't empty
pub not_nil : {X : Type 0} (x : X) (xs : List X) → x ∷ xs ≡ [] → ⊥
not_nil x xs e = false≢true (ap empty e)
  where
    empty : {X : Type 0} → List X → Bool
    empty [] = true
    empty (x ∷ xs) = false

-- what holds of two lists holds of both together
all_join : (p : ℕ → Bool) (xs ys : List ℕ) → list_all p xs ≡ true → list_all p ys ≡ true → list_all p (xs ++ ys) ≡ true
all_join p [] ys a b = b
all_join p (x ∷ xs) ys a b = let parts = both (p x) (list_all p xs) a in rw (parts.0, all_join p xs ys parts.1 b) refl

-- what holds of all goes over to a weaker test
all_grow : (p q : ℕ → Bool) → ((x : ℕ) → p x ≡ true → q x ≡ true) → (xs : List ℕ) → list_all p xs ≡ true → list_all q xs ≡ true
all_grow p q more [] is = refl
all_grow p q more (x ∷ xs) is = let parts = both (p x) (list_all p xs) is in rw (more x parts.0, all_grow p q more xs parts.1) refl

-- ---- settling

-- settling leaves a script's shape
settled_shape : (fetch : List ℕ) (there : List Bool) (empty : Bool) (s : Script) → IsShaped fetch s → IsShaped fetch (settled there empty s)
settled_shape fetch there empty whole is = tt
settled_shape fetch there empty (absent files this that) is = by (list_all (is_there there) files) (settled_shape fetch there empty this is.2) (settled_shape fetch there empty that is.3)
  where
    by : (b : Bool) → IsShaped fetch (settled there empty this) → IsShaped fetch (settled there empty that) → IsShaped fetch (if b then settled there empty that else settled there empty this)
    by true a c = c
    by false a c = a
settled_shape fetch there empty (step stage frees rest) is = by empty (settled_shape fetch there empty rest is.2)
  where
    by : (b : Bool) → IsShaped fetch (settled there empty rest) → IsShaped fetch (if b then settled there empty rest else step stage frees rest)
    by true a = a
    by false a = is
settled_shape fetch there empty (step stage (fetches f) rest) is = by (is_there there f) (settled_shape fetch there empty rest is.2)
  where
    by : (b : Bool) → IsShaped fetch (settled there empty rest) → IsShaped fetch (if b then settled there empty rest else step stage (fetches f) rest)
    by true a = a
    by false a = is
settled_shape fetch there empty (step stage (takes mode name) rest) is = is
settled_shape fetch there empty (step stage (reads f) rest) is = is
settled_shape fetch there empty (step stage (publishes f) rest) is = is
settled_shape fetch there empty (step stage (may_publish f) rest) is = is
settled_shape fetch there empty (step stage (answers g) rest) is = is

-- a file that is there is passed
one_passed : (there : List Bool) (fetch : List ℕ) (f : ℕ) (left : List ℕ) → IsPassed there fetch (f ∷ left) → is_there there f ≡ true → IsPassed there fetch left
one_passed there fetch f left p is = record { passed = p.passed ++ f ∷ []; split = p.split ∙ sym (append_assoc p.passed (f ∷ []) left); here = all_join (is_there there) p.passed (f ∷ []) p.here (rw is refl) }

-- what stands before a settled script's files is there
settled_passed : (fetch : List ℕ) (there : List Bool) (empty : Bool) (s : Script) → IsShaped fetch s → IsPassed there fetch (pending s) → IsPassed there fetch (pending (settled there empty s))
settled_passed fetch there empty whole is p = p
settled_passed fetch there empty (absent files this that) is p = by (list_all (is_there there) files) refl (settled_passed fetch there empty this is.2 p) (settled_passed fetch there empty that is.3)
  where
    by : (b : Bool) → list_all (is_there there) files ≡ b → IsPassed there fetch (pending (settled there empty this)) → (IsPassed there fetch (pending that) → IsPassed there fetch (pending (settled there empty that))) → IsPassed there fetch (pending (if b then settled there empty that else settled there empty this))
    by true e a c = c (record { passed = fetch; split = sym (ap (λ t. fetch ++ t) is.1 ∙ append-nil fetch); here = subst (λ t. list_all (is_there there) t ≡ true) is.0 e })
    by false e a c = a
settled_passed fetch there empty (step stage frees rest) is p = by empty (settled_passed fetch there empty rest is.2 p)
  where
    by : (b : Bool) → IsPassed there fetch (pending (settled there empty rest)) → IsPassed there fetch (pending (if b then settled there empty rest else step stage frees rest))
    by true a = a
    by false a = p
settled_passed fetch there empty (step stage (fetches f) rest) is p = by (is_there there f) refl (settled_passed fetch there empty rest is.2)
  where
    by : (b : Bool) → is_there there f ≡ b → (IsPassed there fetch (pending rest) → IsPassed there fetch (pending (settled there empty rest))) → IsPassed there fetch (pending (if b then settled there empty rest else step stage (fetches f) rest))
    by true e a = a (one_passed there fetch f (pending rest) p e)
    by false e a = p
settled_passed fetch there empty (step stage (takes mode name) rest) is p = p
settled_passed fetch there empty (step stage (reads f) rest) is p = p
settled_passed fetch there empty (step stage (publishes f) rest) is p = p
settled_passed fetch there empty (step stage (may_publish f) rest) is p = p
settled_passed fetch there empty (step stage (answers g) rest) is p = p

-- settling leaves nothing to fetch where there was nothing
settled_none : (fetch : List ℕ) (there : List Bool) (empty : Bool) (s : Script) → IsShaped fetch s → pending s ≡ [] → pending (settled there empty s) ≡ []
settled_none fetch there empty whole is none = none
settled_none fetch there empty (absent files this that) is none = by (list_all (is_there there) files) (settled_none fetch there empty this is.2 none) (settled_none fetch there empty that is.3 is.1)
  where
    by : (b : Bool) → pending (settled there empty this) ≡ [] → pending (settled there empty that) ≡ [] → pending (if b then settled there empty that else settled there empty this) ≡ []
    by true a c = c
    by false a c = a
settled_none fetch there empty (step stage frees rest) is none = by empty (settled_none fetch there empty rest is.2 none)
  where
    by : (b : Bool) → pending (settled there empty rest) ≡ [] → pending (if b then settled there empty rest else step stage frees rest) ≡ []
    by true a = a
    by false a = none
settled_none fetch there empty (step stage (fetches f) rest) is none = absurd (not_nil f (pending rest) none)
settled_none fetch there empty (step stage (takes mode name) rest) is none = none
settled_none fetch there empty (step stage (reads f) rest) is none = none
settled_none fetch there empty (step stage (publishes f) rest) is none = none
settled_none fetch there empty (step stage (may_publish f) rest) is none = none
settled_none fetch there empty (step stage (answers g) rest) is none = none

-- ---- a deed

abbrev pub Leaves : List ℕ → Script → Deed → Script → Type 0
Leaves fetch s d rest = IsShaped fetch rest × ((pending s ≡ pending rest) ⊎ ((f : ℕ) × (d ≡ deed.Publish f) × (pending s ≡ f ∷ pending rest))) × ((g : ℕ) → d ≡ deed.Answer g → pending rest ≡ [])

-- only a goal's step is done by an answer
wanted_answer : (s : Step) (g : ℕ) → is_wanted s (deed.Answer g) ≡ true → is_answering s ≡ true
wanted_answer (answers h) g w = refl
wanted_answer (takes m n) g w = absurd (false≢true w)
wanted_answer frees g w = absurd (false≢true w)
wanted_answer (reads f) g w = absurd (false≢true w)
wanted_answer (fetches f) g w = absurd (false≢true w)
wanted_answer (publishes f) g w = absurd (false≢true w)
wanted_answer (may_publish f) g w = absurd (false≢true w)

-- only a publish of its file does a fetch
wanted_fetch : (f : ℕ) (d : Deed) → is_wanted (fetches f) d ≡ true → d ≡ deed.Publish f
wanted_fetch f (deed.Publish g) w = ap (λ x. deed.Publish x) (eqb-true g f w)
wanted_fetch f (deed.Take m n) w = absurd (false≢true w)
wanted_fetch f deed.Free w = absurd (false≢true w)
wanted_fetch f (deed.Read g) w = absurd (false≢true w)
wanted_fetch f (deed.Answer g) w = absurd (false≢true w)

-- behind an answer nothing is to be fetched
answer_none : (s : Step) (d : Deed) (left : List ℕ) → (is_answering s ≡ true → left ≡ []) → is_wanted s d ≡ true → (g : ℕ) → d ≡ deed.Answer g → left ≡ []
answer_none s d left none w g e = none (wanted_answer s g (subst (λ x. is_wanted s x ≡ true) e w))

-- what a deed leaves to fetch, and its shape
pub done_leaves : (fetch : List ℕ) (s : Script) (d : Deed) (rest : Script) → IsShaped fetch s → done s d ≡ Some rest → Leaves fetch s d rest
done_leaves fetch whole d rest is e = absurd (nothing_is rest e)
done_leaves fetch (absent files this that) d rest is e = absurd (nothing_is rest e)
done_leaves fetch (step stage (may_publish f) more) d rest is e = by (is_wanted (may_publish f) d) refl e (done_leaves fetch more d rest is.2)
  where
    by : (b : Bool) → is_wanted (may_publish f) d ≡ b → (if b then Some more else done more d) ≡ Some rest → (done more d ≡ Some rest → Leaves fetch more d rest) → Leaves fetch (step stage (may_publish f) more) d rest
    by true w h again = subst (Leaves fetch (step stage (may_publish f) more) d) (ap (λ o. unwrap_or o whole) h) (is.2, inl refl, answer_none (may_publish f) d (pending more) is.1 w)
    by false w h again = again h
done_leaves fetch (step stage (takes m n) more) d rest is e = let c = chosen (is_wanted (takes m n) d) more rest e in subst (Leaves fetch (step stage (takes m n) more) d) c.1 (is.2, inl refl, answer_none (takes m n) d (pending more) is.1 c.0)
done_leaves fetch (step stage (reads f) more) d rest is e = let c = chosen (is_wanted (reads f) d) more rest e in subst (Leaves fetch (step stage (reads f) more) d) c.1 (is.2, inl refl, answer_none (reads f) d (pending more) is.1 c.0)
done_leaves fetch (step stage (publishes f) more) d rest is e = let c = chosen (is_wanted (publishes f) d) more rest e in subst (Leaves fetch (step stage (publishes f) more) d) c.1 (is.2, inl refl, answer_none (publishes f) d (pending more) is.1 c.0)
done_leaves fetch (step stage (answers g) more) d rest is e = let c = chosen (is_wanted (answers g) d) more rest e in subst (Leaves fetch (step stage (answers g) more) d) c.1 (is.2, inl refl, answer_none (answers g) d (pending more) is.1 c.0)
done_leaves fetch (step stage frees more) d rest is e = let c = chosen (is_wanted frees d) (step stage frees more) rest e in subst (Leaves fetch (step stage frees more) d) c.1 (is, inl refl, answer_none frees d (pending more) is.1 c.0)
done_leaves fetch (step stage (fetches f) more) d rest is e = let c = chosen (is_wanted (fetches f) d) more rest e in subst (Leaves fetch (step stage (fetches f) more) d) c.1 (is.2, inr (f, wanted_fetch f d c.0, refl), answer_none (fetches f) d (pending more) is.1 c.0)

-- ---- courses

-- what is passed stays so as files come
passed_grow : (there later : List Bool) (fetch left : List ℕ) → ((f : ℕ) → is_there there f ≡ true → is_there later f ≡ true) → IsPassed there fetch left → IsPassed later fetch left
passed_grow there later fetch left more p = record { passed = p.passed; split = p.split; here = all_grow (is_there there) (is_there later) more p.passed p.here }

-- so does what a course has gathered
gather_grow : (o : Outline) (there later : List Bool) → ((f : ℕ) → is_there there f ≡ true → is_there later f ≡ true) → (c : Course) → IsGathering o there c → IsGathering o later c
gather_grow o there later more idle g = tt
gather_grow o there later more (on_course number script last) g = λ m at. let is = g m at in (is.0, passed_grow there later m.fetch (pending script) more is.1, is.2)
gather_grow o there later more (off_course number file gathered) g = λ m at. let is = g m at in
    (λ f e. let w = is.0 f e in record { behind = w.behind; before = passed_grow there later m.fetch (f ∷ w.behind) more w.before; fresh = w.fresh }, λ e. all_grow (is_there there) (is_there later) more m.fetch (is.1 e))

module _ (o : Outline) (there : List Bool) (empty : Bool) (number : ℕ) (script rest : Script) (last answered : Option ℕ) (d : Deed) (e : done script d ≡ Some rest) (g : IsGathering o there (on_course number script last))
    (here : (f : ℕ) → d ≡ deed.Publish f → is_there there f ≡ true) (answers_of : is_some answered ≡ true → (g : ℕ) × (d ≡ deed.Answer g)) where
  -- a course has gathered what is left behind a deed
  gather_left : IsGathering o there (on_course number (settled there empty rest) answered)
  gather_left m at =
      let is = g m at in
      let left = done_leaves m.fetch script d rest is.0 e in
      (settled_shape m.fetch there empty rest left.0, settled_passed m.fetch there empty rest left.0 (by left.1 is.1), λ some. let who = answers_of some in settled_none m.fetch there empty rest left.0 (left.2 who.0 who.1))
    where
      by : ((pending script ≡ pending rest) ⊎ ((f : ℕ) × (d ≡ deed.Publish f) × (pending script ≡ f ∷ pending rest))) → IsPassed there m.fetch (pending script) → IsPassed there m.fetch (pending rest)
      by (inl same) p = subst (IsPassed there m.fetch) same p
      by (inr x) p = one_passed there m.fetch x.0 (pending rest) (subst (IsPassed there m.fetch) x.2 p) (here x.0 x.1)

-- so behind each deed
gather_deed : (o : Outline) (there : List Bool) (held : List ℕ) (d : Deed) (answered : Option ℕ) (c : Course) → ((f : ℕ) → d ≡ deed.Publish f → is_there there f ≡ true) → (is_some answered ≡ true → (g : ℕ) × (d ≡ deed.Answer g)) → IsGathering o there c → IsGathering o there (after_deed there held d answered c)
gather_deed o there held d answered idle here who g = tt
gather_deed o there held d answered (off_course m file gathered) here who g = g
gather_deed o there held d answered (on_course number script last) here who g = by (done script d) refl
  where
    by : (found : Option Script) → done script d ≡ found → IsGathering o there (option_map_or (λ rest. on_course number (settled there (is_empty held) rest) answered) found (on_course number script last))
    by None e = g
    by (Some rest) e = gather_left o there (is_empty held) number script rest last answered d e g here who

-- the file that is to be fetched next is the first of those left
pub wanted_head : (s : Script) (f : ℕ) → wanted s ≡ Some f → (behind : List ℕ) × (pending s ≡ f ∷ behind)
wanted_head whole f w = absurd (nothing_is f w)
wanted_head (absent files this that) f w = absurd (nothing_is f w)
wanted_head (step stage (fetches g) rest) f w = (pending rest, ap (λ x. x ∷ pending rest) (ap (λ o. unwrap_or o 0) w))
wanted_head (step stage frees rest) f w = absurd (nothing_is f w)
wanted_head (step stage (takes m n) rest) f w = absurd (nothing_is f w)
wanted_head (step stage (reads g) rest) f w = absurd (nothing_is f w)
wanted_head (step stage (publishes g) rest) f w = absurd (nothing_is f w)
wanted_head (step stage (may_publish g) rest) f w = absurd (nothing_is f w)
wanted_head (step stage (answers g) rest) f w = absurd (nothing_is f w)

-- behind the third stage nothing is left to fetch
pub late_none : (fetch : List ℕ) (s : Script) → IsShaped fetch s → nat_lt 3 (stage_of s) ≡ true → pending s ≡ []
late_none fetch whole is late = refl
late_none fetch (absent files this that) is late = absurd (false≢true late)
late_none fetch (step stage s rest) is late = is.0 late

-- where nothing is left all files are there
pub all_here : (there : List Bool) (fetch left : List ℕ) → IsPassed there fetch left → left ≡ [] → list_all (is_there there) fetch ≡ true
all_here there fetch left p none = subst (λ t. list_all (is_there there) t ≡ true) (sym (p.split ∙ ap (λ t. p.passed ++ t) none ∙ append-nil p.passed)) p.here

-- a course that is left by a free has gathered what it says
gather_free : (o : Outline) (there : List Bool) (held : List ℕ) (c : Course) → IsCourseFit o c → IsGathering o there c → IsGathering o there (after_free o there held c)
gather_free o there held idle fit g = tt
gather_free o there held (off_course m file gathered) fit g = g
gather_free o there held (on_course number script last) fit g = by (done script deed.Free) refl
  where
    no_publish : (f : ℕ) → deed.Free ≡ deed.Publish f → is_there there f ≡ true
    no_publish f e = absurd (false≢true (ap publishing e))
      where
        publishing : Deed → Bool
        publishing (deed.Publish f) = true
        publishing other = false

    by : (found : Option Script) → done script deed.Free ≡ found → IsGathering o there (option_map_or (λ rest. on_course number (settled there (is_empty held) rest) None) found (off_course number (wanted script) (is_gathered (goals_of o number) script)))
    by None e = λ m at. let is = g m at in (
      λ f w. let head = wanted_head script f w in record { behind = head.0; before = subst (IsPassed there m.fetch) head.1 is.1; fresh = fit.1 f w },
      λ all. all_here there m.fetch (pending script) is.1 (late_none m.fetch script is.0 (both (nat_lt 3 (stage_of script)) (nat_eq (answers_left script) (goals_of o number)) all).0),
    )
    by (Some rest) e = gather_left o there (is_empty held) number script rest last None deed.Free e g no_publish (λ some. absurd (false≢true some))

-- ---- at the start of a module

module _ (fetch : List ℕ) (f : ℕ → Step) (stage : ℕ) (plain : (x : ℕ) (more : Script) → pending (step stage (f x) more) ≡ pending more) (rest : Script) where
  -- plain steps fetch nothing
  plain_pending : (xs : List ℕ) → pending (steps stage f xs rest) ≡ pending rest
  plain_pending [] = refl
  plain_pending (x ∷ xs) = plain x (steps stage f xs rest) ∙ plain_pending xs

  -- and leave the shape
  plain_shape : (nat_lt 3 stage ≡ true → pending rest ≡ []) → ((x : ℕ) → is_answering (f x) ≡ true → pending rest ≡ []) → IsShaped fetch rest → (xs : List ℕ) → IsShaped fetch (steps stage f xs rest)
  plain_shape late answering is [] = is
  plain_shape late answering is (x ∷ xs) = ((λ e. plain x (steps stage f xs rest) ∙ plain_pending xs ∙ late e), (λ e. plain_pending xs ∙ answering x e), plain_shape late answering is xs)

-- the steps of a fetch list are to fetch that list
fetch_pending : (xs : List ℕ) (rest : Script) → pending rest ≡ [] → pending (steps 3 fetches xs rest) ≡ xs
fetch_pending [] rest none = none
fetch_pending (x ∷ xs) rest none = ap (λ t. x ∷ t) (fetch_pending xs rest none)

-- and have the shape
fetch_shape : (fetch xs : List ℕ) (rest : Script) → IsShaped fetch rest → IsShaped fetch (steps 3 fetches xs rest)
fetch_shape fetch [] rest is = is
fetch_shape fetch (x ∷ xs) rest is = ((λ e. absurd (false≢true e)), (λ e. absurd (false≢true e)), fetch_shape fetch xs rest is)

module _ (m : ModuleOutline) where
  -- a test isn't false and true
  no : {A : Type 0} → false ≡ true → A
  no e = absurd (false≢true e)

  -- further own files fetch nothing
  may_tail : (xs : List ℕ) → IsShaped m.fetch (steps 6 may_publish xs (step 6 frees whole)) × (pending (steps 6 may_publish xs (step 6 frees whole)) ≡ [])
  may_tail xs = (plain_shape m.fetch may_publish 6 (λ x more. refl) (step 6 frees whole) (λ e. refl) (λ x e. refl) ((λ e. refl), (λ e. refl), tt) xs, plain_pending m.fetch may_publish 6 (λ x more. refl) (step 6 frees whole) xs)

  -- nor do own files
  own_tail : (own : List ℕ) → IsShaped m.fetch (own_script own) × (pending (own_script own) ≡ [])
  own_tail [] = (((λ e. refl), (λ e. refl), tt), refl)
  own_tail (pom ∷ others) = let t = may_tail others in (((λ e. t.1), (λ e. t.1), t.0), t.1)

  -- nor does installing
  install_tail : IsShaped m.fetch (install_script m) × (pending (install_script m) ≡ [])
  install_tail = by m.installs
    where
      by : (b : Bool) → IsShaped m.fetch (if b then step 6 (takes Exclusive m.own_name) (own_script m.own) else whole) × (pending (if b then step 6 (takes Exclusive m.own_name) (own_script m.own) else whole) ≡ [])
      by true = let t = own_tail m.own in (((λ e. t.1), (λ e. t.1), t.0), t.1)
      by false = (tt, refl)

  -- nor do goals
  answer_tail : IsShaped m.fetch (answer_script m) × (pending (answer_script m) ≡ [])
  answer_tail = let t = install_tail in (plain_shape m.fetch answers 5 (λ x more. refl) (install_script m) (λ e. t.1) (λ x e. t.1) t.0 (below m.goals), plain_pending m.fetch answers 5 (λ x more. refl) (install_script m) (below m.goals) ∙ t.1)

  -- nor does reading
  read_tail : IsShaped m.fetch (read_script m) × (pending (read_script m) ≡ [])
  read_tail = let t = answer_tail in (plain_shape m.fetch reads 4 (λ x more. refl) (release_script m) (λ e. t.1) (λ x e. t.1) ((λ e. t.1), (λ e. t.1), t.0) m.reads, plain_pending m.fetch reads 4 (λ x more. refl) (release_script m) m.reads ∙ t.1)

  -- behind the locks the whole list is to be fetched
  lock_tail : IsShaped m.fetch (lock_script m) × (pending (lock_script m) ≡ m.fetch)
  lock_tail = let t = read_tail in (plain_shape m.fetch (takes Exclusive) 3 (λ x more. refl) (steps 3 fetches m.fetch (read_script m)) (λ e. no e) (λ x e. no e) (fetch_shape m.fetch m.fetch (read_script m) t.0) m.batch, plain_pending m.fetch (takes Exclusive) 3 (λ x more. refl) (steps 3 fetches m.fetch (read_script m)) m.batch ∙ fetch_pending m.fetch (read_script m) t.1)

  -- so it is where files may be there already
  choice_tail : IsShaped m.fetch (choice_script m) × (pending (choice_script m) ≡ m.fetch)
  choice_tail = let t = lock_tail in let r = read_tail in ((refl, r.1, ((λ e. no e), (λ e. no e), t.0), r.0), t.1)

  -- so it is in a module's script
  pub start_tail : IsShaped m.fetch (script_of m) × (pending (script_of m) ≡ m.fetch)
  start_tail = let t = choice_tail in (plain_shape m.fetch (takes Shared) 2 (λ x more. refl) (choice_script m) (λ e. no e) (λ x e. no e) t.0 m.batch, plain_pending m.fetch (takes Shared) 2 (λ x more. refl) (choice_script m) m.batch ∙ t.1)

-- a course that begins has gathered what is there
gather_begun : (o : Outline) (there : List Bool) (empty : Bool) (number : ℕ) → IsGathering o there (on_course number (settled there empty (start_of o number)) None)
gather_begun o there empty number m at = subst (λ found. IsShaped m.fetch (settled there empty (option_map_or script_of found whole)) × IsPassed there m.fetch (pending (settled there empty (option_map_or script_of found whole))) × (is_some {T = ℕ} None ≡ true → pending (settled there empty (option_map_or script_of found whole)) ≡ [])) (sym at) (
  settled_shape m.fetch there empty (script_of m) (start_tail m).0,
  settled_passed m.fetch there empty (script_of m) (start_tail m).0 (record { passed = []; split = sym (start_tail m).1; here = refl }),
  λ e. absurd (false≢true e),
)

-- ---- one event more

abbrev not_that : (d : Deed) → Bool
not_that (deed.Publish f) = true
not_that other = false

-- a deed that is no publish brings no file
no_file : (there : List Bool) (d : Deed) → not_that d ≡ false → (f : ℕ) → d ≡ deed.Publish f → is_there there f ≡ true
no_file there d isnt f e = absurd (false≢true (sym isnt ∙ ap not_that e))

-- all courses have gathered behind each event
pub gathering_after : (o : Outline) (now : Standing) (e : Event) → AreCoursesFit o now → AreGathering o now → IsEnabled o now e → length now.there ≡ length o.present → AreGathering o (after o now e)
unfolding after
gathering_after o now (event.Start w m) fit g is sized = at_place (IsGathering o now.there) now.courses w (on_course m (settled now.there (is_empty (held_by now w)) (start_of o m)) None) idle (gather_begun o now.there (is_empty (held_by now w)) m) g
gathering_after o now (event.Skip m) fit g is sized = g
gathering_after o now (event.Take w n mode) fit g is sized =
    at_place (IsGathering o now.there) now.courses w (after_deed now.there (get_or (set now.held w (held_by now w ++ n ∷ [])) w []) (deed.Take mode n) None (course_of now w)) idle
    (gather_deed o now.there (get_or (set now.held w (held_by now w ++ n ∷ [])) w []) (deed.Take mode n) None (course_of now w) (no_file now.there (deed.Take mode n) refl) (λ e. absurd (false≢true e)) (g w)) g
gathering_after o now (event.Free w n) fit g is sized =
    at_place (IsGathering o now.there) now.courses w (after_free o now.there (get_or (set now.held w (but n (held_by now w))) w []) (course_of now w)) idle
    (gather_free o now.there (get_or (set now.held w (but n (held_by now w))) w []) (course_of now w) (fit.courses w) (g w)) g
gathering_after o now (event.Read w f) fit g is sized =
    at_place (IsGathering o now.there) now.courses w (after_deed now.there (held_by now w) (deed.Read f) None (course_of now w)) idle
    (gather_deed o now.there (held_by now w) (deed.Read f) None (course_of now w) (no_file now.there (deed.Read f) refl) (λ e. absurd (false≢true e)) (g w)) g
gathering_after o now (event.Answer w a) fit g is sized =
    at_place (IsGathering o now.there) now.courses w (after_deed now.there (held_by now w) (deed.Answer a) (Some a) (course_of now w)) idle
    (gather_deed o now.there (held_by now w) (deed.Answer a) (Some a) (course_of now w) (no_file now.there (deed.Answer a) refl) (λ e. (a, refl)) (g w)) g
gathering_after o now (event.End w e) fit g is sized = at_place (IsGathering o now.there) now.courses w idle idle tt g
gathering_after o now (event.Publish w f) fit g is sized =
    at_place (IsGathering o (set now.there f true)) now.courses w (after_deed (set now.there f true) (held_by now w) (deed.Publish f) None (course_of now w)) idle
    (gather_deed o (set now.there f true) (held_by now w) (deed.Publish f) None (course_of now w) (λ x e. subst (λ k. is_there (set now.there f true) k ≡ true) (same x e) (get_or-set_same now.there f true false (omega (arith, is.1, sized)))) (λ e. absurd (false≢true e)) (grown w)) grown
  where
    grown : (v : ℕ) → IsGathering o (set now.there f true) (course_of now v)
    grown v = gather_grow o now.there (set now.there f true) (there_grows now.there f) (course_of now v) (g v)

    file_in : Deed → ℕ
    file_in (deed.Publish x) = x
    file_in other = 0

    same : (x : ℕ) → deed.Publish f ≡ deed.Publish x → f ≡ x
    same x e = ap file_in e

-- they have where nothing has happened
pub gathering_first : (o : Outline) → AreGathering o (at_first o)
gathering_first o w = subst (IsGathering o o.present) (sym (any_idle o.workers w)) tt
