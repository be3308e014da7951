-- Who is to fetch a file holds its module's batch alone.
use Rattle.std.proofs.Common.{◌≡◌, ℕ, ◌<◌, ◌⊎◌, inl, inr, Bool, true, false, ◌||◌, nat_eq, nat_lt, List, [], ◌∷◌, ◌++◌, get_or, set, slice_get, Option, Some, None, is_some, unwrap_or, refl, arith, sym, ap, subst, ◌∙◌, if◌then◌else◌}
use Rattle.std.specs.List.{list_all}
use Rattle.std.specs.Option.{option_map_or}
use Rattle.std.proofs.lemmas.Bool.{eqb-true, false≢true}
use Rattle.std.proofs.lemmas.List.{get_or-set_other, get_or-set_same}
use Rattle.scripts.specs.declared.deed.Deed.{Deed}
use Rattle.scripts.specs.declared.deed.Deed.TheVariants as deed
use Rattle.build_core.specs.declared.event.Event.{Event}
use Rattle.build_core.specs.declared.event.Event.TheVariants as event
use Rattle.build_core.specs.declared.mode.Mode.{Mode}
use Rattle.build_core.specs.declared.mode.Mode.TheVariants.{Shared, Exclusive}
use Rattle.scripts.specs.declared.outline.Outline.{Outline}
use Rattle.scripts.specs.declared.outline.ModuleOutline.{ModuleOutline}
use Rattle.scripts.specs.Climbing.{but}
use Rattle.event_core.specs.Enabled.{IsEnabled, IsRun, is_due}
use Rattle.build_core.specs.Locks.{Holds, below, hold, with_hold}
use Rattle.scripts.specs.Outlines.{is_empty, is_listed}
use Rattle.scripts.specs.Scripts.{Script, Step, absent, answers, choice_script, done, fetches, frees, install_script, is_there, is_gathered, is_wanted, may_publish, own_script, publishes, read_script, reads, release_script, script_of, settled, step, steps, takes, wanted, whole}
use Rattle.event_core.specs.Standing.{Course, Standing, after, after_deed, after_free, at_first, course_of, goals_of, held_by, idle, off_course, on_course, standing_of, start_of}
use Rattle.run_law.proofs.Complete.{IsStanding, by_events, standing_after, standing_first}
use Rattle.event_core.proofs.Fits.{same_or_not}
use Rattle.run_law.proofs.Once.{listed_first, listed_later}
use Rattle.run_law.proofs.Ended.{lt_is}
use Rattle.run_law.proofs.Ready.{all_listed}
use Rattle.event_core.proofs.Ties.{any_idle, rows_other, rows_same}
use Rattle.event_core.proofs.Weights.{nothing_is}
use Rattle.run_law.proofs.Basics.{chosen}

-- a script fetches only where all names of the batch are held alone: those that are, and those that it takes so, until it frees
abbrev pub Guards : (batch taken : List ℕ) → Script → Type 0
Guards batch taken whole = Unit {0}
Guards batch taken (absent files this that) = Guards batch taken this × Guards batch taken that
Guards batch taken (step stage (takes Exclusive n) rest) = Guards batch (n ∷ taken) rest
Guards batch taken (step stage (takes Shared n) rest) = Guards batch taken rest
Guards batch taken (step stage frees rest) = Guards batch [] rest
Guards batch taken (step stage (fetches f) rest) = ((n : ℕ) → is_listed n batch ≡ true → is_listed n taken ≡ true) × Guards batch taken rest
Guards batch taken (step stage (reads f) rest) = Guards batch taken rest
Guards batch taken (step stage (publishes f) rest) = Guards batch taken rest
Guards batch taken (step stage (may_publish f) rest) = Guards batch taken rest
Guards batch taken (step stage (answers g) rest) = Guards batch taken rest

-- ---- settling

abbrev IsPart : List ℕ → List ℕ → Type 0
IsPart t taken = (n : ℕ) → is_listed n t ≡ true → is_listed n taken ≡ true

abbrev Settles : (batch taken : List ℕ) → Script → Type 0
Settles batch taken s = (t : List ℕ) × IsPart t taken × Guards batch t s

-- settling a script leaves its guards
settled_guards : (batch taken : List ℕ) (there : List Bool) (empty : Bool) (s : Script) → Guards batch taken s → Settles batch taken (settled there empty s)
settled_guards batch taken there empty whole g = (taken, λ n l. l, g)
settled_guards batch taken there empty (absent files this that) g = by (list_all (is_there there) files) (settled_guards batch taken there empty this g.0) (settled_guards batch taken there empty that g.1)
  where
    by : (b : Bool) → Settles batch taken (settled there empty this) → Settles batch taken (settled there empty that) → Settles batch taken (if b then settled there empty that else settled there empty this)
    by true a c = c
    by false a c = a
settled_guards batch taken there empty (step stage frees rest) g = by empty (settled_guards batch [] there empty rest g)
  where
    by : (b : Bool) → Settles batch [] (settled there empty rest) → Settles batch taken (if b then settled there empty rest else step stage frees rest)
    by true a = (a.0, λ n l. absurd (false≢true (a.1 n l)), a.2)
    by false a = (taken, λ n l. l, g)
settled_guards batch taken there empty (step stage (fetches f) rest) g = by (is_there there f) (settled_guards batch taken there empty rest g.1)
  where
    by : (b : Bool) → Settles batch taken (settled there empty rest) → Settles batch taken (if b then settled there empty rest else step stage (fetches f) rest)
    by true a = a
    by false a = (taken, λ n l. l, g)
settled_guards batch taken there empty (step stage (takes mode n) rest) g = (taken, λ n l. l, g)
settled_guards batch taken there empty (step stage (reads f) rest) g = (taken, λ n l. l, g)
settled_guards batch taken there empty (step stage (publishes f) rest) g = (taken, λ n l. l, g)
settled_guards batch taken there empty (step stage (may_publish f) rest) g = (taken, λ n l. l, g)
settled_guards batch taken there empty (step stage (answers h) rest) g = (taken, λ n l. l, g)

-- ---- a deed

abbrev more_by : Deed → List ℕ → List ℕ
more_by (deed.Take Exclusive n) taken = n ∷ taken
more_by (deed.Take Shared n) taken = taken
more_by deed.Free taken = []
more_by (deed.Read f) taken = taken
more_by (deed.Publish f) taken = taken
more_by (deed.Answer g) taken = taken

abbrev is_plain : Step → Bool
is_plain (takes mode n) = false
is_plain frees = false
is_plain other = true

-- a deed of a plain step takes no name
same_taken : (s : Step) (d : Deed) (taken : List ℕ) → is_plain s ≡ true → is_wanted s d ≡ true → more_by d taken ≡ taken
same_taken s (deed.Read f) taken p w = refl
same_taken s (deed.Publish f) taken p w = refl
same_taken s (deed.Answer g) taken p w = refl
same_taken (takes mode n) d taken p w = absurd (false≢true p)
same_taken frees d taken p w = absurd (false≢true p)
same_taken (reads f) (deed.Take m n) taken p w = absurd (false≢true w)
same_taken (reads f) deed.Free taken p w = absurd (false≢true w)
same_taken (fetches f) (deed.Take m n) taken p w = absurd (false≢true w)
same_taken (fetches f) deed.Free taken p w = absurd (false≢true w)
same_taken (publishes f) (deed.Take m n) taken p w = absurd (false≢true w)
same_taken (publishes f) deed.Free taken p w = absurd (false≢true w)
same_taken (may_publish f) (deed.Take m n) taken p w = absurd (false≢true w)
same_taken (may_publish f) deed.Free taken p w = absurd (false≢true w)
same_taken (answers g) (deed.Take m n) taken p w = absurd (false≢true w)
same_taken (answers g) deed.Free taken p w = absurd (false≢true w)

-- a name that is taken alone is one more
alone_wanted : (batch taken : List ℕ) (n : ℕ) (more : Script) (d : Deed) → is_wanted (takes Exclusive n) d ≡ true → Guards batch (n ∷ taken) more → Guards batch (more_by d taken) more
alone_wanted batch taken n more (deed.Take Exclusive k) w g = subst (λ x. Guards batch (x ∷ taken) more) (sym (eqb-true k n w)) g
alone_wanted batch taken n more (deed.Take Shared k) w g = absurd (false≢true w)
alone_wanted batch taken n more deed.Free w g = absurd (false≢true w)
alone_wanted batch taken n more (deed.Read f) w g = absurd (false≢true w)
alone_wanted batch taken n more (deed.Publish f) w g = absurd (false≢true w)
alone_wanted batch taken n more (deed.Answer h) w g = absurd (false≢true w)

-- one that is taken with others is not
shared_wanted : (batch taken : List ℕ) (n : ℕ) (more : Script) (d : Deed) → is_wanted (takes Shared n) d ≡ true → Guards batch taken more → Guards batch (more_by d taken) more
shared_wanted batch taken n more (deed.Take Shared k) w g = g
shared_wanted batch taken n more (deed.Take Exclusive k) w g = absurd (false≢true w)
shared_wanted batch taken n more deed.Free w g = absurd (false≢true w)
shared_wanted batch taken n more (deed.Read f) w g = absurd (false≢true w)
shared_wanted batch taken n more (deed.Publish f) w g = absurd (false≢true w)
shared_wanted batch taken n more (deed.Answer h) w g = absurd (false≢true w)

-- behind a free nothing is held
free_wanted : (batch taken : List ℕ) (more : Script) (d : Deed) → is_wanted frees d ≡ true → Guards batch [] more → Guards batch (more_by d taken) more
free_wanted batch taken more deed.Free w g = g
free_wanted batch taken more (deed.Take m n) w g = absurd (false≢true w)
free_wanted batch taken more (deed.Read f) w g = absurd (false≢true w)
free_wanted batch taken more (deed.Publish f) w g = absurd (false≢true w)
free_wanted batch taken more (deed.Answer h) w g = absurd (false≢true w)

-- a plain step leaves what is taken
plain_wanted : (batch taken : List ℕ) (s : Step) (more rest : Script) (d : Deed) → is_plain s ≡ true → (if is_wanted s d then Some more else None) ≡ Some rest → Guards batch taken more → Guards batch (more_by d taken) rest
plain_wanted batch taken s more rest d p e g = let c = chosen (is_wanted s d) more rest e in subst (λ t. Guards batch t rest) (sym (same_taken s d taken p c.0)) (subst (Guards batch taken) c.1 g)

-- a deed leaves the guards of what is left
done_guards : (batch taken : List ℕ) (s : Script) (d : Deed) (rest : Script) → Guards batch taken s → done s d ≡ Some rest → Guards batch (more_by d taken) rest
done_guards batch taken whole d rest g e = absurd (nothing_is rest e)
done_guards batch taken (absent files this that) d rest g e = absurd (nothing_is rest e)
done_guards batch taken (step stage (may_publish f) more) d rest g e = by (is_wanted (may_publish f) d) refl e (done_guards batch taken more d rest g)
  where
    by : (b : Bool) → is_wanted (may_publish f) d ≡ b → (if b then Some more else done more d) ≡ Some rest → (done more d ≡ Some rest → Guards batch (more_by d taken) rest) → Guards batch (more_by d taken) rest
    by true w h again = subst (λ t. Guards batch t rest) (sym (same_taken (may_publish f) d taken refl w)) (subst (Guards batch taken) (ap (λ o. unwrap_or o whole) h) g)
    by false w h again = again h
done_guards batch taken (step stage (takes Exclusive n) more) d rest g e = let c = chosen (is_wanted (takes Exclusive n) d) more rest e in subst (Guards batch (more_by d taken)) c.1 (alone_wanted batch taken n more d c.0 g)
done_guards batch taken (step stage (takes Shared n) more) d rest g e = let c = chosen (is_wanted (takes Shared n) d) more rest e in subst (Guards batch (more_by d taken)) c.1 (shared_wanted batch taken n more d c.0 g)
done_guards batch taken (step stage frees more) d rest g e = let c = chosen (is_wanted frees d) (step stage frees more) rest e in subst (Guards batch (more_by d taken)) c.1 (free_wanted batch taken (step stage frees more) d c.0 g)
done_guards batch taken (step stage (fetches f) more) d rest g e = plain_wanted batch taken (fetches f) more rest d refl e g.1
done_guards batch taken (step stage (reads f) more) d rest g e = plain_wanted batch taken (reads f) more rest d refl e g
done_guards batch taken (step stage (publishes f) more) d rest g e = plain_wanted batch taken (publishes f) more rest d refl e g
done_guards batch taken (step stage (answers h) more) d rest g e = plain_wanted batch taken (answers h) more rest d refl e g

-- ---- at the start

module _ (batch : List ℕ) where
  -- plain steps before a guarded script are guarded
  plain_guards : (stage : ℕ) (f : ℕ → Step) (rest : Script) (taken : List ℕ) → ((x : ℕ) (more : Script) → Guards batch taken more → Guards batch taken (step stage (f x) more)) → (xs : List ℕ) → Guards batch taken rest → Guards batch taken (steps stage f xs rest)
  plain_guards stage f rest taken same [] g = g
  plain_guards stage f rest taken same (x ∷ xs) g = same x (steps stage f xs rest) (plain_guards stage f rest taken same xs g)

  -- taking the rest of the batch alone guards what follows
  alone_guards : (xs taken : List ℕ) (rest : Script) → ((t : List ℕ) → IsPart taken t → IsPart xs t → Guards batch t rest) → Guards batch taken (steps 3 (takes Exclusive) xs rest)
  alone_guards [] taken rest next = next taken (λ n l. l) (λ n l. absurd (false≢true l))
  alone_guards (x ∷ xs) taken rest next = alone_guards xs (x ∷ taken) rest (λ t a b. next t (λ n l. a n (listed_later x n taken l)) (λ n l. by t a b n (nat_eq x n) refl l))
    where
      by : (t : List ℕ) → IsPart (x ∷ taken) t → IsPart xs t → (n : ℕ) (b : Bool) → nat_eq x n ≡ b → (b || is_listed n xs) ≡ true → is_listed n t ≡ true
      by t a b n true e l = subst (λ k. is_listed k t ≡ true) (eqb-true x n e) (a x (listed_first x taken))
      by t a b n false e l = b n l

  -- what a module is installed as fetches nothing, so it is guarded
  own_guards : (taken own : List ℕ) → Guards batch taken (own_script own)
  own_guards taken [] = tt
  own_guards taken (pom ∷ others) = plain_guards 6 may_publish (step 6 frees whole) taken (λ x more g. g) others tt

  -- so is installing
  install_guards : (taken : List ℕ) (m : ModuleOutline) → Guards batch taken (install_script m)
  install_guards taken m = by m.installs
    where
      by : (b : Bool) → Guards batch taken (if b then step 6 (takes Exclusive m.own_name) (own_script m.own) else whole)
      by true = own_guards (m.own_name ∷ taken) m.own
      by false = tt

  -- so is reading
  read_guards : (taken : List ℕ) (m : ModuleOutline) → Guards batch taken (read_script m)
  read_guards taken m = plain_guards 4 reads (release_script m) taken (λ x more g. g) m.reads (plain_guards 5 answers (install_script m) [] (λ x more g. g) (below m.goals) (install_guards [] m))

-- so is a module's whole script, with nothing taken
start_guards : (m : ModuleOutline) → Guards m.batch [] (script_of m)
start_guards m =
    plain_guards m.batch 2 (takes Shared) (choice_script m) [] (λ x more g. g) m.batch (
      alone_guards m.batch m.batch [] (steps 3 fetches m.fetch (read_script m)) (λ t a b. plain_guards m.batch 3 fetches (read_script m) t (λ x more g. (b, g)) m.fetch (read_guards m.batch t m)),
      read_guards m.batch [] m,
    )

-- ---- courses

abbrev AreAlone : Holds → ℕ → List ℕ → Type 0
AreAlone locks w taken = (n : ℕ) → is_listed n taken ≡ true → hold locks n w ≡ Some Exclusive

pub record IsGuarded (locks : Holds) (w : ℕ) (batch : List ℕ) (script : Script) : Type 0 where
  pub taken : List ℕ
  pub guards : Guards batch taken script
  pub alone : AreAlone locks w taken

abbrev pub IsCourseGuarded : Outline → Holds → ℕ → Course → Type 0
IsCourseGuarded o locks w idle = Unit {0}
IsCourseGuarded o locks w (off_course number file gathered) = Unit {0}
IsCourseGuarded o locks w (on_course number script last) = (m : ModuleOutline) → slice_get o.modules number ≡ Some m → IsGuarded locks w m.batch script

abbrev pub AreGuarded : Outline → Standing → Type 0
AreGuarded o now = (w : ℕ) → IsCourseGuarded o now.locks w (course_of now w)

-- a worker's guards depend on its own holds alone
guard_moved : (o : Outline) (locks later : Holds) (w : ℕ) → ((n : ℕ) → hold later n w ≡ hold locks n w) → (c : Course) → IsCourseGuarded o locks w c → IsCourseGuarded o later w c
guard_moved o locks later w same idle g = tt
guard_moved o locks later w same (off_course number file gathered) g = tt
guard_moved o locks later w same (on_course number script last) g = λ m at. let is = g m at in record { taken = is.taken; guards = is.guards; alone = λ n l. same n ∙ is.alone n l }

-- settled, with what is held then
settle : (locks : Holds) (w : ℕ) (batch taken : List ℕ) (there : List Bool) (empty : Bool) (rest : Script) → Guards batch taken rest → AreAlone locks w taken → IsGuarded locks w batch (settled there empty rest)
settle locks w batch taken there empty rest g alone = let s = settled_guards batch taken there empty rest g in record { taken = s.0; guards = s.2; alone = λ n l. alone n (s.1 n l) }

-- a course stays guarded behind a deed
guard_deed : (o : Outline) (locks later : Holds) (w : ℕ) (there : List Bool) (held : List ℕ) (d : Deed) (answered : Option ℕ) (c : Course) → is_due c d ≡ true → ((taken : List ℕ) → AreAlone locks w taken → AreAlone later w (more_by d taken))
    → IsCourseGuarded o locks w c → IsCourseGuarded o later w (after_deed there held d answered c)
guard_deed o locks later w there held d answered idle due alone g = tt
guard_deed o locks later w there held d answered (off_course number file gathered) due alone g = tt
guard_deed o locks later w there held d answered (on_course number script last) due alone g = by (done script d) refl due
  where
    by : (found : Option Script) → done script d ≡ found → is_some found ≡ true → IsCourseGuarded o later w (option_map_or (λ rest. on_course number (settled there (is_empty held) rest) answered) found (on_course number script last))
    by None e some = absurd (false≢true some)
    by (Some rest) e some = λ m at. let is = g m at in settle later w m.batch (more_by d is.taken) there (is_empty held) rest (done_guards m.batch is.taken script d rest is.guards e) (alone is.taken is.alone)

-- and behind a free
guard_free : (o : Outline) (locks later : Holds) (w : ℕ) (there : List Bool) (held : List ℕ) (c : Course) → IsCourseGuarded o locks w c → IsCourseGuarded o later w (after_free o there held c)
guard_free o locks later w there held idle g = tt
guard_free o locks later w there held (off_course number file gathered) g = tt
guard_free o locks later w there held (on_course number script last) g = by (done script deed.Free) refl
  where
    by : (found : Option Script) → done script deed.Free ≡ found → IsCourseGuarded o later w (option_map_or (λ rest. on_course number (settled there (is_empty held) rest) None) found (off_course number (wanted script) (is_gathered (goals_of o number) script)))
    by None e = tt
    by (Some rest) e = λ m at. let is = g m at in settle later w m.batch [] there (is_empty held) rest (done_guards m.batch is.taken script deed.Free rest is.guards e) (λ n l. absurd (false≢true l))

-- a course that begins is guarded
guard_start : (o : Outline) (locks : Holds) (w : ℕ) (there : List Bool) (held : List ℕ) (number : ℕ) → IsCourseGuarded o locks w (on_course number (settled there (is_empty held) (start_of o number)) None)
guard_start o locks w there held number = λ m at. settle locks w m.batch [] there (is_empty held) (start_of o number) (subst (λ found. Guards m.batch [] (option_map_or script_of found whole)) (sym at) (start_guards m)) (λ n l. absurd (false≢true l))

module _ (o : Outline) (now : Standing) (s : IsStanding o now) (old : AreGuarded o now) (w : ℕ) (low : w < o.workers) where
  -- where one worker turns, the others' guards stay
  turned : (later : Holds) (course : Course) → ((v : ℕ) → (v ≡ w → ⊥) → (n : ℕ) → hold later n v ≡ hold now.locks n v) → IsCourseGuarded o later w course → (v : ℕ) → IsCourseGuarded o later v (get_or (set now.courses w course) v idle)
  turned later course same new v = by (same_or_not v w)
    where
      by : (v ≡ w) ⊎ ((v ≡ w) → ⊥) → IsCourseGuarded o later v (get_or (set now.courses w course) v idle)
      by (inl e) = subst (λ u. IsCourseGuarded o later u (get_or (set now.courses w course) u idle)) (sym e) (subst (IsCourseGuarded o later w) (sym (get_or-set_same now.courses w course idle (omega (arith, low, s.fit.courses)))) new)
      by (inr other) = subst (IsCourseGuarded o later v) (sym (get_or-set_other now.courses w v course idle other)) (guard_moved o now.locks later v (same v other) (course_of now v) (old v))

  -- a change of one hold leaves the others
  others : (n : ℕ) (x : Option Mode) (v : ℕ) → (v ≡ w → ⊥) → (k : ℕ) → hold (with_hold now.locks n w x) k v ≡ hold now.locks k v
  others n x v other k = rows_other now.locks.2 n w k v x (λ a b. other b)

  -- a name that is taken is above those that are held
  above : (n k : ℕ) → list_all (λ h. nat_lt h n) (held_by now w) ≡ true → is_some (hold now.locks k w) ≡ true → k ≡ n → ⊥
  above n k all some same = let less = lt_is k n (all_listed (λ h. nat_lt h n) (held_by now w) all k (s.fit.listed w k low some)) in omega (arith, less, same)

  -- what is held alone stays so behind a take
  taken_alone : (n : ℕ) (mode : Mode) → n < o.names → list_all (λ h. nat_lt h n) (held_by now w) ≡ true → (taken : List ℕ) → AreAlone now.locks w taken → AreAlone (with_hold now.locks n w (Some mode)) w (more_by (deed.Take mode n) taken)
  taken_alone n mode small all taken alone = by mode
    where
      still : (mode : Mode) → AreAlone (with_hold now.locks n w (Some mode)) w taken
      still mode k l = rows_other now.locks.2 n w k w (Some mode) (λ a b. above n k all (ap is_some (alone k l)) a) ∙ alone k l

      by : (mode : Mode) → AreAlone (with_hold now.locks n w (Some mode)) w (more_by (deed.Take mode n) taken)
      by Shared = still Shared
      by Exclusive = λ k l. new k (nat_eq n k) refl l
        where
          new : (k : ℕ) (b : Bool) → nat_eq n k ≡ b → (b || is_listed k taken) ≡ true → hold (with_hold now.locks n w (Some Exclusive)) k w ≡ Some Exclusive
          new k true e l = subst (λ j. hold (with_hold now.locks n w (Some Exclusive)) j w ≡ Some Exclusive) (eqb-true n k e) (rows_same now.locks.2 n w (Some Exclusive) o.workers (omega (arith, small, s.tied.depth)) s.tied.width low)
          new k false e l = still Exclusive k l

-- all courses stay guarded behind each event
pub guarded_after : (o : Outline) (now : Standing) (e : Event) → IsStanding o now → AreGuarded o now → IsEnabled o now e → AreGuarded o (after o now e)
unfolding after
guarded_after o now (event.Start w m) s old is = turned o now s old w is.0 now.locks (on_course m (settled now.there (is_empty (held_by now w)) (start_of o m)) None) (λ v other n. refl) (guard_start o now.locks w now.there (held_by now w) m)
guarded_after o now (event.Skip m) s old is = old
guarded_after o now (event.Take w n mode) s old is =
    let held = get_or (set now.held w (held_by now w ++ n ∷ [])) w [] in
    let later = with_hold now.locks n w (Some mode) in
    turned o now s old w is.0 later (after_deed now.there held (deed.Take mode n) None (course_of now w)) (others o now s old w is.0 n (Some mode))
    (guard_deed o now.locks later w now.there held (deed.Take mode n) None (course_of now w) is.4 (taken_alone o now s old w is.0 n mode is.1 is.3) (old w))
guarded_after o now (event.Free w n) s old is =
    let held = get_or (set now.held w (but n (held_by now w))) w [] in
    let later = with_hold now.locks n w None in
    turned o now s old w is.0 later (after_free o now.there held (course_of now w)) (others o now s old w is.0 n None) (guard_free o now.locks later w now.there held (course_of now w) (old w))
guarded_after o now (event.Read w f) s old is =
    turned o now s old w is.0 now.locks (after_deed now.there (held_by now w) (deed.Read f) None (course_of now w)) (λ v other n. refl)
    (guard_deed o now.locks now.locks w now.there (held_by now w) (deed.Read f) None (course_of now w) is.2 (λ taken alone. alone) (old w))
guarded_after o now (event.Publish w f) s old is =
    turned o now s old w is.0 now.locks (after_deed (set now.there f true) (held_by now w) (deed.Publish f) None (course_of now w)) (λ v other n. refl)
    (guard_deed o now.locks now.locks w (set now.there f true) (held_by now w) (deed.Publish f) None (course_of now w) is.2 (λ taken alone. alone) (old w))
guarded_after o now (event.Answer w g) s old is =
    turned o now s old w is.0 now.locks (after_deed now.there (held_by now w) (deed.Answer g) (Some g) (course_of now w)) (λ v other n. refl)
    (guard_deed o now.locks now.locks w now.there (held_by now w) (deed.Answer g) (Some g) (course_of now w) is.2 (λ taken alone. alone) (old w))
guarded_after o now (event.End w e) s old is = turned o now s old w is.0 now.locks idle (λ v other n. refl) tt

-- they are where nothing has happened
pub guarded_first : (o : Outline) → AreGuarded o (at_first o)
guarded_first o w = subst (IsCourseGuarded o (at_first o).locks w) (sym (any_idle o.workers w)) tt

-- so they are behind every run
pub guarded : (o : Outline) (events : List Event) → IsRun o [] events → AreGuarded o (standing_of o events)
guarded o events run =
    (by_events o (λ now. IsStanding o now × AreGuarded o now) (λ now e both is. (standing_after o now e both.0 is, guarded_after o now e both.0 both.1 is)) [] events (standing_first o, guarded_first o) run).1

-- ---- who is to fetch

-- who is to fetch next has taken the whole batch alone
pub guards_wanted : (batch taken : List ℕ) (script : Script) (f : ℕ) → wanted script ≡ Some f → Guards batch taken script → (n : ℕ) → is_listed n batch ≡ true → is_listed n taken ≡ true
guards_wanted batch taken whole f e g n l = absurd (nothing_is f e)
guards_wanted batch taken (absent files this that) f e g n l = absurd (nothing_is f e)
guards_wanted batch taken (step stage (fetches k) rest) f e g n l = g.0 n l
guards_wanted batch taken (step stage (takes mode k) rest) f e g n l = absurd (nothing_is f e)
guards_wanted batch taken (step stage frees rest) f e g n l = absurd (nothing_is f e)
guards_wanted batch taken (step stage (reads k) rest) f e g n l = absurd (nothing_is f e)
guards_wanted batch taken (step stage (publishes k) rest) f e g n l = absurd (nothing_is f e)
guards_wanted batch taken (step stage (may_publish k) rest) f e g n l = absurd (nothing_is f e)
guards_wanted batch taken (step stage (answers k) rest) f e g n l = absurd (nothing_is f e)

-- so it holds each name of its batch alone
pub holds_now : (o : Outline) (now : Standing) → AreGuarded o now → (w number f n : ℕ) (m : ModuleOutline) (script : Script) (last : Option ℕ) → slice_get o.modules number ≡ Some m → course_of now w ≡ on_course number script last → wanted script ≡ Some f → is_listed n m.batch ≡ true → hold now.locks n w ≡ Some Exclusive
holds_now o now all w number f n m script last at on wants l =
    let is = subst (IsCourseGuarded o now.locks w) on (all w) m at in
    is.alone n (guards_wanted m.batch is.taken script f wants is.guards n l)
