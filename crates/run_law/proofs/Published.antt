-- Each name is published once.
use Rattle.std.proofs.Common.{◌≡◌, ℕ, ◌⊎◌, inl, inr, Bool, true, false, ◌&&◌, ◌||◌, nat_eq, List, [], ◌∷◌, Some, unwrap_or, refl, sym, ap, subst, if◌then◌else◌}
use Rattle.std.specs.List.{IsDistinct, AllByRecursion, list_all}
use Rattle.std.proofs.lemmas.Bool.{eqb-true, false≢true}
use Rattle.scripts.specs.declared.deed.Deed.{Deed}
use Rattle.scripts.specs.declared.deed.Deed.TheVariants as deed
use Rattle.build_core.specs.declared.mode.Mode.TheVariants.{Shared, Exclusive}
use Rattle.scripts.specs.declared.outline.ModuleOutline.{ModuleOutline}
use Rattle.run_law.proofs.Invariants.{files_fit}
use Rattle.build_core.specs.Locks.{below}
use Rattle.scripts.specs.Outlines.{is_listed}
use Rattle.scripts.specs.Scripts.{Script, Step, absent, answers, choice_script, done, fetches, frees, install_script, is_there, is_wanted, may_publish, own_script, publishes, read_script, reads, release_script, script_of, settled, step, steps, takes, whole}
use Rattle.run_law.proofs.Courses.{start_fit}
use Rattle.run_law.proofs.Once.{both}
use Rattle.event_core.proofs.Weights.{nothing_is}
use Rattle.run_law.proofs.Basics.{both3, chosen, or_left, or_right}

-- a file that a script may publish as its own
abbrev pub own_in : ℕ → Script → Bool
own_in f whole = false
own_in f (absent files this that) = own_in f this || own_in f that
own_in f (step stage (publishes g) rest) = nat_eq f g || own_in f rest
own_in f (step stage (may_publish g) rest) = nat_eq f g || own_in f rest
own_in f (step stage (takes mode n) rest) = own_in f rest
own_in f (step stage frees rest) = own_in f rest
own_in f (step stage (reads g) rest) = own_in f rest
own_in f (step stage (fetches g) rest) = own_in f rest
own_in f (step stage (answers g) rest) = own_in f rest

-- each of them once
abbrev pub IsOnce : Script → Type 0
IsOnce whole = Unit {0}
IsOnce (absent files this that) = IsOnce this × IsOnce that
IsOnce (step stage (publishes g) rest) = (own_in g rest ≡ false) × IsOnce rest
IsOnce (step stage (may_publish g) rest) = (own_in g rest ≡ false) × IsOnce rest
IsOnce (step stage (takes mode n) rest) = IsOnce rest
IsOnce (step stage frees rest) = IsOnce rest
IsOnce (step stage (reads g) rest) = IsOnce rest
IsOnce (step stage (fetches g) rest) = IsOnce rest
IsOnce (step stage (answers g) rest) = IsOnce rest

-- what is left of a script: once each, and no more
abbrev pub IsLeftOf : Script → Script → Type 0
IsLeftOf s rest = (IsOnce s → IsOnce rest) × ((f : ℕ) → own_in f rest ≡ true → own_in f s ≡ true)

-- a settled script has no file that it hadn't
pub settled_left : (there : List Bool) (empty : Bool) (s : Script) → IsLeftOf s (settled there empty s)
settled_left there empty whole = (λ o. o, λ f l. l)
settled_left there empty (absent files this that) = by (list_all (is_there there) files) (settled_left there empty this) (settled_left there empty that)
  where
    by : (b : Bool) → IsLeftOf this (settled there empty this) → IsLeftOf that (settled there empty that) → IsLeftOf (absent files this that) (if b then settled there empty that else settled there empty this)
    by true a c = (λ o. c.0 o.1, λ f l. or_right (own_in f this) (own_in f that) (c.1 f l))
    by false a c = (λ o. a.0 o.0, λ f l. or_left (own_in f this) (own_in f that) (a.1 f l))
settled_left there empty (step stage frees rest) = by empty (settled_left there empty rest)
  where
    by : (b : Bool) → IsLeftOf rest (settled there empty rest) → IsLeftOf (step stage frees rest) (if b then settled there empty rest else step stage frees rest)
    by true a = a
    by false a = (λ o. o, λ f l. l)
settled_left there empty (step stage (fetches g) rest) = by (is_there there g) (settled_left there empty rest)
  where
    by : (b : Bool) → IsLeftOf rest (settled there empty rest) → IsLeftOf (step stage (fetches g) rest) (if b then settled there empty rest else step stage (fetches g) rest)
    by true a = a
    by false a = (λ o. o, λ f l. l)
settled_left there empty (step stage (takes mode n) rest) = (λ o. o, λ f l. l)
settled_left there empty (step stage (reads g) rest) = (λ o. o, λ f l. l)
settled_left there empty (step stage (publishes g) rest) = (λ o. o, λ f l. l)
settled_left there empty (step stage (may_publish g) rest) = (λ o. o, λ f l. l)
settled_left there empty (step stage (answers g) rest) = (λ o. o, λ f l. l)

-- nor has what a deed leaves
pub done_left : (s : Script) (d : Deed) (rest : Script) → done s d ≡ Some rest → IsLeftOf s rest
done_left whole d rest e = absurd (nothing_is rest e)
done_left (absent files this that) d rest e = absurd (nothing_is rest e)
done_left (step stage (may_publish g) more) d rest e = by (is_wanted (may_publish g) d) e (done_left more d rest)
  where
    by : (b : Bool) → (if b then Some more else done more d) ≡ Some rest → (done more d ≡ Some rest → IsLeftOf more rest) → IsLeftOf (step stage (may_publish g) more) rest
    by true h again = subst (IsLeftOf (step stage (may_publish g) more)) (ap (λ o. unwrap_or o whole) h) (λ o. o.1, λ f l. or_right (nat_eq f g) (own_in f more) l)
    by false h again = let a = again h in (λ o. a.0 o.1, λ f l. or_right (nat_eq f g) (own_in f more) (a.1 f l))
done_left (step stage (publishes g) more) d rest e = subst (IsLeftOf (step stage (publishes g) more)) (chosen (is_wanted (publishes g) d) more rest e).1 (λ o. o.1, λ f l. or_right (nat_eq f g) (own_in f more) l)
done_left (step stage (takes mode n) more) d rest e = subst (IsLeftOf (step stage (takes mode n) more)) (chosen (is_wanted (takes mode n) d) more rest e).1 (λ o. o, λ f l. l)
done_left (step stage frees more) d rest e = subst (IsLeftOf (step stage frees more)) (chosen (is_wanted frees d) (step stage frees more) rest e).1 (λ o. o, λ f l. l)
done_left (step stage (reads g) more) d rest e = subst (IsLeftOf (step stage (reads g) more)) (chosen (is_wanted (reads g) d) more rest e).1 (λ o. o, λ f l. l)
done_left (step stage (fetches g) more) d rest e = subst (IsLeftOf (step stage (fetches g) more)) (chosen (is_wanted (fetches g) d) more rest e).1 (λ o. o, λ f l. l)
done_left (step stage (answers g) more) d rest e = subst (IsLeftOf (step stage (answers g) more)) (chosen (is_wanted (answers g) d) more rest e).1 (λ o. o, λ f l. l)

-- what is published is fetched, or is left no more
pub done_own : (fetch own : List ℕ) (s : Script) (g : ℕ) (rest : Script) → files_fit fetch own s ≡ true → IsOnce s → done s (deed.Publish g) ≡ Some rest → (is_listed g fetch ≡ true) ⊎ ((own_in g s ≡ true) × (own_in g rest ≡ false))
done_own fetch own whole g rest fit once e = absurd (nothing_is rest e)
done_own fetch own (absent files this that) g rest fit once e = absurd (nothing_is rest e)
done_own fetch own (step stage (may_publish h) more) g rest fit once e = by (nat_eq g h) refl e (done_own fetch own more g rest (second (is_listed h own) (files_fit fetch own more) (files_fit [] own more) fit) once.1)
  where
    second : (a b c : Bool) → (a && b && c) ≡ true → b ≡ true
    second true true c is = refl
    second true false c is = is
    second false b c is = absurd (false≢true is)

    by : (b : Bool) → nat_eq g h ≡ b → (if b then Some more else done more (deed.Publish g)) ≡ Some rest → (done more (deed.Publish g) ≡ Some rest → (is_listed g fetch ≡ true) ⊎ ((own_in g more ≡ true) × (own_in g rest ≡ false))) → (is_listed g fetch ≡ true) ⊎ (((nat_eq g h || own_in g more) ≡ true) × (own_in g rest ≡ false))
    by true q x again = inr (or_left (nat_eq g h) (own_in g more) q, subst (λ t. own_in g t ≡ false) (ap (λ o. unwrap_or o whole) x) (subst (λ k. own_in k more ≡ false) (sym (eqb-true g h q)) once.0))
    by false q x again = wider (again x)
      where
        wider : (is_listed g fetch ≡ true) ⊎ ((own_in g more ≡ true) × (own_in g rest ≡ false)) → (is_listed g fetch ≡ true) ⊎ (((nat_eq g h || own_in g more) ≡ true) × (own_in g rest ≡ false))
        wider (inl l) = inl l
        wider (inr p) = inr (or_right (nat_eq g h) (own_in g more) p.0, p.1)
done_own fetch own (step stage (publishes h) more) g rest fit once e =
    let c = chosen (nat_eq g h) more rest e in
    inr (or_left (nat_eq g h) (own_in g more) c.0, subst (λ t. own_in g t ≡ false) c.1 (subst (λ k. own_in k more ≡ false) (sym (eqb-true g h c.0)) once.0))
done_own fetch own (step stage (fetches h) more) g rest fit once e =
    let c = chosen (nat_eq g h) more rest e in
    inl (subst (λ k. is_listed k fetch ≡ true) (sym (eqb-true g h c.0)) (both (is_listed h fetch) (files_fit fetch own more) fit).0)
done_own fetch own (step stage (takes mode n) more) g rest fit once e = absurd (false≢true (chosen (is_wanted (takes mode n) (deed.Publish g)) more rest e).0)
done_own fetch own (step stage frees more) g rest fit once e = absurd (false≢true (chosen (is_wanted frees (deed.Publish g)) (step stage frees more) rest e).0)
done_own fetch own (step stage (reads h) more) g rest fit once e = absurd (false≢true (chosen (is_wanted (reads h) (deed.Publish g)) more rest e).0)
done_own fetch own (step stage (answers h) more) g rest fit once e = absurd (false≢true (chosen (is_wanted (answers h) (deed.Publish g)) more rest e).0)

-- a script's own files are its module's
pub or_cases : (a b : Bool) → (a || b) ≡ true → (a ≡ true) ⊎ (b ≡ true)
or_cases true b e = inl refl
or_cases false b e = inr e

-- an own file of a script is the module's
pub own_listed : (fetch own : List ℕ) (s : Script) (f : ℕ) → files_fit fetch own s ≡ true → own_in f s ≡ true → is_listed f own ≡ true
own_listed fetch own whole f fit l = absurd (false≢true l)
own_listed fetch own (absent files this that) f fit l = by (or_cases (own_in f this) (own_in f that) l) (own_listed fetch own this f (both (files_fit fetch own this) (files_fit fetch own that) fit).0) (own_listed fetch own that f (both (files_fit fetch own this) (files_fit fetch own that) fit).1)
  where
    by : (own_in f this ≡ true) ⊎ (own_in f that ≡ true) → (own_in f this ≡ true → is_listed f own ≡ true) → (own_in f that ≡ true → is_listed f own ≡ true) → is_listed f own ≡ true
    by (inl a) x y = x a
    by (inr b) x y = y b
own_listed fetch own (step stage (publishes g) rest) f fit l = by (nat_eq f g) refl l (own_listed fetch own rest f (both (is_listed g own) (files_fit fetch own rest) fit).1)
  where
    by : (b : Bool) → nat_eq f g ≡ b → (b || own_in f rest) ≡ true → (own_in f rest ≡ true → is_listed f own ≡ true) → is_listed f own ≡ true
    by true e l again = subst (λ k. is_listed k own ≡ true) (sym (eqb-true f g e)) (both (is_listed g own) (files_fit fetch own rest) fit).0
    by false e l again = again l
own_listed fetch own (step stage (may_publish g) rest) f fit l = by (nat_eq f g) refl l (own_listed fetch own rest f (both3 (is_listed g own) (files_fit fetch own rest) (files_fit [] own rest) fit).1)
  where
    by : (b : Bool) → nat_eq f g ≡ b → (b || own_in f rest) ≡ true → (own_in f rest ≡ true → is_listed f own ≡ true) → is_listed f own ≡ true
    by true e l again = subst (λ k. is_listed k own ≡ true) (sym (eqb-true f g e)) (both3 (is_listed g own) (files_fit fetch own rest) (files_fit [] own rest) fit).0
    by false e l again = again l
own_listed fetch own (step stage (fetches g) rest) f fit l = own_listed fetch own rest f (both (is_listed g fetch) (files_fit fetch own rest) fit).1 l
own_listed fetch own (step stage (takes mode n) rest) f fit l = own_listed fetch own rest f fit l
own_listed fetch own (step stage frees rest) f fit l = own_listed fetch own rest f fit l
own_listed fetch own (step stage (reads g) rest) f fit l = own_listed fetch own rest f fit l
own_listed fetch own (step stage (answers g) rest) f fit l = own_listed fetch own rest f fit l

-- ---- at the start

-- plain steps leave each own file standing once
plain_once : (stage : ℕ) (f : ℕ → Step) (rest : Script) → ((x : ℕ) (more : Script) → IsOnce more → IsOnce (step stage (f x) more)) → (xs : List ℕ) → IsOnce rest → IsOnce (steps stage f xs rest)
plain_once stage f rest same [] o = o
plain_once stage f rest same (x ∷ xs) o = same x (steps stage f xs rest) (plain_once stage f rest same xs o)

-- a file that isn't listed isn't among further own files
none_own : (f : ℕ) (xs : List ℕ) → AllByRecursion (λ y. nat_eq f y ≡ false) xs → own_in f (steps 6 may_publish xs (step 6 frees whole)) ≡ false
none_own f [] all = refl
none_own f (x ∷ xs) all = rw all.0 (none_own f xs all.1)

-- further own files stand once
may_once : (xs : List ℕ) → IsDistinct nat_eq xs → IsOnce (steps 6 may_publish xs (step 6 frees whole))
unfolding IsDistinct
may_once [] d = tt
may_once (x ∷ xs) d = (none_own x xs d.0, may_once xs d.1)

-- so do own files
own_once : (own : List ℕ) → IsDistinct nat_eq own → IsOnce (own_script own)
unfolding IsDistinct
own_once [] d = tt
own_once (pom ∷ others) d = (none_own pom others d.0, may_once others d.1)

-- so they do in installing
install_once : (m : ModuleOutline) → IsDistinct nat_eq m.own → IsOnce (install_script m)
install_once m d = by m.installs
  where
    by : (b : Bool) → IsOnce (if b then step 6 (takes Exclusive m.own_name) (own_script m.own) else whole)
    by true = own_once m.own d
    by false = tt

-- and behind reading
read_once : (m : ModuleOutline) → IsDistinct nat_eq m.own → IsOnce (read_script m)
read_once m d = plain_once 4 reads (release_script m) (λ x more o. o) m.reads (plain_once 5 answers (install_script m) (λ x more o. o) (below m.goals) (install_once m d))

-- and in a module's script
start_once : (m : ModuleOutline) → IsDistinct nat_eq m.own → IsOnce (script_of m)
start_once m d =
    plain_once 2 (takes Shared) (choice_script m) (λ x more o. o) m.batch
    (plain_once 3 (takes Exclusive) (steps 3 fetches m.fetch (read_script m)) (λ x more o. o) m.batch (plain_once 3 fetches (read_script m) (λ x more o. o) m.fetch (read_once m d)), read_once m d)

-- so a script begins with each own file once
pub begin_once : (m : ModuleOutline) → IsDistinct nat_eq m.own → IsOnce (script_of m) × ((f : ℕ) → own_in f (script_of m) ≡ true → is_listed f m.own ≡ true)
begin_once m d = (start_once m d, λ f l. own_listed m.fetch m.own (script_of m) f (start_fit m) l)
