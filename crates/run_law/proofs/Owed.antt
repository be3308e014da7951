-- The goals that a script still wants answered.
use Rattle.std.proofs.Common.{◌≡◌, ℕ, zero, suc, ◌<◌, ◌≤◌, ◌⊎◌, inl, inr, Bool, true, false, ◌||◌, nat_eq, nat_lt, List, [], ◌∷◌, Some, unwrap_or, refl, arith, sym, ap, subst, ◌∙◌, if◌then◌else◌}
use Rattle.std.specs.List.{list_all}
use Rattle.std.proofs.lemmas.Bool.{eqb-true, false≢true, lt-ltb}
use Rattle.std.proofs.lemmas.Cmp.{nat_eq_equiv}
use Rattle.run_law.proofs.Ended.{lt_is}
use Rattle.scripts.specs.declared.deed.Deed.{Deed}
use Rattle.scripts.specs.declared.deed.Deed.TheVariants as deed
use Rattle.build_core.specs.declared.mode.Mode.TheVariants.{Shared, Exclusive}
use Rattle.scripts.specs.declared.outline.ModuleOutline.{ModuleOutline}
use Rattle.scripts.specs.Climbing.{Climbs}
use Rattle.build_core.specs.Locks.{below}
use Rattle.scripts.specs.Outlines.{is_listed}
use Rattle.scripts.proofs.Climbs.{all_more, climbs_more}
use Rattle.run_law.proofs.Excluding.{listed_below}
use Rattle.run_law.proofs.Once.{both}
use Rattle.scripts.specs.Scripts.{Script, Step, absent, choice_script, install_script, is_to_install, own_script, read_script, release_script, script_of, steps, answers, done, fetches, frees, is_there, is_wanted, may_publish, publishes, reads, settled, step, takes, whole}
use Rattle.event_core.proofs.Weights.{nothing_is}
use Rattle.run_law.proofs.Basics.{chosen}

abbrev pub owes : ℕ → Script → Bool
owes h whole = false
owes h (absent files this that) = owes h that
owes h (step stage (answers g) rest) = nat_eq h g || owes h rest
owes h (step stage (takes mode n) rest) = owes h rest
owes h (step stage frees rest) = owes h rest
owes h (step stage (reads g) rest) = owes h rest
owes h (step stage (fetches g) rest) = owes h rest
owes h (step stage (publishes g) rest) = owes h rest
owes h (step stage (may_publish g) rest) = owes h rest

-- goals are answered in order, and either way the same ones
abbrev pub IsRising : Script → Type 0
IsRising whole = Unit {0}
IsRising (absent files this that) = ((h : ℕ) → owes h this ≡ owes h that) × IsRising this × IsRising that
IsRising (step stage (answers g) rest) = ((h : ℕ) → h ≤ g → owes h rest ≡ false) × IsRising rest
IsRising (step stage (takes mode n) rest) = (nat_eq stage 6 ≡ true → (h : ℕ) → owes h rest ≡ false) × IsRising rest
IsRising (step stage frees rest) = IsRising rest
IsRising (step stage (reads g) rest) = IsRising rest
IsRising (step stage (fetches g) rest) = IsRising rest
IsRising (step stage (publishes g) rest) = IsRising rest
IsRising (step stage (may_publish g) rest) = IsRising rest

abbrev pub Owes : Script → Script → Type 0
Owes s rest = IsRising rest × ((h : ℕ) → owes h rest ≡ owes h s)

-- settling leaves what a script owes
pub settled_owes : (there : List Bool) (empty : Bool) (s : Script) → IsRising s → Owes s (settled there empty s)
settled_owes there empty whole r = (r, λ h. refl)
settled_owes there empty (absent files this that) r = by (list_all (is_there there) files) (settled_owes there empty this r.1) (settled_owes there empty that r.2)
  where
    by : (b : Bool) → Owes this (settled there empty this) → Owes that (settled there empty that) → Owes (absent files this that) (if b then settled there empty that else settled there empty this)
    by true a c = c
    by false a c = (a.0, λ h. a.1 h ∙ r.0 h)
settled_owes there empty (step stage frees rest) r = by empty (settled_owes there empty rest r)
  where
    by : (b : Bool) → Owes rest (settled there empty rest) → Owes (step stage frees rest) (if b then settled there empty rest else step stage frees rest)
    by true a = a
    by false a = (r, λ h. refl)
settled_owes there empty (step stage (fetches g) rest) r = by (is_there there g) (settled_owes there empty rest r)
  where
    by : (b : Bool) → Owes rest (settled there empty rest) → Owes (step stage (fetches g) rest) (if b then settled there empty rest else step stage (fetches g) rest)
    by true a = a
    by false a = (r, λ h. refl)
settled_owes there empty (step stage (takes mode n) rest) r = (r, λ h. refl)
settled_owes there empty (step stage (reads g) rest) r = (r, λ h. refl)
settled_owes there empty (step stage (publishes g) rest) r = (r, λ h. refl)
settled_owes there empty (step stage (may_publish g) rest) r = (r, λ h. refl)
settled_owes there empty (step stage (answers g) rest) r = (r, λ h. refl)

-- what is owed no more behind a deed was owed no more before, or is answered by it; and then none below it is owed
abbrev pub Pays : Script → Deed → Script → Type 0
Pays s d rest = IsRising rest × ((h : ℕ) → owes h rest ≡ false → (owes h s ≡ false) ⊎ (d ≡ deed.Answer h)) × ((g h : ℕ) → d ≡ deed.Answer g → h ≤ g → owes h rest ≡ false)

abbrev is_asking : Step → Bool
is_asking (answers g) = true
is_asking other = false

-- an answer does no other step
no_answer : (s : Step) (g : ℕ) → is_asking s ≡ false → is_wanted s (deed.Answer g) ≡ true → ⊥
no_answer (answers h) g a w = false≢true (sym a)
no_answer (takes m n) g a w = false≢true w
no_answer frees g a w = false≢true w
no_answer (reads f) g a w = false≢true w
no_answer (fetches f) g a w = false≢true w
no_answer (publishes f) g a w = false≢true w
no_answer (may_publish f) g a w = false≢true w

-- a deed of another step leaves what is owed
plain_pays : (s : Step) (d : Deed) (more : Script) (below : Script) → is_asking s ≡ false → is_wanted s d ≡ true → IsRising more → ((h : ℕ) → owes h more ≡ owes h below) → Pays below d more
plain_pays s d more below a w r same = (r, λ h none. inl (sym (same h) ∙ none), λ g h e low. absurd (no_answer s g a (subst (λ x. is_wanted s x ≡ true) e w)))

-- only its own answer does a goal's step
asked : (g : ℕ) (d : Deed) → is_wanted (answers g) d ≡ true → d ≡ deed.Answer g
asked g (deed.Answer h) w = ap (λ x. deed.Answer x) (eqb-true h g w)
asked g (deed.Take m n) w = absurd (false≢true w)
asked g deed.Free w = absurd (false≢true w)
asked g (deed.Read f) w = absurd (false≢true w)
asked g (deed.Publish f) w = absurd (false≢true w)

-- the goal of an answer
answer_of : Deed → ℕ
answer_of (deed.Answer h) = h
answer_of other = 0

-- a deed pays the goal that it answers and no other
pub done_pays : (s : Script) (d : Deed) (rest : Script) → IsRising s → done s d ≡ Some rest → Pays s d rest
unfolding answer_of
done_pays whole d rest r e = absurd (nothing_is rest e)
done_pays (absent files this that) d rest r e = absurd (nothing_is rest e)
done_pays (step stage (may_publish f) more) d rest r e = by (is_wanted (may_publish f) d) refl e (done_pays more d rest r)
  where
    by : (b : Bool) → is_wanted (may_publish f) d ≡ b → (if b then Some more else done more d) ≡ Some rest → (done more d ≡ Some rest → Pays more d rest) → Pays (step stage (may_publish f) more) d rest
    by true w x again = subst (Pays (step stage (may_publish f) more) d) (ap (λ o. unwrap_or o whole) x) (plain_pays (may_publish f) d more (step stage (may_publish f) more) refl w r (λ h. refl))
    by false w x again = again x
done_pays (step stage (takes m n) more) d rest r e = let c = chosen (is_wanted (takes m n) d) more rest e in subst (Pays (step stage (takes m n) more) d) c.1 (plain_pays (takes m n) d more (step stage (takes m n) more) refl c.0 r.1 (λ h. refl))
done_pays (step stage frees more) d rest r e = let c = chosen (is_wanted frees d) (step stage frees more) rest e in subst (Pays (step stage frees more) d) c.1 (plain_pays frees d (step stage frees more) (step stage frees more) refl c.0 r (λ h. refl))
done_pays (step stage (reads f) more) d rest r e = let c = chosen (is_wanted (reads f) d) more rest e in subst (Pays (step stage (reads f) more) d) c.1 (plain_pays (reads f) d more (step stage (reads f) more) refl c.0 r (λ h. refl))
done_pays (step stage (fetches f) more) d rest r e = let c = chosen (is_wanted (fetches f) d) more rest e in subst (Pays (step stage (fetches f) more) d) c.1 (plain_pays (fetches f) d more (step stage (fetches f) more) refl c.0 r (λ h. refl))
done_pays (step stage (publishes f) more) d rest r e = let c = chosen (is_wanted (publishes f) d) more rest e in subst (Pays (step stage (publishes f) more) d) c.1 (plain_pays (publishes f) d more (step stage (publishes f) more) refl c.0 r (λ h. refl))
done_pays (step stage (answers g) more) d rest r e =
    let c = chosen (is_wanted (answers g) d) more rest e in
    subst (Pays (step stage (answers g) more) d) c.1 (r.1, λ h none. by h none (nat_eq h g) refl c.0, λ k h is low. r.0 h (subst (λ x. h ≤ x) (ap answer_of (sym is ∙ asked g d c.0)) low))
  where
    by : (h : ℕ) → owes h more ≡ false → (b : Bool) → nat_eq h g ≡ b → is_wanted (answers g) d ≡ true → ((nat_eq h g || owes h more) ≡ false) ⊎ (d ≡ deed.Answer h)
    by h none true q w = inr (subst (λ x. d ≡ deed.Answer x) (sym (eqb-true h g q)) (asked g d w))
    by h none false q w = inl (ap (λ b. b || owes h more) q ∙ none)

-- who is to install owes nothing
pub install_owes : (s : Script) → IsRising s → is_to_install s ≡ true → (h : ℕ) → owes h s ≡ false
install_owes (step stage (takes Exclusive n) rest) r is h = r.0 is h
install_owes (step stage (takes Shared n) rest) r is h = absurd (false≢true is)
install_owes whole r is h = refl
install_owes (absent files this that) r is h = absurd (false≢true is)
install_owes (step stage frees rest) r is h = absurd (false≢true is)
install_owes (step stage (reads f) rest) r is h = absurd (false≢true is)
install_owes (step stage (fetches f) rest) r is h = absurd (false≢true is)
install_owes (step stage (publishes f) rest) r is h = absurd (false≢true is)
install_owes (step stage (may_publish f) rest) r is h = absurd (false≢true is)
install_owes (step stage (answers g) rest) r is h = absurd (false≢true is)

-- ---- at the start

abbrev Quiet : Script → Type 0
Quiet s = IsRising s × ((h : ℕ) → owes h s ≡ false)

-- further own files owe no answer
may_quiet : (xs : List ℕ) → Quiet (steps 6 may_publish xs (step 6 frees whole))
may_quiet [] = (tt, λ h. refl)
may_quiet (x ∷ xs) = may_quiet xs

-- nor does installing
install_quiet : (m : ModuleOutline) → Quiet (install_script m)
install_quiet m = by m.installs m.own
  where
    by : (b : Bool) (own : List ℕ) → Quiet (if b then step 6 (takes Exclusive m.own_name) (own_script own) else whole)
    by true [] = ((λ six h. refl, tt), λ h. refl)
    by true (pom ∷ others) = let q = may_quiet others in ((λ six h. q.1 h, q.0), q.1)
    by false own = (tt, λ h. refl)

-- goals that climb
climbing_rises : (rest : Script) → Quiet rest → (xs : List ℕ) (low : ℕ) → Climbs low xs → IsRising (steps 5 answers xs rest) × ((h : ℕ) → h < low → owes h (steps 5 answers xs rest) ≡ false)
climbing_rises rest q [] low c = (q.0, λ h less. q.1 h)
climbing_rises rest q (x ∷ xs) low c =
    let again = climbing_rises rest q xs (suc x) c.1 in
    ((λ h less. again.1 h (omega (arith, less)), again.0), λ h less. by h (nat_eq h x) refl less (again.1 h (omega (arith, less, c.0))))
  where
    by : (h : ℕ) (b : Bool) → nat_eq h x ≡ b → h < low → owes h (steps 5 answers xs rest) ≡ false → (nat_eq h x || owes h (steps 5 answers xs rest)) ≡ false
    by h true e less again = let same = eqb-true h x e in absurd (omega (arith, same, less, c.0))
    by h false e less again = ap (λ b. b || owes h (steps 5 answers xs rest)) e ∙ again

-- the steps of goals owe each of them
listed_owes : (rest : Script) (xs : List ℕ) (g : ℕ) → is_listed g xs ≡ true → owes g (steps 5 answers xs rest) ≡ true
listed_owes rest [] g l = absurd (false≢true l)
listed_owes rest (x ∷ xs) g l = by (nat_eq x g) refl l (listed_owes rest xs g)
  where
    or_right : (a b : Bool) → b ≡ true → (a || b) ≡ true
    or_right true b e = refl
    or_right false b e = e

    by : (b : Bool) → nat_eq x g ≡ b → (b || is_listed g xs) ≡ true → (is_listed g xs ≡ true → owes g (steps 5 answers xs rest) ≡ true) → (nat_eq g x || owes g (steps 5 answers xs rest)) ≡ true
    by true e l again = ap (λ b. b || owes g (steps 5 answers xs rest)) (subst (λ k. nat_eq g k ≡ true) (sym (eqb-true x g e)) (nat_eq_equiv.refl g))
    by false e l again = or_right (nat_eq g x) (owes g (steps 5 answers xs rest)) (again l)

-- what is below a number is below a greater one
all_grow : (n : ℕ) (xs : List ℕ) → list_all (λ h. nat_lt h n) xs ≡ true → list_all (λ h. nat_lt h (suc n)) xs ≡ true
all_grow n [] is = refl
all_grow n (x ∷ xs) is =
    let parts = both (nat_lt x n) (list_all (λ h. nat_lt h n) xs) is in
    let less = lt_is x n parts.0 in
    rw (lt-ltb x (suc n) (omega (arith, less))) (all_grow n xs parts.1)

-- the numbers below one are below it
below_low : (n : ℕ) → list_all (λ h. nat_lt h n) (below n) ≡ true
below_low zero = refl
below_low (suc n) = all_more (λ h. nat_lt h (suc n)) (below n) n (all_grow n (below n) (below_low n)) (lt-ltb n (suc n) (omega arith))

-- and ascend
below_climbs : (n : ℕ) → Climbs 0 (below n)
below_climbs zero = tt
below_climbs (suc n) = climbs_more (below n) 0 n (below_climbs n) (below_low n) (omega arith)

-- all goals are owed
abbrev pub OwesAll : ModuleOutline → Script → Type 0
OwesAll m s = IsRising s × ((g : ℕ) → g < m.goals → owes g s ≡ true)

-- plain steps before goals leave what is owed
plain_owes : (m : ModuleOutline) (stage : ℕ) (f : ℕ → Step) (rest : Script) → ((x : ℕ) (more : Script) → OwesAll m more → OwesAll m (step stage (f x) more)) → (xs : List ℕ) → OwesAll m rest → OwesAll m (steps stage f xs rest)
plain_owes m stage f rest same [] o = o
plain_owes m stage f rest same (x ∷ xs) o = same x (steps stage f xs rest) (plain_owes m stage f rest same xs o)

-- what follows the fetch list owes all goals
read_owes : (m : ModuleOutline) → OwesAll m (read_script m)
read_owes m = plain_owes m 4 reads (release_script m) (λ x more o. o) m.reads ((climbing_rises (install_script m) (install_quiet m) (below m.goals) 0 (below_climbs m.goals)).0, λ g less. listed_owes (install_script m) (below m.goals) g (listed_below m.goals g less))

-- plain steps owe nothing
plain_same : (h stage : ℕ) (f : ℕ → Step) (rest : Script) → ((x : ℕ) (more : Script) → owes h (step stage (f x) more) ≡ owes h more) → (xs : List ℕ) → owes h (steps stage f xs rest) ≡ owes h rest
plain_same h stage f rest same [] = refl
plain_same h stage f rest same (x ∷ xs) = same x (steps stage f xs rest) ∙ plain_same h stage f rest same xs

-- so a module's script owes all goals
pub start_owes : (m : ModuleOutline) → OwesAll m (script_of m)
start_owes m =
    plain_owes m 2 (takes Shared) (choice_script m) (λ x more o. ((λ six. absurd (false≢true six), o.0), o.1)) m.batch (
      (
        λ h. plain_same h 3 (takes Exclusive) (steps 3 fetches m.fetch (read_script m)) (λ x more. refl) m.batch ∙ plain_same h 3 fetches (read_script m) (λ x more. refl) m.fetch,
        (plain_owes m 3 (takes Exclusive) (steps 3 fetches m.fetch (read_script m)) (λ x more o. ((λ six. absurd (false≢true six), o.0), o.1)) m.batch (plain_owes m 3 fetches (read_script m) (λ x more o. o) m.fetch (read_owes m))).0,
        (read_owes m).0,
      ),
      (read_owes m).1,
    )
