-- The goals that a script still wants stand in order.
use Rattle.std.proofs.Common.{◌≡◌, ℕ, zero, suc, ◌+◌, ◌≤◌, Bool, true, false, List, [], ◌∷◌, ◌++◌, Some, unwrap_or, refl, arith, sym, ap, subst, ◌∙◌, if◌then◌else◌}
use Rattle.std.specs.List.{list_all}
use Rattle.std.proofs.lemmas.Bool.{eqb-true, false≢true}
use Rattle.build_core.specs.Locks.{below}
use Rattle.build_core.specs.declared.mode.Mode.TheVariants.{Shared, Exclusive}
use Rattle.scripts.specs.declared.deed.Deed.{Deed}
use Rattle.scripts.specs.declared.deed.Deed.TheVariants as deed
use Rattle.scripts.specs.declared.outline.ModuleOutline.{ModuleOutline}
use Rattle.scripts.specs.Scripts.{Script, Step, absent, answers, answers_left, choice_script, done, fetches, frees, install_script, is_there, is_wanted, lock_script, may_publish, own_script, publishes, read_script, reads, release_script, script_of, settled, step, steps, takes, whole}
use Rattle.event_core.proofs.Weights.{nothing_is}
use Rattle.run_law.proofs.Basics.{chosen}

-- the goals that a script still wants stand in order, and end with the last of so many
abbrev pub AreInOrder : (goals : ℕ) → Script → Type 0
AreInOrder goals whole = Unit {0}
AreInOrder goals (absent files this that) = (answers_left this ≡ answers_left that) × AreInOrder goals this × AreInOrder goals that
AreInOrder goals (step stage (answers goal) rest) = (goal + suc (answers_left rest) ≡ goals) × AreInOrder goals rest
AreInOrder goals (step stage other rest) = AreInOrder goals rest

-- ---- settling

-- settling keeps the order, and as many goals
abbrev Alike : ℕ → Script → Script → Type 0
Alike goals s t = (answers_left t ≡ answers_left s) × AreInOrder goals t

pub settled_order : (goals : ℕ) (there : List Bool) (empty : Bool) (s : Script) → AreInOrder goals s → Alike goals s (settled there empty s)
settled_order goals there empty whole is = (refl, tt)
settled_order goals there empty (absent files this that) is = by (list_all (is_there there) files) (settled_order goals there empty this is.1) (settled_order goals there empty that is.2)
  where
    by : (b : Bool) → Alike goals this (settled there empty this) → Alike goals that (settled there empty that) → Alike goals (absent files this that) (if b then settled there empty that else settled there empty this)
    by true a c = c
    by false a c = (a.0 ∙ is.0, a.1)
settled_order goals there empty (step stage frees rest) is = by empty (settled_order goals there empty rest is)
  where
    by : (b : Bool) → Alike goals rest (settled there empty rest) → Alike goals (step stage frees rest) (if b then settled there empty rest else step stage frees rest)
    by true a = a
    by false a = (refl, is)
settled_order goals there empty (step stage (fetches f) rest) is = by (is_there there f) (settled_order goals there empty rest is)
  where
    by : (b : Bool) → Alike goals rest (settled there empty rest) → Alike goals (step stage (fetches f) rest) (if b then settled there empty rest else step stage (fetches f) rest)
    by true a = a
    by false a = (refl, is)
settled_order goals there empty (step stage (takes mode name) rest) is = (refl, is)
settled_order goals there empty (step stage (reads f) rest) is = (refl, is)
settled_order goals there empty (step stage (publishes f) rest) is = (refl, is)
settled_order goals there empty (step stage (may_publish f) rest) is = (refl, is)
settled_order goals there empty (step stage (answers g) rest) is = (refl, is)

-- ---- a deed

-- an answer leaves one goal less, and is that of the first of them; any other deed leaves as many
abbrev pub Leaves : (goals : ℕ) → Deed → (before now : ℕ) → Type 0
Leaves goals (deed.Answer g) before now = (before ≡ suc now) × (g + suc now ≡ goals)
Leaves goals other before now = now ≡ before

-- so at most as many are left
pub fewer : (goals : ℕ) (d : Deed) (before now : ℕ) → Leaves goals d before now → now ≤ before
fewer goals (deed.Answer g) before now is = omega (arith, is.0)
fewer goals (deed.Take mode n) before now is = omega (arith, is)
fewer goals deed.Free before now is = omega (arith, is)
fewer goals (deed.Read f) before now is = omega (arith, is)
fewer goals (deed.Publish f) before now is = omega (arith, is)

-- a step that no answer does leaves as many
as_many : (goals : ℕ) (s : Step) (d : Deed) (n : ℕ) → ((g : ℕ) → is_wanted s (deed.Answer g) ≡ false) → is_wanted s d ≡ true → Leaves goals d n n
as_many goals s (deed.Answer g) n never is = absurd (false≢true (sym (never g) ∙ is))
as_many goals s (deed.Take mode k) n never is = refl
as_many goals s deed.Free n never is = refl
as_many goals s (deed.Read f) n never is = refl
as_many goals s (deed.Publish f) n never is = refl

-- a goal's step is done by its answer
first_goal : (goals h : ℕ) (d : Deed) (n : ℕ) → h + suc n ≡ goals → is_wanted (answers h) d ≡ true → Leaves goals d (suc n) n
first_goal goals h (deed.Answer g) n last is = (refl, ap (λ x. x + suc n) (eqb-true g h is) ∙ last)
first_goal goals h (deed.Take mode k) n last is = absurd (false≢true is)
first_goal goals h deed.Free n last is = absurd (false≢true is)
first_goal goals h (deed.Read f) n last is = absurd (false≢true is)
first_goal goals h (deed.Publish f) n last is = absurd (false≢true is)

abbrev Behind : ℕ → Deed → Script → Script → Type 0
Behind goals d s rest = Leaves goals d (answers_left s) (answers_left rest) × AreInOrder goals rest

-- what a deed leaves
pub done_order : (goals : ℕ) (s : Script) (d : Deed) (rest : Script) → AreInOrder goals s → done s d ≡ Some rest → Behind goals d s rest
done_order goals whole d rest is e = absurd (nothing_is rest e)
done_order goals (absent files this that) d rest is e = absurd (nothing_is rest e)
done_order goals (step stage (may_publish f) more) d rest is e = by (is_wanted (may_publish f) d) refl e (done_order goals more d rest is)
  where
    by : (b : Bool) → is_wanted (may_publish f) d ≡ b → (if b then Some more else done more d) ≡ Some rest → (done more d ≡ Some rest → Behind goals d more rest) → Behind goals d (step stage (may_publish f) more) rest
    by true w h again = subst (Behind goals d (step stage (may_publish f) more)) (ap (λ o. unwrap_or o whole) h) (as_many goals (may_publish f) d (answers_left more) (λ g. refl) w, is)
    by false w h again = again h
done_order goals (step stage (takes m n) more) d rest is e = let c = chosen (is_wanted (takes m n) d) more rest e in subst (Behind goals d (step stage (takes m n) more)) c.1 (as_many goals (takes m n) d (answers_left more) (λ g. refl) c.0, is)
done_order goals (step stage (reads f) more) d rest is e = let c = chosen (is_wanted (reads f) d) more rest e in subst (Behind goals d (step stage (reads f) more)) c.1 (as_many goals (reads f) d (answers_left more) (λ g. refl) c.0, is)
done_order goals (step stage (fetches f) more) d rest is e = let c = chosen (is_wanted (fetches f) d) more rest e in subst (Behind goals d (step stage (fetches f) more)) c.1 (as_many goals (fetches f) d (answers_left more) (λ g. refl) c.0, is)
done_order goals (step stage (publishes f) more) d rest is e = let c = chosen (is_wanted (publishes f) d) more rest e in subst (Behind goals d (step stage (publishes f) more)) c.1 (as_many goals (publishes f) d (answers_left more) (λ g. refl) c.0, is)
done_order goals (step stage frees more) d rest is e = let c = chosen (is_wanted frees d) (step stage frees more) rest e in subst (Behind goals d (step stage frees more)) c.1 (as_many goals frees d (answers_left more) (λ g. refl) c.0, is)
done_order goals (step stage (answers h) more) d rest is e = let c = chosen (is_wanted (answers h) d) more rest e in subst (Behind goals d (step stage (answers h) more)) c.1 (first_goal goals h d (answers_left more) is.0 c.0, is.1)

-- ---- at the start

-- steps of another kind in front change nothing
abbrev IsPlain : (ℕ → Step) → Type 0
IsPlain f = (goals stage x : ℕ) (more : Script) → AreInOrder goals more → Alike goals more (step stage (f x) more)

plain_order : (goals : ℕ) (f : ℕ → Step) → IsPlain f → (stage : ℕ) (xs : List ℕ) (rest : Script) → AreInOrder goals rest → Alike goals rest (steps stage f xs rest)
plain_order goals f plain stage [] rest is = (refl, is)
plain_order goals f plain stage (x ∷ xs) rest is =
    let more = plain_order goals f plain stage xs rest is in
    let one = plain goals stage x (steps stage f xs rest) more.1 in
    (one.0 ∙ more.0, one.1)

-- a step behind others
steps_more : (stage : ℕ) (f : ℕ → Step) (xs : List ℕ) (x : ℕ) (rest : Script) → steps stage f (xs ++ x ∷ []) rest ≡ steps stage f xs (step stage (f x) rest)
steps_more stage f [] x rest = refl
steps_more stage f (y ∷ xs) x rest = ap (step stage (f y)) (steps_more stage f xs x rest)

-- so many goals in order
goals_order : (goals n : ℕ) (rest : Script) → n + answers_left rest ≡ goals → AreInOrder goals rest → (answers_left (steps 5 answers (below n) rest) ≡ goals) × AreInOrder goals (steps 5 answers (below n) rest)
goals_order goals zero rest last is = (omega (arith, last), is)
goals_order goals (suc n) rest last is =
    let more : n + suc (answers_left rest) ≡ goals = omega (arith, last) in
    subst (λ s. (answers_left s ≡ goals) × AreInOrder goals s) (sym (steps_more 5 answers (below n) n rest)) (goals_order goals n (step 5 (answers n) rest) more (more, is))

module _ (m : ModuleOutline) where
  -- installing wants no goal
  own_none : (own : List ℕ) → (answers_left (own_script own) ≡ 0) × AreInOrder m.goals (own_script own)
  own_none [] = (refl, tt)
  own_none (pom ∷ others) = plain_order m.goals may_publish (λ goals stage x more is. (refl, is)) 6 others (step 6 frees whole) tt

  install_none : (answers_left (install_script m) ≡ 0) × AreInOrder m.goals (install_script m)
  install_none = by m.installs
    where
      by : (b : Bool) → (answers_left (if b then step 6 (takes Exclusive m.own_name) (own_script m.own) else whole) ≡ 0) × AreInOrder m.goals (if b then step 6 (takes Exclusive m.own_name) (own_script m.own) else whole)
      by true = own_none m.own
      by false = (refl, tt)

  abbrev All : Script → Type 0
  All s = (answers_left s ≡ m.goals) × AreInOrder m.goals s

  release_all : All (release_script m)
  release_all =
      let none = install_none.0 in
      goals_order m.goals m.goals (install_script m) (omega (arith, none)) install_none.1

  -- a script that wants all goals, with steps of another kind in front
  in_front : (f : ℕ → Step) → IsPlain f → (stage : ℕ) (xs : List ℕ) (rest : Script) → All rest → All (steps stage f xs rest)
  in_front f plain stage xs rest all = let more = plain_order m.goals f plain stage xs rest all.1 in (more.0 ∙ all.0, more.1)

  read_all : All (read_script m)
  read_all = in_front reads (λ goals stage x more is. (refl, is)) 4 m.reads (release_script m) release_all

  -- so does what is left while files are read
  pub read_left : (xs : List ℕ) → answers_left (steps 4 reads xs (release_script m)) ≡ m.goals
  read_left xs = (in_front reads (λ goals stage x more is. (refl, is)) 4 xs (release_script m) release_all).0

  lock_all : All (lock_script m)
  lock_all = in_front (takes Exclusive) (λ goals stage x more is. (refl, is)) 3 m.batch (steps 3 fetches m.fetch (read_script m)) (in_front fetches (λ goals stage x more is. (refl, is)) 3 m.fetch (read_script m) read_all)

  -- a module's script wants all its goals in order
  pub script_order : (answers_left (script_of m) ≡ m.goals) × AreInOrder m.goals (script_of m)
  script_order = in_front (takes Shared) (λ goals stage x more is. (refl, is)) 2 m.batch (choice_script m) (read_all.0, (lock_all.0 ∙ sym read_all.0, lock_all.1, read_all.1))
