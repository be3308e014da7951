-- Each event leaves fewer.
use Rattle.std.proofs.Common.{◌≡◌, ℕ, zero, suc, ◌+◌, ◌<◌, ◌≤◌, max, Bool, true, false, List, [], ◌∷◌, length, get_or, set, slice_get, Option, Some, None, is_some, refl, arith, sym, ap, subst, ◌∙◌, if◌then◌else◌}
use Rattle.std.specs.List.{list_all}
use Rattle.std.specs.Option.{option_map_or}
use Rattle.std.proofs.lemmas.Bool.{false≢true}
use Rattle.scripts.specs.declared.outline.Outline.{Outline}
use Rattle.scripts.specs.declared.outline.ModuleOutline.{ModuleOutline}
use Rattle.event_core.specs.declared.module_steps.Progress.{Progress}
use Rattle.scripts.specs.declared.deed.Deed.{Deed}
use Rattle.scripts.specs.declared.deed.Deed.TheVariants as deed
use Rattle.scripts.specs.Scripts.{Script, absent, answers, done, fetches, frees, is_there, is_gathered, is_wanted, may_publish, publishes, reads, settled, step, takes, wanted, whole}
use Rattle.event_core.specs.HowFar.{is_waiting}
use Rattle.event_core.specs.Standing.{Course, after_deed, after_free, goals_of, idle, off_course, on_course}
use Rattle.scripts.specs.Outlines.{is_empty}
use Rattle.event_core.specs.Enabled.{is_due}
use Rattle.event_core.specs.EventsLeft.{course_events, waiting_events}
use Rattle.scripts.specs.Bounds.{module_events, script_events, total}

pub set_total : {A : Type 0} (f : A → ℕ) (xs : List A) (i : ℕ) (y d : A) → i < length xs → total f (set xs i y) + f (get_or xs i d) ≡ total f xs + f y
set_total f [] i y d low = absurd (omega (arith, low))
set_total f (x ∷ xs) zero y d low = omega arith
set_total f (x ∷ xs) (suc i) y d low = let again = set_total f xs i y d (omega (arith, low)) in omega (arith, again)

-- ---- scripts

pub settled_lighter : (there : List Bool) (empty : Bool) (s : Script) → script_events (settled there empty s) ≤ script_events s
settled_lighter there empty whole = omega arith
settled_lighter there empty (absent files this that) = by (list_all (is_there there) files) (settled_lighter there empty this) (settled_lighter there empty that)
  where
    by : (b : Bool) → script_events (settled there empty this) ≤ script_events this → script_events (settled there empty that) ≤ script_events that → script_events (if b then settled there empty that else settled there empty this) ≤ max (script_events this) (script_events that)
    by true h k = omega (arith, k)
    by false h k = omega (arith, h)
settled_lighter there empty (step stage frees rest) = by empty (settled_lighter there empty rest)
  where
    by : (b : Bool) → script_events (settled there empty rest) ≤ script_events rest → script_events (if b then settled there empty rest else step stage frees rest) ≤ 0 + script_events rest
    by true h = omega (arith, h)
    by false h = omega arith
settled_lighter there empty (step stage (fetches file) rest) = by (is_there there file) (settled_lighter there empty rest)
  where
    by : (b : Bool) → script_events (settled there empty rest) ≤ script_events rest → script_events (if b then settled there empty rest else step stage (fetches file) rest) ≤ 1 + script_events rest
    by true h = omega (arith, h)
    by false h = omega arith
settled_lighter there empty (step stage (takes mode name) rest) = omega arith
settled_lighter there empty (step stage (reads file) rest) = omega arith
settled_lighter there empty (step stage (publishes file) rest) = omega arith
settled_lighter there empty (step stage (may_publish file) rest) = omega arith
settled_lighter there empty (step stage (answers goal) rest) = omega arith

-- the events that a deed takes from a script
abbrev pub cost : Deed → ℕ
cost (deed.Take mode name) = 2
cost deed.Free = 0
cost other = 1

-- the size of what is left of a step that is done
abbrev rest_events : Option Script → ℕ
rest_events None = 0
rest_events (Some s) = script_events s

pub nothing_is : {A : Type 0} (x : A) → None ≡ Some x → ⊥
nothing_is x e = false≢true (ap is_some e)

chosen : (b : Bool) (s rest : Script) → (if b then Some s else None) ≡ Some rest → (b ≡ true) × (script_events rest ≡ script_events s)
chosen true s rest e = (refl, sym (ap rest_events e))
chosen false s rest e = absurd (nothing_is rest e)

pub done_lighter : (s : Script) (d : Deed) (rest : Script) → done s d ≡ Some rest → script_events rest + cost d ≤ script_events s
done_lighter whole d rest e = absurd (nothing_is rest e)
done_lighter (absent files this that) d rest e = absurd (nothing_is rest e)
done_lighter (step stage (may_publish file) more) d rest e = by (is_wanted (may_publish file) d) refl e (λ h. done_lighter more d rest h)
  where
    by : (b : Bool) → is_wanted (may_publish file) d ≡ b → (if b then Some more else done more d) ≡ Some rest → (done more d ≡ Some rest → script_events rest + cost d ≤ script_events more) → script_events rest + cost d ≤ 1 + script_events more
    by true w h again = let left = chosen true more rest h in let price = paid d w in omega (arith, left.1, price)
      where
        paid : (d : Deed) → is_wanted (may_publish file) d ≡ true → cost d ≡ 1
        paid (deed.Publish f) h = refl
        paid (deed.Take m n) h = absurd (false≢true h)
        paid deed.Free h = absurd (false≢true h)
        paid (deed.Read f) h = absurd (false≢true h)
        paid (deed.Answer g) h = absurd (false≢true h)
    by false w h again = let less = again h in omega (arith, less)
done_lighter (step stage (takes m n) more) d rest e = by d (chosen (is_wanted (takes m n) d) more rest e)
  where
    by : (d : Deed) → (is_wanted (takes m n) d ≡ true) × (script_events rest ≡ script_events more) → script_events rest + cost d ≤ 2 + script_events more
    by (deed.Take a b) h = let left = h.1 in omega (arith, left)
    by deed.Free h = absurd (false≢true h.0)
    by (deed.Read a) h = absurd (false≢true h.0)
    by (deed.Publish a) h = absurd (false≢true h.0)
    by (deed.Answer a) h = absurd (false≢true h.0)
done_lighter (step stage (reads file) more) d rest e = by d (chosen (is_wanted (reads file) d) more rest e)
  where
    by : (d : Deed) → (is_wanted (reads file) d ≡ true) × (script_events rest ≡ script_events more) → script_events rest + cost d ≤ 1 + script_events more
    by (deed.Take a b) h = absurd (false≢true h.0)
    by deed.Free h = absurd (false≢true h.0)
    by (deed.Read a) h = let left = h.1 in omega (arith, left)
    by (deed.Publish a) h = absurd (false≢true h.0)
    by (deed.Answer a) h = absurd (false≢true h.0)
done_lighter (step stage (fetches file) more) d rest e = by d (chosen (is_wanted (fetches file) d) more rest e)
  where
    by : (d : Deed) → (is_wanted (fetches file) d ≡ true) × (script_events rest ≡ script_events more) → script_events rest + cost d ≤ 1 + script_events more
    by (deed.Take a b) h = absurd (false≢true h.0)
    by deed.Free h = absurd (false≢true h.0)
    by (deed.Read a) h = absurd (false≢true h.0)
    by (deed.Publish a) h = let left = h.1 in omega (arith, left)
    by (deed.Answer a) h = absurd (false≢true h.0)
done_lighter (step stage (publishes file) more) d rest e = by d (chosen (is_wanted (publishes file) d) more rest e)
  where
    by : (d : Deed) → (is_wanted (publishes file) d ≡ true) × (script_events rest ≡ script_events more) → script_events rest + cost d ≤ 1 + script_events more
    by (deed.Take a b) h = absurd (false≢true h.0)
    by deed.Free h = absurd (false≢true h.0)
    by (deed.Read a) h = absurd (false≢true h.0)
    by (deed.Publish a) h = let left = h.1 in omega (arith, left)
    by (deed.Answer a) h = absurd (false≢true h.0)
done_lighter (step stage (answers goal) more) d rest e = by d (chosen (is_wanted (answers goal) d) more rest e)
  where
    by : (d : Deed) → (is_wanted (answers goal) d ≡ true) × (script_events rest ≡ script_events more) → script_events rest + cost d ≤ 1 + script_events more
    by (deed.Take a b) h = absurd (false≢true h.0)
    by deed.Free h = absurd (false≢true h.0)
    by (deed.Read a) h = absurd (false≢true h.0)
    by (deed.Publish a) h = absurd (false≢true h.0)
    by (deed.Answer a) h = let left = h.1 in omega (arith, left)
done_lighter (step stage frees more) d rest e = by d (chosen (is_wanted frees d) (step stage frees more) rest e)
  where
    by : (d : Deed) → (is_wanted frees d ≡ true) × (script_events rest ≡ script_events (step stage frees more)) → script_events rest + cost d ≤ 0 + script_events more
    by (deed.Take a b) h = absurd (false≢true h.0)
    by deed.Free h = let left = h.1 in omega (arith, left)
    by (deed.Read a) h = absurd (false≢true h.0)
    by (deed.Publish a) h = absurd (false≢true h.0)
    by (deed.Answer a) h = absurd (false≢true h.0)

-- ---- courses

pub due_lighter : (there : List Bool) (held : List ℕ) (d : Deed) (answered : Option ℕ) (course : Course) → is_due course d ≡ true → course_events (after_deed there held d answered course) + cost d ≤ course_events course
due_lighter there held d answered idle is = absurd (false≢true is)
due_lighter there held d answered (off_course m file gathered) is = absurd (false≢true is)
due_lighter there held d answered (on_course m script last) is = by (done script d) refl is
  where
    by : (o : Option Script) → done script d ≡ o → is_some o ≡ true → course_events (option_map_or (λ rest. on_course m (settled there (is_empty held) rest) answered) o (on_course m script last)) + cost d ≤ suc (script_events script)
    by None e h = absurd (false≢true h)
    by (Some rest) e h = let less = done_lighter script d rest e in let light = settled_lighter there (is_empty held) rest in omega (arith, less, light)

pub free_lighter : (o : Outline) (there : List Bool) (held : List ℕ) (course : Course) → course_events (after_free o there held course) ≤ course_events course
free_lighter o there held idle = omega arith
free_lighter o there held (off_course m file gathered) = omega arith
free_lighter o there held (on_course m script last) = by (done script deed.Free) refl
  where
    by : (found : Option Script) → done script deed.Free ≡ found → course_events (option_map_or (λ rest. on_course m (settled there (is_empty held) rest) None) found (off_course m (wanted script) (is_gathered (goals_of o m) script))) ≤ suc (script_events script)
    by None e = omega arith
    by (Some rest) e = let less = done_lighter script deed.Free rest e in let light = settled_lighter there (is_empty held) rest in omega (arith, less, light)

-- ---- modules that wait

pub waiting_set : (ps : List Progress) (ms : List ModuleOutline) (i : ℕ) (p : Progress) → is_waiting p ≡ false → waiting_events (set ps i p) ms ≤ waiting_events ps ms
waiting_set [] ms i p isnt = omega arith
waiting_set (q ∷ ps) [] zero p isnt = omega arith
waiting_set (q ∷ ps) [] (suc i) p isnt = omega arith
waiting_set (q ∷ ps) (m ∷ ms) zero p isnt = subst (λ b. (if b then module_events m else 0) + waiting_events ps ms ≤ (if is_waiting q then module_events m else 0) + waiting_events ps ms) (sym isnt) (omega arith)
waiting_set (q ∷ ps) (m ∷ ms) (suc i) p isnt = let again = waiting_set ps ms i p isnt in omega (arith, again)

pub waiting_gone : (ps : List Progress) (ms : List ModuleOutline) (i : ℕ) (p : Progress) (m : ModuleOutline) → is_waiting p ≡ false → is_waiting (get_or ps i p) ≡ true → slice_get ms i ≡ Some m → waiting_events (set ps i p) ms + module_events m ≤ waiting_events ps ms
waiting_gone [] ms i p m isnt is at = absurd (false≢true (sym isnt ∙ is))
waiting_gone (q ∷ ps) [] i p m isnt is at = absurd (nothing_is m at)
waiting_gone (q ∷ ps) (x ∷ ms) zero p m isnt is at =
    let same : module_events x ≡ module_events m = ap (λ o. option_map_or module_events o 0) at in
    subst (λ b. (if b then module_events x else 0) + waiting_events ps ms + module_events m ≤ (if is_waiting q then module_events x else 0) + waiting_events ps ms) (sym isnt)
    (subst (λ b. 0 + waiting_events ps ms + module_events m ≤ (if b then module_events x else 0) + waiting_events ps ms) (sym is) (omega (arith, same)))
waiting_gone (q ∷ ps) (x ∷ ms) (suc i) p m isnt is at = let again = waiting_gone ps ms i p m isnt is at in omega (arith, again)
