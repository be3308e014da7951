-- The names of a batch are taken one after another, and with the last one the files that are there decide what comes next.
use Rattle.std.proofs.Common.{◌≡◌, ℕ, ◌+◌, ◌<◌, ◌≤◌, Bool, true, false, ◌||◌, nat_eq, List, [], ◌∷◌, ◌++◌, length, take, get_or, slice_get, Option, None, Some, IfSome, is_some, refl, arith, sym, ap, subst, ◌∙◌}
use Rattle.std.specs.Option.{option_map_or}
use Rattle.std.specs.List.{list_all, list_any}
use Rattle.std.proofs.lemmas.Bool.{false≢true}
use Rattle.std.proofs.lemmas.List.{take_all, take_more}
use Rattle.build_core.specs.declared.mode.Mode.{Mode}
use Rattle.build_core.specs.declared.mode.Mode.TheVariants.{Shared, Exclusive}
use Rattle.build_core.specs.declared.event.Event.TheVariants as event
use Rattle.build_core.specs.declared.plan.Plan.{Plan}
use Rattle.build_core.specs.declared.plan.PlanModule.{PlanModule}
use Rattle.scripts.specs.declared.deed.Deed.TheVariants as deed
use Rattle.scripts.specs.declared.outline.ModuleOutline.{ModuleOutline}
use Rattle.scripts.specs.declared.script_place.ScriptPlace.{ScriptPlace}
use Rattle.scripts.specs.declared.script_place.ScriptPlace.TheVariants as place
use Rattle.event_core.specs.Causes.{stage_at}
use Rattle.event_core.specs.Enabled.{is_due}
use Rattle.scripts.specs.Outlines.{is_empty, is_listed}
use Rattle.event_core.specs.Runs.{module_by, standing_of_run}
use Rattle.scripts.specs.ScriptPlaces.{rest_of}
use Rattle.scripts.specs.Scripts.{Script, choice_script, done, fetches, is_there, read_script, settled, stage_of, steps, takes}
use Rattle.event_core.specs.SoundPlans.{IsSoundPlan}
use Rattle.event_core.specs.Standing.{after_deed, module_of, on_course}
use Rattle.event_core.specs.Worlds.{FitsTake, Stood}
use Rattle.scripts.proofs.Dues.{lock_yes, share_yes}
use Rattle.scripts.proofs.ScriptPlaces.{free_held, lock_more, locking_end, share_more, steps_at, steps_end}
use Rattle.run_law.specs.Absent.{IsFirstAbsent}
use Rattle.run_law.proofs.Settling.{choosing, fetching, late}
use Rattle.atomic_table.specs.Seated.{TableId}
use Rattle.crew_turns.specs.Seen.{AlwaysFits, Follows, IsOf, Steps, Told, course_by, names_by, seen_by, there_by}
use Rattle.crew_turns.specs.Tasks.{IsTask, ModuleTask, StandsAt, unit_outline}
use Rattle.crew_turns.proofs.Taken.{itself}
use Rattle.crew_turns.specs.Stages.{IsTaken, IsToTake, taking}
use Rattle.crew_modules.proofs.Stepping.{Took, step_took}
use Rattle.crew_modules.proofs.Taking.{fits_both, follows_both, follows_itself}

-- the place behind so many names
abbrev pub place_at : Mode → ℕ → ScriptPlace
place_at Shared i = place.Sharing i
place_at Exclusive i = place.Locking i

abbrev stage_in : Mode → ℕ
stage_in Shared = 2
stage_in Exclusive = 3

-- so many names are taken, and nothing is passed over but what the files that are there decide
abbrev pub HasTaken : ModuleTask → Mode → ℕ → Told → Type 0
HasTaken t mode at pass = StandsAt t (settled (there_by t.plan pass) (is_empty (take at t.unit.batch)) (rest_of (unit_outline t) (place_at mode at))) None (take at t.unit.batch) pass

pub record IsTaking (t : ModuleTask) (lock : TableId) (mode : Mode) (at : ℕ) (found : Option ℕ) (before pass : Told) : Type 0 where
  pub of : IsOf t.plan lock t.worker pass
  pub follows : Follows before pass
  pub fits : AlwaysFits t.plan t.worker before pass
  pub here : HasTaken t mode at pass
  -- no name is taken; and with the last one
  pub none : at ≡ 0 → found ≡ None
  pub last : 0 < at → length t.unit.batch ≤ at → IsFirstAbsent (there_by t.plan pass) t.unit.fetch 0 found

-- ---- places

module _ (m : ModuleOutline) where
  still : (mode : Mode) (i : ℕ) → i < length m.batch → (there : List Bool) (empty : Bool) → settled there empty (rest_of m (place_at mode i)) ≡ rest_of m (place_at mode i)
  still Shared i low there empty = share_more m there empty i low
  still Exclusive i low there empty = lock_more m there empty i low

  wants : (mode : Mode) (i : ℕ) → i < length m.batch → done (rest_of m (place_at mode i)) (deed.Take mode (get_or m.batch i 0)) ≡ Some (rest_of m (place_at mode (i + 1)))
  wants Shared i low = sym (share_yes m i (get_or m.batch i 0) low (itself (get_or m.batch i 0)))
  wants Exclusive i low = sym (lock_yes m i (get_or m.batch i 0) low (itself (get_or m.batch i 0)))

  early : (mode : Mode) (i : ℕ) → i < length m.batch → nat_eq (stage_of (rest_of m (place_at mode i))) 6 ≡ false
  unfolding rest_of
  early Shared i low = ap (λ s. nat_eq (stage_of s) 6) (steps_at 2 (takes Shared) m.batch i (choice_script m) low)
  early Exclusive i low = ap (λ s. nat_eq (stage_of s) 6) (steps_at 3 (takes Exclusive) m.batch i (steps 3 fetches m.fetch (read_script m)) low)

  -- behind the last name
  sharing_end : (i : ℕ) → length m.batch ≤ i → rest_of m (place.Sharing i) ≡ choice_script m
  unfolding rest_of
  sharing_end i far = steps_end 2 (takes Shared) m.batch i (choice_script m) far

-- ---- a module without names fetches nothing

nothing_listed : (xs : List ℕ) → is_empty xs ≡ true → (n : ℕ) → is_listed n xs ≡ false
nothing_listed [] is n = refl
nothing_listed (x ∷ xs) is n = absurd (false≢true is)

no_files : (plan : Plan) (number : ℕ) (m : PlanModule) → IsSoundPlan plan → slice_get plan.modules number ≡ Some m → is_empty m.batch ≡ true → m.fetch ≡ []
no_files plan number m sound at none = by m.fetch refl
  where
    by : (files : List ℕ) → m.fetch ≡ files → files ≡ []
    by [] e = refl
    by (f ∷ files) e =
        let covers = sound.cover f in
        let listed : is_listed f m.fetch ≡ true = ap (is_listed f) e ∙ ap (λ b. b || list_any (λ y. nat_eq y f) files) (itself f) in
        absurd (false≢true (sym (nothing_listed m.batch none covers.0) ∙ covers.1 number m at listed))

-- ---- one name

module _ (t : ModuleTask) (mode : Mode) (at : ℕ) (before : Told) (low : at < length t.unit.batch) (here : HasTaken t mode at before) where
  abbrev m : ModuleOutline
  m = unit_outline t

  abbrev name : ℕ
  name = get_or t.unit.batch at 0

  course_here : course_by t.plan t.worker before ≡ on_course t.number (rest_of m (place_at mode at)) None
  course_here = here.course ∙ ap (λ s. on_course t.number s None) (still m mode at low (there_by t.plan before) (is_empty (take at t.unit.batch)))

  pub whose_here : module_by t.plan (seen_by before) t.worker ≡ Some t.number
  whose_here = ap module_of here.course

  pub due_here : is_due (course_by t.plan t.worker before) (deed.Take mode name) ≡ true
  due_here = ap (λ c. is_due c (deed.Take mode name)) course_here ∙ ap is_some (wants m mode at low)

  pub fits_here : (s : Stood) → FitsTake (nat_eq (stage_at (course_by t.plan t.worker before)) 6) s
  fits_here s = subst (λ b. FitsTake b s) (sym (ap (λ c. nat_eq (stage_at c) 6) course_here ∙ early m mode at low)) tt

  next : (pass : Told) → Took (names_by t.plan t.worker before) (course_by t.plan t.worker before) t.worker name mode (standing_of_run t.plan (seen_by pass)) → HasTaken t mode (at + 1) pass
  next pass took =
      let names : names_by t.plan t.worker before ++ name ∷ [] ≡ take (at + 1) t.unit.batch = ap (λ ns. ns ++ name ∷ []) here.held ∙ sym (take_more t.unit.batch at 0 low) in
      record {
        course =
            took.0
            ∙ ap (λ ns. after_deed (there_by t.plan pass) ns (deed.Take mode name) None (course_by t.plan t.worker before)) names
            ∙ ap (after_deed (there_by t.plan pass) (take (at + 1) t.unit.batch) (deed.Take mode name) None) course_here
            ∙ ap (λ found. option_map_or (λ rest. on_course t.number (settled (there_by t.plan pass) (is_empty (take (at + 1) t.unit.batch)) rest) None) found (on_course t.number (rest_of m (place_at mode at)) None)) (wants m mode at low);
        held = took.1 ∙ names;
      }

-- ---- the whole batch

module _ (t : ModuleTask) (lock : TableId) (mode : Mode) (before : Told) where
  first_place : (mode : Mode) → taking mode ≡ place_at mode 0
  first_place Shared = refl
  first_place Exclusive = refl

  pub taking_first : IsOf t.plan lock t.worker before → IsToTake t mode before → IsTaking t lock mode 0 None before before
  taking_first of at = record {
    of = of;
    follows = follows_itself t.plan lock t.worker before of;
    fits = λ told fits. fits;
    here = record { course = at.course ∙ ap (λ p. on_course t.number (settled (there_by t.plan before) true (rest_of (unit_outline t) p)) None) (first_place mode); held = at.held };
    none = λ e. refl;
    last = λ some. absurd (omega (arith, some));
  }

  pub taking_more : (at from : ℕ) (old found : Option ℕ) (mid pass : Told) → at < length t.unit.batch → (at + 1 ≡ length t.unit.batch → from ≡ 0) → IsTaking t lock mode at old before mid
      → Steps t.plan lock t.worker (event.Take t.worker (get_or t.unit.batch at 0) mode) mid pass → IsFirstAbsent (there_by t.plan pass) t.unit.fetch from found → AlwaysFits t.plan t.worker mid pass
      → IsTaking t lock mode (at + 1) found before pass
  taking_more at from old found mid pass low whole is turn first fits = record {
    of = turn.of;
    follows = follows_both before mid pass is.follows turn.follows;
    fits = fits_both t.plan t.worker before mid pass is.fits fits;
    here = next t mode at mid low is.here pass (step_took t.plan lock t.worker (get_or t.unit.batch at 0) mid pass mode turn);
    none = λ e. absurd (omega (arith, e));
    last = λ some far. subst (λ n. IsFirstAbsent (there_by t.plan pass) t.unit.fetch n found) (whole (omega (arith, low, far))) first;
  }

-- ---- all of it

module _ (t : ModuleTask) (mode : Mode) (found : Option ℕ) (pass : Told) (none : is_empty t.unit.batch ≡ true → found ≡ None)
    (at : StandsAt t (settled (there_by t.plan pass) (is_empty t.unit.batch) (rest_of (unit_outline t) (place_at mode (length t.unit.batch)))) None t.unit.batch pass) where
  abbrev there : List Bool
  there = there_by t.plan pass

  abbrev empty : Bool
  empty = is_empty t.unit.batch

  abbrev behind : Script
  behind = settled there empty (rest_of (unit_outline t) (place_at mode (length t.unit.batch)))

  -- where a file is absent there is a name
  some_name : (k : ℕ) → found ≡ Some k → empty ≡ false
  some_name k is = by empty none
    where
      by : (b : Bool) → (b ≡ true → found ≡ None) → b ≡ false
      by true gone = absurd (false≢true (ap is_some (sym (gone refl) ∙ is)))
      by false gone = refl

  turned : (s : Script) → behind ≡ s → StandsAt t s None t.unit.batch pass
  turned s is = record { course = at.course ∙ ap (λ x. on_course t.number x None) is; held = at.held }

  read : list_all (is_there there) t.unit.fetch ≡ true → behind ≡ settled there empty (rest_of (unit_outline t) (place.Reading 0)) → IsTaken t mode None pass
  read all is = record { at = turned (settled [] empty (rest_of (unit_outline t) (place.Reading 0))) (is ∙ late (unit_outline t) there empty (place.Reading 0) (omega arith)); all = all }

-- by the mode, and by whether a file is absent
taken_so : (t : ModuleTask) (mode : Mode) (found : Option ℕ) (pass : Told) → IsFirstAbsent (there_by t.plan pass) t.unit.fetch 0 found → (is_empty t.unit.batch ≡ true → found ≡ None)
    → StandsAt t (settled (there_by t.plan pass) (is_empty t.unit.batch) (rest_of (unit_outline t) (place_at mode (length t.unit.batch)))) None t.unit.batch pass → IsTaken t mode found pass
taken_so t Shared None pass first none at =
    read t Shared None pass none at first
    (ap (settled (there_by t.plan pass) (is_empty t.unit.batch)) (sharing_end (unit_outline t) (length t.unit.batch) (omega arith)) ∙ choosing (unit_outline t) (there_by t.plan pass) (is_empty t.unit.batch) None first)
taken_so t Exclusive None pass first none at =
    read t Exclusive None pass none at first
    (ap (settled (there_by t.plan pass) (is_empty t.unit.batch)) (locking_end (unit_outline t) (length t.unit.batch) (omega arith)) ∙ fetching (unit_outline t) (there_by t.plan pass) (is_empty t.unit.batch) 0 None first)
taken_so t Shared (Some k) pass first none at =
    turned t Shared (Some k) pass none at (rest_of (unit_outline t) place.Unsharing)
    (ap (settled (there_by t.plan pass) (is_empty t.unit.batch)) (sharing_end (unit_outline t) (length t.unit.batch) (omega arith)) ∙ choosing (unit_outline t) (there_by t.plan pass) (is_empty t.unit.batch) (Some k) first
    ∙ free_held (unit_outline t) (there_by t.plan pass) (is_empty t.unit.batch) (some_name t Shared (Some k) pass none at k refl))
taken_so t Exclusive (Some k) pass first none at = (
  first.1,
  turned t Exclusive (Some k) pass none at (rest_of (unit_outline t) (place.Fetching k))
      (ap (settled (there_by t.plan pass) (is_empty t.unit.batch)) (locking_end (unit_outline t) (length t.unit.batch) (omega arith)) ∙ fetching (unit_outline t) (there_by t.plan pass) (is_empty t.unit.batch) 0 (Some k) first),
)

-- so what is found is found with a name
named : (found : Option ℕ) (b : Bool) → (b ≡ true → found ≡ None) → IfSome found (λ k. b ≡ false)
named None b none = tt
named (Some k) true none = absurd (false≢true (ap is_some (sym (none refl))))
named (Some k) false none = refl

no_length : (xs : List ℕ) → is_empty xs ≡ true → length xs ≡ 0
no_length [] is = refl
no_length (x ∷ xs) is = absurd (false≢true is)

some_length : (xs : List ℕ) → is_empty xs ≡ false → 0 < length xs
some_length [] is = absurd (false≢true (sym is))
some_length (x ∷ xs) is = omega arith

module _ (t : ModuleTask) (lock : TableId) (mode : Mode) (before pass : Told) (task : IsTask t) (at : ℕ) (found : Option ℕ) (low : at ≤ length t.unit.batch) (far : length t.unit.batch ≤ at) (is : IsTaking t lock mode at found before pass) where
  whole : at ≡ length t.unit.batch
  whole = omega (arith, low, far)

  -- without a name no file is looked for
  unnamed : is_empty t.unit.batch ≡ true → found ≡ None
  unnamed none = is.none (whole ∙ no_length t.unit.batch none)

  absent_first : IsFirstAbsent (there_by t.plan pass) t.unit.fetch 0 found
  absent_first = by (is_empty t.unit.batch) refl
    where
      by : (b : Bool) → is_empty t.unit.batch ≡ b → IsFirstAbsent (there_by t.plan pass) t.unit.fetch 0 found
      by true e =
          subst (IsFirstAbsent (there_by t.plan pass) t.unit.fetch 0) (sym (unnamed e))
          (subst (λ files. IsFirstAbsent (there_by t.plan pass) files 0 None) (sym (no_files t.plan t.number t.unit is.of.sound task e)) refl)
      by false e = let some = some_length t.unit.batch e in is.last (omega (arith, some, far)) far

  pub taken_all : IsTaken t mode found pass
  taken_all =
      taken_so t mode found pass absent_first unnamed
      (subst (λ ns. StandsAt t (settled (there_by t.plan pass) (is_empty ns) (rest_of (unit_outline t) (place_at mode (length t.unit.batch)))) None ns pass) (take_all (length t.unit.batch) t.unit.batch (omega arith))
      (subst (λ n. HasTaken t mode n pass) whole is.here))

  pub some_names : IfSome found (λ k. is_empty t.unit.batch ≡ false)
  some_names = named found (is_empty t.unit.batch) unnamed
