-- How long a run is at most.
use Rattle.std.proofs.Common.{◌≡◌, ℕ, suc, ◌≤◌, ◌+◌, ◌*◌, ◌⊎◌, inl, inr, Bool, true, false, ◌||◌, nat_eq, List, [], ◌∷◌, ◌++◌, length, map, fold, slice_get, Some, refl, arith, sym, ap, subst, ◌∙◌, if◌then◌else◌}
use Rattle.std.specs.List.{list_all}
use Rattle.std.proofs.lemmas.Bool.{eqb-true, false≢true}
use Rattle.std.proofs.lemmas.List.{append-nil, append_assoc}
use Rattle.build_core.specs.declared.event.Event.{Event}
use Rattle.build_core.specs.declared.plan.Entry.{Entry}
use Rattle.build_core.specs.declared.plan.Origin.{Origin}
use Rattle.build_core.specs.declared.plan.Origin.TheVariants as origin
use Rattle.build_core.specs.declared.plan.OwnFile.{OwnFile}
use Rattle.build_core.specs.declared.mode.Mode.TheVariants.{Shared, Exclusive}
use Rattle.scripts.specs.declared.outline.Outline.{Outline}
use Rattle.scripts.specs.declared.outline.ModuleOutline.{ModuleOutline}
use Rattle.build_core.specs.declared.plan.Plan.{Plan}
use Rattle.build_core.specs.declared.plan.PlanModule.{PlanModule}
use Rattle.event_core.specs.declared.entry.RunEntry.{RunEntry}
use Rattle.event_core.specs.EventsLeft.{events_left}
use Rattle.scripts.specs.Bounds.{module_events, most_events, script_events, step_events, total}
use Rattle.scripts.specs.Climbing.{but}
use Rattle.event_core.specs.Enabled.{Enabled, IsRun}
use Rattle.event_core.specs.Fitting.{IsFit}
use Rattle.build_core.specs.Locks.{below}
use Rattle.scripts.specs.Outlines.{files_of, files_read, is_listed, module_outline, once_more, outline_of}
use Rattle.event_core.specs.Runs.{IsRunOf, events_of}
use Rattle.scripts.specs.Scripts.{Script, Step, answers, choice_script, fetches, frees, install_script, may_publish, own_script, read_script, reads, release_script, step, steps, takes, whole}
use Rattle.event_core.specs.SoundPlans.{IsSoundPlan, IsSoundPlanModule, greatest_events, is_backed}
use Rattle.event_core.specs.Standing.{standing_of}
use Rattle.scripts.proofs.Climbs.{but_shorter, listed_but, listed_last, listed_more}
use Rattle.event_core.proofs.Fits.{fewer_after, fit_after, fit_first, most_first, one_more, same_or_not}
use Rattle.run_law.proofs.Once.{both, listed_first, listed_later}
use Rattle.scripts.proofs.ScriptPlaces.{length_below}

-- there is an event for each entry
events_long : (entries : List RunEntry) → length (events_of entries) ≡ length entries
events_long [] = refl
events_long (e ∷ entries) = ap suc (events_long entries)

-- one item more is one more
longer : (xs : List ℕ) (n : ℕ) → length (xs ++ n ∷ []) ≡ suc (length xs)
longer [] n = refl
longer (x ∷ xs) n = ap suc (longer xs n)

-- what a run has left, with its length, was left at its beginning
more_left : (o : Outline) (past events : List Event) → IsFit o (standing_of o past) → IsRun o past events → length events + events_left o (standing_of o (past ++ events)) ≤ events_left o (standing_of o past)
unfolding Enabled
more_left o past [] fit run = let same = ap (λ es. events_left o (standing_of o es)) (append-nil past) in omega (arith, same)
more_left o past (e ∷ events) fit run =
    let fewer = fewer_after o (standing_of o past) e fit run.0 in
    let rest = more_left o (past ++ e ∷ []) events (subst (IsFit o) (sym (one_more o past e)) (fit_after o (standing_of o past) e fit run.0)) run.1 in
    let here = ap (events_left o) (one_more o past e) in
    let same = ap (λ es. events_left o (standing_of o es)) (append_assoc past (e ∷ []) events) in
    omega (arith, fewer, rest, here, same)

-- what is left behind a run, with its length, is at most what was left at first
pub run_left : (o : Outline) (events : List Event) → IsRun o [] events → length events + events_left o (standing_of o events) ≤ most_events o
run_left o events run = let all = more_left o [] events (fit_first o) run in let first = most_first o in omega (arith, all, first)

-- so a run is no longer than an outline's most events
pub run_short : (o : Outline) (events : List Event) → IsRun o [] events → length events ≤ most_events o
run_short o events run = let all = run_left o events run in omega (arith, all)

-- ---- a sound plan has room for all events

module _ (stage : ℕ) (f : ℕ → Step) (rest : Script) where
  -- steps of one event each
  one_each : ((x : ℕ) → step_events (f x) ≡ 1) → (xs : List ℕ) → script_events (steps stage f xs rest) ≡ length xs + script_events rest
  one_each same [] = omega arith
  one_each same (x ∷ xs) = let here = same x in let again = one_each same xs in omega (arith, here, again)

  -- steps of two events each
  two_each : ((x : ℕ) → step_events (f x) ≡ 2) → (xs : List ℕ) → script_events (steps stage f xs rest) ≡ 2 * length xs + script_events rest
  two_each same [] = omega arith
  two_each same (x ∷ xs) = let here = same x in let again = two_each same xs in omega (arith, here, again)

-- own files are an event each
own_small : (own : List ℕ) → script_events (own_script own) ≤ length own
own_small [] = omega arith
own_small (pom ∷ others) = let all = one_each 6 may_publish (step 6 frees whole) (λ x. refl) others in omega (arith, all)

-- installing is two events and one for each own file
install_small : (m : ModuleOutline) → script_events (install_script m) ≤ 2 + length m.own
install_small m = by m.installs
  where
    by : (b : Bool) → script_events (if b then step 6 (takes Exclusive m.own_name) (own_script m.own) else whole) ≤ 2 + length m.own
    by true = let own = own_small m.own in omega (arith, own)
    by false = omega arith

-- what follows the fetch list
read_small : (m : ModuleOutline) → script_events (read_script m) ≤ length m.reads + m.goals + 2 + length m.own
read_small m =
    let r = one_each 4 reads (release_script m) (λ x. refl) m.reads in
    let a = one_each 5 answers (install_script m) (λ x. refl) (below m.goals) in
    let n = length_below m.goals in
    let i = install_small m in
    omega (arith, r, a, n, i)

-- so the events of a module, by the lengths of its lists
module_small : (m : ModuleOutline) → module_events m ≤ 4 + 4 * length m.batch + length m.fetch + length m.reads + m.goals + length m.own
module_small m =
    let s = two_each 2 (takes Shared) (choice_script m) (λ x. refl) m.batch in
    let l = two_each 3 (takes Exclusive) (steps 3 fetches m.fetch (read_script m)) (λ x. refl) m.batch in
    let f = one_each 3 fetches (read_script m) (λ x. refl) m.fetch in
    let r = read_small m in
    omega (arith, s, l, f, r)

-- what is listed once, of what a list has, is no longer than the list
room : (ys xs met left : List ℕ) → ((y : ℕ) → is_listed y ys ≡ true → (is_listed y met ≡ true) ⊎ (is_listed y left ≡ true)) → ((x : ℕ) → is_listed x xs ≡ true → is_listed x ys ≡ true) → length (fold once_more met xs) ≤ length met + length left
room ys [] met left inside sub = omega arith
room ys (x ∷ xs) met left inside sub = by (is_listed x met) refl (λ met left inside. room ys xs met left inside (λ y l. sub y (listed_later x y xs l)))
  where
    by : (b : Bool) → is_listed x met ≡ b → ((met left : List ℕ) → ((y : ℕ) → is_listed y ys ≡ true → (is_listed y met ≡ true) ⊎ (is_listed y left ≡ true)) → length (fold once_more met xs) ≤ length met + length left) → length (fold once_more (if b then met else met ++ x ∷ []) xs) ≤ length met + length left
    by true e again = again met left inside
    by false e again = place (inside x (sub x (listed_first x xs)))
      where
        place : (is_listed x met ≡ true) ⊎ (is_listed x left ≡ true) → length (fold once_more (met ++ x ∷ []) xs) ≤ length met + length left
        place (inl l) = absurd (false≢true (sym e ∙ l))
        place (inr l) =
            let more = again (met ++ x ∷ []) (but x left) (λ y k. moved y (inside y k)) in
            let few = but_shorter left x l in
            let long = longer met x in
            omega (arith, more, few, long)
          where
            apart : (y : ℕ) → (y ≡ x) ⊎ ((y ≡ x) → ⊥) → is_listed y left ≡ true → (is_listed y (met ++ x ∷ []) ≡ true) ⊎ (is_listed y (but x left) ≡ true)
            apart y (inl same) k = inl (subst (λ z. is_listed z (met ++ x ∷ []) ≡ true) (sym same) (listed_last met x))
            apart y (inr other) k = inr (listed_but left y x k other)

            moved : (y : ℕ) → (is_listed y met ≡ true) ⊎ (is_listed y left ≡ true) → (is_listed y (met ++ x ∷ []) ≡ true) ⊎ (is_listed y (but x left) ≡ true)
            moved y (inl k) = inl (listed_more met y x k)
            moved y (inr k) = apart y (same_or_not y x) k

-- the file of an entry is fetched
entry_backed : (m : PlanModule) (e : Entry) (entries : List Entry) (from : Origin) (x : ℕ) → is_backed m from ≡ true → (is_listed x (files_of entries) ≡ true → is_listed x m.fetch ≡ true) → is_listed x (files_of ((record e { origin = from }) ∷ entries)) ≡ true → is_listed x m.fetch ≡ true
entry_backed m e entries (origin.File f) x back again l = by (nat_eq f x) refl l
  where
    by : (b : Bool) → nat_eq f x ≡ b → (b || is_listed x (files_of entries)) ≡ true → is_listed x m.fetch ≡ true
    by true e l = subst (λ y. is_listed y m.fetch ≡ true) (eqb-true f x e) back
    by false e l = again l
entry_backed m e entries (origin.Module u s) x back again l = again l
entry_backed m e entries origin.Nothing x back again l = again l

-- so is each file of the classpath
entries_backed : (m : PlanModule) (entries : List Entry) → list_all (λ (e : Entry). is_backed m e.origin) entries ≡ true → (x : ℕ) → is_listed x (files_of entries) ≡ true → is_listed x m.fetch ≡ true
entries_backed m [] back x l = absurd (false≢true l)
entries_backed m (e ∷ entries) back x l =
    let parts = both (is_backed m e.origin) (list_all (λ (e : Entry). is_backed m e.origin) entries) back in
    entry_backed m e entries e.origin x parts.0 (entries_backed m entries parts.1 x) l

-- so there are no more reads than fetched files
reads_few : (m : PlanModule) → IsSoundPlanModule m → length (files_read m) ≤ length m.fetch
reads_few m sound = let few = room m.fetch (files_of m.entries) [] m.fetch (λ y l. inr l) (entries_backed m m.entries sound.entries) in omega (arith, few)

-- there are as many own files as own slots
own_map : (own : List OwnFile) → length (map (λ (o : OwnFile). o.file) own) ≡ length own
own_map [] = refl
own_map (o ∷ own) = ap suc (own_map own)

-- so a module of a sound plan has room
module_fits : (m : PlanModule) → IsSoundPlanModule m → module_events (module_outline m) ≤ greatest_events m
module_fits m sound =
    let small = module_small (module_outline m) in
    let few = reads_few m sound in
    let own = own_map m.own in
    omega (arith, small, few, own)

-- so have all modules
pub all_fit : (modules : List PlanModule) → ((number : ℕ) (m : PlanModule) → slice_get modules number ≡ Some m → IsSoundPlanModule m) → total module_events (map module_outline modules) ≤ total greatest_events modules
all_fit [] sound = omega arith
all_fit (m ∷ modules) sound =
    let here = module_fits m (sound 0 m refl) in
    let rest = all_fit modules (λ number x at. sound (suc number) x at) in
    omega (arith, here, rest)

-- so no run over a sound plan has more entries than the plan's events
pub events_enough : (plan : Plan) → IsSoundPlan plan → (entries : List RunEntry) → IsRunOf plan entries → length entries ≤ plan.events
events_enough plan sound entries run =
    let short = run_short (outline_of plan) (events_of entries) run in
    let fit = all_fit plan.modules sound.modules in
    let room = sound.events in
    let same = events_long entries in
    omega (arith, short, fit, room, same)
