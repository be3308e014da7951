-- How many modules ended so, by how they stand and by the run.
use Rattle.std.proofs.Common.{◌≡◌, ℕ, zero, suc, ◌+◌, ◌<◌, ◌≤◌, ◌⊎◌, inl, inr, Bool, true, false, not, List, [], ◌∷◌, ◌++◌, filter, length, map, replicate, set, slice_get, Option, Some, None, take, arith, refl, sym, ap, subst, ◌∙◌, if◌then◌else◌}
use Rattle.std.specs.List.{list_all}
use Rattle.std.proofs.lemmas.Bool.{false≢true}
use Rattle.std.proofs.lemmas.List.{length-append, map-append, take_all}
use Rattle.std.proofs.lemmas.List.Elements.{filter-append}
use Rattle.build_core.specs.Locks.{below}
use Rattle.build_core.specs.declared.ending.Device.{Device}
use Rattle.build_core.specs.declared.ending.Device.TheVariants as device
use Rattle.build_core.specs.declared.ending.Ending.{Ending}
use Rattle.build_core.specs.declared.ending.Ending.TheVariants as ending
use Rattle.build_core.specs.declared.ending.State.{State}
use Rattle.build_core.specs.declared.ending.State.TheVariants as state
use Rattle.build_core.specs.declared.event.Event.{Event}
use Rattle.build_core.specs.declared.event.Event.TheVariants as event
use Rattle.build_core.specs.declared.plan.Plan.{Plan}
use Rattle.event_core.specs.Enabled.{IsEnabled, ending_in_range, may_end_so}
use Rattle.scripts.specs.Outlines.{module_outline, outline_of}
use Rattle.event_core.specs.Runs.{IsQuiet, IsRunOf, events_of, is_quiet_event, standing_of_run}
use Rattle.event_core.specs.SoundPlans.{IsSoundPlan}
use Rattle.event_core.specs.HowFar.{is_waiting, progress_of, state_of}
use Rattle.event_core.specs.Standing.{Course, Standing, after, course_of, ended, idle, module_of, off_course, on_course}
use Rattle.event_core.specs.declared.entry.RunEntry.{RunEntry}
use Rattle.scripts.specs.declared.outline.Outline.{Outline}
use Rattle.event_core.specs.declared.module_steps.Progress.{Progress}
use Rattle.event_core.specs.declared.module_steps.Progress.TheVariants.{Waiting, Running, Skipped, Ended}
use Rattle.scripts.proofs.Climbs.{both}
use Rattle.board.specs.Logs.{is_shelf_end, shelf_endings}
use Rattle.run_law.proofs.Basics.{and_is}
use Rattle.run_law.proofs.Complete.{IsStanding, standing}
use Rattle.run_law.proofs.Ended.{lt_is}
use Rattle.run_law.proofs.JudgedRuns.{ended_or, waits_on}
use Rattle.run_law.proofs.Stored.{length_map}
use Rattle.run_law.specs.Given.{is_fault, state_after, states_after}
use Rattle.crew_turns.specs.Endings.{is_fault_of, is_quiet_end}
use Rattle.crew.specs.AsOne.{are_calm}
use Rattle.crew.specs.Counted.{count_of, ends_in, ends_so, stands_so}
use Rattle.crew.proofs.Behind.{behind, stands_more}

-- ---- lists that are counted

abbrev pub one_of : Bool → ℕ
one_of true = 1
one_of false = 0

-- one item more in front
pub counted : {A : Type 0} (test : A → Bool) (x : A) (xs : List A) → length (filter test (x ∷ xs)) ≡ one_of (test x) + length (filter test xs)
counted test x xs = by (test x)
  where
    by : (b : Bool) → length (if b then x ∷ filter test xs else filter test xs) ≡ one_of b + length (filter test xs)
    by true = omega arith
    by false = omega arith

-- and at the end
pub counted_last : {A : Type 0} (test : A → Bool) (xs : List A) (x : A) → length (filter test (xs ++ x ∷ [])) ≡ length (filter test xs) + one_of (test x)
counted_last test xs x =
    let parts = ap length (filter-append test xs (x ∷ [])) ∙ length-append (filter test xs) (filter test (x ∷ [])) in
    let one = counted test x [] in
    omega (arith, parts, one)

-- ---- modules

abbrev went_so : (Ending → Bool) → Progress → Bool
went_so test (Ended e) = test e
went_so test other = false

abbrev went : (Ending → Bool) → List Progress → ℕ
went test ps = length (filter (went_so test) ps)

module _ (test : Ending → Bool) where
  -- one module goes on: it had not ended so
  went_set : (ps : List Progress) (m : ℕ) (p : Progress) → m < length ps → went_so test (progress_of ps m) ≡ false → went test (set ps m p) ≡ went test ps + one_of (went_so test p)
  went_set [] m p low not_so = absurd (omega (arith, low))
  went_set (x ∷ ps) zero p low not_so =
      let new = counted (went_so test) p ps in
      let old = counted (went_so test) x ps in
      let none = ap one_of not_so in
      omega (arith, new, old, none)
  went_set (x ∷ ps) (suc m) p low not_so =
      let again = went_set ps m p (omega (arith, low)) not_so in
      let new = counted (went_so test) x (set ps m p) in
      let old = counted (went_so test) x ps in
      omega (arith, again, new, old)

  -- none has at first
  went_first : (n : ℕ) → went test (replicate n Waiting) ≡ 0
  went_first zero = refl
  went_first (suc n) = let one = counted (went_so test) Waiting (replicate n Waiting) in let again = went_first n in omega (arith, one, again)

  -- what waits has not ended
  waits_not : (p : Progress) → is_waiting p ≡ true → went_so test p ≡ false
  waits_not Waiting is = refl
  waits_not (Running w) is = refl
  waits_not Skipped is = refl
  waits_not (Ended e) is = absurd (false≢true is)

  -- nothing more
  still : (n : ℕ) → n ≡ n + 0
  still n = omega arith

  -- who may end a module is at one
  pub at_module : (o : Outline) (c : Course) (e : Ending) → may_end_so o c e ≡ true → (m : ℕ) × (module_of c ≡ Some m)
  at_module o idle e is = absurd (false≢true is)
  at_module o (on_course m script last) e is = (m, refl)
  at_module o (off_course m file gathered) e is = (m, refl)

  -- behind an event more have ended so if it is such an end
  went_after : (o : Outline) (now : Standing) (e : Event) → IsStanding o now → IsEnabled o now e → went test (after o now e).progress ≡ went test now.progress + one_of (ends_so test e)
  unfolding after
  went_after o now (event.Start w m) s is = let low = is.1 in let long = s.fit.modules in went_set now.progress m (Running w) (omega (arith, low, long)) (waits_not (progress_of now.progress m) is.2)
  went_after o now (event.Skip m) s is = let low = is.0 in let long = s.fit.modules in went_set now.progress m Skipped (omega (arith, low, long)) (waits_not (progress_of now.progress m) is.1)
  went_after o now (event.Take w n mode) s is = still (went test now.progress)
  went_after o now (event.Free w n) s is = still (went test now.progress)
  went_after o now (event.Read w f) s is = still (went test now.progress)
  went_after o now (event.Publish w f) s is = still (went test now.progress)
  went_after o now (event.Answer w g) s is = still (went test now.progress)
  went_after o now (event.End w x) s is =
      let at = at_module o (course_of now w) x is.3 in
      let low = s.tied.real w at.0 at.1 in
      let long = s.fit.modules in
      subst (λ found. went test (ended found x now.progress) ≡ went test now.progress + one_of (test x)) (sym at.1)
      (went_set now.progress at.0 (Ended x) (omega (arith, low, long)) (ap (went_so test) (s.tied.busy w at.0 at.1)))

  -- so behind a run as many as its events end so
  went_run : (plan : Plan) (run : List RunEntry) → IsRunOf plan run → went test (standing_of_run plan run).progress ≡ ends_in test run
  went_run plan = behind plan (λ past. went test (standing_of_run plan past).progress ≡ ends_in test past)
      (λ past e before s holds is.
      let next = ap (λ (now : Standing). went test now.progress) (stands_more plan past e) in
      let one = went_after (outline_of plan) (standing_of_run plan past) e.event s is in
      let more = counted_last (λ (x : RunEntry). ends_so test x.event) past e in
      omega (arith, next, one, more, holds))
      (went_first (length (outline_of plan).modules))

  -- how a module stands says so too
  stands_went : (o : Outline) (ps : List Progress) (m : ℕ) → stands_so test (state_of o ps m) ≡ went_so test (progress_of ps m)
  stands_went o ps m = by (progress_of ps m) refl
    where
      by : (p : Progress) → progress_of ps m ≡ p → stands_so test (state_of o ps m) ≡ went_so test (progress_of ps m)
      by Waiting e = rw e refl
      by (Running w) e = rw e refl
      by Skipped e = rw e refl
      by (Ended x) e = rw e refl

  -- one place more
  took : (ps : List Progress) (k : ℕ) → k < length ps → went test (take (suc k) ps) ≡ went test (take k ps) + one_of (went_so test (progress_of ps k))
  took [] k low = absurd (omega (arith, low))
  took (x ∷ ps) zero low = let one = counted (went_so test) x [] in omega (arith, one)
  took (x ∷ ps) (suc k) low =
      let again = took ps k (omega (arith, low)) in
      let new = counted (went_so test) x (take (suc k) ps) in
      let old = counted (went_so test) x (take k ps) in
      omega (arith, again, new, old)

  -- so many places are counted one by one
  went_front : (ps : List Progress) (f : ℕ → State) → ((m : ℕ) → stands_so test (f m) ≡ went_so test (progress_of ps m)) → (k : ℕ) → k ≤ length ps → length (filter (stands_so test) (map f (below k))) ≡ went test (take k ps)
  went_front ps f same zero low = refl
  went_front ps f same (suc k) low =
      let split = ap (λ (xs : List State). length (filter (stands_so test) xs)) (map-append f (below k) (k ∷ [])) in
      let more = counted_last (stands_so test) (map f (below k)) (f k) in
      let one = ap one_of (same k) in
      let next = took ps k (omega (arith, low)) in
      let again = went_front ps f same k (omega (arith, low)) in
      omega (arith, split, more, one, next, again)

  -- as many modules stand as ended so as events of the run end so
  pub ends : (plan : Plan) (run : List RunEntry) → IsRunOf plan run → count_of test (states_after plan run) ≡ ends_in test run
  ends plan run is =
      let ps : List Progress = (standing_of_run plan run).progress in
      let s = standing (outline_of plan) (events_of run) is in
      let long = s.fit.modules in
      let same = length_map module_outline plan.modules in
      let n : ℕ = length plan.modules in
      let high : n ≤ length ps = omega (arith, long, same) in
      let low : length ps ≤ n = omega (arith, long, same) in
      went_front ps (state_after plan run) (stands_went (outline_of plan) ps) n high ∙ ap (went test) (take_all n ps low) ∙ went_run plan run is

-- ---- no faults

-- where no item passes a test, none is counted
none_counted : {A : Type 0} (test : A → Bool) (xs : List A) → list_all (λ x. not (test x)) xs ≡ true → length (filter test xs) ≡ 0
none_counted test [] is = refl
none_counted test (x ∷ xs) is =
    let parts = both (not (test x)) (list_all (λ y. not (test y)) xs) is in
    let one = counted test x xs in
    let so = ap one_of (not_so (test x) parts.0) in
    let again = none_counted test xs parts.1 in
    omega (arith, one, so, again)
  where
    not_so : (b : Bool) → not b ≡ true → b ≡ false
    not_so true e = absurd (false≢true e)
    not_so false e = refl

-- and the other way
none_passes : {A : Type 0} (test : A → Bool) (xs : List A) → length (filter test xs) ≡ 0 → list_all (λ x. not (test x)) xs ≡ true
none_passes test [] is = refl
none_passes test (x ∷ xs) is = by (test x) refl (none_passes test xs)
  where
    by : (b : Bool) → test x ≡ b → (length (filter test xs) ≡ 0 → list_all (λ y. not (test y)) xs ≡ true) → list_all (λ y. not (test y)) (x ∷ xs) ≡ true
    by true e again = let one = counted test x xs in let so = ap one_of e in absurd (omega (arith, one, so, is))
    by false e again =
        let one = counted test x xs in let so = ap one_of e in
        and_is (not (test x)) (list_all (λ y. not (test y)) xs) (ap not e) (again (omega (arith, one, so, is)))

-- two tests that say the same count the same
pub same_count : {A : Type 0} (p q : A → Bool) → ((x : A) → p x ≡ q x) → (xs : List A) → length (filter p xs) ≡ length (filter q xs)
same_count p q same [] = refl
same_count p q same (x ∷ xs) = counted p x xs ∙ ap (λ b. one_of b + length (filter p xs)) (same x) ∙ ap (λ n. one_of (q x) + n) (same_count p q same xs) ∙ sym (counted q x xs)

same_all : {A : Type 0} (p q : A → Bool) → ((x : A) → p x ≡ q x) → (xs : List A) → list_all p xs ≡ true → list_all q xs ≡ true
same_all p q same [] is = refl
same_all p q same (x ∷ xs) is =
    let parts = both (p x) (list_all p xs) is in
    and_is (q x) (list_all q xs) (sym (same x) ∙ parts.0) (same_all p q same xs parts.1)

-- an ending by a fault or for want of memory
abbrev pub breaks : Ending → Bool
breaks e = not (is_quiet_end e)

breaks_state : (s : State) → stands_so breaks s ≡ is_fault s
breaks_state state.Waiting = refl
breaks_state (state.Running w) = refl
breaks_state (state.Skipped u) = refl
breaks_state (state.Ended ending.Built) = refl
breaks_state (state.Ended ending.NoArtifact) = refl
breaks_state (state.Ended ending.ClasspathTooLarge) = refl
breaks_state (state.Ended ending.Memory) = refl
breaks_state (state.Ended (ending.Goal i)) = refl
breaks_state (state.Ended (ending.Missing f)) = refl
breaks_state (state.Ended (ending.OutputTooLarge i)) = refl
breaks_state (state.Ended (ending.Fault d)) = refl

quiet_event : (e : Event) → not (ends_so breaks e) ≡ is_quiet_event e
quiet_event (event.Start w m) = refl
quiet_event (event.Skip m) = refl
quiet_event (event.Take w n mode) = refl
quiet_event (event.Free w n) = refl
quiet_event (event.Read w f) = refl
quiet_event (event.Publish w f) = refl
quiet_event (event.Answer w g) = refl
quiet_event (event.End w ending.Built) = refl
quiet_event (event.End w ending.NoArtifact) = refl
quiet_event (event.End w ending.ClasspathTooLarge) = refl
quiet_event (event.End w ending.Memory) = refl
quiet_event (event.End w (ending.Goal i)) = refl
quiet_event (event.End w (ending.Missing f)) = refl
quiet_event (event.End w (ending.OutputTooLarge i)) = refl
quiet_event (event.End w (ending.Fault d)) = refl

-- where no module stands as ended so, no event of the run ended so
pub calm : (plan : Plan) (run : List RunEntry) → IsRunOf plan run → are_calm (states_after plan run) ≡ true → IsQuiet run
calm plan run is all =
    let none : length (filter is_fault (states_after plan run)) ≡ 0 = none_counted is_fault (states_after plan run) all in
    let same : count_of breaks (states_after plan run) ≡ length (filter is_fault (states_after plan run)) = same_count (stands_so breaks) is_fault breaks_state (states_after plan run) in
    let gone : ends_in breaks run ≡ 0 = sym (ends breaks plan run is) ∙ same ∙ none in
    same_all (λ (e : RunEntry). not (ends_so breaks e.event)) (λ (e : RunEntry). is_quiet_event e.event) (λ e. quiet_event e.event) run (none_passes (λ (e : RunEntry). ends_so breaks e.event) run gone)

-- ---- the repository's faults

shelf_fault : (d : Device) → is_fault_of device.Shelf (ending.Fault d) ≡ is_shelf_end (event.End 0 (ending.Fault d))
shelf_fault device.Remote = refl
shelf_fault device.Area = refl
shelf_fault device.Shelf = refl
shelf_fault device.Gate = refl

shelf_device : (w : ℕ) (d : Device) → is_shelf_end (event.End w (ending.Fault d)) ≡ is_shelf_end (event.End 0 (ending.Fault d))
shelf_device w device.Remote = refl
shelf_device w device.Area = refl
shelf_device w device.Shelf = refl
shelf_device w device.Gate = refl

shelf_event : (e : Event) → ends_so (is_fault_of device.Shelf) e ≡ is_shelf_end e
shelf_event (event.Start w m) = refl
shelf_event (event.Skip m) = refl
shelf_event (event.Take w n mode) = refl
shelf_event (event.Free w n) = refl
shelf_event (event.Read w f) = refl
shelf_event (event.Publish w f) = refl
shelf_event (event.Answer w g) = refl
shelf_event (event.End w ending.Built) = refl
shelf_event (event.End w ending.NoArtifact) = refl
shelf_event (event.End w ending.ClasspathTooLarge) = refl
shelf_event (event.End w ending.Memory) = refl
shelf_event (event.End w (ending.Goal i)) = refl
shelf_event (event.End w (ending.Missing f)) = refl
shelf_event (event.End w (ending.OutputTooLarge i)) = refl
shelf_event (event.End w (ending.Fault d)) = shelf_fault d ∙ sym (shelf_device w d)

-- as many modules stand as ended by the repository as the run counts
pub shelf : (plan : Plan) (run : List RunEntry) → IsRunOf plan run → count_of (is_fault_of device.Shelf) (states_after plan run) ≡ shelf_endings run
shelf plan run is = ends (is_fault_of device.Shelf) plan run is ∙ same_count (λ (e : RunEntry). ends_so (is_fault_of device.Shelf) e.event) (λ (e : RunEntry). is_shelf_end e.event) (λ e. shelf_event e.event) run

-- ---- missing files

abbrev is_end : State → Bool
is_end (state.Ended e) = true
is_end other = false

abbrev end_of : State → Ending
end_of (state.Ended e) = e
end_of other = ending.Memory

-- what stands as ended has ended
ended_is : (o : Outline) (ps : List Progress) (m : ℕ) (x : Ending) → state_of o ps m ≡ state.Ended x → progress_of ps m ≡ Ended x
ended_is o ps m x is = by (progress_of ps m) refl
  where
    by : (p : Progress) → progress_of ps m ≡ p → progress_of ps m ≡ Ended x
    by Waiting e = let there : state_of o ps m ≡ state.Waiting = rw e refl in absurd (false≢true (ap is_end (sym there ∙ is)))
    by (Running w) e = let there : state_of o ps m ≡ state.Running w = rw e refl in absurd (false≢true (ap is_end (sym there ∙ is)))
    by Skipped e = let there : is_end (state_of o ps m) ≡ false = rw e refl in absurd (false≢true (sym there ∙ ap is_end is))
    by (Ended y) e = let there : state_of o ps m ≡ state.Ended y = rw e refl in e ∙ ap (λ s. Ended (end_of s)) (sym there ∙ is)

-- a file that a module stands as missing is one of the plan's
missing_low : (plan : Plan) (number file : ℕ) (run : List RunEntry) → IsRunOf plan run → progress_of (standing_of_run plan run).progress number ≡ Ended (ending.Missing file) → file < length (outline_of plan).present
missing_low plan number file = behind plan (λ past. progress_of (standing_of_run plan past).progress number ≡ Ended (ending.Missing file) → file < length (outline_of plan).present)
    (λ past e before s holds is now. by e.event past holds is (ended_or (outline_of plan) (standing_of_run plan past) e.event number (ending.Missing file) (ap (λ (st : Standing). progress_of st.progress number) (sym (stands_more plan past e)) ∙ now)))
    (λ now. absurd (waits_on (length (outline_of plan).modules) number (ending.Missing file) now))
  where
    by : (e : Event) (past : List RunEntry) → (progress_of (standing_of_run plan past).progress number ≡ Ended (ending.Missing file) → file < length (outline_of plan).present) → IsEnabled (outline_of plan) (standing_of_run plan past) e
        → (progress_of (standing_of_run plan past).progress number ≡ Ended (ending.Missing file)) ⊎ ((w : ℕ) × (e ≡ event.End w (ending.Missing file))) → file < length (outline_of plan).present
    by e past holds is (inl old) = holds old
    by e past holds is (inr new) = lt_is file (length (outline_of plan).present) ((subst (IsEnabled (outline_of plan) (standing_of_run plan past)) new.1 is).1)

pub missing : (plan : Plan) (run : List RunEntry) (number file : ℕ) → IsSoundPlan plan → IsRunOf plan run → state_after plan run number ≡ state.Ended (ending.Missing file) → file < length plan.files
missing plan run number file sound is at =
    let low = missing_low plan number file run is (ended_is (outline_of plan) (standing_of_run plan run).progress number (ending.Missing file) at) in
    let sized = sound.present in
    omega (arith, low, sized)
