-- Which device failed.
use Rattle.std.proofs.Common.{◌≡◌, ◌⊎◌, inl, inr, ◌<◌, ◌≤◌, ◌+◌, ℕ, zero, suc, Bool, true, false, not, ◌&&◌, ◌||◌, nat_eq, List, [], ◌∷◌, ◌++◌, filter, length, Option, Some, None, unwrap_or, IfSome, Result, Ok, Err, refl, sym, ap, subst, ◌∙◌, arith}
use Rattle.std.specs.List.{list_all, list_any}
use Rattle.std.proofs.lemmas.Bool.{false≢true}
use Rattle.build_core.specs.Locks.{below}
use Rattle.mvn_shared.specs.Cause.{HasRisen, RoseBy}
use Rattle.mvn_outside.specs.declared.fault.DeviceFault.{DeviceFault}
use Rattle.mvn_outside.specs.declared.fault.DeviceFault.TheVariants as fault
use Rattle.mvn_outside.specs.declared.shelf.ShelfTold.{ShelfTold}
use Rattle.build_core.specs.declared.ending.Device.{Device}
use Rattle.build_core.specs.declared.ending.Device.TheVariants as device
use Rattle.build_core.specs.declared.ending.Ending.{Ending}
use Rattle.build_core.specs.declared.ending.Ending.TheVariants as ending
use Rattle.build_core.specs.declared.ending.State.{State}
use Rattle.build_core.specs.declared.ending.State.TheVariants as state
use Rattle.build_core.specs.declared.event.Answered.{Answered}
use Rattle.build_core.specs.declared.event.Event.{Event}
use Rattle.build_core.specs.declared.event.Event.TheVariants as event
use Rattle.build_core.specs.declared.plan.Plan.{Plan}
use Rattle.report.specs.declared.details.Details.{Details}
use Rattle.scripts.specs.Bounds.{total}
use Rattle.event_core.specs.Runs.{IsQuiet, is_quiet_event}
use Rattle.event_core.specs.declared.entry.Carried.{Carried}
use Rattle.event_core.specs.declared.entry.RunEntry.{RunEntry}
use Rattle.scripts.proofs.Climbs.{both}
use Rattle.event_core.proofs.Weights.{nothing_is}
use Rattle.board.specs.Logs.{shelf_endings}
use Rattle.run_law.specs.Given.{is_fault, states_after}
use Rattle.run_law.proofs.Basics.{and_is}
use Rattle.crew_turns.specs.Endings.{ending_of, endings_of, faults_of, is_fault_of, is_quiet_end}
use Rattle.crew_turns.specs.Hands.{HandState, IsCounted}
use Rattle.crew.specs.AsOne.{are_calm}
use Rattle.crew.specs.Counted.{count_by, count_by_all, count_of, ends_in, stands_so}
use Rattle.crew.specs.CrewOutcomes.{IsCrewRun, IsUsed, hand_of}
use Rattle.crew.proofs.Counts.{counted, ends, one_of, shelf}
use Rattle.crew.proofs.Sums.{total_append, workers}
use Rattle.build_outcome.specs.Left.{HandFailed, IsShelfCounted, IsStill, Outside, SomeFailed}
use Rattle.build_outcome.specs.Outcomes.{IsRunAnswer, is_clean, is_memory}
use Rattle.build_outcome.specs.declared.outcome.Outcome.{Outcome}

-- how often the repository failed while it settled
abbrev pub more_of : Result (Unit {0}) DeviceFault → ℕ
more_of (Ok done) = 0
more_of (Err fault.Failed) = 1
more_of (Err fault.Memory) = 0

-- ---- no device

-- what a quiet event ends, it ends quietly
quiet_end : (w v : ℕ) (x : Ending) → is_quiet_event (event.End v x) ≡ true → is_quiet_end x ≡ true
quiet_end w v ending.Built q = refl
quiet_end w v ending.NoArtifact q = refl
quiet_end w v ending.ClasspathTooLarge q = refl
quiet_end w v (ending.Goal i) q = refl
quiet_end w v (ending.Missing f) q = refl
quiet_end w v (ending.OutputTooLarge i) q = refl
quiet_end w v (ending.Fault d) q = absurd (false≢true q)
quiet_end w v ending.Memory q = absurd (false≢true q)

some_is : (x y : Ending) → Some x ≡ Some y → x ≡ y
some_is x y e = ap (λ o. unwrap_or o x) e

-- so each ending of a worker in a quiet run
quiet_of : (w : ℕ) (e : Event) (x : Ending) → ending_of w e ≡ Some x → is_quiet_event e ≡ true → is_quiet_end x ≡ true
quiet_of w (event.Start v m) x is q = absurd (nothing_is x is)
quiet_of w (event.Skip m) x is q = absurd (nothing_is x is)
quiet_of w (event.Take v n mode) x is q = absurd (nothing_is x is)
quiet_of w (event.Free v n) x is q = absurd (nothing_is x is)
quiet_of w (event.Read v f) x is q = absurd (nothing_is x is)
quiet_of w (event.Publish v f) x is q = absurd (nothing_is x is)
quiet_of w (event.Answer v g) x is q = absurd (nothing_is x is)
quiet_of w (event.End v y) x is q = by (nat_eq v w) refl
  where
    by : (b : Bool) → nat_eq v w ≡ b → is_quiet_end x ≡ true
    by true e = let here : ending_of w (event.End v y) ≡ Some y = rw e refl in subst (λ z. is_quiet_end z ≡ true) (some_is y x (sym here ∙ is)) (quiet_end w v y q)
    by false e = let here : ending_of w (event.End v y) ≡ None = rw e refl in absurd (nothing_is x (sym here ∙ is))

pub quiet_endings : (w : ℕ) (run : List RunEntry) → IsQuiet run → list_all is_quiet_end (endings_of w run) ≡ true
quiet_endings w [] quiet = refl
quiet_endings w (e ∷ run) quiet = let parts = both (is_quiet_event e.event) (list_all (λ (x : RunEntry). is_quiet_event x.event) run) quiet in by (ending_of w e.event) refl parts.0 (quiet_endings w run parts.1)
  where
    by : (found : Option Ending) → ending_of w e.event ≡ found → is_quiet_event e.event ≡ true → list_all is_quiet_end (endings_of w run) ≡ true → list_all is_quiet_end (endings_of w (e ∷ run)) ≡ true
    by None is q rest = rw is rest
    by (Some x) is q rest = rw is (and_is (is_quiet_end x) (list_all is_quiet_end (endings_of w run)) (quiet_of w e.event x is q) rest)

-- quiet endings are by no device
not_by : (d : Device) (x : Ending) → is_quiet_end x ≡ true → is_fault_of d x ≡ false
not_by device.Remote ending.Built q = refl
not_by device.Remote ending.NoArtifact q = refl
not_by device.Remote ending.ClasspathTooLarge q = refl
not_by device.Remote (ending.Goal i) q = refl
not_by device.Remote (ending.Missing f) q = refl
not_by device.Remote (ending.OutputTooLarge i) q = refl
not_by device.Area ending.Built q = refl
not_by device.Area ending.NoArtifact q = refl
not_by device.Area ending.ClasspathTooLarge q = refl
not_by device.Area (ending.Goal i) q = refl
not_by device.Area (ending.Missing f) q = refl
not_by device.Area (ending.OutputTooLarge i) q = refl
not_by device.Shelf ending.Built q = refl
not_by device.Shelf ending.NoArtifact q = refl
not_by device.Shelf ending.ClasspathTooLarge q = refl
not_by device.Shelf (ending.Goal i) q = refl
not_by device.Shelf (ending.Missing f) q = refl
not_by device.Shelf (ending.OutputTooLarge i) q = refl
not_by device.Gate ending.Built q = refl
not_by device.Gate ending.NoArtifact q = refl
not_by device.Gate ending.ClasspathTooLarge q = refl
not_by device.Gate (ending.Goal i) q = refl
not_by device.Gate (ending.Missing f) q = refl
not_by device.Gate (ending.OutputTooLarge i) q = refl
not_by d (ending.Fault x) q = absurd (false≢true q)
not_by d ending.Memory q = absurd (false≢true q)

no_faults : (d : Device) (es : List Ending) → list_all is_quiet_end es ≡ true → faults_of d es ≡ 0
no_faults d [] quiet = refl
no_faults d (x ∷ es) quiet =
    let parts = both (is_quiet_end x) (list_all is_quiet_end es) quiet in
    let one = counted (is_fault_of d) x es in
    let not_one = ap one_of (not_by d x parts.0) in
    let rest = no_faults d es parts.1 in
    omega (arith, one, not_one, rest)

-- behind a quiet run no device of a hand failed
pub no_fault_still : (plan : Plan) (run : List RunEntry) (w : ℕ) (before now : HandState) → IsQuiet run → IsUsed before now (endings_of w run) → IsStill before now
no_fault_still plan run w before now quiet used =
    let all = quiet_endings w run quiet in
    record {
      remote = used.remote.still (no_faults device.Remote (endings_of w run) all);
      area = used.area.still (no_faults device.Area (endings_of w run) all);
      gate = used.gate.still (no_faults device.Gate (endings_of w run) all);
    }

-- ---- some device

rose_one : (n before now : ℕ) → 1 ≤ n → RoseBy n before now → HasRisen before now
rose_one n before now some r = let low = r.no_fall in let high = r.rise in record { no_fall = low; rise = omega (arith, high, some) }

rose_told : (told : Option ShelfTold) (n before now : ℕ) → 1 ≤ n → IfSome told (λ t. RoseBy n before now) → IfSome told (λ t. HasRisen before now)
rose_told None n before now some r = tt
rose_told (Some t) n before now some r = rose_one n before now some r

-- a module that ended by a fault ended by that of a device
state_device : (s : State) → is_fault s ≡ true → is_memory s ≡ false → (d : Device) × (stands_so (is_fault_of d) s ≡ true)
state_device state.Waiting f m = absurd (false≢true f)
state_device (state.Running w) f m = absurd (false≢true f)
state_device (state.Skipped u) f m = absurd (false≢true f)
state_device (state.Ended ending.Built) f m = absurd (false≢true f)
state_device (state.Ended ending.NoArtifact) f m = absurd (false≢true f)
state_device (state.Ended ending.ClasspathTooLarge) f m = absurd (false≢true f)
state_device (state.Ended (ending.Goal i)) f m = absurd (false≢true f)
state_device (state.Ended (ending.Missing x)) f m = absurd (false≢true f)
state_device (state.Ended (ending.OutputTooLarge i)) f m = absurd (false≢true f)
state_device (state.Ended ending.Memory) f m = absurd (false≢true (sym m))
state_device (state.Ended (ending.Fault device.Remote)) f m = (device.Remote, refl)
state_device (state.Ended (ending.Fault device.Area)) f m = (device.Area, refl)
state_device (state.Ended (ending.Fault device.Shelf)) f m = (device.Shelf, refl)
state_device (state.Ended (ending.Fault device.Gate)) f m = (device.Gate, refl)

or_parts : (a b : Bool) → (a || b) ≡ false → (a ≡ false) × (b ≡ false)
or_parts true b e = absurd (false≢true (sym e))
or_parts false b e = (refl, e)

abbrev HasDevice : List State → Type 0
HasDevice states = (d : Device) × (1 ≤ count_of (is_fault_of d) states)

-- where not all are calm and memory didn't run out, a device failed
some_device : (states : List State) → are_calm states ≡ false → list_any is_memory states ≡ false → HasDevice states
some_device [] calm memory = absurd (false≢true (sym calm))
some_device (s ∷ states) calm memory = let parts = or_parts (is_memory s) (list_any is_memory states) memory in by (is_fault s) refl parts.0 (λ rest. some_device states rest parts.1)
  where
    by : (b : Bool) → is_fault s ≡ b → is_memory s ≡ false → (are_calm states ≡ false → HasDevice states) → HasDevice (s ∷ states)
    by true f m again =
        let here = state_device s f m in
        let one = counted (stands_so (is_fault_of here.0)) s states in
        let so = ap one_of here.1 in
        (here.0, omega (arith, one, so))
    by false f m again =
        let rest : are_calm states ≡ false = ap (λ b. not b && are_calm states) (sym f) ∙ calm in
        let there = again rest in
        let one = counted (stands_so (is_fault_of there.0)) s states in
        let some = there.1 in
        (there.0, omega (arith, one, some))

-- where a sum isn't nothing, one of it isn't
some_part : (f : ℕ → ℕ) (n : ℕ) → 1 ≤ total f (below n) → (w : ℕ) × (w < n) × (1 ≤ f w)
some_part f zero some = absurd (omega (arith, some))
some_part f (suc n) some = by (f n) refl (some_part f n)
  where
    split : total f (below n ++ n ∷ []) ≡ total f (below n) + total f (n ∷ [])
    split = total_append f (below n) (n ∷ [])

    by : (k : ℕ) → f n ≡ k → (1 ≤ total f (below n) → (w : ℕ) × (w < n) × (1 ≤ f w)) → (w : ℕ) × (w < suc n) × (1 ≤ f w)
    by zero e again = let parts = split in let before = again (omega (arith, parts, e, some)) in let less = before.1 in (before.0, omega (arith, less), before.2)
    by (suc k) e again = (n, omega arith, omega (arith, e))

module _ (plan : Plan) (before now : Outside) (run : List RunEntry) (more : ℕ) (crew : IsCrewRun plan before.shelf before.hands now.hands run) (counts : IsShelfCounted run more before now) where
  -- the hand whose device it is
  some_hand : (d : Device) → 1 ≤ count_of (is_fault_of d) (states_after plan run) → (w : ℕ) × (w < plan.workers) × (1 ≤ faults_of d (endings_of w run))
  some_hand d some =
      let a = ends (is_fault_of d) plan run crew.follows in
      let b = workers (is_fault_of d) plan run crew.follows in
      some_part (count_by (is_fault_of d) run) plan.workers (omega (arith, a, b, some))

  hand_low : (w : ℕ) → w < plan.workers → w < length before.hands
  hand_low w low = subst (λ n. w < n) (sym crew.many) low

  -- its count rose
  by_device : (d : Device) → 1 ≤ count_of (is_fault_of d) (states_after plan run) → SomeFailed before now
  by_device device.Remote some = let h = some_hand device.Remote some in inl (h.0, hand_low h.0 h.1, inl (rose_one _ _ _ h.2 (crew.used h.0 h.1).remote.rose))
  by_device device.Area some = let h = some_hand device.Area some in inl (h.0, hand_low h.0 h.1, inr (inl (rose_one _ _ _ h.2 (crew.used h.0 h.1).area.rose)))
  by_device device.Gate some = let h = some_hand device.Gate some in inl (h.0, hand_low h.0 h.1, inr (inr (rose_one _ _ _ h.2 (crew.used h.0 h.1).gate.rose)))
  by_device device.Shelf some = let same = shelf plan run crew.follows in inr (rose_told before.shelf (shelf_endings run + more) before.faults now.faults (omega (arith, same, some)) counts.rose)

-- where the status is 3, a device failed
pub failed_so : (plan : Plan) (details : List Details) (before now : Outside) (answers : List Answered) (run : List RunEntry) (settled : Result (Unit {0}) DeviceFault) → IsCrewRun plan before.shelf before.hands now.hands run → IsShelfCounted run (more_of settled) before now
    → (answer : Outcome) → IsRunAnswer plan details answers (states_after plan run) settled answer → is_clean (states_after plan run) settled ≡ false → SomeFailed before now
failed_so plan details before now answers run (Ok done) crew counts answer is faulty = let found = some_device (states_after plan run) faulty is.memory in by_device plan before now run 0 crew counts found.0 found.1
failed_so plan details before now answers run (Err fault.Failed) crew counts answer is faulty = inr (rose_told before.shelf (shelf_endings run + 1) before.faults now.faults (omega arith) counts.rose)
failed_so plan details before now answers run (Err fault.Memory) crew counts answer is faulty = absurd is.is
