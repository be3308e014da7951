-- Examples of runs, which the checker computes: one worker builds a module that has one goal, and installs it.
use Rattle.std.specs.Prelude.{◌≡◌, ℕ, Bool, true, false, nat_eq, List, [], ◌∷◌, ◌++◌, Option, Some, None}
use Rattle.std.proofs.Common.{refl, ap}
use Rattle.std.proofs.lemmas.Bool.{false≢true}
use Rattle.std.specs.FinMap as finite
use Rattle.mvn_shared.specs.Files.{Files}
use Rattle.build_core.specs.declared.mode.Mode.TheVariants.{Exclusive}
use Rattle.mvn_base.specs.declared.gav.Gav.{Gav}
use Rattle.mvn_base.specs.declared.phase.Phase.TheVariants.{Package}
use Rattle.goal_types.specs.declared.goal.GoalAnswer.{GoalAnswer}
use Rattle.goal_types.specs.declared.goal.GoalAnswer.TheVariants.{Done, Failed, Produced}
use Rattle.goal_types.specs.declared.goal.GoalCall.{GoalCall}
use Rattle.goal_types.specs.declared.goal.Need.TheVariants as need
use Rattle.goal_types.specs.declared.goal.Slot.TheVariants as slot
use Rattle.build_core.specs.declared.plan.Plan.{Plan}
use Rattle.build_core.specs.declared.plan.PlanModule.{PlanModule}
use Rattle.build_core.specs.declared.event.Event.{Event}
use Rattle.build_core.specs.declared.event.Event.TheVariants as event
use Rattle.build_core.specs.declared.ending.Device.TheVariants.{Gate}
use Rattle.build_core.specs.declared.ending.Ending.TheVariants as ending
use Rattle.event_core.specs.declared.entry.Carried.{Carried}
use Rattle.event_core.specs.declared.entry.Carried.TheVariants as carried
use Rattle.event_core.specs.declared.entry.RunEntry.{RunEntry}
use Rattle.event_core.specs.Runs.{IsComplete, IsQuiet, answers_in, contents, outputs_in}
use Rattle.event_core.specs.Standing.{after}
use Rattle.event_core.specs.Worlds.{AllFit, Fits, HandTold}

-- a jar's bytes are [7], those of its POM [1]; the gate answers so, and the module's files are named [65] and [66]
module _ (gav : Gav) where
  abbrev pub call : GoalCall
  call = record { group = []; artifact = []; version = []; goal = []; execution = []; phase = Package; configuration = []; slot = slot.Main; need = need.Nothing }

  abbrev pub jar : PlanModule
  jar = record {
    gav = gav;
    upstream = [];
    batch = [];
    fetch = [];
    own_name = 0;
    own = (record { slot = slot.Pom; file = 0 }) ∷ (record { slot = slot.Main; file = 1 }) ∷ [];
    pom = 1 ∷ [];
    goals = call ∷ [];
    sources = [];
    entries = [];
    budget = 100;
    installs = true;
    needs_artifact = true;
  }

  abbrev pub plan : Plan
  plan = record { modules = jar ∷ []; names = (9 ∷ []) ∷ []; files = (65 ∷ []) ∷ (66 ∷ []) ∷ []; present = false ∷ false ∷ []; workers = 1; events = 11 }

  abbrev entry : Event → Carried → RunEntry
  entry e what = record { event = e; carried = what }

  abbrev begun : List RunEntry
  begun = entry (event.Start 0 0) carried.Nothing ∷ []

  abbrev answered : List RunEntry
  answered = entry (event.Start 0 0) carried.Nothing ∷ entry (event.Answer 0 0) (carried.Answered (Produced (7 ∷ []))) ∷ []

  abbrev taken : List RunEntry
  taken = entry (event.Start 0 0) carried.Nothing ∷ entry (event.Answer 0 0) (carried.Answered (Produced (7 ∷ []))) ∷ entry (event.Take 0 0 Exclusive) carried.Nothing ∷ []

  abbrev pub built : List RunEntry
  built =
      entry (event.Start 0 0) carried.Nothing ∷ entry (event.Answer 0 0) (carried.Answered (Produced (7 ∷ []))) ∷ entry (event.Take 0 0 Exclusive) carried.Nothing
      ∷ entry (event.Publish 0 0) (carried.Published (1 ∷ [])) ∷ entry (event.Publish 0 1) (carried.Published (7 ∷ []))
      ∷ entry (event.Free 0 0) carried.Nothing ∷ entry (event.End 0 ending.Built) carried.Nothing ∷ []

  abbrev hands : ℕ → HandTold
  hands w = record { remote = None; area = true; gate = None }

  -- the answer is kept, and its output; the files are put
  kept_is : answers_in plan built ≡ (record { «module» = 0; goal = 0; answer = Produced (7 ∷ []) }) ∷ []
  unfolding after
  kept_is = refl

  outputs_are : outputs_in plan built ≡ ((record { slot = slot.Main; bytes = 7 ∷ [] }) ∷ []) ∷ []
  unfolding after
  outputs_are = refl

  contents_are : (start : Files) → contents plan start built ≡ finite.insert (finite.insert start (65 ∷ []) (1 ∷ [])) (66 ∷ []) (7 ∷ [])
  contents_are start = refl

  -- the run is complete and quiet
  pub complete : IsComplete plan built
  unfolding after
  complete = refl

  pub quiet : IsQuiet built
  quiet = refl

  -- and fits, also over a repository that tells nothing
  fits : (start : Files) → AllFit plan (Some start) hands [] built
  unfolding after
  fits start = ((refl, tt), ((refl, (refl, refl, tt)), ((refl, (refl, refl, refl)), ((refl, ((refl, refl, refl), refl)), ((refl, ((refl, refl, refl), refl)), ((refl, tt), ((refl, (refl, refl, refl, refl)), tt)))))))

  fits_untold : AllFit plan None hands [] built
  unfolding after
  fits_untold = ((refl, tt), ((refl, (tt, refl, tt)), ((refl, (tt, refl, refl)), ((refl, (tt, refl, refl)), ((refl, (tt, refl, refl)), ((refl, tt), ((refl, (tt, refl, refl, refl)), tt)))))))

  -- ---- and what doesn't fit

  abbrev first_is : ℕ → Option (List ℕ) → Bool
  first_is n (Some (x ∷ xs)) = nat_eq x n
  first_is n other = false

  -- other bytes than the slot's
  other_bytes : (start : Files) → Fits plan (Some start) hands taken (entry (event.Publish 0 1) (carried.Published (8 ∷ []))) → ⊥
  unfolding after
  other_bytes start is = false≢true (ap (first_is 8) is.1.1)

  -- none, where they are told
  no_bytes : (start : Files) → Fits plan (Some start) hands taken (entry (event.Publish 0 1) carried.Nothing) → ⊥
  no_bytes start is = false≢true is.0

  -- an end without the jar
  abbrev pom_only : List RunEntry
  pom_only = taken ++ entry (event.Publish 0 0) (carried.Published (1 ∷ [])) ∷ entry (event.Free 0 0) carried.Nothing ∷ []

  left_out : (start : Files) → Fits plan (Some start) hands pom_only (entry (event.End 0 ending.Built) carried.Nothing) → ⊥
  unfolding after
  left_out start is = false≢true is.1.2

  -- another answer than the gate's
  abbrev is_done : GoalAnswer → Bool
  is_done Done = true
  is_done other = false

  abbrev strict : ℕ → HandTold
  strict w = record { remote = None; area = true; gate = Some (λ asked answer. is_done answer) }

  other_answer : (start : Files) → Fits plan (Some start) strict begun (entry (event.Answer 0 0) (carried.Answered (Produced (7 ∷ [])))) → ⊥
  unfolding after
  other_answer start is = false≢true is.1.2

  -- installing after a goal failed
  abbrev failed : List RunEntry
  failed = begun ++ entry (event.Answer 0 0) (carried.Answered (Failed [])) ∷ []

  after_failure : (start : Files) → Fits plan (Some start) hands failed (entry (event.Take 0 0 Exclusive) carried.Nothing) → ⊥
  unfolding after
  after_failure start is = false≢true is.1.1

  -- and a fault is not quiet
  loud : IsQuiet (begun ++ entry (event.End 0 (ending.Fault Gate)) carried.Nothing ∷ []) → ⊥
  loud is = false≢true is

  -- ---- an answer that isn't told: the first of two goals carries nothing, the second failed, and the module is built

  abbrev two_goals : Plan
  two_goals = record plan { modules = (record jar { goals = call ∷ call ∷ []; installs = false }) ∷ [] }

  abbrev silent : List RunEntry
  silent =
      entry (event.Start 0 0) carried.Nothing ∷ entry (event.Answer 0 0) carried.Nothing ∷ entry (event.Answer 0 1) (carried.Answered (Failed []))
      ∷ entry (event.End 0 ending.Built) carried.Nothing ∷ []

  silent_ends : IsComplete two_goals silent
  unfolding after
  silent_ends = refl

  -- whatever is told
  silent_unfit : (start : Option Files) (told : ℕ → HandTold) → AllFit two_goals start told [] silent → ⊥
  silent_unfit start told is = false≢true is.1.0.0
