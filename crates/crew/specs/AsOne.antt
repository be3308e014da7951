-- A build by a crew beside the build by one hand of the same supply. Project rule; Guide to Working with Multiple Modules, for the latter.
use Rattle.std.specs.Prelude.{◌≡◌, ℕ, ◌<◌, Bool, true, false, not, List, length}
use Rattle.std.specs.List.{list_all}
use Rattle.mvn_outside.specs.Shelf.{files_now}
use Rattle.mvn_outside.specs.declared.shelf.ShelfTold.{ShelfTold}
use Rattle.build_core.specs.OneThread.{Supply, one_thread}
use Rattle.build_core.specs.declared.ending.Ending.{Ending}
use Rattle.build_core.specs.declared.ending.State.{State}
use Rattle.build_core.specs.declared.ending.State.TheVariants.{Ended}
use Rattle.build_core.specs.declared.plan.Plan.{Plan}
use Rattle.event_core.specs.Runs.{answers_in, contents, outputs_in}
use Rattle.event_core.specs.SoundPlans.{IsSoundPlan}
use Rattle.event_core.specs.declared.entry.RunEntry.{RunEntry}
use Rattle.run_law.specs.Closed.{outputs_at, state_at}
use Rattle.run_law.specs.Given.{Extends, IsBetween, IsPresent, IsUntouched, is_fault, outputs_after, state_after, states_after}
use Rattle.crew_turns.specs.Hands.{HandState}
use Rattle.crew.specs.CrewOutcomes.{AllTellFiles}

-- no module ended by a fault or for want of memory
abbrev pub are_calm : List State → Bool
are_calm states = list_all (λ s. not (is_fault s)) states

-- A supply of what a crew's run was given: a sound plan that says which of its files the repository had; the files that the repository told at
-- the start; those that each remote told, where each area told too; and answers that are the run's where it has one.
pub record IsSupplyOf (plan : Plan) (opening : ShelfTold) (hands : List HandState) (run : List RunEntry) (supply : Supply) : Type 0 where
  pub sound : IsSoundPlan plan
  pub present : IsPresent plan (files_now opening)
  pub start : supply.start ≡ files_now opening
  pub tell : AllTellFiles hands supply.remote
  pub answers : Extends (answers_in plan run) supply.answers

-- the run ended as the build by one hand: each module stands so, and keeps these outputs, and the repository has these files
pub record EndsAsOne (plan : Plan) (supply : Supply) (run : List RunEntry) : Type 0 where
  pub states : states_after plan run ≡ (one_thread plan supply).states
  pub outputs : outputs_in plan run ≡ (one_thread plan supply).outputs
  pub files : contents plan supply.start run ≡ (one_thread plan supply).files

-- Faults stayed apart: a module that neither ended by a fault or for want of memory nor has an upstream that did, however far up, stands as in
-- the build by one hand and keeps the same outputs; so does each that ended otherwise; and each file is as at the start or as that build
-- leaves it.
pub record EndsApart (plan : Plan) (supply : Supply) (run : List RunEntry) : Type 0 where
  pub states : (number : ℕ) → number < length plan.modules → IsUntouched plan run number → state_after plan run number ≡ state_at (one_thread plan supply) number
  pub outputs : (number : ℕ) → number < length plan.modules → IsUntouched plan run number → outputs_after plan run number ≡ outputs_at (one_thread plan supply) number
  pub ended : (number : ℕ) (e : Ending) → number < length plan.modules → state_after plan run number ≡ Ended e → is_fault (Ended e) ≡ false → state_at (one_thread plan supply) number ≡ Ended e
  pub kept : (number : ℕ) (e : Ending) → number < length plan.modules → state_after plan run number ≡ Ended e → is_fault (Ended e) ≡ false → outputs_after plan run number ≡ outputs_at (one_thread plan supply) number
  pub files : IsBetween supply.start (one_thread plan supply).files (contents plan supply.start run)
