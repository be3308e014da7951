-- A worked case, which the checker computes: the closed form beside the sequential build, and an answer that carries nothing.
use Rattle.std.specs.Prelude.{◌≡◌, ℕ, true, false, List, [], ◌∷◌, Some, None}
use Rattle.std.proofs.Common.{refl}
use Rattle.std.proofs.lemmas.Bool.{false≢true}
use Rattle.std.specs.List.{slice_index_or}
use Rattle.mvn_shared.specs.Files.{Files, file_at}
use Rattle.goal_types.specs.declared.goal.GoalAnswer.TheVariants.{Produced}
use Rattle.mvn_base.specs.declared.phase.Phase.TheVariants.{Package}
use Rattle.goal_types.specs.declared.goal.GoalCall.{GoalCall}
use Rattle.goal_types.specs.declared.goal.Need.TheVariants as need
use Rattle.goal_types.specs.declared.goal.Slot.TheVariants as slot
use Rattle.build_core.specs.declared.plan.Origin.TheVariants as origin
use Rattle.build_core.specs.declared.plan.Plan.{Plan}
use Rattle.build_core.specs.declared.plan.PlanModule.{PlanModule}
use Rattle.goal_types.specs.declared.goal.OwnBytes.{OwnBytes}
use Rattle.build_core.specs.declared.event.Event.TheVariants as event
use Rattle.build_core.specs.declared.ending.Ending.TheVariants as ending
use Rattle.build_core.specs.declared.ending.State.{State}
use Rattle.build_core.specs.declared.ending.State.TheVariants.{Waiting, Ended, Skipped}
use Rattle.event_core.specs.declared.entry.Carried.TheVariants as carried
use Rattle.event_core.specs.declared.entry.RunEntry.{RunEntry}
use Rattle.build_core.specs.OneThread.{Supply}
use Rattle.run_law.specs.Closed.{judge}
use Rattle.event_core.specs.Worlds.{Fits, HandTold}

abbrev call : GoalCall
call = record { group = []; artifact = []; version = []; goal = []; execution = []; phase = Package; configuration = []; slot = slot.Main; need = need.Nothing }

abbrev plain : PlanModule
plain = record { gav = record { group = []; artifact = []; version = [] }; upstream = []; batch = []; fetch = []; own_name = 0; own = []; pom = []; goals = call ∷ []; sources = []; entries = []; budget = 100; installs = false; needs_artifact = false }

-- the first fetches file 0 and is built; the second has it on its classpath, and file 1 is missing; the third is skipped
abbrev first : PlanModule
first = record plain { fetch = 0 ∷ []; batch = 0 ∷ []; entries = (record { name = []; compile = true; runtime = true; test = true; origin = origin.File 0 }) ∷ [] }

abbrev second : PlanModule
second = record plain { upstream = 0 ∷ []; fetch = 0 ∷ 1 ∷ []; batch = 0 ∷ []; entries = (record { name = []; compile = true; runtime = true; test = true; origin = origin.Module 0 slot.Main }) ∷ [] }

abbrev third : PlanModule
third = record plain { upstream = 0 ∷ 1 ∷ [] }

abbrev plan : Plan
plan = record { modules = first ∷ second ∷ third ∷ []; names = (9 ∷ []) ∷ []; files = (65 ∷ []) ∷ (66 ∷ []) ∷ []; present = false ∷ false ∷ []; workers = 2; events = 40 }

abbrev states : ℕ → State
states n = slice_index_or (Ended ending.Built ∷ Ended (ending.Missing 1) ∷ Skipped 1 ∷ []) n Waiting

abbrev outputs : ℕ → List OwnBytes
outputs n = slice_index_or (((record { slot = slot.Main; bytes = 7 ∷ [] }) ∷ []) ∷ [] ∷ [] ∷ []) n []

module _ (start remote : Files) (none : (q : List ℕ) → file_at start q ≡ None) (here : file_at remote (65 ∷ []) ≡ Some (5 ∷ [])) (away : file_at remote (66 ∷ []) ≡ None) where
  abbrev supply : Supply
  supply = record { start = start; remote = remote; answers = λ m goal. Produced (7 ∷ []) }

  first_is : judge plan supply states outputs 0 first ≡ record { state = Ended ending.Built; outputs = (record { slot = slot.Main; bytes = 7 ∷ [] }) ∷ [] }
  unfolding judge
  first_is = simp (none (65 ∷ []), here)

  third_is : judge plan supply states outputs 2 third ≡ record { state = Skipped 1; outputs = [] }
  unfolding judge
  third_is = refl

  second_is : judge plan supply states outputs 1 second ≡ record { state = Ended (ending.Missing 1); outputs = [] }
  unfolding judge
  second_is = simp (none (65 ∷ []), none (66 ∷ []), here, away)

-- an answer that carries nothing doesn't fit
bare : (start : Files) (hands : ℕ → HandTold) (past : List RunEntry) → Fits plan (Some start) hands past (record { event = event.Answer 0 0; carried = carried.Nothing }) → ⊥
bare start hands past fits = false≢true fits.0
