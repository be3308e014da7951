-- How modules end, without an order of events: by what can be had, and by how their upstreams end. Project rule.
use Rattle.std.specs.Prelude.{◌≡◌, ℕ, ◌+◌, Bool, true, false, not, nat_lt, List, [], ◌∷◌, find, slice_get, Option, Some, None, is_some, if◌then◌else◌}
use Rattle.std.specs.Option.{option_or}
use Rattle.std.specs.List.{slice_index_or}
use Rattle.mvn_shared.specs.Files.{file_at}
use Rattle.goal_types.specs.declared.goal.OwnBytes.{OwnBytes}
use Rattle.build_core.specs.declared.plan.Plan.{Plan}
use Rattle.build_core.specs.declared.plan.PlanModule.{PlanModule}
use Rattle.build_core.specs.declared.plan.Entry.{Entry}
use Rattle.build_core.specs.declared.plan.Origin.{Origin}
use Rattle.build_core.specs.declared.plan.Origin.TheVariants as origin
use Rattle.build_core.specs.declared.ending.State.{State}
use Rattle.build_core.specs.declared.ending.State.TheVariants.{Waiting, Skipped, Ended}
use Rattle.build_core.specs.declared.ending.Ending.TheVariants as ending
use Rattle.build_core.specs.Slots.{GoalsEnd, all_answered, goal_failed, output_too_large, run_goals}
use Rattle.build_core.specs.OneThread.{Progress, Supply, bytes_len, is_built, lacks_artifact, most_classpath, name_of, output_of, remote_bytes}

-- the bytes of a file that is fetched, wherever it is had: the start's, or the remote's up to the limit
abbrev pub available : Plan → Supply → ℕ → Option (List ℕ)
available plan supply file = option_or (file_at supply.start (name_of plan file)) (remote_bytes supply.remote (name_of plan file))

-- the first of a fetch list that is nowhere to be had
abbrev pub missing_of : Plan → Supply → List ℕ → Option ℕ
missing_of plan supply files = find (λ f. not (is_some (available plan supply f))) files

-- how a module stands, and the outputs that it keeps
pub record Verdict : Type 0 where
  pub state : State
  pub outputs : List OwnBytes

-- the bytes of all entries, where the upstreams keep these outputs
abbrev pub origin_len : Plan → Supply → (ℕ → List OwnBytes) → Origin → ℕ
origin_len plan supply outputs (origin.File file) = bytes_len (available plan supply file)
origin_len plan supply outputs (origin.Module u s) = bytes_len (output_of (outputs u) s)
origin_len plan supply outputs origin.Nothing = 0

abbrev pub total_len : Plan → Supply → (ℕ → List OwnBytes) → List Entry → ℕ
total_len plan supply outputs [] = 0
total_len plan supply outputs (e ∷ entries) = origin_len plan supply outputs e.origin + total_len plan supply outputs entries

-- a module whose goals are over
abbrev pub verdict_of_install : (installs lacks : Bool) → List OwnBytes → Verdict
verdict_of_install true true own = record { state = Ended ending.NoArtifact; outputs = own }
verdict_of_install true false own = record { state = Ended ending.Built; outputs = own }
verdict_of_install false lacks own = record { state = Ended ending.Built; outputs = own }

abbrev pub verdict_of_goals : PlanModule → GoalsEnd → Verdict
verdict_of_goals m (goal_failed i own) = record { state = Ended (ending.Goal i); outputs = own }
verdict_of_goals m (output_too_large i own) = record { state = Ended (ending.OutputTooLarge i); outputs = own }
verdict_of_goals m (all_answered own) = verdict_of_install m.installs (lacks_artifact m own) own

-- one whose files can all be had
abbrev pub verdict_of_entries : Plan → Supply → ℕ → PlanModule → (ℕ → List OwnBytes) → Verdict
verdict_of_entries plan supply number m outputs =
    if nat_lt most_classpath (total_len plan supply outputs m.entries) then record { state = Ended ending.ClasspathTooLarge; outputs = [] }
    else verdict_of_goals m (run_goals m.budget (supply.answers number) 0 m.goals [])

-- one whose upstreams are all built
abbrev pub verdict_of_fetch : Plan → Supply → ℕ → PlanModule → (ℕ → List OwnBytes) → Option ℕ → Verdict
verdict_of_fetch plan supply number m outputs (Some file) = record { state = Ended (ending.Missing file); outputs = [] }
verdict_of_fetch plan supply number m outputs None = verdict_of_entries plan supply number m outputs

abbrev pub verdict_of_upstream : Plan → Supply → ℕ → PlanModule → (ℕ → List OwnBytes) → Option ℕ → Verdict
verdict_of_upstream plan supply number m outputs (Some u) = record { state = Skipped u; outputs = [] }
verdict_of_upstream plan supply number m outputs None = verdict_of_fetch plan supply number m outputs (missing_of plan supply m.fetch)

-- a module's verdict, by how its upstreams stand and what they keep
unfoldable pub judge : Plan → Supply → (states : ℕ → State) → (outputs : ℕ → List OwnBytes) → ℕ → PlanModule → Verdict
judge plan supply states outputs number m = verdict_of_upstream plan supply number m outputs (find (λ u. not (is_built (states u))) m.upstream)

-- all modules that P holds of stand as judged
abbrev pub AreJudged : Plan → Supply → (P : ℕ → Type 0) → (ℕ → State) → (ℕ → List OwnBytes) → Type 0
AreJudged plan supply P states outputs = (number : ℕ) (m : PlanModule) → slice_get plan.modules number ≡ Some m → P number → (record { state = states number; outputs = outputs number }) ≡ judge plan supply states outputs number m

-- all modules do
abbrev pub AllJudged : Plan → Supply → (ℕ → State) → (ℕ → List OwnBytes) → Type 0
AllJudged plan supply states outputs = AreJudged plan supply (λ number. Unit {0}) states outputs

abbrev pub state_at : Progress → ℕ → State
state_at progress number = slice_index_or progress.states number Waiting

abbrev pub outputs_at : Progress → ℕ → List OwnBytes
outputs_at progress number = slice_index_or progress.outputs number []

-- the files of a fetch list up to the first that is nowhere to be had
abbrev pub had_prefix : Plan → Supply → List ℕ → List ℕ
had_prefix plan supply [] = []
had_prefix plan supply (f ∷ files) = if is_some (available plan supply f) then f ∷ had_prefix plan supply files else []
