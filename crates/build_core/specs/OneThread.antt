-- The build by one hand: what every build ends as. Guide to Working with Multiple Modules for the order; own rules.
use Rattle.std.specs.Prelude.{ℕ, ◌+◌, Bool, true, false, not, ◌&&◌, ◌==◌, nat_le, nat_lt, List, [], ◌∷◌, ◌++◌, length, map, filter, find, fold, Option, Some, None, is_some, option_map, option_and_then, unwrap_or, if◌then◌else◌}
use Rattle.std.specs.Option.{option_or}
use Rattle.std.specs.List.{slice_index_or}
use Rattle.std.specs.FinMap as finite
use Rattle.mvn_shared.specs.Files.{Files, file_at}
use Rattle.goal_types.specs.declared.goal.Slot.{Slot}
use Rattle.goal_types.specs.declared.goal.Slot.TheVariants as slot
use Rattle.goal_types.specs.declared.goal.Need.{Need}
use Rattle.goal_types.specs.declared.goal.Need.TheVariants as need
use Rattle.goal_types.specs.declared.goal.OwnBytes.{OwnBytes}
use Rattle.goal_types.specs.declared.goal.PathEntry.{PathEntry}
use Rattle.goal_types.specs.declared.goal.GoalCall.{GoalCall}
use Rattle.goal_types.specs.declared.goal.GoalRequest.{GoalRequest}
use Rattle.goal_types.specs.declared.goal.GoalAnswer.{GoalAnswer}
use Rattle.goal_types.specs.declared.goal.GoalAnswer.TheVariants.{Done}
use Rattle.build_core.specs.declared.plan.Plan.{Plan}
use Rattle.build_core.specs.declared.plan.PlanModule.{PlanModule}
use Rattle.build_core.specs.declared.plan.OwnFile.{OwnFile}
use Rattle.build_core.specs.declared.plan.Entry.{Entry}
use Rattle.build_core.specs.declared.plan.Origin.{Origin}
use Rattle.build_core.specs.declared.plan.Origin.TheVariants as origin
use Rattle.build_core.specs.declared.event.Answered.{Answered}
use Rattle.build_core.specs.declared.ending.State.{State}
use Rattle.build_core.specs.declared.ending.State.TheVariants.{Waiting, Skipped, Ended}
use Rattle.build_core.specs.declared.ending.Ending.TheVariants as ending
use Rattle.build_core.specs.Slots.{slot_bytes, GoalsEnd, all_answered, goal_failed, output_too_large, run_goals}

-- what a build is given: the repository's files at the start, the remote's, and the answers by module and goal
pub record Supply : Type 0 where
  pub start : Files
  pub remote : Files
  pub answers : ℕ → ℕ → GoalAnswer

-- the answers of a list; one that isn't there counts as done
abbrev pub answer_at : List Answered → ℕ → ℕ → GoalAnswer
answer_at kept m goal = unwrap_or (option_map (λ a. a.answer) (find (λ a. (a.«module» == m) && (a.goal == goal)) kept)) Done

-- how far a build is: the repository's files, and of each module that is done how it stands and what outputs it kept
pub record Progress : Type 0 where
  pub files : Files
  pub states : List State
  pub outputs : List (List OwnBytes)

abbrev pub beginning : Supply → Progress
beginning supply = record { files = supply.start; states = []; outputs = [] }

-- one module more
abbrev pub ends : State → List OwnBytes → Files → Progress → Progress
ends state own files progress = record { files = files; states = progress.states ++ state ∷ []; outputs = progress.outputs ++ own ∷ [] }

-- ---- fetching

abbrev pub name_of : Plan → ℕ → List ℕ
name_of plan file = slice_index_or plan.files file []

-- the most bytes of a fetched file, and of all entries of a module's classpath
abbrev pub most_fetched : ℕ
most_fetched = 134217728

abbrev pub most_classpath : ℕ
most_classpath = 134217728

-- what the remote gives for a name: a larger file counts as absent
abbrev pub remote_bytes : Files → List ℕ → Option (List ℕ)
remote_bytes remote name = option_and_then (λ bytes. if nat_le (length bytes) most_fetched then Some bytes else None) (file_at remote name)

-- the files with this one too: one that is there stays; nothing where it is nowhere to be had
abbrev pub with_fetched : Files → List ℕ → Files → Option Files
with_fetched remote name files = if is_some (file_at files name) then Some files else option_map (finite.insert files name) (remote_bytes remote name)

-- the files after a fetch list, and the first of it that is nowhere to be had
pub record Fetched : Type 0 where
  pub files : Files
  pub missing : Option ℕ

abbrev pub fetched : Plan → Files → List ℕ → Files → Fetched
fetched plan remote [] files = record { files = files; missing = None }
fetched plan remote (file ∷ list) files = elim (with_fetched remote (name_of plan file) files) [ None ↦ record { files = files; missing = Some file } | Some more ↦ fetched plan remote list more ]

-- ---- classpaths and requests

-- where an upstream's slot holds nothing: its classes stand for its main output, and its test classes for its tests
abbrev pub instead_of : Slot → Slot
instead_of slot.Main = slot.Classes
instead_of slot.Tests = slot.TestClasses
instead_of other = other

abbrev pub output_of : List OwnBytes → Slot → Option (List ℕ)
output_of own s = option_or (slot_bytes own s) (slot_bytes own (instead_of s))

-- the bytes of an entry: the repository's, an upstream's, or none
abbrev pub origin_bytes : Plan → Files → List (List OwnBytes) → Origin → Option (List ℕ)
origin_bytes plan files outputs (origin.File file) = file_at files (name_of plan file)
origin_bytes plan files outputs (origin.Module m s) = output_of (slice_index_or outputs m []) s
origin_bytes plan files outputs origin.Nothing = None

abbrev pub path_entry : Plan → Files → List (List OwnBytes) → Entry → PathEntry
path_entry plan files outputs entry = record { name = entry.name; bytes = origin_bytes plan files outputs entry.origin }

-- the entry is on the classpath that is needed
abbrev pub is_needed : Need → Entry → Bool
is_needed need.Nothing entry = false
is_needed need.Compile entry = entry.compile
is_needed need.Runtime entry = entry.runtime
is_needed need.Test entry = entry.test

abbrev pub classpath : Plan → Files → List (List OwnBytes) → Need → List Entry → List PathEntry
classpath plan files outputs n entries = map (path_entry plan files outputs) (filter (is_needed n) entries)

abbrev pub bytes_len : Option (List ℕ) → ℕ
bytes_len None = 0
bytes_len (Some bytes) = length bytes

-- how many bytes all entries have together, whatever a goal needs of them
abbrev pub entries_len : List PathEntry → ℕ
entries_len [] = 0
entries_len (entry ∷ entries) = bytes_len entry.bytes + entries_len entries

-- what a goal of the module is asked, with the outputs that are kept then
abbrev pub request : Plan → Files → List (List OwnBytes) → PlanModule → GoalCall → List OwnBytes → GoalRequest
request plan files outputs m call own =
    record { «module» = m.gav; call = call; sources = m.sources; own = own; classpath = classpath plan files outputs call.need m.entries }

-- ---- installing

-- the bytes of an own file: the POM's, or those of its slot
abbrev pub own_bytes : PlanModule → List OwnBytes → Slot → Option (List ℕ)
own_bytes m own slot.Pom = Some m.pom
own_bytes m own other = slot_bytes own other

abbrev pub put_own : Plan → PlanModule → List OwnBytes → Files → OwnFile → Files
put_own plan m own files o = unwrap_or (option_map (finite.insert files (name_of plan o.file)) (own_bytes m own o.slot)) files

-- the files after the module is installed: its POM and each slot that holds bytes
abbrev pub installed : Plan → PlanModule → List OwnBytes → Files → Files
installed plan m own files = fold (put_own plan m own) files m.own

-- ---- the build

-- it needs a main output and has none
abbrev pub lacks_artifact : PlanModule → List OwnBytes → Bool
lacks_artifact m own = m.needs_artifact && not (is_some (slot_bytes own slot.Main))

-- a module whose goals were all answered, by whether it is to be installed and whether it lacks its artifact
abbrev pub after_answers : (installs lacks : Bool) → Plan → PlanModule → List OwnBytes → Files → Progress → Progress
after_answers false lacks plan m own files progress = ends (Ended ending.Built) own files progress
after_answers true true plan m own files progress = ends (Ended ending.NoArtifact) own files progress
after_answers true false plan m own files progress = ends (Ended ending.Built) own (installed plan m own files) progress

-- a module whose goals ended
abbrev pub after_goals : Plan → PlanModule → Files → Progress → GoalsEnd → Progress
after_goals plan m files progress (goal_failed i own) = ends (Ended (ending.Goal i)) own files progress
after_goals plan m files progress (output_too_large i own) = ends (Ended (ending.OutputTooLarge i)) own files progress
after_goals plan m files progress (all_answered own) = after_answers m.installs (lacks_artifact m own) plan m own files progress

-- a module whose files are there
abbrev pub after_fetch : Plan → Supply → ℕ → PlanModule → Files → Progress → Progress
after_fetch plan supply number m files progress =
    if nat_lt most_classpath (entries_len (map (path_entry plan files progress.outputs) m.entries)) then ends (Ended ending.ClasspathTooLarge) [] files progress
    else after_goals plan m files progress (run_goals m.budget (supply.answers number) 0 m.goals [])

-- a module: the first of these that holds is its ending
unfoldable pub one_module : Plan → Supply → ℕ → PlanModule → Progress → Progress
one_module plan supply number m progress =
    let got = fetched plan supply.remote m.fetch progress.files in
    elim got.missing [ Some file ↦ ends (Ended (ending.Missing file)) [] got.files progress | None ↦ after_fetch plan supply number m got.files progress ]

abbrev pub is_built : State → Bool
is_built (Ended ending.Built) = true
is_built other = false

-- which upstream a module is skipped for: the first that isn't built
abbrev pub first_unbuilt : Progress → PlanModule → Option ℕ
first_unbuilt progress m = find (λ u. not (is_built (slice_index_or progress.states u Waiting))) m.upstream

-- a module of the plan, skipped by the rule or built
abbrev pub next_module : (Progress → PlanModule → Option ℕ) → Plan → Supply → Progress → PlanModule → Progress
next_module skip plan supply progress m = elim (skip progress m) [ Some u ↦ ends (Skipped u) [] progress.files progress | None ↦ one_module plan supply (length progress.states) m progress ]

-- all modules, in order
abbrev pub run_modules : (Progress → PlanModule → Option ℕ) → Plan → Supply → Progress
run_modules skip plan supply = fold (next_module skip plan supply) (beginning supply) plan.modules

-- the build by one hand, which goes on after failures with what doesn't need them
abbrev pub one_thread : Plan → Supply → Progress
one_thread plan supply = run_modules first_unbuilt plan supply
