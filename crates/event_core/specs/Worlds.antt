-- What of a run fits what stands outside: the bytes that it publishes, the answers that it keeps, and why modules end. Own.
use Rattle.std.specs.Prelude.{◌≡◌, ℕ, Bool, true, false, not, ◌&&◌, ◌||◌, ◌==◌, nat_eq, nat_le, List, [], ◌∷◌, ◌++◌, map, find, slice_get, Option, Some, None, is_some, option_and_then, option_map, IfSome}
use Rattle.std.specs.List.{list_all, list_any}
use Rattle.std.specs.Option.{option_map_or}
use Rattle.mvn_shared.specs.Files.{Files}
use Rattle.goal_types.specs.declared.goal.GoalAnswer.{GoalAnswer}
use Rattle.goal_types.specs.declared.goal.GoalRequest.{GoalRequest}
use Rattle.goal_types.specs.declared.goal.OwnBytes.{OwnBytes}
use Rattle.build_core.specs.declared.plan.Plan.{Plan}
use Rattle.build_core.specs.declared.plan.PlanModule.{PlanModule}
use Rattle.build_core.specs.declared.plan.OwnFile.{OwnFile}
use Rattle.build_core.specs.declared.event.Event.{Event}
use Rattle.build_core.specs.declared.event.Event.TheVariants as event
use Rattle.build_core.specs.declared.ending.Ending.{Ending}
use Rattle.build_core.specs.declared.ending.Ending.TheVariants as ending
use Rattle.build_core.specs.Slots.{GoalsEnd, all_answered, goal_failed, kept_of, output_too_large}
use Rattle.build_core.specs.OneThread.{entries_len, lacks_artifact, most_classpath, name_of, own_bytes, path_entry, remote_bytes, request}
use Rattle.event_core.specs.declared.entry.Carried.{Carried}
use Rattle.event_core.specs.declared.entry.Carried.TheVariants as carried
use Rattle.event_core.specs.declared.entry.RunEntry.{RunEntry}
use Rattle.event_core.specs.Causes.{stage_at}
use Rattle.scripts.specs.Outlines.{is_listed}
use Rattle.event_core.specs.Runs.{answers_in, contents, goals_in, module_by, outputs_in, standing_of_run}
use Rattle.event_core.specs.Standing.{course_of}

-- what the hand of a worker tells: its remote's files, whether its staging area tells the bytes of a piece, and a test for its gate's
-- answers
pub record HandTold : Type 0 where
  pub remote : Option Files
  pub area : Bool
  pub gate : Option (GoalRequest → GoalAnswer → Bool)

-- ---- what an entry carries

abbrev pub is_answered : Carried → Bool
is_answered (carried.Answered answer) = true
is_answered other = false

abbrev pub is_published : Carried → Bool
is_published (carried.Published bytes) = true
is_published other = false

abbrev pub is_bare : Carried → Bool
is_bare carried.Nothing = true
is_bare other = false

-- an answer is carried always, published bytes where they are told, and nothing by any other event
abbrev pub is_told : (told : Bool) → Event → Carried → Bool
is_told told (event.Answer w goal) what = is_answered what
is_told true (event.Publish w file) what = is_published what
is_told false (event.Publish w file) what = not (is_answered what)
is_told told other what = is_bare what

-- the bytes that an entry carries are these; of one that carries none nothing is said: `is_told` says when it must
abbrev pub TellsBytes : Carried → Option (List ℕ) → Type 0
TellsBytes (carried.Published bytes) wanted = wanted ≡ Some bytes
TellsBytes other wanted = Unit {0}

-- the answer that an entry carries passes a test
abbrev pub TellsAnswer : Carried → (GoalAnswer → Bool) → Type 0
TellsAnswer (carried.Answered answer) test = test answer ≡ true
TellsAnswer other test = ⊥

-- ---- a module, as a run stands

-- the repository's files are there where it tells them
pub record Stood : Type 0 where
  pub plan : Plan
  pub «module» : PlanModule
  pub past : List RunEntry
  pub files : Option Files
  pub outputs : List (List OwnBytes)
  pub goals : GoalsEnd

abbrev pub stood : Plan → Option Files → List RunEntry → ℕ → PlanModule → Stood
stood plan start past number m = record {
  plan = plan;
  «module» = m;
  past = past;
  files = option_map (λ files. contents plan files past) start;
  outputs = outputs_in plan past;
  goals = goals_in (answers_in plan past) number m;
}

-- the bytes of its entries are within the limit, over these files
abbrev pub is_within : Stood → Files → Bool
is_within at files = nat_le (entries_len (map (path_entry at.plan files at.outputs) at.«module».entries)) most_classpath

abbrev pub IsWithin : Stood → Type 0
IsWithin at = IfSome at.files (λ files. is_within at files ≡ true)

abbrev pub IsBeyond : Stood → Type 0
IsBeyond at = IfSome at.files (λ files. is_within at files ≡ false)

-- no answer failed or made too much
abbrev pub is_good : GoalsEnd → Bool
is_good (all_answered own) = true
is_good other = false

abbrev pub has_failed_at : ℕ → GoalsEnd → Bool
has_failed_at i (goal_failed j own) = nat_eq j i
has_failed_at i other = false

abbrev pub is_too_large_at : ℕ → GoalsEnd → Bool
is_too_large_at i (output_too_large j own) = nat_eq j i
is_too_large_at i other = false

-- the bytes of an own file
abbrev pub own_of : Stood → ℕ → Option (List ℕ)
own_of at file =
    option_and_then (λ (o : OwnFile). own_bytes at.«module» (kept_of at.goals) o.slot) (find (λ (o : OwnFile). o.file == file) at.«module».own)

-- it is to be installed, needs a main output, and has none
abbrev pub is_lacking : Stood → Bool
is_lacking at = at.«module».installs && lacks_artifact at.«module» (kept_of at.goals)

abbrev pub publishes : ℕ → Event → Bool
publishes file (event.Publish w other) = nat_eq other file
publishes file other = false

abbrev pub was_published : List RunEntry → ℕ → Bool
was_published past file = list_any (λ (e : RunEntry). publishes file e.event) past

-- each own file that there are bytes for was published
abbrev pub is_installed : Stood → Bool
is_installed at =
    list_all (λ (o : OwnFile). not (is_some (own_bytes at.«module» (kept_of at.goals) o.slot)) || was_published at.past o.file) at.«module».own

-- nothing stands against installing it: its classpath is within the limit, all answers are good, and it doesn't lack its artifact
abbrev pub IsInstallable : Stood → Type 0
IsInstallable at = IsWithin at × (is_good at.goals ≡ true) × (lacks_artifact at.«module» (kept_of at.goals) ≡ false)

-- ---- what fits, event by event

-- whether the bytes of a publish are told: by the repository, and by the area from which it is made
abbrev pub tells_bytes : Stood → HandTold → Bool
tells_bytes at hand = is_some at.files && hand.area

-- a publish has the remote's bytes; or where the file is the module's own, which may be installed then, the POM's or its slot's
abbrev pub FitsBytes : (told fetches : Bool) → Stood → HandTold → ℕ → Carried → Type 0
FitsBytes false true at hand file what = Unit {0}
FitsBytes false false at hand file what = IsInstallable at
FitsBytes true true at hand file what = IfSome hand.remote (λ remote. TellsBytes what (remote_bytes remote (name_of at.plan file)))
FitsBytes true false at hand file what = IsInstallable at × TellsBytes what (own_of at file)

abbrev pub FitsPublish : Stood → HandTold → ℕ → Carried → Type 0
FitsPublish at hand file what = FitsBytes (tells_bytes at hand) (is_listed file at.«module».fetch) at hand file what

-- the answer is the gate's to the request of its goal, as far as gate and repository tell
abbrev pub IsGates : Stood → HandTold → ℕ → Carried → Type 0
IsGates at hand goal what =
    IfSome hand.gate (λ test. IfSome at.files (λ files. IfSome (slice_get at.«module».goals goal) (λ call.
    TellsAnswer what (test (request at.plan files at.outputs at.«module» call (kept_of at.goals))))))

-- an answer is given where those before it are good
abbrev pub FitsAnswer : Stood → HandTold → ℕ → Carried → Type 0
FitsAnswer at hand goal what = IsWithin at × (is_good at.goals ≡ true) × IsGates at hand goal what

-- installing begins where nothing stands against it
abbrev pub FitsTake : (installs : Bool) → Stood → Type 0
FitsTake true at = IsInstallable at
FitsTake false at = Unit {0}

abbrev pub FitsEnd : Stood → HandTold → Ending → Type 0
FitsEnd at hand ending.Built =
    IsWithin at × (is_good at.goals ≡ true) × ((not at.«module».installs || is_installed at) ≡ true) × (is_lacking at ≡ false)
FitsEnd at hand (ending.Missing file) = IfSome hand.remote (λ remote. remote_bytes remote (name_of at.plan file) ≡ None)
FitsEnd at hand ending.ClasspathTooLarge = IsBeyond at
FitsEnd at hand (ending.Goal i) = has_failed_at i at.goals ≡ true
FitsEnd at hand (ending.OutputTooLarge i) = is_too_large_at i at.goals ≡ true
FitsEnd at hand ending.NoArtifact = IsWithin at × (is_good at.goals ≡ true) × (is_lacking at ≡ true)
FitsEnd at hand (ending.Fault device) = Unit {0}
FitsEnd at hand ending.Memory = Unit {0}

abbrev pub FitsModule : Stood → HandTold → (stage : ℕ) → Event → Carried → Type 0
FitsModule at hand stage (event.Publish w file) what = FitsPublish at hand file what
FitsModule at hand stage (event.Answer w goal) what = FitsAnswer at hand goal what
FitsModule at hand stage (event.Take w n mode) what = FitsTake (nat_eq stage 6) at
FitsModule at hand stage (event.End w e) what = FitsEnd at hand e
FitsModule at hand stage other what = Unit {0}

abbrev pub worker_of : Event → Option ℕ
worker_of (event.Start w m) = Some w
worker_of (event.Skip m) = None
worker_of (event.Take w n mode) = Some w
worker_of (event.Free w n) = Some w
worker_of (event.Read w file) = Some w
worker_of (event.Publish w file) = Some w
worker_of (event.Answer w goal) = Some w
worker_of (event.End w e) = Some w

-- whether the bytes that an entry publishes are told
abbrev pub is_told_by : Option Files → (ℕ → HandTold) → Event → Bool
is_told_by start hands e = is_some start && option_map_or (λ w. (hands w).area) (worker_of e) false

-- an entry's row, where its worker builds a module
abbrev pub FitsBehind : Plan → Option Files → (ℕ → HandTold) → (past : List RunEntry) → RunEntry → Option ℕ → Type 0
FitsBehind plan start hands past e worker =
    IfSome worker (λ w. IfSome (module_by plan past w) (λ number. IfSome (slice_get plan.modules number) (λ m.
    FitsModule (stood plan start past number m) (hands w) (stage_at (course_of (standing_of_run plan past) w)) e.event e.carried)))

-- an entry fits behind others, where the repository told these files at the start, or none, and its worker's hand tells this: it carries
-- what it has to, and its row holds
abbrev pub Fits : Plan → Option Files → (ℕ → HandTold) → (past : List RunEntry) → RunEntry → Type 0
Fits plan start hands past e = (is_told (is_told_by start hands e.event) e.event e.carried ≡ true) × FitsBehind plan start hands past e (worker_of e.event)

-- and each of a run
abbrev pub AllFit : Plan → Option Files → (ℕ → HandTold) → (past : List RunEntry) → List RunEntry → Type 0
AllFit plan start hands past [] = Unit {0}
AllFit plan start hands past (e ∷ entries) = Fits plan start hands past e × AllFit plan start hands (past ++ e ∷ []) entries
