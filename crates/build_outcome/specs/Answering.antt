-- What a build answers, against the build by one hand and against the run. Project rules; Guide to Working with Multiple Modules.
use Rattle.std.specs.Prelude.{◌≡◌, ◌⊎◌, ℕ, false, List, Some, IfSome}
use Rattle.std.specs.List.{list_any}
use Rattle.mvn_shared.specs.Files.{Files}
use Rattle.mvn_outside.specs.Shelf.{files_now}
use Rattle.mvn_outside.specs.declared.shelf.ShelfTold.{ShelfTold}
use Rattle.build_core.specs.OneThread.{Supply, answer_at, one_thread}
use Rattle.build_core.specs.declared.event.Answered.{Answered}
use Rattle.build_core.specs.declared.event.Event.{Event}
use Rattle.build_core.specs.declared.plan.Plan.{Plan}
use Rattle.report.specs.declared.details.Details.{Details}
use Rattle.event_core.specs.declared.entry.RunEntry.{RunEntry}
use Rattle.run_law.specs.Given.{states_after}
use Rattle.crew.specs.CrewOutcomes.{AllTellFiles}
use Rattle.build_outcome.specs.Left.{AreaFailed, IsIdle, IsCallRun, IsShelfCounted, Outside}
use Rattle.build_outcome.specs.Outcomes.{area_fault, is_memory, ran, run_outcome, unsettled_outcome}
use Rattle.build_outcome.specs.declared.outcome.Outcome.{Outcome}

-- the answer is that of the build by one hand, and so are the files, of all supplies with these files and answers
abbrev pub RanSo : Plan → List Details → List Answered → Outcome → (before remote after : Files) → Type 0
RanSo plan details answers answer before remote after = (supply : Supply) → supply.start ≡ before → supply.remote ≡ remote → ((m i : ℕ) → supply.answers m i ≡ answer_at answers m i)
    → (answer ≡ ran plan details supply) × ((one_thread plan supply).files ≡ after)

-- so it is where the repository tells, and all areas and all remotes, and the remotes the same files
abbrev pub BuildsAsOne : Plan → List Details → (before now : Outside) → List Answered → Outcome → Type 0
BuildsAsOne plan details before now answers answer = IfSome before.shelf (λ told. (remote : Files) → AllTellFiles before.hands remote
    → (after : ShelfTold) × (now.shelf ≡ Some after) × RanSo plan details answers answer (files_now told) remote (files_now after))

-- what is answered of a run in which no module ended for want of memory: its report, or that what it published isn't settled, and then the
-- repository failed once more
abbrev pub IsAnswerOf : Plan → List Details → List RunEntry → (before now : Outside) → List Answered → Outcome → Type 0
IsAnswerOf plan details run before now answers answer = (list_any is_memory (states_after plan run) ≡ false)
    × (((answer ≡ run_outcome plan details answers (states_after plan run)) × IsShelfCounted run 0 before now)
    ⊎ ((answer ≡ unsettled_outcome plan details answers (states_after plan run)) × IsShelfCounted run 1 before now))

-- over any devices: an area couldn't be swept and nothing was done, or what is answered is of a run
abbrev pub AnswersBuild : Plan → List Details → (before now : Outside) → List Event → List Answered → Outcome → Type 0
AnswersBuild plan details before now trace answers answer = (IsIdle before now trace answers × (answer ≡ area_fault) × AreaFailed before.hands now.hands)
    ⊎ ((run : List RunEntry) × IsCallRun plan before now trace answers run × IsAnswerOf plan details run before now answers answer)
