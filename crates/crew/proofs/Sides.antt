-- A run by a crew fits, and ends as the build by one hand, or its faults stay apart.
use Rattle.std.proofs.Common.{◌≡◌, ℕ, ◌<◌, true, List, [], length, Option, Some, is_some, sym, subst}
use Rattle.mvn_outside.specs.declared.shelf.ShelfTold.{ShelfTold}
use Rattle.build_core.specs.OneThread.{Supply}
use Rattle.build_core.specs.declared.plan.Plan.{Plan}
use Rattle.event_core.specs.Runs.{IsComplete, IsRunOf}
use Rattle.event_core.specs.Worlds.{AllFit}
use Rattle.event_core.specs.declared.entry.RunEntry.{RunEntry}
use Rattle.board.specs.Logs.{AreCarried}
use Rattle.run_law.specs.Given.{Given, IsFitting, IsPresent, IsWhole, states_after}
use Rattle.run_law.proofs.Laws.{ended_keeps, ended_so, files_between, same_files, same_outputs, same_states, untouched_outputs, untouched_state}
use Rattle.run_law.specs.Hands.{OwnFit}
use Rattle.run_law.proofs.Fitting.{all}
use Rattle.run_law.proofs.Paths.{all_bare}
use Rattle.crew_turns.specs.Endings.{endings_of}
use Rattle.crew_turns.specs.Hands.{HandState}
use Rattle.crew.specs.AsOne.{EndsApart, EndsAsOne, IsSupplyOf, are_calm}
use Rattle.crew.specs.CrewOutcomes.{IsCrewRun, IsUsed, hand_of, start_of, told_of}
use Rattle.crew.proofs.Counts.{calm}

-- what each hand shows makes one run
pub gathered : (plan : Plan) (opening : Option ShelfTold) (before now : List HandState) (run : List RunEntry) → IsRunOf plan run → IsComplete plan run → AreCarried (is_some opening) run → length before ≡ plan.workers
    → ((w : ℕ) → w < plan.workers → OwnFit plan (start_of opening) (told_of before w) w [] run) → ((w : ℕ) → w < plan.workers → IsUsed (hand_of before w) (hand_of now w) (endings_of w run)) → IsCrewRun plan opening before now run
gathered plan opening before now run follows complete carried many fits used = record {
  follows = follows;
  complete = complete;
  many = many;
  fits = all plan (start_of opening) (told_of before) run follows (all_bare (is_some opening) run carried) fits;
  used = used;
}

-- what the law of runs is given
abbrev given_by : Plan → List HandState → Supply → Given
given_by plan hands supply = record { plan = plan; start = supply.start; remote = supply.remote; hands = told_of hands }

-- the run fits
fitting : (plan : Plan) (opening : ShelfTold) (before now : List HandState) (run : List RunEntry) (supply : Supply) → IsCrewRun plan (Some opening) before now run → IsSupplyOf plan opening before run supply → IsFitting (given_by plan before supply) run
fitting plan opening before now run supply crew is = record {
  sound = is.sound;
  present = subst (IsPresent plan) (sym is.start) is.present;
  tell = λ w low. is.tell w (subst (λ n. w < n) (sym crew.many) low);
  follows = crew.follows;
  fits = subst (λ files. AllFit plan (Some files) (told_of before) [] run) (sym is.start) crew.fits;
}

-- a calm one ends as the build by one hand
pub as_one : (plan : Plan) (opening : ShelfTold) (before now : List HandState) (run : List RunEntry) (supply : Supply) → IsCrewRun plan (Some opening) before now run → IsSupplyOf plan opening before run supply → are_calm (states_after plan run) ≡ true → EndsAsOne plan supply run
as_one plan opening before now run supply crew is still =
    let g : Given = given_by plan before supply in
    let whole : IsWhole g run = record { fitting = fitting plan opening before now run supply crew is; complete = crew.complete; quiet = calm plan run crew.follows still } in
    record {
      states = same_states g run supply.answers whole is.answers;
      outputs = same_outputs g run supply.answers whole is.answers;
      files = same_files g run supply.answers whole is.answers;
    }

-- else the faults stay apart
pub apart : (plan : Plan) (opening : ShelfTold) (before now : List HandState) (run : List RunEntry) (supply : Supply) → IsCrewRun plan (Some opening) before now run → IsSupplyOf plan opening before run supply → EndsApart plan supply run
apart plan opening before now run supply crew is =
    let g : Given = given_by plan before supply in
    let fits : IsFitting g run = fitting plan opening before now run supply crew is in
    record {
      states = λ number low free. untouched_state g run supply.answers fits is.answers crew.complete number low free;
      outputs = λ number low free. untouched_outputs g run supply.answers fits is.answers crew.complete number low free;
      ended = λ number e low at not. ended_so g run supply.answers fits is.answers number e low at not;
      kept = λ number e low at not. ended_keeps g run supply.answers fits is.answers number e low at not;
      files = files_between g run supply.answers fits is.answers;
    }
