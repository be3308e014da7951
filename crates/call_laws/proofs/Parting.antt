-- Faults stay apart in a call.
use Rattle.std.proofs.Common.{◌≡◌, ℕ, ◌⊎◌, inl, inr, List, ◌++◌, Option, Some, Result, Ok, IfSome, refl, sym, subst}
use Rattle.mvn_shared.specs.Files.{Files}
use Rattle.mvn_outside.specs.Shelf.{MaySettle, files_now}
use Rattle.mvn_outside.specs.declared.shelf.ShelfTold.{ShelfTold}
use Rattle.cli_words.specs.declared.command_line.CommandLine.{CommandLine}
use Rattle.build_core.specs.OneThread.{one_thread}
use Rattle.build_core.specs.declared.event.Answered.{Answered}
use Rattle.build_core.specs.declared.event.Event.{Event}
use Rattle.build_core.specs.declared.plan.Plan.{Plan}
use Rattle.event_core.specs.declared.entry.RunEntry.{RunEntry}
use Rattle.board.specs.Logs.{publishes_in, told_after}
use Rattle.run_law.specs.Given.{Answers, Extends, IsBetween, IsPresent, supply_by}
use Rattle.module_plan.specs.declared.selected.Planned.{Planned}
use Rattle.build_plan.specs.Planning.{IsPlan, KnowsFiles}
use Rattle.crew.specs.AsOne.{EndsApart}
use Rattle.crew.specs.CrewOutcomes.{AllTellFiles, IsCrewRun}
use Rattle.crew.proofs.Names.{told_contents}
use Rattle.crew.proofs.Sides as sides
use Rattle.build_outcome.specs.Left.{IsCallRun, IsIdle}
use Rattle.build_outcome.specs.declared.outcome.Outcome.{Outcome}
use Rattle.call_plan.specs.Headline.{IsFoundIn, IsHistory}
use Rattle.call_plan.specs.Seen.{After, Seen, used}
use Rattle.call_plan.proofs.Present.{found_is, is_present_told}
use Rattle.call_laws.specs.Apart.{FaultsStayApart}

-- what a repository tells behind a run's publishes, so many of them settled
abbrev left_by : Plan → List RunEntry → ShelfTold → (settled : ℕ) → ShelfTold
left_by plan run told settled = record told { publishes = told.publishes ++ publishes_in plan run; settled = settled }

module _ (asked : Result CommandLine Outcome) (seen : Seen) (after : After) (told : ShelfTold) (remote : Files) (trace : List Event) (answers : List Answered)
    (shelf : seen.outside.shelf ≡ Some told) (tell : AllTellFiles (used asked seen.outside).hands remote) where
  module _ (line : CommandLine) (p : Planned) (run : List RunEntry) (is : asked ≡ Ok line) (found : IsFoundIn seen line (Ok p)) (call : IsCallRun p.plan (used asked seen.outside) (used asked after.outside) trace answers run) where
    plan : IsPlan line p
    plan = found_is found.said p (IsPlan line) found.finds found.made

    present : IsPresent p.plan (files_now told)
    present =
        subst (λ (s : Option ShelfTold). IfSome s (λ told. IsPresent p.plan (files_now told))) shelf
        (is_present_told seen.outside.shelf p (found_is found.said p (KnowsFiles seen.outside.shelf) found.finds found.present))

    crew : IsCrewRun p.plan (Some told) (used asked seen.outside).hands (used asked after.outside).hands run
    crew = subst (λ (s : Option ShelfTold). IsCrewRun p.plan s (used asked seen.outside).hands (used asked after.outside).hands run) shelf call.crew

    apart : (said : Answers) → Extends answers said → EndsApart p.plan (supply_by (files_now told) remote said) run
    apart said extends =
        sides.apart p.plan told (used asked seen.outside).hands (used asked after.outside).hands run (supply_by (files_now told) remote said) crew
        (record { sound = plan.sound; present = present; start = refl; tell = tell; answers = subst (λ (kept : List Answered). Extends kept said) call.kept extends })

    settles : MaySettle (told_after p.plan run (Some told)) after.outside.shelf
    settles = subst (λ (s : Option ShelfTold). MaySettle (told_after p.plan run s) after.outside.shelf) shelf call.published

    abbrev left : ShelfTold
    left = left_by p.plan run told settles.0

    between : (said : Answers) → Extends answers said → IsBetween (files_now told) (one_thread p.plan (supply_by (files_now told) remote said)).files (files_now left)
    between said extends = let ends = apart said extends in subst (IsBetween (files_now told) (one_thread p.plan (supply_by (files_now told) remote said)).files) (sym (told_contents p.plan run told)) ends.files

    of_run : FaultsStayApart asked seen after told remote trace answers
    of_run = record { line = line; p = p; run = run; is = is; found = found; call = call; apart = apart; left = left; tells = settles.3; files = between }

  pub stay_apart : IsHistory asked seen after trace answers → IsIdle seen.outside after.outside trace answers ⊎ FaultsStayApart asked seen after told remote trace answers
  stay_apart (inl idle) = inl idle
  stay_apart (inr (line, p, run, is, found, call)) = inr (of_run line p run is found call)
