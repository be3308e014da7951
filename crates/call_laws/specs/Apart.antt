-- A call with faults, beside the build by one thread of the same plan. Project rule; Guide to Working with Multiple Modules, for the latter.
use Rattle.std.specs.Prelude.{◌≡◌, List, Result, Ok, Some}
use Rattle.mvn_shared.specs.Files.{Files}
use Rattle.mvn_outside.specs.Shelf.{files_now}
use Rattle.mvn_outside.specs.declared.shelf.ShelfTold.{ShelfTold}
use Rattle.cli_words.specs.declared.command_line.CommandLine.{CommandLine}
use Rattle.build_core.specs.OneThread.{one_thread}
use Rattle.build_core.specs.declared.event.Answered.{Answered}
use Rattle.build_core.specs.declared.event.Event.{Event}
use Rattle.event_core.specs.declared.entry.RunEntry.{RunEntry}
use Rattle.run_law.specs.Given.{Answers, Extends, IsBetween, supply_by}
use Rattle.crew.specs.AsOne.{EndsApart}
use Rattle.module_plan.specs.declared.selected.Planned.{Planned}
use Rattle.build_outcome.specs.Left.{IsCallRun}
use Rattle.build_outcome.specs.declared.outcome.Outcome.{Outcome}
use Rattle.call_plan.specs.Headline.{IsFoundIn}
use Rattle.call_plan.specs.Seen.{After, Seen, used}

-- A plan of the line was built by the hands that are used, with these events and answers. By any answers that extend the kept ones, a module
-- that no fault touched stands and keeps outputs as in the build by one thread, and so does each that ended otherwise; and each file of
-- the repository is as at the start or as that build leaves it.
pub record FaultsStayApart (asked : Result CommandLine Outcome) (seen : Seen) (after : After) (told : ShelfTold) (remote : Files) (trace : List Event) (answers : List Answered) : Type 0 where
  pub line : CommandLine
  pub p : Planned
  pub run : List RunEntry
  pub is : asked ≡ Ok line
  pub found : IsFoundIn seen line (Ok p)
  pub call : IsCallRun p.plan (used asked seen.outside) (used asked after.outside) trace answers run
  pub apart : (said : Answers) → Extends answers said → EndsApart p.plan (supply_by (files_now told) remote said) run
  pub left : ShelfTold
  pub tells : after.outside.shelf ≡ Some left
  pub files : (said : Answers) → Extends answers said → IsBetween (files_now told) (one_thread p.plan (supply_by (files_now told) remote said)).files (files_now left)
