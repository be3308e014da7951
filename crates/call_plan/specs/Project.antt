-- What planning a project gives. Project rules.
use Rattle.std.specs.Prelude.{◌≡◌, Option, None, Some, Result, Err}
use Rattle.mvn_shared.specs.Files.{Files}
use Rattle.mvn_outside.specs.declared.shelf.ShelfTold.{ShelfTold}
use Rattle.cli_words.specs.declared.command_line.CommandLine.{CommandLine}
use Rattle.pom_source.specs.declared.found.Given.{Given}
use Rattle.model_resolver.specs.declared.failures.PomDevice.{PomDevice}
use Rattle.module_plan.specs.declared.selected.Planned.{Planned}
use Rattle.build_plan.specs.declared.planning.PlanFault.{PlanFault}
use Rattle.build_outcome.specs.declared.outcome.Outcome.{Outcome}
use Rattle.call_plan.specs.Found.{Finds, IsFoundBy}
use Rattle.call_plan.specs.Outcome.{fault_line}
use Rattle.call_plan.specs.Seen.{Seen, first_remote}

-- what is made of what planning gave: where a device failed its line, and else the plan or what is answered in its place
abbrev pub IsMadeOf : Result Planned PlanFault → Option PomDevice → Result Planned Outcome → Type 0
IsMadeOf said None found = Finds said found
IsMadeOf said (Some device) found = found ≡ Err (fault_line device)

-- by the device that failed, if one did
abbrev pub GivesPlan : Option Files → Option ShelfTold → Option Files → Given → CommandLine → Option PomDevice → Result Planned Outcome → Type 0
GivesPlan tree shelf remote given line None found = IsFoundBy tree shelf remote given line found
GivesPlan tree shelf remote given line (Some device) found = found ≡ Err (fault_line device)

-- over what a call sees, with the first hand's remote
abbrev pub GivesFrom : Seen → Given → CommandLine → Option PomDevice → Result Planned Outcome → Type 0
GivesFrom seen given line failed found = GivesPlan seen.tree seen.outside.shelf (first_remote seen.outside) given line failed found
