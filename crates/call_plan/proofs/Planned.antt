-- What planning gives, from what it says and what is made of that.
use Rattle.std.proofs.Common.{◌≡◌, false, Option, Some, None, is_some, Result, Ok, Err, IfOk}
use Rattle.mvn_shared.specs.declared.memory.OutOfMemory.{OutOfMemory}
use Rattle.mvn_shared.specs.Files.{Files}
use Rattle.cli_words.specs.declared.command_line.CommandLine.{CommandLine}
use Rattle.mvn_outside.specs.declared.shelf.ShelfTold.{ShelfTold}
use Rattle.pom_source.specs.declared.found.Given.{Given}
use Rattle.model_resolver.specs.declared.failures.PomDevice.{PomDevice}
use Rattle.module_plan.specs.declared.selected.Planned.{Planned}
use Rattle.build_plan.specs.declared.planning.PlanFault.{PlanFault}
use Rattle.build_plan.specs.Planning.{IsPlan, KnowsFiles, NamesWord, Plans}
use Rattle.build_outcome.specs.declared.outcome.Outcome.{Outcome}
use Rattle.call_plan.specs.Found.{Finds, IfTold}
use Rattle.call_plan.specs.Project.{GivesPlan, IsMadeOf}

-- where no device failed
pub made_none : (said : Result Planned PlanFault) (failed : Option PomDevice) (found : Result Planned Outcome) → is_some failed ≡ false → Finds said found → IsMadeOf said failed found
made_none said None found e is = is
made_none said (Some device) found e is = cc

pub gives_plan : (tree : Option Files) (shelf : Option ShelfTold) (remote : Option Files) (given : Given) (line : CommandLine) (said : Result Planned PlanFault) (failed : Option PomDevice) (r : Result (Result Planned Outcome) OutOfMemory)
    → IfTold tree shelf remote (λ files start there. Plans files start there given line said) → IfOk said (IsPlan line) → IfOk said (KnowsFiles shelf) → NamesWord line said
    → IfOk r (IsMadeOf said failed) → IfOk r (GivesPlan tree shelf remote given line failed)
gives_plan tree shelf remote given line said failed (Err e) told made present word is = tt
gives_plan tree shelf remote given line said None (Ok found) told made present word is = record { said = said; made = made; present = present; word = word; told = told; finds = is }
gives_plan tree shelf remote given line said (Some device) (Ok found) told made present word is = is
