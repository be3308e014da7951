-- What is built, or what is answered in its place, by what the words ask for and what stands outside. Project rules.
use Rattle.std.specs.Prelude.{◌≡◌, [], Option, Result, Ok, Err, IfOk, IfSome}
use Rattle.mvn_shared.specs.Files.{Files}
use Rattle.mvn_base.specs.declared.machine.Machine.{Machine}
use Rattle.mvn_outside.specs.Shelf.{files_now}
use Rattle.mvn_outside.specs.declared.shelf.ShelfTold.{ShelfTold}
use Rattle.cli_words.specs.declared.command_line.CommandLine.{CommandLine}
use Rattle.pom_source.specs.declared.fault.BuildFault.TheVariants.{Refused, Absent, Source, Memory}
use Rattle.pom_source.specs.declared.found.Given.{Given}
use Rattle.module_plan.specs.declared.selected.Planned.{Planned}
use Rattle.build_plan.specs.declared.planning.PlanFault.{PlanFault}
use Rattle.build_plan.specs.declared.planning.PlanFault.TheVariants.{Build, Unknown}
use Rattle.build_plan.specs.Planning.{IsPlan, KnowsFiles, NamesWord, Plans}
use Rattle.build_outcome.specs.declared.outcome.Outcome.{Outcome}
use Rattle.call_plan.specs.Outcome.{refused_by, root_missing, unknown_module}

-- the machine, and what the command line says: the properties that it defines, and the profiles that it chooses
abbrev pub given_of : Machine → CommandLine → Given
given_of machine line = record { machine = machine; defines = line.defines; choice = line.choice; ci = [] }

-- of what planning says: the plan, or what is answered in its place; that a device failed or that memory ran out isn't said so
abbrev pub Finds : Result Planned PlanFault → Result Planned Outcome → Type 0
Finds (Ok planned) found = found ≡ Ok planned
Finds (Err (Build (Refused refusal))) found = found ≡ Err (refused_by refusal)
Finds (Err (Build Absent)) found = found ≡ Err (refused_by root_missing)
Finds (Err (Build Source)) found = ⊥
Finds (Err (Build Memory)) found = ⊥
Finds (Err (Unknown place)) found = found ≡ Err (unknown_module place)

-- it comes from what the plan of these files is
abbrev pub IsFoundOf : (tree start remote : Files) → Given → CommandLine → Result Planned Outcome → Type 0
IsFoundOf tree start remote given line found = (said : Result Planned PlanFault) × Plans tree start remote given line said × Finds said found

-- of what is asked and of files: the plan that is built, or the outcome in its place
abbrev pub IsFound : Result CommandLine Outcome → (tree start remote : Files) → Machine → Result Planned Outcome → Type 0
IsFound (Err answer) tree start remote machine found = found ≡ Err answer
IsFound (Ok line) tree start remote machine found = IsFoundOf tree start remote (given_of machine line) line found

-- where the project's folder, the local repository and the remote one tell their files
abbrev pub IfTold : Option Files → Option ShelfTold → Option Files → ((tree start remote : Files) → Type 0) → Type 0
IfTold tree shelf remote P = IfSome tree (λ files. IfSome shelf (λ told. IfSome remote (λ there. P files (files_now told) there)))

-- Over any devices, of which none failed: it comes from what planning said; a plan is one of the line, and knows which of its files a
-- repository has that tells; a word that means no module is one of the line's; and where the devices tell it is what the plan of their files is.
pub record IsFoundBy (tree : Option Files) (shelf : Option ShelfTold) (remote : Option Files) (given : Given) (line : CommandLine) (found : Result Planned Outcome) : Type 0 where
  pub said : Result Planned PlanFault
  pub made : IfOk said (IsPlan line)
  pub present : IfOk said (KnowsFiles shelf)
  pub word : NamesWord line said
  pub told : IfTold tree shelf remote (λ files start there. Plans files start there given line said)
  pub finds : Finds said found
