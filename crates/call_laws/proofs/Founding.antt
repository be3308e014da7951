-- What a call finds is one.
use Rattle.std.proofs.Common.{◌≡◌, sym, subst, ◌∙◌, Result, Ok, Err}
use Rattle.mvn_shared.specs.Files.{Files}
use Rattle.mvn_base.specs.declared.machine.Machine.{Machine}
use Rattle.cli_words.specs.declared.command_line.CommandLine.{CommandLine}
use Rattle.pom_source.specs.declared.fault.BuildFault.TheVariants.{Refused, Absent, Source, Memory}
use Rattle.module_plan.specs.declared.selected.Planned.{Planned}
use Rattle.build_plan.specs.Planning.{IsSaid}
use Rattle.build_plan.specs.declared.planning.PlanFault.{PlanFault}
use Rattle.build_plan.specs.declared.planning.PlanFault.TheVariants.{Build, Unknown}
use Rattle.build_outcome.specs.declared.outcome.Outcome.{Outcome}
use Rattle.call_plan.specs.Found.{Finds, IsFound, given_of}
use Rattle.call_laws.proofs.Stepping.{one_answer}

-- what is found comes from something that planning says
found_said : (said : Result Planned PlanFault) (found : Result Planned Outcome) → Finds said found → IsSaid said
found_said (Ok planned) found e = tt
found_said (Err (Build (Refused refusal))) found e = tt
found_said (Err (Build Absent)) found e = tt
found_said (Err (Build Source)) found e = e
found_said (Err (Build Memory)) found e = e
found_said (Err (Unknown place)) found e = tt

-- and of what it says one thing is found
found_one : (said : Result Planned PlanFault) (a b : Result Planned Outcome) → Finds said a → Finds said b → a ≡ b
found_one (Ok planned) a b e f = e ∙ sym f
found_one (Err (Build (Refused refusal))) a b e f = e ∙ sym f
found_one (Err (Build Absent)) a b e f = e ∙ sym f
found_one (Err (Build Source)) a b e f = absurd e
found_one (Err (Build Memory)) a b e f = absurd e
found_one (Err (Unknown place)) a b e f = e ∙ sym f

-- what is asked, the files and the machine have one plan that is built, or one outcome in its place
pub one_found : (asked : Result CommandLine Outcome) (tree start remote : Files) (machine : Machine) (a b : Result Planned Outcome) → IsFound asked tree start remote machine a → IsFound asked tree start remote machine b → a ≡ b
one_found (Err answer) tree start remote machine a b is too = is ∙ sym too
one_found (Ok line) tree start remote machine a b is too =
    let same = one_answer tree start remote (given_of machine line) line is.0 too.0 is.1 too.1 (found_said is.0 a is.2) (found_said too.0 b too.2) in
    found_one too.0 a b (subst (λ (said : Result Planned PlanFault). Finds said a) same is.2) too.2
