-- The statuses of what is answered without a build.
use Rattle.std.proofs.Common.{◌≡◌, ℕ, ◌<◌, ◌≤◌, Result, Ok, Err, refl, ap, ◌∙◌, arith}
use Rattle.mvn_base.specs.declared.refusal.Refusal.{Refusal}
use Rattle.cli_words.specs.declared.command_line.CommandLine.{CommandLine}
use Rattle.cli_words.specs.declared.fault.WordFault.{WordFault}
use Rattle.pom_source.specs.declared.fault.BuildFault.TheVariants.{Refused, Absent, Source, Memory}
use Rattle.model_resolver.specs.declared.failures.PomDevice.{PomDevice}
use Rattle.module_plan.specs.declared.selected.Planned.{Planned}
use Rattle.build_plan.specs.declared.planning.PlanFault.{PlanFault}
use Rattle.build_plan.specs.declared.planning.PlanFault.TheVariants.{Build, Unknown}
use Rattle.build_outcome.specs.declared.outcome.Outcome.{Outcome}
use Rattle.call_plan.specs.Commands.{of_options}
use Rattle.call_plan.specs.Found.{Finds}
use Rattle.call_plan.specs.Outcome.{fault_line, refused_by, unknown_module, word_fault}

word_status : (fault : WordFault) → (word_fault fault).status ≡ 2
unfolding word_fault
word_status fault = refl

fault_status : (device : PomDevice) → (fault_line device).status ≡ 3
unfolding fault_line
fault_status device = refl

refused_status : (refusal : Refusal) → (refused_by refusal).status ≡ 2
unfolding refused_by
refused_status refusal = refl

abbrev no_line : Outcome → Result CommandLine Outcome
no_line answer = Err answer

abbrev no_plan : Outcome → Result Planned Outcome
no_plan answer = Err answer

same_status : (a b : Outcome) (n : ℕ) → no_line a ≡ no_line b → a.status ≡ n → b.status ≡ n
same_status a b n e is = cc

-- of words that ask for nothing
pub words_status : (read : Result CommandLine WordFault) (answer : Outcome) → of_options read ≡ Err answer → answer.status ≡ 2
words_status (Err fault) answer e = same_status (word_fault fault) answer 2 e (word_status fault)
words_status (Ok line) answer e = cc

found_status : (a b : Outcome) (n : ℕ) → no_plan a ≡ no_plan b → b.status ≡ n → a.status ≡ n
found_status a b n e is = cc

-- in place of a plan
pub planning_status : (said : Result Planned PlanFault) (answer : Outcome) → Finds said (Err answer) → answer.status ≡ 2
planning_status (Ok planned) answer e = cc
planning_status (Err (Build (Refused refusal))) answer e = found_status answer (refused_by refusal) 2 e (refused_status refusal)
planning_status (Err (Build Absent)) answer e = found_status answer (refused_by _) 2 e (refused_status _)
planning_status (Err (Build Source)) answer e = absurd e
planning_status (Err (Build Memory)) answer e = absurd e
planning_status (Err (Unknown place)) answer e = found_status answer (unknown_module place) 2 e (word_status _)

-- of a device that failed
pub device_status : (device : PomDevice) (answer : Outcome) → answer ≡ fault_line device → answer.status ≡ 3
device_status device answer e = ap (λ (o : Outcome). o.status) e ∙ fault_status device

pub two_below : (n : ℕ) → n ≡ 2 → n ≤ 3
two_below n e = omega (arith, e)

pub three_below : (n : ℕ) → n ≡ 3 → n ≤ 3
three_below n e = omega (arith, e)

pub two_low : (n : ℕ) → n ≡ 2 → n < 2 → ⊥
two_low n e lt = omega (arith, e, lt)

pub two_three : (n : ℕ) → n ≡ 2 → n ≡ 3 → ⊥
two_three n e f = omega (arith, e, f)

pub three_low : (n : ℕ) → n ≡ 3 → n < 3 → ⊥
three_low n e lt = omega (arith, e, lt)

pub three_lower : (n : ℕ) → n ≡ 3 → n < 2 → ⊥
three_lower n e lt = omega (arith, e, lt)

pub lower_low : (n : ℕ) → n < 2 → n < 3
lower_low n lt = omega (arith, lt)
