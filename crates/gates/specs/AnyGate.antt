-- The built-in goals, or goals in children: what is told, and the faults, by which of them it is.
use Rattle.std.proofs.Common.{◌≡◌, ℕ, Bool, true, List, Option, Some, None, IfSome, Result, refl}
use Rattle.std.specs.Prelude.{⊤}
use Rattle.goal_types.specs.declared.goal.GoalRequest.{GoalRequest}
use Rattle.goal_types.specs.declared.goal.GoalAnswer.{GoalAnswer}
use Rattle.mvn_outside.specs.declared.fault.DeviceFault.{DeviceFault}
use Rattle.children.specs.declared.spawner.ChildRecord.{ChildRecord}
use Rattle.children.specs.Children.{Children}
use Rattle.gates.specs.Builtin.{builtin, same_answer}
use Rattle.gates.specs.Same.{one_answer}
use Rattle.gates.specs.Asking.{Asks}
use Rattle.gates.specs.declared.any_gate.AnyGate.{AnyGate}
use Rattle.gates.specs.declared.any_gate.AnyGate.TheVariants as gate

-- the built-in goals tell their function, and children tell none
abbrev pub any_answers : {P : Type 0} → AnyGate P → Option (GoalRequest → GoalAnswer → Bool)
any_answers (gate.Builtin b) = Some (λ request answer. same_answer (builtin request) answer)
any_answers (gate.Process p) = None

abbrev pub any_faults : {P : Type 0} → (P → ℕ) → AnyGate P → ℕ
any_faults faults (gate.Builtin b) = 0
any_faults faults (gate.Process p) = faults p.spawner

abbrev pub any_never_fails : {P : Type 0} → (P → Bool) → AnyGate P → Bool
any_never_fails never (gate.Builtin b) = true
any_never_fails never (gate.Process p) = never p.spawner

-- where no call fails, there is no fault
pub any_no_faults : {P : Type 0} (faults : P → ℕ) (never : P → Bool) → ((p : P) → never p ≡ true → faults p ≡ 0) → (any : AnyGate P) → any_never_fails never any ≡ true → any_faults faults any ≡ 0
any_no_faults faults never law (gate.Builtin b) e = refl
any_no_faults faults never law (gate.Process p) e = law p.spawner e

-- to each request it has one answer at most
pub any_one_answer : {P : Type 0} (any : AnyGate P) → IfSome (any_answers any) (λ test. (request : GoalRequest) (a b : GoalAnswer) → test request a ≡ true → test request b ≡ true → a ≡ b)
any_one_answer (gate.Builtin b) = one_answer
any_one_answer (gate.Process p) = tt

-- the children that are there, where goals run in children
abbrev pub any_children : {P : Type 0} → (P → Children) → AnyGate P → Option Children
any_children children (gate.Builtin b) = None
any_children children (gate.Process p) = Some (children p.spawner)

-- a call of the one or of the other: what runs the goals stays, and children are asked as their gate asks them
abbrev pub AnyAsks : {P : Type 0} → (P → Option (List ChildRecord)) → (old new : AnyGate P) → GoalRequest → Result GoalAnswer DeviceFault → Type 0
AnyAsks told (gate.Builtin a) (gate.Builtin b) request result = ⊤
AnyAsks told (gate.Process p) (gate.Process q) request result = Asks (told p.spawner) (told q.spawner) request result
AnyAsks told old new request result = ⊥
