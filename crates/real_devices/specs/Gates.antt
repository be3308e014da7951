-- What runs the goals: the program that a variable names, or the built-in goals. Own rule.
use Rattle.std.specs.Prelude.{ℕ, List, [], ◌∷◌, Option, Some, None}
use Rattle.children.specs.declared.real_spawner.RealSpawner.{RealSpawner}
use Rattle.children.specs.RealSpawners.{spawner_program}
use Rattle.gates.specs.Gate.{spawner_of}
use Rattle.gates.specs.declared.any_gate.AnyGate.{AnyGate}
use Rattle.gates.specs.declared.any_gate.AnyGate.TheVariants as gate

-- the program that a value names: an empty one names none
abbrev pub named_program : List ℕ → Option (List ℕ)
named_program [] = None
named_program (b ∷ more) = Some (b ∷ more)

-- the program that runs the goals; None for the built-in goals
abbrev pub gate_program : {R : Type 0} → AnyGate (RealSpawner R) → Option (List ℕ)
gate_program (gate.Builtin b) = None
gate_program (gate.Process p) = Some (spawner_program (spawner_of p))
