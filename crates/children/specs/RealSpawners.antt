-- What a spawner of the system tells.
use Rattle.std.specs.Prelude.{ℕ, List}
use Rattle.children.specs.declared.real_spawner.RealSpawner.{RealSpawner}

abbrev pub spawner_faults : {R : Type 0} → RealSpawner R → ℕ
spawner_faults spawner = spawner.faults

-- the program that its children run
abbrev pub spawner_program : {R : Type 0} → RealSpawner R → List ℕ
spawner_program spawner = spawner.program
