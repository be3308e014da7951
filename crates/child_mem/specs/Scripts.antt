-- What children in memory do.
use Rattle.std.specs.Prelude.{ℕ, ℤ, List, [], pos, Option, Some, None}
use Rattle.children.specs.declared.spawner.ChildRecord.{ChildRecord}
use Rattle.children.specs.Children.{fresh_child}
use Rattle.child_mem.specs.declared.spawner.ChildScript.{ChildScript}

-- what a child writes, and what it ends with: without a script nothing and 0
abbrev pub script_output : Option ChildScript → List ℕ
script_output (Some script) = script.output
script_output None = []

abbrev pub script_status : Option ChildScript → ℤ
script_status (Some script) = script.status
script_status None = pos 0

-- a child that is started with this script
abbrev pub child_of : Option ChildScript → ChildRecord
child_of script = fresh_child (script_output script) (script_status script)
