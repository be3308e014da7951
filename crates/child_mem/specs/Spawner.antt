-- What children in memory hold.
use Rattle.std.specs.Prelude.{ℕ, Bool, List}
use Rattle.children.specs.Children.{Children}
use Rattle.children.specs.Numbers.{numbers}
use Rattle.std.specs.Vec.Iter.{into_iter_items}
use Rattle.outside_mem.specs.declared.calls.Calls.{Calls}
use Rattle.outside_mem.specs.Calls.{fails}
use Rattle.children.specs.declared.spawner.ChildRecord.{ChildRecord}
use Rattle.child_mem.specs.declared.spawner.ChildScript.{ChildScript}
use Rattle.child_mem.specs.declared.spawner.MemSpawner.{MemSpawner}

-- the scripts of the children that are still to be started
abbrev pub scripts_left : {F : Type 0} → MemSpawner F → List ChildScript
scripts_left spawner = into_iter_items spawner.scripts

-- a record of each child that was started
abbrev pub child_records : {F : Type 0} → MemSpawner F → List ChildRecord
child_records spawner = spawner.records.items

-- the numbers of the children that are there
abbrev pub present : {F : Type 0} → MemSpawner F → List ℕ
present spawner = spawner.there.keys

-- the children that are there
abbrev pub children_there : {F : Type 0} → MemSpawner F → Children
children_there spawner = numbers spawner.there.keys

-- whether the call with this number fails
abbrev pub call_fails : MemSpawner Calls → ℕ → Bool
call_fails spawner = fails spawner.calls
