-- What a stream in memory holds.
use Rattle.std.specs.Prelude.{ℕ, Bool, List, drop}
use Rattle.outside_mem.specs.declared.calls.Calls.{Calls}
use Rattle.outside_mem.specs.Calls.{fails}
use Rattle.child_mem.specs.declared.source.MemSource.{MemSource}

-- what is left to read
abbrev pub source_left : {F : Type 0} → MemSource F → List ℕ
source_left source = drop source.taken source.bytes

-- whether the read with this number fails
abbrev pub read_fails : MemSource Calls → ℕ → Bool
read_fails source = fails source.calls
