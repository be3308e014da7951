-- What a sink in memory holds.
use Rattle.std.specs.Prelude.{ℕ, List}
use Rattle.outside_mem.specs.declared.sink.MemSink.{MemSink}

abbrev pub sink_bytes : {F : Type 0} → MemSink F → List ℕ
sink_bytes sink = sink.bytes.items
