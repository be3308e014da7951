-- What a sink over a stream tells.
use Rattle.std.specs.Prelude.{ℕ}
use Rattle.outside_real.specs.declared.sink.RealSink.{RealSink}

abbrev pub sink_faults : {W : Type 0} → RealSink W → ℕ
sink_faults sink = sink.faults
