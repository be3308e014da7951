-- What a stream of the system tells.
use Rattle.std.specs.Prelude.{ℕ}
use Rattle.children.specs.declared.real_source.RealSource.{RealSource}

abbrev pub source_faults : {I : Type 0} → RealSource I → ℕ
source_faults source = source.faults
