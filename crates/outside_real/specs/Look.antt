-- What an answer of the system says of a path. Own rule.
use Rattle.std.specs.Prelude.{Option, Some, None, Result, Ok, Err, if◌then◌else◌}
use Rattle.std.specs.IoError.{error_kind}
use Rattle.std.specs.declared.io.Error.{Error}
use Rattle.std.specs.declared.fs.attrs.Metadata.{Metadata}
use Rattle.mvn_outside.specs.declared.fault.DeviceFault.{DeviceFault}
use Rattle.outside_real.specs.Faults.{fault_of, is_absent}

-- what stands there: nothing where the error says that the path leads nowhere
abbrev pub if_there : Result Metadata Error → Result (Option Metadata) DeviceFault
if_there (Ok metadata) = Ok (Some metadata)
if_there (Err e) = if is_absent (error_kind e) then Ok None else Err (fault_of (error_kind e))
