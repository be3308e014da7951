-- What an error of the system is told as. Own rule.
use Rattle.std.specs.Prelude.{Bool, true, false}
use Rattle.std.specs.declared.io.ErrorKind.{ErrorKind}
use Rattle.std.specs.declared.io.ErrorKind.TheVariants.{NotFound, NotADirectory, InvalidFilename, FilesystemLoop, OutOfMemory}
use Rattle.mvn_outside.specs.declared.fault.DeviceFault.{DeviceFault}
use Rattle.mvn_outside.specs.declared.fault.DeviceFault.TheVariants as device

-- a fault of the device, unless memory ran out
abbrev pub fault_of : ErrorKind → DeviceFault
fault_of OutOfMemory = device.Memory
fault_of kind = device.Failed

-- no such file is there: nothing has the path, a file stands in the place of a folder, a name is too long, or links lead in a circle
abbrev pub is_absent : ErrorKind → Bool
is_absent NotFound = true
is_absent NotADirectory = true
is_absent InvalidFilename = true
is_absent FilesystemLoop = true
is_absent kind = false
