-- Which answers say that a device failed.
use Rattle.std.specs.Prelude.{Bool, true, false, Result, Ok, Err}
use Rattle.mvn_outside.specs.declared.fault.DeviceFault.{DeviceFault}
use Rattle.mvn_outside.specs.declared.fault.DeviceFault.TheVariants as device
use Rattle.mvn_outside.specs.declared.fault.ReadFault.{ReadFault}
use Rattle.mvn_outside.specs.declared.fault.ReadFault.TheVariants as read
use Rattle.mvn_outside.specs.declared.fault.ListFault.{ListFault}
use Rattle.mvn_outside.specs.declared.fault.ListFault.TheVariants as list

abbrev pub device_failed : {T : Type 0} → Result T DeviceFault → Bool
device_failed (Ok x) = false
device_failed (Err device.Failed) = true
device_failed (Err device.Memory) = false

abbrev pub read_failed : {T : Type 0} → Result T ReadFault → Bool
read_failed (Ok x) = false
read_failed (Err read.Failed) = true
read_failed (Err read.TooLarge) = false
read_failed (Err read.Memory) = false

abbrev pub list_failed : {T : Type 0} → Result T ListFault → Bool
list_failed (Ok x) = false
list_failed (Err list.Failed) = true
list_failed (Err list.TooMany) = false
list_failed (Err list.Memory) = false

-- the same fault of a device, where more may go wrong
abbrev pub read_fault : DeviceFault → ReadFault
read_fault device.Failed = read.Failed
read_fault device.Memory = read.Memory

abbrev pub list_fault : DeviceFault → ListFault
list_fault device.Failed = list.Failed
list_fault device.Memory = list.Memory
