-- How a worker's modules ended. Project rule.
use Rattle.std.specs.Prelude.{◌≡◌, ◌⊎◌, ℕ, Bool, true, false, nat_eq, List, drop, filter, filter_map, length, Option, None, Some, Result, Ok, Err, if◌then◌else◌}
use Rattle.mvn_outside.specs.declared.fault.DeviceFault.{DeviceFault}
use Rattle.mvn_outside.specs.declared.fault.DeviceFault.TheVariants as fault
use Rattle.mvn_outside.specs.declared.fault.ReadFault.{ReadFault}
use Rattle.mvn_outside.specs.declared.fault.ReadFault.TheVariants as read
use Rattle.build_core.specs.declared.ending.Device.{Device}
use Rattle.build_core.specs.declared.ending.Device.TheVariants as device
use Rattle.build_core.specs.declared.ending.Ending.{Ending}
use Rattle.build_core.specs.declared.ending.Ending.TheVariants as ending
use Rattle.build_core.specs.declared.event.Event.{Event}
use Rattle.build_core.specs.declared.event.Event.TheVariants as event
use Rattle.event_core.specs.declared.entry.RunEntry.{RunEntry}

-- an ending by a fault of this device
abbrev pub is_fault_of : Device → Ending → Bool
is_fault_of device.Remote (ending.Fault device.Remote) = true
is_fault_of device.Area (ending.Fault device.Area) = true
is_fault_of device.Shelf (ending.Fault device.Shelf) = true
is_fault_of device.Gate (ending.Fault device.Gate) = true
is_fault_of d other = false

-- neither by a fault nor for want of memory
abbrev pub is_quiet_end : Ending → Bool
is_quiet_end (ending.Fault d) = false
is_quiet_end ending.Memory = false
is_quiet_end other = true

-- a stage stopped by a fault or for want of memory, or didn't
abbrev pub is_quiet_stop : Option Ending → Bool
is_quiet_stop None = true
is_quiet_stop (Some e) = is_quiet_end e

-- a stage that stops, or doesn't, stops by a fault of this device
abbrev pub stops_by : Device → Option Ending → Bool
stops_by d None = false
stops_by d (Some e) = is_fault_of d e

abbrev pub fails_by : {T : Type 0} → Device → Result T Ending → Bool
fails_by d (Ok x) = false
fails_by d (Err e) = is_fault_of d e

-- ---- how the stages stop

-- a fetch: its file is missing, the remote failed, or memory ran out
abbrev pub IsFetchEnd : (file : ℕ) → Ending → Type 0
IsFetchEnd file e = (e ≡ ending.Missing file) ⊎ (e ≡ ending.Fault device.Remote) ⊎ (e ≡ ending.Memory)

-- staging
abbrev pub IsStageEnd : Ending → Type 0
IsStageEnd e = (e ≡ ending.Fault device.Area) ⊎ (e ≡ ending.Memory)

-- a publish
abbrev pub publish_end : DeviceFault → Ending
publish_end fault.Failed = ending.Fault device.Shelf
publish_end fault.Memory = ending.Memory

-- a file that is read
abbrev pub read_end : ReadFault → Ending
read_end read.Failed = ending.Fault device.Shelf
read_end read.TooLarge = ending.ClasspathTooLarge
read_end read.Memory = ending.Memory

-- the entries of a classpath: by the repository, by the limit, or for want of memory
abbrev pub is_gather_end : Ending → Bool
is_gather_end (ending.Fault device.Shelf) = true
is_gather_end ending.ClasspathTooLarge = true
is_gather_end ending.Memory = true
is_gather_end other = false

-- a goal: it failed, its output is too large, the gate failed, or memory ran out
abbrev pub is_goal_end : Ending → Bool
is_goal_end (ending.Goal i) = true
is_goal_end (ending.OutputTooLarge i) = true
is_goal_end (ending.Fault device.Gate) = true
is_goal_end ending.Memory = true
is_goal_end other = false

-- a module whose goals are all answered well
abbrev pub is_install_end : Ending → Bool
is_install_end ending.Built = true
is_install_end ending.NoArtifact = true
is_install_end (ending.Fault device.Area) = true
is_install_end (ending.Fault device.Shelf) = true
is_install_end ending.Memory = true
is_install_end other = false

-- ---- in a log

-- how the modules of a worker ended, in order
abbrev pub ending_of : ℕ → Event → Option Ending
ending_of worker (event.End w e) = if nat_eq w worker then Some e else None
ending_of worker other = None

abbrev pub endings_of : ℕ → List RunEntry → List Ending
endings_of worker log = filter_map (λ (e : RunEntry). ending_of worker e.event) log

-- since it had seen a front of the log
abbrev pub endings_since : ℕ → (before log : List RunEntry) → List Ending
endings_since worker before log = drop (length (endings_of worker before)) (endings_of worker log)

abbrev pub faults_of : Device → List Ending → ℕ
faults_of d endings = length (filter (is_fault_of d) endings)
