-- What is said of a model, and what a call answers. Project rule.
use Rattle.std.specs.Prelude.{◌≡◌, Bool, true, false, Result, Ok, Err}
use Rattle.mvn_base.specs.declared.refusal.Refusal.{Refusal}
use Rattle.mvn_base.specs.declared.fault.ModelError.{ModelError}
use Rattle.mvn_base.specs.declared.fault.ModelError.TheVariants as errors
use Rattle.mvn_outside.specs.declared.fault.DeviceFault.{DeviceFault}
use Rattle.mvn_outside.specs.declared.fault.DeviceFault.TheVariants as device
use Rattle.pom_source.specs.declared.fault.BuildFault.{BuildFault}
use Rattle.pom_source.specs.declared.fault.BuildFault.TheVariants.{Refused, Absent, Source, Memory}

-- what is built, or the first refusal, or that there is no such POM
abbrev pub Built : Type 0 → Type 0
Built A = Result A BuildFault

-- one step after another, as far as each gives something
infixl 10 ◌>>=◌
abbrev pub ◌>>=◌ : {A B : Type 0} → Built A → (A → Built B) → Built B
Ok x >>= f = f x
Err e >>= f = Err e

-- a value, or a refusal
abbrev pub refused : {A : Type 0} → Result A Refusal → Built A
refused (Ok x) = Ok x
refused (Err refusal) = Err (Refused refusal)

-- a fault is what is said; of a source that fails and of want of memory nothing is said
abbrev pub Fails : {A : Type 0} → Built A → BuildFault → Type 0
Fails said (Refused r) = said ≡ Err (Refused r)
Fails said Absent = said ≡ Err Absent
Fails said Source = Unit {0}
Fails said Memory = Unit {0}

-- a call answers what is said, or fails as is said
abbrev pub Says : {A : Type 0} → Built A → Result A BuildFault → Type 0
Says said (Ok x) = said ≡ Ok x
Says said (Err fault) = Fails said fault

abbrev pub device_fault : DeviceFault → BuildFault
device_fault device.Failed = Source
device_fault device.Memory = Memory

abbrev pub model_fault : ModelError → BuildFault
model_fault (errors.Refused refusal) = Refused refusal
model_fault errors.Memory = Memory

-- a source failed
abbrev pub fault_failed : BuildFault → Bool
fault_failed (Refused r) = false
fault_failed Absent = false
fault_failed Source = true
fault_failed Memory = false

abbrev pub build_failed : {T : Type 0} → Result T BuildFault → Bool
build_failed (Ok x) = false
build_failed (Err fault) = fault_failed fault
