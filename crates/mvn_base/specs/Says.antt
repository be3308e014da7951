-- What a call's answer says where its definition gives a value or a refusal. Project rule.
use Rattle.std.specs.Prelude.{◌≡◌, Result, Ok, Err}
use Rattle.mvn_base.specs.declared.refusal.Refusal.{Refusal}
use Rattle.mvn_base.specs.declared.fault.ModelError.{ModelError}
use Rattle.mvn_base.specs.declared.fault.ModelError.TheVariants as errors

-- a call fails with the refusal that its definition gives; of want of memory nothing is said
abbrev pub Fails : {T : Type 0} → Result T Refusal → ModelError → Type 0
Fails said (errors.Refused refusal) = said ≡ Err refusal
Fails said errors.Memory = Unit {0}

-- a call answers the value that its definition gives, or fails as it says
abbrev pub Says : {T : Type 0} → Result T Refusal → Result T ModelError → Type 0
Says said (Ok value) = said ≡ Ok value
Says said (Err error) = Fails said error
