-- What the answers of look-ups and of mediation say of their causes. Own words.
use Rattle.std.specs.Prelude.{◌≡◌, ℕ, Bool, true, false, List, Result, Ok, Err}
use Rattle.mvn_base.specs.declared.rule.Rule.{Rule}
use Rattle.mediation.specs.declared.fault.MediationFault.{MediationFault}
use Rattle.mediation.specs.declared.fault.MediationFault.TheVariants as fault
use Rattle.mediation.specs.declared.known.LookupFault.{LookupFault}
use Rattle.mediation.specs.declared.known.LookupFault.TheVariants as lookup

-- the rule by which a project is refused, and the name that it is met at
abbrev pub Reason : Type 0
Reason = Rule × List ℕ

abbrev pub lookup_failed : {T : Type 0} → Result T LookupFault → Bool
lookup_failed (Ok x) = false
lookup_failed (Err lookup.Failed) = true
lookup_failed (Err lookup.Memory) = false

abbrev pub is_faulty : {T : Type 0} → Result T MediationFault → Bool
is_faulty (Ok x) = false
is_faulty (Err (fault.Refused rule place)) = false
is_faulty (Err fault.Lookup) = true
is_faulty (Err fault.Memory) = false

-- a call answers the value that its definition gives, or the refusal that it gives; of other faults nothing is said
abbrev pub Says : {T : Type 0} → Result T Reason → Result T MediationFault → Type 0
Says said (Ok value) = said ≡ Ok value
Says said (Err (fault.Refused rule place)) = said ≡ Err (rule, place)
Says said (Err fault.Lookup) = Unit {0}
Says said (Err fault.Memory) = Unit {0}
