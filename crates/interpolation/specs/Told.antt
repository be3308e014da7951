-- The program's own words for a fault of a model, and for a list that is filled one by one.
use Rattle.std.specs.Prelude.{◌≡◌, List, ◌++◌, Result, Ok, Err}
use Rattle.mvn_base.specs.declared.refusal.Place.TheVariants as places
use Rattle.mvn_base.specs.declared.refusal.PomId.{PomId}
use Rattle.mvn_base.specs.declared.refusal.Refusal.{Refusal}
use Rattle.model_types.specs.declared.model.RawModel.{RawModel}
use Rattle.interpolation.specs.KnownValues.{Filled, ◌>>=◌}
use Rattle.interpolation.specs.declared.fault.FillFault.{FillFault}
use Rattle.interpolation.specs.declared.fault.FillFault.TheVariants.{Refused, Memory}

-- a fault is the refusal that is said of this POM
abbrev pub TellsOf : PomId → FillFault → Result RawModel Refusal → Type 0
TellsOf pom (Refused rule place) said = said ≡ Err (record { pom = pom; rule = rule; place = places.Name place })
TellsOf pom Memory said = Unit {0}

-- what is filled already, beside what comes next, where that isn't refused
abbrev pub beside : {A B : Type 0} → A → Result B FillFault → Result (A × B) FillFault
beside a (Ok b) = Ok (a, b)
beside a (Err fault) = Err fault

-- a list behind what is there
abbrev pub prefixed : {A : Type 0} → List A → Filled (List A) → Filled (List A)
prefixed done said = said >>= (λ more. Ok (done ++ more))
