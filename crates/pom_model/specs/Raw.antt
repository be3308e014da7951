-- What a POM says, or the rule that it breaks first.
use Rattle.std.specs.Prelude.{ℕ, List, Option, Some, None, Result, Ok, Err, slice_get}
use Rattle.mvn_base.specs.declared.refusal.Place.TheVariants.{Name}
use Rattle.mvn_base.specs.declared.refusal.PomId.{PomId}
use Rattle.mvn_base.specs.declared.refusal.Refusal.{Refusal}
use Rattle.model_types.specs.declared.model.RawModel.{RawModel}
use Rattle.pom_text.specs.declared.node.Node.{Node}
use Rattle.pom_model.specs.declared.fault.Fault.{Fault}
use Rattle.pom_model.specs.declared.fault.Spot.{Spot}
use Rattle.pom_model.specs.declared.fault.Spot.TheVariants as spot
use Rattle.pom_model.specs.Faults.{first_fault}
use Rattle.pom_model.specs.Fields.{model}

abbrev pub spot_text : Spot → List ℕ
spot_text (spot.Path path) = path
spot_text (spot.Own text) = text

abbrev pub refusal : PomId → Fault → Refusal
refusal pom fault = record { pom = pom; rule = fault.rule; place = Name (spot_text fault.spot) }

abbrev pub unless : Option Fault → List Node → PomId → Result RawModel Refusal
unless (Some fault) nodes pom = Err (refusal pom fault)
unless None nodes pom = Ok (model nodes pom (slice_get nodes 0))

unfoldable pub raw : List Node → PomId → Result RawModel Refusal
raw nodes pom = unless (first_fault nodes) nodes pom
