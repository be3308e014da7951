-- What is read of a POM names the POM.
use Rattle.std.specs.Prelude.{◌≡◌, List, Option, None, Some, Result, Ok, slice_get}
use Rattle.std.proofs.Common.{sym, ap}
use Rattle.mvn_base.specs.declared.refusal.PomId.{PomId}
use Rattle.mvn_base.specs.declared.refusal.Refusal.{Refusal}
use Rattle.model_types.specs.declared.model.RawModel.{RawModel}
use Rattle.pom_text.specs.declared.node.Node.{Node}
use Rattle.pom_model.specs.declared.fault.Fault.{Fault}
use Rattle.pom_model.specs.Faults.{first_fault}
use Rattle.pom_model.specs.Fields.{model}
use Rattle.pom_model.specs.Raw.{raw, unless}

ok_is : {A : Type 0} (x y : A) → ◌≡◌ {A = Result A Refusal} (Ok x) (Ok y) → x ≡ y
ok_is x y e = cc

pub raw_names : (nodes : List Node) (pom : PomId) (r : RawModel) → raw nodes pom ≡ Ok r → r.pom ≡ pom
unfolding raw model
raw_names nodes pom r e = by (first_fault nodes) e
  where
    by : (fault : Option Fault) → unless fault nodes pom ≡ Ok r → r.pom ≡ pom
    by (Some fault) e = cc
    by None e = sym (ap (λ (m : RawModel). m.pom) (ok_is (model nodes pom (slice_get nodes 0)) r e))
