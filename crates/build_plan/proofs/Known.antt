-- A plan says which of its files the local repository has.
use Rattle.std.proofs.Common.{◌≡◌, ℕ, Bool, true, false, nat_lt, if◌then◌else◌, List, Option, Some, None, Result, Ok, Err, IfSome, refl, subst}
use Rattle.mvn_shared.specs.Files.{Files}
use Rattle.mvn_base.specs.declared.phase.Phase.{Phase}
use Rattle.mvn_outside.specs.Shelf.{files_now}
use Rattle.mvn_outside.specs.declared.shelf.ShelfTold.{ShelfTold}
use Rattle.pom_source.specs.declared.fault.BuildFault.{BuildFault}
use Rattle.module_plan.specs.Numbers.{plan_files}
use Rattle.module_plan.specs.Plans.{all_events, most_events, numbered, plan_modules, plan_with, planned_with, present_in}
use Rattle.module_plan.specs.declared.selected.Planned.{Planned}
use Rattle.module_plan.specs.declared.selected.SelectedModule.{SelectedModule}
use Rattle.build_plan.specs.Planning.{KnowsFiles}

abbrev planned : Planned → Result Planned BuildFault
planned p = Ok p

within : (b : Bool) (fault : BuildFault) (q p : Planned) → (if b then Err fault else Ok q) ≡ planned p → q ≡ p
within true fault q p e = cc
within false fault q p e = cc

with_known : (phase : Phase) (workers : ℕ) (local : Files) (modules : List SelectedModule)
    → (planned_with phase workers (present_in local (plan_files phase modules)) modules).plan.present ≡ present_in local (planned_with phase workers (present_in local (plan_files phase modules)) modules).plan.files
unfolding plan_with
with_known phase workers local modules = refl

known : (phase : Phase) (workers : ℕ) (local : Files) (modules : List SelectedModule) (p : Planned) → numbered phase workers local modules ≡ Ok p → p.plan.present ≡ present_in local p.plan.files
known phase workers local modules p e =
    subst (λ (p : Planned). p.plan.present ≡ present_in local p.plan.files)
    (within (nat_lt most_events (all_events (plan_modules phase modules))) _ (planned_with phase workers (present_in local (plan_files phase modules)) modules) p e)
    (with_known phase workers local modules)

-- wherever it tells
pub knows_files : (phase : Phase) (workers : ℕ) (shelf : Option ShelfTold) (modules : List SelectedModule) (p : Planned) → IfSome shelf (λ told. numbered phase workers (files_now told) modules ≡ Ok p) → KnowsFiles shelf p
knows_files phase workers None modules p is = tt
knows_files phase workers (Some told) modules p is = known phase workers (files_now told) modules p is
