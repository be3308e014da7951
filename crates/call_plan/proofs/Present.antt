-- A plan that is found can be built: it is sound, for the line's workers, and says which of its files the repository has.
use Rattle.std.proofs.Common.{◌≡◌, ℕ, Bool, false, List, [], map, get_or, Option, Some, None, Result, Ok, Err, IfOk, IfSome, refl, ap, subst, ◌∙◌}
use Rattle.std.proofs.lemmas.List.{get_or-map}
use Rattle.mvn_shared.specs.Files.{Files}
use Rattle.mvn_base.specs.declared.phase.Phase.{Phase}
use Rattle.mvn_outside.specs.Shelf.{files_now}
use Rattle.mvn_outside.specs.declared.shelf.ShelfTold.{ShelfTold}
use Rattle.cli_words.specs.declared.command_line.CommandLine.{CommandLine}
use Rattle.pom_source.specs.declared.fault.BuildFault.TheVariants.{Refused, Absent, Source, Memory}
use Rattle.build_core.specs.declared.plan.Plan.{Plan}
use Rattle.scripts.specs.Scripts.{is_there}
use Rattle.run_law.specs.Given.{IsPresent}
use Rattle.module_plan.specs.Plans.{is_present, plan_with, planned_with, present_in}
use Rattle.module_plan.specs.declared.selected.Planned.{Planned}
use Rattle.module_plan.specs.declared.selected.SelectedModule.{SelectedModule}
use Rattle.build_plan.specs.Planning.{IsPlan, KnowsFiles}
use Rattle.build_plan.specs.declared.planning.PlanFault.{PlanFault}
use Rattle.build_plan.specs.declared.planning.PlanFault.TheVariants.{Build, Unknown}
use Rattle.build_outcome.specs.declared.outcome.Outcome.{Outcome}
use Rattle.call_plan.specs.Found.{Finds}

abbrev plan_of : Planned → Result Planned Outcome
plan_of p = Ok p

same_plan : (p q : Planned) → plan_of p ≡ plan_of q → q ≡ p
same_plan p q e = cc

-- a plan that is found is the one that was said
pub found_is : (said : Result Planned PlanFault) (p : Planned) (P : Planned → Type 0) → Finds said (Ok p) → IfOk said P → P p
found_is (Ok q) p P e holds = subst P (same_plan p q e) holds
found_is (Err (Build (Refused refusal))) p P e holds = cc
found_is (Err (Build Absent)) p P e holds = cc
found_is (Err (Build Source)) p P e holds = absurd e
found_is (Err (Build Memory)) p P e holds = absurd e
found_is (Err (Unknown place)) p P e holds = cc

-- of which files the repository has
there_is : (plan : Plan) (start : Files) → plan.present ≡ present_in start plan.files → IsPresent plan start
there_is plan start e = λ f low.
    ap (λ (list : List Bool). is_there list f) e ∙ get_or-map (is_present start) plan.files f [] false low

pub is_present_told : (shelf : Option ShelfTold) (p : Planned) → KnowsFiles shelf p → IfSome shelf (λ told. IsPresent p.plan (files_now told))
is_present_told None p e = tt
is_present_told (Some told) p e = there_is p.plan (files_now told) e

-- its workers are the line's
with_workers : (phase : Phase) (workers : ℕ) (present : List Bool) (modules : List SelectedModule) → (planned_with phase workers present modules).plan.workers ≡ workers
unfolding plan_with
with_workers phase workers present modules = refl

pub line_workers : (line : CommandLine) (p : Planned) → IsPlan line p → p.plan.workers ≡ line.workers
line_workers line p is = ap (λ (q : Planned). q.plan.workers) is.numbered.is ∙ with_workers line.phase line.workers is.numbered.present is.modules
