-- A plan that was made over a repository in memory, and builds that begin over one.
use Rattle.std.proofs.Common.{◌≡◌, Bool, false, List, [], Some, Result, IfOk, sym, ap, subst, ◌∙◌}
use Rattle.std.proofs.lemmas.List.{get_or-map}
use Rattle.mvn_shared.specs.Files.{Files}
use Rattle.mvn_outside.specs.Shelf.{files_now}
use Rattle.mvn_outside.specs.declared.shelf.ShelfTold.{ShelfTold}
use Rattle.cli_words.specs.declared.command_line.CommandLine.{CommandLine}
use Rattle.build_core.specs.declared.plan.Plan.{Plan}
use Rattle.scripts.specs.Scripts.{is_there}
use Rattle.event_core.specs.SoundPlans.{IsSoundPlan}
use Rattle.run_law.specs.Given.{IsPresent}
use Rattle.module_plan.specs.Plans.{is_present, present_in}
use Rattle.module_plan.specs.declared.selected.Planned.{Planned}
use Rattle.build_plan.specs.Planning.{IsPlan, KnowsFiles}

-- what is planned is sound
pub is_sound : (line : CommandLine) (p : Planned) → IsPlan line p → IsSoundPlan p.plan
is_sound line p is = is.sound

-- before the first publish the files are those of the opening
files_first : (told : ShelfTold) (files : Files) → told.opening ≡ files → told.publishes ≡ [] → files_now told ≡ files
files_first told files opening none = rw none opening

there_is : (plan : Plan) (start : Files) → plan.present ≡ present_in start plan.files → IsPresent plan start
there_is plan start e = λ f low.
    ap (λ (list : List Bool). is_there list f) e ∙ get_or-map (is_present start) plan.files f [] false low

-- what is planned over a repository says which of its files are there
pub knows : (told : ShelfTold) (p : Planned) → KnowsFiles (Some told) p → IsPresent p.plan (files_now told)
knows told p e = there_is p.plan (files_now told) e

-- and so which files of the opening
pub knows_first : {E : Type 0} (files : Files) (told : ShelfTold) (made : Result Plan E) → told.opening ≡ files → told.publishes ≡ []
    → IfOk made (λ plan. IsPresent plan (files_now told)) → IfOk made (λ plan. IsPresent plan files)
knows_first files told made opening none is =
    subst (λ (start : Files). IfOk made (λ plan. IsPresent plan start)) (files_first told files opening none) is

-- so it can be built over a repository of these files
pub starts : (files : Files) (plan : Plan) (told : ShelfTold) → told.opening ≡ files → told.publishes ≡ []
    → IsPresent plan files → IsPresent plan (files_now told)
starts files plan told opening none is =
    subst (λ (start : Files). IsPresent plan start) (sym (files_first told files opening none)) is
