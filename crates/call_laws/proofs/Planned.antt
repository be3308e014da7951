-- The plan that planning gives can be built.
use Rattle.std.proofs.Common.{◌≡◌, ◌≤◌, ℕ, List, Result, Ok, Err, refl, subst, arith}
use Rattle.mvn_shared.specs.Files.{Files}
use Rattle.model_resolver.specs.Finding.{world_of}
use Rattle.pom_source.specs.declared.found.Given.{Given}
use Rattle.project_models.specs.Projects.{AreOfProject}
use Rattle.project_models.proofs.Holding.{are_of_project}
use Rattle.cli_words.specs.Options.{options}
use Rattle.cli_words.specs.declared.command_line.CommandLine.{CommandLine}
use Rattle.cli_words.specs.declared.fault.WordFault.{WordFault}
use Rattle.reactor.proofs.InOrder.{built_in_order}
use Rattle.reactor.proofs.Standing.{stands_on_winners}
use Rattle.built_modules.specs.Selected.{AreSelected}
use Rattle.built_modules.proofs.Ordered.{are_ordered}
use Rattle.event_core.specs.SoundPlans.{IsSoundPlan}
use Rattle.module_plan.specs.Plans.{IsNumbered}
use Rattle.module_plan.specs.declared.selected.Planned.{Planned}
use Rattle.plan_law.specs.Ready.{AreOrdered}
use Rattle.plan_law.proofs.Whole.{is_numbered, sound_numbered}
use Rattle.build_plan.specs.Planning.{IsPlanned}
use Rattle.build_outcome.specs.declared.outcome.Outcome.{Outcome}
use Rattle.call_plan.specs.Commands.{asked, of_options}
use Rattle.call_plan.proofs.Workers.{workers_of}
use Rattle.call_laws.specs.Reruns.{HasWorkers}
use Rattle.call_laws.proofs.Valid.{model_valid}

module _ (tree start remote : Files) (given : Given) (line : CommandLine) (p : Planned) (few : HasWorkers line) (planned : IsPlanned tree start remote given line p) where
  project : AreOfProject tree start remote given planned.ready.p
  project = are_of_project tree start remote given planned.ready.p planned.ready.chosen.resolved.project

  -- what is known of the modules that are built
  selected : AreSelected planned.ready.p.models planned.ready.resolutions planned.ready.built
  selected = record {
    apart = project.apart;
    valid = λ number m at. model_valid (world_of planned.ready.p.poms tree start remote) given project.models number m at;
    order = built_in_order planned.ready.p.models planned.ready.resolutions line planned.ready.built planned.ready.chosen.selected;
    stands = stands_on_winners planned.ready.p.models planned.ready.resolutions line planned.ready.built planned.ready.chosen.selected;
  }

  pub numbers : IsNumbered line.phase line.workers planned.modules p
  numbers = is_numbered line.phase line.workers start planned.modules p planned.is

  pub ordered : AreOrdered line.workers planned.modules
  ordered = are_ordered line.workers planned.ready.p.poms planned.ready.p.models planned.ready.resolutions planned.ready.built planned.ready.sources planned.modules few selected planned.ready.each

  pub sound : IsSoundPlan p.plan
  sound = sound_numbered line.phase line.workers planned.modules p numbers ordered

-- the words of a call ask for that many workers
pub asked_workers : (words : List (List ℕ)) (hands : ℕ) (line : CommandLine) → 1 ≤ hands → hands ≤ 16 → asked words hands ≡ Ok line → HasWorkers line
asked_workers words hands line some most = by (options words hands) refl
  where
    same : (l : CommandLine) → ◌≡◌ {A = Result CommandLine Outcome} (Ok l) (Ok line) → l ≡ line
    same l e = cc

    by : (r : Result CommandLine WordFault) → options words hands ≡ r → of_options r ≡ Ok line → HasWorkers line
    by (Err fault) e is = cc
    by (Ok l) e is =
        let few = workers_of words hands l e some in
        let many = few.1 in
        subst HasWorkers (same l is) (few.0, omega (arith, many, most))
