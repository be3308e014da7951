-- What any plan is, whatever is told.
use Rattle.std.proofs.Common.{◌≤◌, List, get_or, length}
use Rattle.std.specs.List.{AllByRecursion}
use Rattle.classpaths.specs.declared.resolution.Resolution.{Resolution}
use Rattle.cli_words.specs.declared.command_line.CommandLine.{CommandLine}
use Rattle.goal_types.specs.declared.goal.SourceFile.{SourceFile}
use Rattle.model_types.specs.declared.model.Model.{Model}
use Rattle.effective.specs.Lawful.{IsLawful}
use Rattle.model_resolver.specs.declared.resolver.ProjectPom.{ProjectPom}
use Rattle.project_models.specs.Models as project
use Rattle.reactor.specs.Reactor.{AreBuilt, AreInOrder}
use Rattle.reactor.specs.declared.modules.ReactorModules.{ReactorModules}
use Rattle.reactor.proofs.Standing.{stands_on_winners}
use Rattle.module_plan.specs.Plans.{IsNumbered}
use Rattle.plan_numbers.specs.Whole.{HasGav}
use Rattle.module_plan.specs.declared.selected.Planned.{Planned}
use Rattle.module_plan.specs.declared.selected.SelectedModule.{SelectedModule}
use Rattle.plan_law.proofs.Whole.{sound_numbered}
use Rattle.built_modules.specs.Selected.{AreModules, AreSelected}
use Rattle.built_modules.proofs.Ordered.{are_ordered}
use Rattle.build_plan.specs.Planning.{IsPlan}
use Rattle.build_plan.proofs.Lists.{all_at, each_at}
use Rattle.build_plan.proofs.Names.{valid_names}

-- what is known of the modules that are built
pub are_selected : (poms : List ProjectPom) (models : List Model) (resolutions : List Resolution) (line : CommandLine) (built : ReactorModules)
    → project.AreModules poms models → AreInOrder (length models) built → AreBuilt models resolutions line built → AreSelected models resolutions built
are_selected poms models resolutions line built modules order is = record {
  apart = modules.apart;
  valid = λ number m at. valid_names m (each_at IsLawful models modules.lawful number m at);
  order = order;
  stands = stands_on_winners models resolutions line built is;
}

module _ (poms : List ProjectPom) (models : List Model) (resolutions : List Resolution) (built : ReactorModules) (sources : List (List SourceFile)) (modules : List SelectedModule)
    (selected : AreSelected models resolutions built) (are : AreModules poms models resolutions built sources modules) where
  -- their coordinates are valid
  pub all_named : AllByRecursion HasGav modules
  all_named = all_at HasGav modules (λ place m at. selected.valid (get_or built.numbers place 0) m.model (are.each place m at).model)

  -- their plan is one
  pub is_plan : (line : CommandLine) (p : Planned) → (1 ≤ line.workers) × (line.workers ≤ 16) → AllByRecursion IsLawful models
      → IsNumbered line.phase line.workers modules p → IsPlan line p
  is_plan line p few lawful numbers =
      let ordered = are_ordered line.workers poms models resolutions built sources modules few selected are in
      record {
        modules = modules;
        lawful = λ place m at. each_at IsLawful models lawful (get_or built.numbers place 0) m.model (are.each place m at).model;
        ordered = ordered;
        numbered = numbers;
        sound = sound_numbered line.phase line.workers modules p numbers ordered;
        few = numbers.few;
      }
