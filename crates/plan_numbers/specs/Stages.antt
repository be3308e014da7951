-- The last steps to a plan: it is refused if it has too many events, and its files are looked for. Project rules.
use Rattle.std.specs.Prelude.{◌≡◌, ℕ, Bool, List, codes, length, Err}
use Rattle.mvn_base.specs.declared.rule.Rule.TheVariants.{GraphTooLarge}
use Rattle.pom_source.specs.Answers.{Built}
use Rattle.pom_source.specs.Refusals.{text_refused}
use Rattle.module_plan.specs.Plans.{root_id}
use Rattle.module_plan.specs.declared.selected.Planned.{Planned}
use Rattle.plan_numbers.specs.declared.whole.Numbered.{Numbered}

-- what comes of too many events
abbrev pub too_many : Built Planned
too_many = Err (text_refused root_id GraphTooLarge (codes "events"))

-- a plan of its parts
abbrev pub assembled : Numbered → (workers : ℕ) → (present : List Bool) → Planned
assembled n workers present = record {
  plan = record {
    modules = n.parts.modules;
    names = n.names;
    files = n.files;
    present = present;
    workers = workers;
    events = n.events;
  };
  models = n.parts.models;
  resolutions = n.parts.resolutions;
  unbound = n.parts.unbound;
}

-- of each file it is said whether it is there
pub record IsAssembled (n : Numbered) (workers : ℕ) (p : Planned) : Type 0 where
  pub present : List Bool
  pub each : length present ≡ length n.files
  pub is : p ≡ assembled n workers present
