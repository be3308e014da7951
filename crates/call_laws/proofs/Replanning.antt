-- Planning over files that have grown by the build of a plan gives that plan, but for which of its files are there.
use Rattle.std.proofs.Common.{◌≡◌, ◌≤◌, ℕ, Bool, true, false, nat_lt, List, [], Contains, codes, get_or, Option, Some, None, Ok, Err, refl, sym, ap, subst, ◌∙◌, arith, ltb-true, if◌then◌else◌}
use Rattle.std.specs.Prelude.{zip}
use Rattle.std.proofs.lemmas.Bool.{true≢false}
use Rattle.mvn_shared.specs.Files.{Files, is_there}
use Rattle.mvn_base.specs.declared.gav.Gav.{Gav}
use Rattle.mvn_base.specs.declared.phase.Phase.{Phase}
use Rattle.mvn_base.specs.declared.rule.Rule.TheVariants.{GraphTooLarge}
use Rattle.model_types.specs.declared.model.Model.{Model}
use Rattle.mediation.specs.Libraries.{Libraries}
use Rattle.model_resolver.specs.Finding.{find_pom, pom_at, world_of}
use Rattle.model_resolver.specs.declared.resolver.ProjectPom.{ProjectPom}
use Rattle.pom_source.specs.Answers.{Built, ◌>>=◌}
use Rattle.pom_source.specs.Chains.{bound, ok_is}
use Rattle.pom_source.specs.Refusals.{text_refused}
use Rattle.pom_source.specs.Worlds.{World}
use Rattle.pom_source.specs.declared.found.Given.{Given}
use Rattle.project_models.specs.Found.{models_of, project_poms}
use Rattle.project_models.specs.Models.{Modules, first_double, modules_of, project_models, single, unless_double}
use Rattle.project_models.specs.declared.doubles.Double.{Double}
use Rattle.project_libraries.specs.Known.{known_at, libraries_of}
use Rattle.project_libraries.specs.Resolving.{Resolves}
use Rattle.cli_words.specs.declared.command_line.CommandLine.{CommandLine}
use Rattle.module_plan.specs.Numbers.{plan_files}
use Rattle.module_plan.specs.Plans.{IsNumbered, all_events, most_events, numbered, plan_modules, plan_with, planned_with, present_in, root_id}
use Rattle.module_plan.specs.declared.selected.Planned.{Planned}
use Rattle.module_plan.specs.declared.selected.SelectedModule.{SelectedModule}
use Rattle.plan_law.proofs.Members.{IsIn, at_in, each_passes, from_map, in_at, in_from}
use Rattle.plan_law.proofs.Whole.{is_numbered}
use Rattle.build_plan.specs.Planning.{IsPlanned}
use Rattle.call_laws.specs.Again.{planned_over}
use Rattle.call_laws.specs.RerunsApart.{IsApart, are_said, is_apart, is_said}
use Rattle.call_laws.specs.Grown.{IsGrown, gavs_of}
use Rattle.call_laws.proofs.Discovering.{poms_same}
use Rattle.call_laws.proofs.Listing.{available_same}
use Rattle.call_laws.proofs.Looking.{world_same}

-- ---- numbers

-- a sum that isn't too large
not_above : (n m : ℕ) → n ≤ m → nat_lt m n ≡ false
not_above n m le = by (nat_lt m n) refl
  where
    by : (b : Bool) → nat_lt m n ≡ b → nat_lt m n ≡ false
    by false e = e
    by true e = let low = ltb-true m n e in absurd (omega (arith, le, low))

abbrev kept : Planned → Built Planned
kept p = Ok p

within : (over : Bool) (p : Planned) → over ≡ false → (if over then Err (text_refused root_id GraphTooLarge (codes "events")) else Ok p) ≡ kept p
within true p e = absurd (true≢false e)
within false p e = refl

module _ (phase : Phase) (workers : ℕ) (modules : List SelectedModule) (files : Files) where
  events_are : (present : List Bool) → (plan_with phase workers present modules).events ≡ all_events (plan_modules phase modules)
  unfolding plan_with
  events_are present = refl

  over_is : (present : List Bool) → planned_over files (planned_with phase workers present modules) ≡ planned_with phase workers (present_in files (plan_files phase modules)) modules
  unfolding plan_with
  over_is present = refl

  -- the plan of the same modules over other files
  numbered_over : (p : Planned) → IsNumbered phase workers modules p → numbered phase workers files modules ≡ Ok (planned_over files p)
  numbered_over p is =
      let few : all_events (plan_modules phase modules) ≤ most_events = subst (λ n. n ≤ most_events) (ap (λ (q : Planned). q.plan.events) is.is ∙ events_are is.present) is.few in
      within (nat_lt most_events (all_events (plan_modules phase modules))) (planned_with phase workers (present_in files (plan_files phase modules)) modules) (not_above (all_events (plan_modules phase modules)) most_events few)
      ∙ ap kept (sym (over_is is.present)) ∙ ap (λ (q : Planned). kept (planned_over files q)) (sym is.is)

-- ---- what the project has

double_poms : (d : Option Double) (m p : Modules) → unless_double d m ≡ Ok p → p.poms ≡ m.poms
double_poms None m p e = ap (λ (q : Modules). q.poms) (sym (ok_is m p e))
double_poms (Some d) m p e = cc

module _ (tree start remote files : Files) (given : Given) (line : CommandLine) (p : Planned) (planned : IsPlanned tree start remote given line p)
    (apart : IsApart tree start remote given p) (grown : IsGrown start remote (gavs_of p) files) where
  abbrev project : Modules
  project = planned.ready.p

  is_project : project_models tree start remote given ≡ Ok project
  is_project = planned.ready.chosen.resolved.project

  -- its POMs are those that were found
  found_poms : project_poms (world_of [] tree start remote) given ≡ Ok project.poms
  unfolding project_models
  found_poms =
      let poms = bound (project_poms (world_of [] tree start remote) given) (modules_of tree start remote given) project is_project in
      let models = bound (models_of (world_of poms.0 tree start remote) given poms.0) (single poms.0) project poms.2 in
      poms.1 ∙ ap (λ list. Ok list) (sym (double_poms (first_double [] (zip poms.0 models.0)) (record { poms = poms.0; models = models.0 }) project models.2))

  -- a module that is built is known by its coordinates
  are_built : are_said project.poms p.models ≡ true
  are_built = subst (λ (said : Built Modules). is_apart said p.models ≡ true) is_project apart

  said_by : (gav : Gav) → Contains (gavs_of p) gav → is_said project.poms gav ≡ true
  said_by gav there =
      let m = from_map (λ (m : Model). m.gav) p.models gav (in_from (gavs_of p) gav there) in
      subst (λ g. is_said project.poms g ≡ true) m.2 (each_passes (λ (m : Model). is_said project.poms m.gav) p.models are_built m.0 m.1)

  worlds_same : world_of project.poms tree files remote ≡ world_of project.poms tree start remote
  worlds_same = world_same project.poms start remote files (gavs_of p) grown said_by tree

  -- so the project has the same modules
  still_found : project_poms (world_of [] tree files remote) given ≡ Ok project.poms
  still_found = poms_same (pom_at [] tree) (is_there tree) (find_pom [] files remote) (find_pom [] start remote) given ∙ found_poms

  of_poms : modules_of tree start remote given project.poms ≡ Ok project
  unfolding project_models
  of_poms = sym (ap (λ (said : Built (List ProjectPom)). said >>= modules_of tree start remote given) found_poms) ∙ is_project

  pub still_project : project_models tree files remote given ≡ Ok project
  unfolding project_models
  still_project =
      ap (λ (said : Built (List ProjectPom)). said >>= modules_of tree files remote given) still_found
      ∙ ap (λ (world : World). models_of world given project.poms >>= single project.poms) worlds_same ∙ of_poms

  -- a module that is built is one of the project's
  of_project : (gav : Gav) → Contains (gavs_of p) gav → (m : Model) × IsIn project.models m × (m.gav ≡ gav)
  of_project gav there =
      let numbers = is_numbered line.phase line.workers start planned.modules p planned.is in
      let m = from_map (λ (m : Model). m.gav) p.models gav (in_from (gavs_of p) gav there) in
      let s = from_map (λ (s : SelectedModule). s.model) planned.modules m.0 (subst (λ (q : Planned). IsIn q.models m.0) numbers.is m.1) in
      let place = in_at planned.modules s.0 s.1 in
      let is = planned.ready.each.each place.0 s.0 place.1 in
      (m.0, subst (λ (n : Model). IsIn project.models n) s.2 (at_in project.models (get_or planned.ready.built.numbers place.0 0) s.0.model is.model), m.2)

  -- so its dependencies lead to the same
  pub libraries_same : libraries_of tree files remote given project.poms project.models ≡ libraries_of tree start remote given project.poms project.models
  libraries_same = λ i. record {
    at = known_at (worlds_same i) given project.models;
    versions = λ group artifact. available_same group artifact project.models start remote files (gavs_of p) grown of_project i;
  }

  -- so it has the same plan, but for which of its files are there
  pub planned_again : IsPlanned tree files remote given line (planned_over files p)
  planned_again = record {
    modules = planned.modules;
    ready = record {
      p = project;
      resolutions = planned.ready.resolutions;
      built = planned.ready.built;
      sources = planned.ready.sources;
      chosen = record {
        resolved = record {
          project = still_project;
          resolved = subst (λ (libraries : Libraries). Resolves libraries project.poms project.models (Ok planned.ready.resolutions)) (sym libraries_same) planned.ready.chosen.resolved.resolved;
        };
        selected = planned.ready.chosen.selected;
      };
      read = planned.ready.read;
      each = planned.ready.each;
    };
    is = numbered_over line.phase line.workers planned.modules files p (is_numbered line.phase line.workers start planned.modules p planned.is);
  }

  -- and its modules are known in the project still
  pub apart_again : IsApart tree files remote given (planned_over files p)
  apart_again = subst (λ (said : Built Modules). is_apart said p.models ≡ true) (sym still_project) are_built
