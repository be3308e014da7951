-- What a plan has of its modules.
use Rattle.std.proofs.Common.{◌≡◌, ℕ, Bool, List, [], ◌∷◌, length, map, None, Err, refl, sym, ap, ◌∙◌}
use Rattle.std.proofs.lemmas.List.{length-map}
use Rattle.mvn_base.specs.declared.gav.Gav.{Gav}
use Rattle.mvn_base.specs.declared.phase.Phase.{Phase}
use Rattle.mvn_shared.specs.Files.{Files, file_at}
use Rattle.build_core.specs.declared.plan.PlanModule.{PlanModule}
use Rattle.cli_words.specs.declared.command_line.CommandLine.{CommandLine}
use Rattle.pom_source.specs.declared.found.Given.{Given}
use Rattle.discovery.specs.Discovery.{pom_xml}
use Rattle.project_models.specs.Models.{project_models}
use Rattle.plan_law.proofs.Whole.{is_numbered}
use Rattle.module_plan.specs.Numbers.{plan_files, plan_names}
use Rattle.module_plan.specs.Uses.{gavs}
use Rattle.module_plan.specs.Plans.{module_of, plan_modules, plan_with}
use Rattle.module_plan.specs.declared.selected.Planned.{Planned}
use Rattle.module_plan.specs.declared.selected.SelectedModule.{SelectedModule}
use Rattle.reactor.specs.Upstreams.{upstream_places}
use Rattle.build_plan.specs.Planning.{IsPlanned, IsRefused}
use Rattle.build_plan.specs.Planning.IsRefused.{by_poms}
use Rattle.model_laws.specs.Selected.{IsOfSelected, missing_pom}
use Rattle.model_laws.proofs.Picked.{picked_items, same_items}

each_upstream : (f : SelectedModule → PlanModule) → ((m : SelectedModule) → (f m).upstream ≡ m.upstream) → (modules : List SelectedModule)
    → map (λ (m : PlanModule). m.upstream) (map f modules) ≡ map (λ (m : SelectedModule). m.upstream) modules
each_upstream f same [] = refl
each_upstream f same (m ∷ modules) = ap (λ u. u ∷ map (λ (m : PlanModule). m.upstream) (map f modules)) (same m) ∙ ap (λ us. m.upstream ∷ us) (each_upstream f same modules)

upstream_of : (phase : Phase) (built : List Gav) (names files : List (List ℕ)) (m : SelectedModule) → (module_of phase built names files m).upstream ≡ m.upstream
unfolding module_of
upstream_of phase built names files m = refl

modules_of : (phase : Phase) (workers : ℕ) (present : List Bool) (modules : List SelectedModule) → (plan_with phase workers present modules).modules ≡ plan_modules phase modules
unfolding plan_with
modules_of phase workers present modules = refl

workers_of : (phase : Phase) (workers : ℕ) (present : List Bool) (modules : List SelectedModule) → (plan_with phase workers present modules).workers ≡ workers
unfolding plan_with
workers_of phase workers present modules = refl

module _ (tree local remote : Files) (given : Given) (line : CommandLine) where
  pub of_selected : (planned : Planned) → IsPlanned tree local remote given line planned → IsOfSelected tree local remote given line planned
  of_selected planned is =
      let r = is.ready in
      let n = is_numbered line.phase line.workers local is.modules planned is.is in
      let numbers = r.built.numbers in
      let names = plan_names line.phase is.modules in
      let files = plan_files line.phase is.modules in
      let long : length r.built.upstreams ≡ length numbers = ap length r.chosen.selected.upstreams ∙ length-map numbers (upstream_places r.chosen.selected.found.edges numbers) in
      record {
        p = r.p;
        resolutions = r.resolutions;
        built = r.built;
        project = r.chosen.resolved.project;
        selected = r.chosen.selected;
        models = ap (λ (q : Planned). q.models) n.is ∙ picked_items (λ (m : SelectedModule). m.model) r.p.models is.modules numbers r.each.long (λ k m at. (r.each.each k m at).model);
        resolved = ap (λ (q : Planned). q.resolutions) n.is ∙ picked_items (λ (m : SelectedModule). m.resolution) r.resolutions is.modules numbers r.each.long (λ k m at. (r.each.each k m at).resolution);
        upstreams = ap (λ (q : Planned). map (λ (m : PlanModule). m.upstream) q.plan.modules) n.is
            ∙ ap (map (λ (m : PlanModule). m.upstream)) (modules_of line.phase line.workers n.present is.modules)
            ∙ each_upstream (module_of line.phase (gavs is.modules) names files) (upstream_of line.phase (gavs is.modules) names files) is.modules
            ∙ same_items (λ (m : SelectedModule). m.upstream) is.modules r.built.upstreams (r.each.long ∙ sym long) r.each.upstream;
        workers = ap (λ (q : Planned). q.plan.workers) n.is ∙ workers_of line.phase line.workers n.present is.modules;
      }

  -- no POM is read where there is none
  refuses : file_at tree pom_xml ≡ None → project_models tree local remote given ≡ Err missing_pom
  unfolding project_models
  refuses none = rw none refl

  pub no_pom : file_at tree pom_xml ≡ None → IsRefused tree local remote given line missing_pom
  no_pom none = by_poms (refuses none)
