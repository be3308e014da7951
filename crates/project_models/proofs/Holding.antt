-- What the definition gives are the modules of a project.
use Rattle.std.proofs.Common.{◌≡◌, suc, List, [], ◌∷◌, length, map, zip, Option, None, Some, Ok, refl, sym, ap, subst}
use Rattle.mvn_shared.specs.Files.{Files}
use Rattle.mvn_base.specs.declared.refusal.PomId.TheVariants as ids
use Rattle.model_types.specs.declared.model.Model.{Model}
use Rattle.pom_source.specs.Answers.{Built, ◌>>=◌}
use Rattle.pom_source.specs.Chains.{bound, ok_is}
use Rattle.pom_source.specs.Worlds.{World}
use Rattle.pom_source.specs.declared.found.Given.{Given}
use Rattle.discovery.specs.Discovery.{discovered}
use Rattle.discovery.proofs.Projects.{is_project}
use Rattle.effective.specs.Effective.{effective}
use Rattle.model_resolver.specs.Finding.{world_of}
use Rattle.model_resolver.specs.declared.resolver.ProjectPom.{ProjectPom}
use Rattle.project_models.specs.Found.{each, found_pom, models_of, project_poms}
use Rattle.project_models.specs.Models.{Modules, first_double, modules_of, project_models, single, unless_double}
use Rattle.project_models.specs.Projects.{AreEffective, AreOfProject}
use Rattle.project_models.specs.Projects.AreEffective.{no_pom, one_more}
use Rattle.project_models.specs.declared.doubles.Double.{Double}
use Rattle.project_models.proofs.Apart.{models_apart}

module _ (world : World) (given : Given) where
  are_effective : (poms : List ProjectPom) (models : List Model) → models_of world given poms ≡ Ok models → AreEffective world given poms models
  unfolding each
  are_effective [] models e = subst (λ l. AreEffective world given [] l) (ok_is [] models e) no_pom
  are_effective (p ∷ poms) models e =
      let f : ProjectPom → Built Model = λ q. effective world given (ids.Path q.path) in
      let one = bound (f p) (λ m. each f poms >>= (λ ms. Ok (m ∷ ms))) models e in
      let more = bound (each f poms) (λ ms. Ok (one.0 ∷ ms)) models one.2 in
      subst (λ l. AreEffective world given (p ∷ poms) l) (ok_is (one.0 ∷ more.0) models more.2) (one_more p poms one.0 more.0 one.1 (are_effective poms more.0 more.1))

  same_count : {poms : List ProjectPom} {models : List Model} → AreEffective world given poms models → length models ≡ length poms
  same_count no_pom = refl
  same_count (one_more p poms m models is rest) = ap (λ n. suc n) (same_count rest)

-- no double
none_double : (double : Option Double) (modules found : Modules) → unless_double double modules ≡ Ok found → (double ≡ None) × (modules ≡ found)
none_double None modules found e = (refl, ok_is modules found e)
none_double (Some d) modules found e = cc

pub are_of_project : (tree local remote : Files) (given : Given) (modules : Modules) → project_models tree local remote given ≡ Ok modules → AreOfProject tree local remote given modules
unfolding project_models
are_of_project tree local remote given modules e =
    let world : World = world_of [] tree local remote in
    let one = bound (project_poms world given) (modules_of tree local remote given) modules e in
    let found = bound (discovered world given) (λ l. Ok (map (found_pom world) l)) one.0 one.1 in
    let two = bound (models_of (world_of one.0 tree local remote) given one.0) (single one.0) modules one.2 in
    let three = none_double (first_double [] (zip one.0 two.0)) (record { poms = one.0; models = two.0 }) modules two.2 in
    let effective_models = are_effective (world_of one.0 tree local remote) given one.0 two.0 two.1 in
    subst (λ m. AreOfProject tree local remote given m) three.1 (record {
      found = found.0;
      is_project = is_project world given found.0 found.1;
      poms = sym (ok_is (map (found_pom world) found.0) one.0 found.2);
      models = effective_models;
      apart = models_apart one.0 two.0 (same_count (world_of one.0 tree local remote) given effective_models) three.0;
    })
