-- What a call gives, by what its parts give.
use Rattle.std.proofs.Common.{◌≡◌, ◌≤◌, ◌+◌, List, [], length, zip, Option, None, Some, Result, Ok, Err, IfErr, IfOk, sym, ap, subst, ◌∙◌}
use Rattle.std.specs.List.{AllByRecursion}
use Rattle.mvn_base.specs.declared.refusal.PomId.TheVariants as ids
use Rattle.mvn_base.specs.declared.rule.Rule.TheVariants.{DuplicateProject}
use Rattle.mvn_base.specs.Limits.{most_modules}
use Rattle.model_types.specs.declared.model.Model.{Model}
use Rattle.pom_source.specs.Answers.{Built, Fails, Says, ◌>>=◌}
use Rattle.pom_source.specs.Refusals.{text_refused}
use Rattle.pom_source.specs.Worlds.{World}
use Rattle.pom_source.specs.declared.fault.BuildFault.{BuildFault}
use Rattle.pom_source.specs.declared.fault.BuildFault.TheVariants.{Refused, Absent, Source, Memory}
use Rattle.pom_source.specs.declared.found.Given.{Given}
use Rattle.effective.specs.Kept.{HoldsAll}
use Rattle.effective.specs.Lawful.{IsLawful}
use Rattle.effective.specs.declared.run_store.RunStore.{RunStore}
use Rattle.model_resolver.specs.declared.resolver.ProjectPom.{ProjectPom}
use Rattle.project_models.specs.Models.{AreModules, Gives, Modules, first_double, single, unless_double}
use Rattle.project_models.specs.declared.doubles.Double.{Double}
use Rattle.project_models.specs.declared.project.ProjectModels.{ProjectModels}
use Rattle.project_models.proofs.Apart.{models_apart}

-- what holds of the modules of any project
pub are_modules : (poms list : List ProjectPom) (models : List Model) → length models ≡ length poms → 1 ≤ length poms → length poms ≤ 1 + most_modules → AllByRecursion IsLawful models
    → list ≡ poms → first_double [] (zip list models) ≡ None → AreModules poms models
are_modules poms list models paired any few lawful same none =
    record { paired = paired; any = any; few = few; lawful = lawful; apart = models_apart poms models paired (ap (λ l. first_double [] (zip l models)) (sym same) ∙ none) }

-- no double
pub gives_modules : (poms list : List ProjectPom) (models : List Model) → list ≡ poms → first_double [] (zip list models) ≡ None
    → single poms models ≡ Ok (record { poms = poms; models = models })
gives_modules poms list models same none =
    ap (λ d. unless_double d (record { poms = poms; models = models })) (ap (λ l. first_double [] (zip l models)) (sym same) ∙ none)

err_is : {A : Type 0} (x y : BuildFault) → ◌≡◌ {A = Built A} (Err x) (Err y) → x ≡ y
err_is x y e = cc

-- a refusal is one of whatever should be given
fails_as : (A B : Type 0) (said fault : BuildFault) → Fails {A = A} (Err said) fault → Fails {A = B} (Err said) fault
fails_as A B said (Refused r) e = ap (λ x. Err x) (err_is said (Refused r) e)
fails_as A B said Absent e = ap (λ x. Err x) (err_is said Absent e)
fails_as A B said Source e = record {}
fails_as A B said Memory e = record {}

-- a refusal gives nothing
pub refused_none : (A : Type 0) (x : BuildFault) (r : Result A BuildFault) (P : A → Type 0) → Says {A = A} (Err x) r → IfOk r P
refused_none A x (Ok a) P e = cc
refused_none A x (Err y) P e = tt

-- a double
pub fails_double : (A : Type 0) (poms : List ProjectPom) (models : List Model) (double : Option Double) (d : Double) (r : Result A BuildFault) → double ≡ first_double [] (zip poms models) → double ≡ Some d
    → Says {A = A} (Err (text_refused (ids.Path d.later) DuplicateProject d.earlier)) r → IfErr r (Fails (single poms models))
fails_double A poms models double d (Ok a) is there e = tt
fails_double A poms models double d (Err fault) is there e =
    let found : Some d ≡ first_double [] (zip poms models) = sym there ∙ is in
    subst (λ o. Fails (unless_double o (record { poms = poms; models = models })) fault) found (fails_as A Modules (text_refused (ids.Path d.later) DuplicateProject d.earlier) fault e)

-- what is refused of a list is refused of the same list
pub fails_listed : (poms list : List ProjectPom) (models : List Model) (fault : BuildFault) → list ≡ poms → Fails (single list models) fault → Fails (single poms models) fault
fails_listed poms list models fault same fails = subst (λ l. Fails (single l models) fault) same fails

-- a chain goes on where its first step gives something
pub gives_on : {A : Type 0} (said : Built A) (f : A → Built Modules) (x : A) (r : Result ProjectModels BuildFault) → said ≡ Ok x → Gives (f x) r → Gives (said >>= f) r
gives_on said f x r is so = subst (λ s. Gives (s >>= f) r) (sym is) so

-- the store holds for the POMs that are given beside it
pub holds_on : (r : Result ProjectModels BuildFault) (poms : List ProjectPom) (store : RunStore) (world : List ProjectPom → World) (given : Given) → IfOk r (λ (f : ProjectModels). f.poms ≡ poms) → IfOk r (λ (f : ProjectModels). f.store ≡ store)
    → HoldsAll (world poms) given store → IfOk r (λ (f : ProjectModels). HoldsAll (world f.poms) given f.store)
holds_on (Ok f) poms store world given one two holds = subst (λ l. HoldsAll (world l) given f.store) (sym one) (subst (λ s. HoldsAll (world poms) given s) (sym two) holds)
holds_on (Err e) poms store world given one two holds = tt
