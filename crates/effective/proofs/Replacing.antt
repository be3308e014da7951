-- No import is left among what a model manages.
use Rattle.std.proofs.Common.{◌≡◌, true, List, [], ◌∷◌, ◌++◌, refl, ap, ◌∙◌}
use Rattle.std.specs.List.{list_all}
use Rattle.std.proofs.lemmas.Bool.{and_from}
use Rattle.std.proofs.lemmas.List.Folds.{list_all-append}
use Rattle.model_types.specs.declared.dependency.Dependency.{Dependency}
use Rattle.model_types.specs.declared.model.Model.{Model}
use Rattle.model_steps.specs.Valid.{has_no_import, is_scoped, is_valid}
use Rattle.effective.specs.Lawful.{IsLawful}

pub lawful : (model same : Model) → same ≡ model → is_valid same ≡ true → is_scoped model ≡ true → has_no_import model.base.managed ≡ true → IsLawful same
lawful model same is valid scoped replaced = record {
  valid = valid;
  scoped = ap is_scoped is ∙ scoped;
  replaced = ap (λ (m : Model). has_no_import m.base.managed) is ∙ replaced;
}

pub replaced_in : (model : Model) (entries : List Dependency) → entries ≡ model.base.managed → IsLawful model → has_no_import entries ≡ true
replaced_in model entries is lawful = ap has_no_import is ∙ lawful.replaced

pub replaced_behind : (done lists all : List (List Dependency)) → all ≡ done ++ lists → list_all has_no_import done ≡ true → list_all has_no_import lists ≡ true → list_all has_no_import all ≡ true
replaced_behind done lists all is e f = ap (list_all has_no_import) is ∙ list_all-append has_no_import done lists ∙ and_from _ _ e f

pub replaced_alone : (entries : List Dependency) (list : List (List Dependency)) → list ≡ entries ∷ [] → has_no_import entries ≡ true → list_all has_no_import list ≡ true
replaced_alone entries list is e = ap (list_all has_no_import) is ∙ and_from _ _ e refl
