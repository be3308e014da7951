-- A model whose dependencies can be resolved. POM Reference, "Dependencies"; Introduction to the Dependency Mechanism, "Dependency Scope".
use Rattle.std.specs.Prelude.{◌≡◌, true}
use Rattle.model_types.specs.declared.model.Model.{Model}
use Rattle.model_steps.specs.Valid.{has_no_import, is_scoped, is_valid}

-- its names, scopes and versions are allowed, each dependency has a scope, and no import is left among what it manages
pub record IsLawful (model : Model) : Type 0 where
  pub valid : is_valid model ≡ true
  pub scoped : is_scoped model ≡ true
  pub replaced : has_no_import model.base.managed ≡ true
