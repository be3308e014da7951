-- The coordinates of an effective model are valid.
use Rattle.std.proofs.Common.{◌≡◌, ℕ, zero, suc, Bool, true, false, not, List, [], ◌∷◌, slice_get, Option, Some, None, is_some, unwrap_or, Ok, refl, sym, ap, subst, if◌then◌else◌}
use Rattle.std.specs.Option.{option_or}
use Rattle.std.proofs.lemmas.Bool.{false≢true}
use Rattle.mvn_base.specs.FileName.{IsValid}
use Rattle.mvn_base.specs.Names.{is_group, is_name, is_version}
use Rattle.mvn_base.specs.declared.gav.Gav.{Gav}
use Rattle.mvn_base.specs.declared.refusal.PomId.{PomId}
use Rattle.mvn_base.specs.declared.refusal.PomId.TheVariants as ids
use Rattle.mvn_base.specs.declared.rule.Rule.TheVariants.{BadName, BadRange}
use Rattle.model_types.specs.declared.dependency.Dependency.{Dependency}
use Rattle.model_types.specs.declared.model.Model.{Model}
use Rattle.model_types.specs.declared.model.RawModel.{RawModel}
use Rattle.pom_source.specs.Answers.{Built, ◌>>=◌}
use Rattle.pom_source.specs.Chains.{bound, ok_is}
use Rattle.pom_source.specs.Worlds.{World}
use Rattle.pom_source.specs.declared.found.Given.{Given}
use Rattle.model_resolver.specs.declared.resolver.ProjectPom.{ProjectPom}
use Rattle.model_steps.specs.Assembly.{model_of}
use Rattle.model_steps.specs.Building.{built}
use Rattle.model_steps.specs.Kinds.{kind_of}
use Rattle.model_steps.specs.Validation.{checked, gav_problem, is_named, is_soft, model_problem, problem, unless}
use Rattle.model_steps.specs.declared.kind.VersionKind.{VersionKind}
use Rattle.model_steps.specs.declared.kind.VersionKind.TheVariants.{Missing, Soft, Range, Unreadable}
use Rattle.effective.specs.Effective.{asked, effective, ended, full, imported, imports_from, whole}
use Rattle.project_models.specs.Projects.{AreEffective}
use Rattle.project_models.specs.Projects.AreEffective.{no_pom, one_more}

-- one version that is named is valid
version_of : (kind : VersionKind) (version : List ℕ) → is_named kind version ≡ true → is_soft kind ≡ true → is_version version ≡ true
version_of Soft version named soft = named
version_of Missing version named soft = absurd (false≢true soft)
version_of Range version named soft = absurd (false≢true soft)
version_of Unreadable version named soft = absurd (false≢true soft)

-- coordinates without a problem
gav_valid : (kind : VersionKind) (gav : Gav) → gav_problem kind gav ≡ None → IsValid gav
unfolding gav_problem
gav_valid kind gav = by (is_group gav.group) refl (is_name gav.artifact) refl (is_named kind gav.version) refl (is_soft kind) refl
  where
    by : (a : Bool) → is_group gav.group ≡ a → (b : Bool) → is_name gav.artifact ≡ b → (c : Bool) → is_named kind gav.version ≡ c → (d : Bool) → is_soft kind ≡ d
        → (if not a then Some (problem BadName gav.group) else (if not b then Some (problem BadName gav.artifact) else (if not c then Some (problem BadName gav.version) else (if not d then Some (problem BadRange gav.version) else None)))) ≡ None
        → IsValid gav
    by true p true q true r true s e = record { group = p; artifact = q; version = version_of kind gav.version r s }
    by false p b q c r d s e = absurd (false≢true (sym (ap is_some e)))
    by true p false q c r d s e = absurd (false≢true (sym (ap is_some e)))
    by true p true q false r d s e = absurd (false≢true (sym (ap is_some e)))
    by true p true q true r false s e = absurd (false≢true (sym (ap is_some e)))

-- the first of two problems, where there is none
none_first : {A : Type 0} (a b : Option A) → option_or a b ≡ None → a ≡ None
none_first None b e = refl
none_first (Some x) b e = absurd (false≢true (sym (ap is_some e)))

problem_valid : (m : Model) → model_problem m ≡ None → IsValid m.gav
unfolding model_problem
problem_valid m none = gav_valid (kind_of (Some m.gav.version)) m.gav (none_first _ _ none)

-- a model that is checked
checked_valid : (n m : Model) → checked n ≡ Ok m → IsValid m.gav
checked_valid n m = by (model_problem n) refl
  where
    by : (o : Option _) → model_problem n ≡ o → unless o n ≡ Ok m → IsValid m.gav
    by (Some p) e is = cc
    by None e is = subst (λ (x : Model). IsValid x.gav) (ok_is n m is) (problem_valid n e)

module _ (world : World) (given : Given) where
  -- a POM in all steps
  whole_valid : (up : Gav → Built (List Dependency)) (raw : RawModel) (m : Model) → whole world given up raw ≡ Ok m → IsValid m.gav
  whole_valid up raw m e =
      let model = bound (full world given raw) (λ model. built model >>= (λ base. imports_from raw.pom up [] model.base.managed >>= (λ imports. ended model base imports))) m e in
      let base = bound (built model.0) (λ base. imports_from raw.pom up [] model.0.base.managed >>= (λ imports. ended model.0 base imports)) m model.2 in
      let imports = bound (imports_from raw.pom up [] model.0.base.managed) (λ imports. ended model.0 base.0 imports) m base.2 in
      checked_valid (model_of model.0 base.0 imports.0) m imports.2

  effective_valid : (pom : PomId) (m : Model) → effective world given pom ≡ Ok m → IsValid m.gav
  effective_valid pom m e =
      let raw = bound (asked world pom) (λ raw. whole world given (imported world given 31 raw.pom (raw.pom ∷ [])) raw) m e in
      whole_valid (imported world given 31 raw.0.pom (raw.0.pom ∷ [])) raw.0 m raw.2

  -- so each model of a project
  pub model_valid : {poms : List ProjectPom} {models : List Model} → AreEffective world given poms models → (number : ℕ) (m : Model) → slice_get models number ≡ Some m → IsValid m.gav
  model_valid no_pom number m at = absurd (false≢true (ap is_some at))
  model_valid (one_more p poms x models is rest) zero m at = subst (λ (n : Model). IsValid n.gav) (ap (λ o. unwrap_or o x) at) (effective_valid (ids.Path p.path) x is)
  model_valid (one_more p poms x models is rest) (suc number) m at = model_valid rest number m at
