-- Something is refused of a model exactly if it isn't valid.
use Rattle.std.proofs.Common.{◌≡◌, ℕ, Bool, true, false, not, ◌&&◌, ◌||◌, List, [], ◌∷◌, Option, None, Some, refl, sym, ap, ◌∙◌}
use Rattle.std.specs.Prelude.{codes, if◌then◌else◌, unwrap_or}
use Rattle.std.specs.List.{list_all}
use Rattle.std.specs.Option.{is_some, option_or}
use Rattle.std.specs.Str.{bytes_eq}
use Rattle.mvn_base.specs.Names.{is_filled, is_group, is_name}
use Rattle.mvn_base.specs.declared.gav.Gav.{Gav}
use Rattle.mvn_base.specs.declared.refusal.PomId.{PomId}
use Rattle.model_types.specs.declared.dependency.Dependency.{Dependency}
use Rattle.model_types.specs.declared.model.Model.{Model}
use Rattle.managed_deps.specs.Managed.{is_scope}
use Rattle.profiles.specs.Activation.{is_of_project}
use Rattle.model_steps.specs.Kinds.{kind_of}
use Rattle.model_steps.specs.Validation.{first_problem, gav_problem, is_missing, is_named, is_soft, is_unreadable, item_problem, may_be_scope, model_problem, name_problem, scope_problem, scope_problem_of, version_problem}
use Rattle.model_steps.specs.Valid.{has_valid_names, is_valid, is_valid_entry, is_valid_gav, is_valid_scope, may_be_version}
use Rattle.model_steps.specs.declared.kind.VersionKind.{VersionKind}
use Rattle.model_steps.specs.declared.kind.VersionKind.TheVariants.{Missing, Soft, Range, Unreadable}
use Rattle.model_steps.specs.declared.problem.Problem.{Problem}

-- the first of three is there exactly if not all three tests hold
first_of_three : (a b c : Bool) (p q r : Option Problem) → is_some p ≡ not a → is_some q ≡ not b → is_some r ≡ not c → is_some (option_or p (option_or q r)) ≡ not (a && b && c)
first_of_three a b c p q r is_a is_b is_c = one_more a (b && c) p (option_or q r) is_a (one_more b c q r is_b is_c) ∙ ap not (grouped a)
  where
    one_more : (a b : Bool) (p q : Option Problem) → is_some p ≡ not a → is_some q ≡ not b → is_some (option_or p q) ≡ not (a && b)
    one_more true b None q is_a is_b = is_b
    one_more false b (Some x) q is_a is_b = refl
    one_more true b (Some x) q is_a is_b = cc
    one_more false b None q is_a is_b = cc

    grouped : (a : Bool) → (a && (b && c)) ≡ (a && b && c)
    grouped true = refl
    grouped false = refl

five_tests : (a b c d e f : Bool) (p q r s t : Problem) → is_some (if not a then Some p else (if not b then Some q else (if not c then Some r else (if not d then Some s else (if e && not f then Some t else None))))) ≡ not (a && b && c && d && (not e || f))
five_tests false b c d e f p q r s t = refl
five_tests true false c d e f p q r s t = refl
five_tests true true false d e f p q r s t = refl
five_tests true true true false e f p q r s t = refl
five_tests true true true true false f p q r s t = refl
five_tests true true true true true false p q r s t = refl
five_tests true true true true true true p q r s t = refl

four_tests : (a b c d : Bool) (p q r s : Problem) → is_some (if not a then Some p else (if not b then Some q else (if not c then Some r else (if not d then Some s else None)))) ≡ not (a && b && c && d)
four_tests false b c d p q r s = refl
four_tests true false c d p q r s = refl
four_tests true true false d p q r s = refl
four_tests true true true false p q r s = refl
four_tests true true true true p q r s = refl

names : (kind : VersionKind) (d : Dependency) → is_some (name_problem kind d) ≡ not (has_valid_names kind d)
unfolding name_problem
names kind d = five_tests (is_group d.group) (is_name d.artifact) (is_named kind (unwrap_or d.version [])) (is_name d.kind) (is_filled d.classifier) (is_name d.classifier) _ _ _ _ _

scope_tests : (may project system : Bool) (p q : Problem) → is_some (option_or (if may then None else Some p) (if project && system then Some q else None)) ≡ not (may && not (project && system))
scope_tests false project system p q = refl
scope_tests true false system p q = refl
scope_tests true true false p q = refl
scope_tests true true true p q = refl

scope_cases : (managed project : Bool) (q : Problem) (scope : Option (List ℕ)) → is_some (option_or (scope_problem_of managed scope) (if project && is_scope (codes "system") scope then Some q else None)) ≡ not (is_valid_scope managed project scope)
scope_cases managed true q None = refl
scope_cases managed false q None = refl
scope_cases managed project q (Some scope) = scope_tests (may_be_scope managed scope) project (bytes_eq scope (codes "system")) _ q

scopes : (managed : Bool) (pom : PomId) (d : Dependency) → is_some (scope_problem managed pom d) ≡ not (is_valid_scope managed (is_of_project pom) d.scope)
unfolding scope_problem
scopes managed pom d = scope_cases managed (is_of_project pom) _ d.scope

version_cases : (managed : Bool) (kind : VersionKind) (p q : Problem) → is_some (if not managed && is_missing kind then Some p else (if is_unreadable kind then Some q else None)) ≡ not (may_be_version managed kind)
version_cases true Missing p q = refl
version_cases true Soft p q = refl
version_cases true Range p q = refl
version_cases true Unreadable p q = refl
version_cases false Missing p q = refl
version_cases false Soft p q = refl
version_cases false Range p q = refl
version_cases false Unreadable p q = refl

versions : (managed : Bool) (kind : VersionKind) (d : Dependency) → is_some (version_problem managed kind d) ≡ not (may_be_version managed kind)
unfolding version_problem
versions managed kind d = version_cases managed kind _ _

entry : (managed : Bool) (pom : PomId) (d : Dependency) → is_some (item_problem managed pom d) ≡ not (is_valid_entry managed pom d)
unfolding item_problem is_valid_entry
entry managed pom d = first_of_three (has_valid_names (kind_of d.version) d) (is_valid_scope managed (is_of_project pom) d.scope) (may_be_version managed (kind_of d.version)) _ _ _
    (names (kind_of d.version) d) (scopes managed pom d) (versions managed (kind_of d.version) d)

entries : (managed : Bool) (pom : PomId) (ds : List Dependency) → is_some (first_problem (item_problem managed pom) ds) ≡ not (list_all (is_valid_entry managed pom) ds)
entries managed pom [] = refl
entries managed pom (d ∷ ds) = more (is_valid_entry managed pom d) (list_all (is_valid_entry managed pom) ds) (item_problem managed pom d) (first_problem (item_problem managed pom) ds) (entry managed pom d) (entries managed pom ds)
  where
    more : (a b : Bool) (p q : Option Problem) → is_some p ≡ not a → is_some q ≡ not b → is_some (option_or p q) ≡ not (a && b)
    more true b None q is_a is_b = is_b
    more false b (Some x) q is_a is_b = refl
    more true b (Some x) q is_a is_b = cc
    more false b None q is_a is_b = cc

coordinates : (gav : Gav) → is_some (gav_problem (kind_of (Some gav.version)) gav) ≡ not (is_valid_gav gav)
unfolding gav_problem is_valid_gav
coordinates gav = four_tests (is_group gav.group) (is_name gav.artifact) (is_named (kind_of (Some gav.version)) gav.version) (is_soft (kind_of (Some gav.version))) _ _ _ _

-- a model has a problem exactly if it isn't valid
pub problem_if_invalid : (m : Model) → is_some (model_problem m) ≡ not (is_valid m)
unfolding model_problem is_valid
problem_if_invalid m = first_of_three (is_valid_gav m.gav) (list_all (is_valid_entry true m.pom) m.base.managed) (list_all (is_valid_entry false m.pom) m.base.dependencies) _ _ _
    (coordinates m.gav) (entries true m.pom m.base.managed) (entries false m.pom m.base.dependencies)

-- so one without a problem is valid
pub valid_without_problem : (m : Model) → None ≡ model_problem m → is_valid m ≡ true
valid_without_problem m none = by (is_valid m) (ap is_some none ∙ problem_if_invalid m)
  where
    by : (b : Bool) → false ≡ not b → b ≡ true
    by true e = refl
    by false e = cc
