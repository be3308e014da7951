-- What holds of each dependency and of each managed entry of an effective model.
use Rattle.std.proofs.Common.{◌≡◌, ℕ, Bool, true, false, not, ◌&&◌, List, [], ◌∷◌, ◌++◌, map, Option, None, Some, refl, sym, ap, ◌∙◌, subst}
use Rattle.std.proofs.lemmas.Bool.{and_from, and_parts}
use Rattle.std.proofs.lemmas.List.Folds.{list_all-append}
use Rattle.std.specs.Prelude.{codes, cond, filter, flat_map, fold, if◌then◌else◌}
use Rattle.std.specs.List.{list_all}
use Rattle.std.specs.Option.{is_some, option_or}
use Rattle.mvn_base.specs.declared.key.Key.{Key}
use Rattle.model_types.specs.declared.build.BuildBase.{BuildBase}
use Rattle.model_types.specs.declared.dependency.Dependency.{Dependency}
use Rattle.model_types.specs.declared.model.Model.{Model}
use Rattle.model_types.specs.declared.model.RawModel.{RawModel}
use Rattle.model_merge.specs.Keyed.{settled}
use Rattle.managed_deps.specs.Managed.{add, all_entries, apply_one, find_pair, first_of_each, is_import, key_of, own_entries}
use Rattle.model_steps.specs.Assembly.{kept_as, managed_set, model_of, with_scope}
use Rattle.model_steps.specs.Valid.{has_no_import, is_scoped}

-- what a scope is put in for has one
stated : (own : Option (List ℕ)) (scope : List ℕ) → is_some (option_or own (Some scope)) ≡ true
stated (Some own) scope = refl
stated None scope = refl

all_scoped : (ds : List Dependency) → list_all (λ (d : Dependency). is_some d.scope) (map with_scope ds) ≡ true
all_scoped [] = refl
all_scoped (d ∷ ds) = and_from _ _ (stated d.scope (codes "compile")) (all_scoped ds)

model_scoped : (raw : RawModel) (base : BuildBase) (imports : List (List Dependency)) → is_scoped (model_of raw base imports) ≡ true
unfolding model_of
model_scoped raw base imports = all_scoped (map (apply_one (managed_set raw.base.managed imports)) (kept_as raw.pom (settled key_of raw.base.dependencies)))

-- each dependency of an effective model has a scope
pub scoped : (raw : RawModel) (base : BuildBase) (imports : List (List Dependency)) (model : Model) → model ≡ model_of raw base imports → is_scoped model ≡ true
scoped raw base imports model is = subst (λ m. is_scoped m ≡ true) (sym is) (model_scoped raw base imports)

-- a test of dependencies, of lists of them, and of entries that each stand under a key
module _ (test : Dependency → Bool) where
  all_pass : (ds : List Dependency) → list_all test (filter test ds) ≡ true
  all_pass [] = refl
  all_pass (d ∷ ds) = by (test d) refl (all_pass ds)
    where
      by : (b : Bool) → test d ≡ b → list_all test (filter test ds) ≡ true → list_all test (cond b (d ∷ filter test ds) (filter test ds)) ≡ true
      by true is rest = and_from _ _ is rest
      by false is rest = rest

  all_in_each : (lists : List (List Dependency)) → list_all (λ list. list_all test list) lists ≡ true → list_all test (flat_map (λ list. list) lists) ≡ true
  all_in_each [] e = refl
  all_in_each (list ∷ lists) e = list_all-append test list (flat_map (λ list. list) lists) ∙ and_from _ _ (and_parts _ _ e).0 (all_in_each lists (and_parts _ _ e).1)

  -- entries, each under its key
  abbrev all_under : List (Key × Dependency) → Bool
  all_under set = list_all (λ (e : Key × Dependency). test e.1) set

  all_added : (set : List (Key × Dependency)) (d : Dependency) → all_under set ≡ true → test d ≡ true → all_under (add set d) ≡ true
  all_added set d all passes = by (is_some (find_pair set (key_of d)))
    where
      by : (b : Bool) → all_under (if b then set else set ++ (key_of d, d) ∷ []) ≡ true
      by true = all
      by false = list_all-append (λ (e : Key × Dependency). test e.1) set ((key_of d, d) ∷ []) ∙ and_from _ _ all (and_from _ _ passes refl)

  all_gathered : (ds : List Dependency) (set : List (Key × Dependency)) → all_under set ≡ true → list_all test ds ≡ true → all_under (fold add set ds) ≡ true
  all_gathered [] set all e = all
  all_gathered (d ∷ ds) set all e = all_gathered ds (add set d) (all_added set d all (and_parts _ _ e).0) (and_parts _ _ e).1

  all_values : (set : List (Key × Dependency)) → list_all test (map (λ e. e.1) set) ≡ all_under set
  all_values [] = refl
  all_values (e ∷ set) = ap (λ b. test e.1 && b) (all_values set)

abbrev no_import : Dependency → Bool
no_import d = not (is_import d)

none_gathered : (own : List Dependency) (imports : List (List Dependency)) → list_all has_no_import imports ≡ true → list_all no_import (all_entries own imports) ≡ true
none_gathered own imports free = list_all-append no_import (own_entries own) (flat_map (λ entries. entries) imports) ∙ and_from _ _ (all_pass no_import own) (all_in_each no_import imports free)

model_free : (raw : RawModel) (base : BuildBase) (imports : List (List Dependency)) → list_all has_no_import imports ≡ true → has_no_import (model_of raw base imports).base.managed ≡ true
unfolding model_of
model_free raw base imports free = all_values no_import (managed_set raw.base.managed imports) ∙ all_gathered no_import (all_entries raw.base.managed imports) [] refl (none_gathered raw.base.managed imports free)

-- no managed entry is an import if no import manages one
pub no_import_left : (raw : RawModel) (base : BuildBase) (imports : List (List Dependency)) (model : Model) → model ≡ model_of raw base imports → list_all has_no_import imports ≡ true → has_no_import model.base.managed ≡ true
no_import_left raw base imports model is free = subst (λ m. has_no_import m.base.managed ≡ true) (sym is) (model_free raw base imports free)
