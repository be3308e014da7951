-- What an import comes to doesn't depend on who imports it.
use Rattle.std.proofs.Common.{◌≡◌, ℕ, zero, suc, ◌≤◌, Bool, true, false, ◌||◌, List, [], ◌∷◌, ◌++◌, Option, None, Some, Ok, Err, refl, arith, sym, ap, subst, ◌∙◌, if◌then◌else◌}
use Rattle.std.proofs.lemmas.List.{append-nil, append_assoc}
use Rattle.std.proofs.lemmas.List.Folds.{list_any-append}
use Rattle.mvn_base.specs.declared.gav.Gav.{Gav}
use Rattle.mvn_base.specs.declared.refusal.PomId.{PomId}
use Rattle.mvn_base.specs.declared.rule.Rule.TheVariants.{ImportCycle}
use Rattle.model_types.specs.declared.dependency.Dependency.{Dependency}
use Rattle.model_types.specs.declared.model.Model.{Model}
use Rattle.model_types.specs.declared.model.RawModel.{RawModel}
use Rattle.managed_deps.specs.Managed.{is_import}
use Rattle.pom_source.specs.Answers.{Built, ◌>>=◌}
use Rattle.pom_source.specs.Chains.{bound, ok_is}
use Rattle.pom_source.specs.Refusals.{gav_refused}
use Rattle.pom_source.specs.Worlds.{World}
use Rattle.pom_source.specs.declared.found.Found.{Found}
use Rattle.pom_source.specs.declared.found.Given.{Given}
use Rattle.lineage.specs.Lineage.{is_in, next_poms, pom_eq}
use Rattle.lineage.specs.Reading.{read}
use Rattle.model_steps.specs.Assembly.{model_of}
use Rattle.model_steps.specs.Building.{built}
use Rattle.model_steps.specs.Imports.{import_gav}
use Rattle.model_steps.specs.Validation.{model_problem, unless}
use Rattle.model_steps.specs.declared.problem.Problem.{Problem}
use Rattle.effective.specs.Effective.{asked, effective, ended, entry, full, import_on, imported, imports_from, managed_of, met_import, read_found, wanted, whole}
use Rattle.effective.specs.Imports.{AreAmong, AreImports, IsManagedAt, IsPutTogether, import_entry, no_more, own_entry}

-- what gives entries under one gives the same under another
abbrev Agrees : (up other : Gav → Built (List Dependency)) → Type 0
Agrees up other = (gav : Gav) (entries : List Dependency) → up gav ≡ Ok entries → other gav ≡ Ok entries

more_fewer : (fewer poms : List PomId) (pom : PomId) → AreAmong fewer poms → AreAmong (next_poms fewer pom) (next_poms poms pom)
more_fewer fewer poms pom low p here =
    list_any-append (λ other. pom_eq other p) poms (pom ∷ []) ∙ by (is_in p fewer) refl (sym (list_any-append (λ other. pom_eq other p) fewer (pom ∷ [])) ∙ here)
  where
    one_true : (a b : Bool) → a ≡ true → (a || b) ≡ true
    one_true true b e = refl
    one_true false b e = cc

    other_true : (a b : Bool) → b ≡ true → (a || b) ≡ true
    other_true true b e = refl
    other_true false b e = e

    by : (b : Bool) → is_in p fewer ≡ b → (b || is_in p (pom ∷ [])) ≡ true → (is_in p poms || is_in p (pom ∷ [])) ≡ true
    by true is e = one_true (is_in p poms) _ (low p is)
    by false is e = other_true (is_in p poms) _ e

first_fewer : (poms : List PomId) (pom : PomId) → AreAmong (pom ∷ []) (next_poms poms pom)
first_fewer poms pom p here = list_any-append (λ other. pom_eq other p) poms (pom ∷ []) ∙ by (is_in p poms)
  where
    by : (b : Bool) → (b || is_in p (pom ∷ [])) ≡ true
    by true = refl
    by false = here

met_again : (pom other : PomId) (building fewer : List PomId) (gav : Gav) (o : Option Found) (found : Found) → AreAmong fewer building → met_import pom building gav o ≡ Ok found → met_import other fewer gav o ≡ Ok found
met_again pom other building fewer gav None found low e = cc
met_again pom other building fewer gav (Some it) found low e = by (is_in it.pom fewer) (is_in it.pom building) (low it.pom) e
  where
    by : (a b : Bool) → (a ≡ true → b ≡ true) → (if b then Err (gav_refused pom ImportCycle gav) else Ok it) ≡ Ok found → (if a then Err (gav_refused other ImportCycle gav) else Ok it) ≡ Ok found
    by true true l e = cc
    by true false l e = let so : false ≡ true = l refl in cc
    by false true l e = cc
    by false false l e = e

entry_again : (pom : PomId) (up other : Gav → Built (List Dependency)) (d : Dependency) (lists : List (List Dependency)) → Agrees up other → entry pom up d ≡ Ok lists → entry pom other d ≡ Ok lists
entry_again pom up other d lists agrees e = by (is_import d) e
  where
    by : (b : Bool) → (if b then import_gav pom d >>= (λ gav. up gav >>= (λ entries. Ok (entries ∷ []))) else Ok []) ≡ Ok lists → (if b then import_gav pom d >>= (λ gav. other gav >>= (λ entries. Ok (entries ∷ []))) else Ok []) ≡ Ok lists
    by true e =
        let first = bound (import_gav pom d) _ lists e in
        let next = bound (up first.0) _ lists first.2 in
        ap (λ s. s >>= (λ gav. other gav >>= (λ entries. Ok (entries ∷ [])))) first.1 ∙ ap (λ s. s >>= (λ entries. Ok (entries ∷ []))) (agrees first.0 next.0 next.1) ∙ next.2
    by false e = e

imports_again : (pom : PomId) (up other : Gav → Built (List Dependency)) (done : List (List Dependency)) (ds : List Dependency) (all : List (List Dependency)) → Agrees up other → imports_from pom up done ds ≡ Ok all → imports_from pom other done ds ≡ Ok all
imports_again pom up other done [] all agrees e = e
imports_again pom up other done (d ∷ ds) all agrees e =
    let first = bound (entry pom up d) _ all e in
    ap (λ s. s >>= (λ lists. imports_from pom other (done ++ lists) ds)) (entry_again pom up other d first.0 agrees first.1) ∙ imports_again pom up other (done ++ first.0) ds all agrees first.2

module _ (world : World) (given : Given) where
  whole_again : (up other : Gav → Built (List Dependency)) (raw : RawModel) (model : Model) → Agrees up other → whole world given up raw ≡ Ok model → whole world given other raw ≡ Ok model
  whole_again up other raw model agrees e =
      let first = bound (full world given raw) _ model e in
      let next = bound (built first.0) _ model first.2 in
      let last = bound (imports_from raw.pom up [] first.0.base.managed) _ model next.2 in
      ap (λ s. s >>= (λ (m : RawModel). built m >>= (λ base. imports_from raw.pom other [] m.base.managed >>= (λ imports. ended m base imports)))) first.1
      ∙ ap (λ s. s >>= (λ base. imports_from raw.pom other [] first.0.base.managed >>= (λ imports. ended first.0 base imports))) next.1
      ∙ ap (λ s. s >>= (λ imports. ended first.0 next.0 imports)) (imports_again raw.pom up other [] first.0.base.managed last.0 agrees last.1)
      ∙ last.2

  pub imported_again : (left more : ℕ) (pom other : PomId) (building fewer : List PomId) → left ≤ more → AreAmong fewer building → Agrees (imported world given left pom building) (imported world given more other fewer)
  unfolding imported
  imported_again zero more pom other building fewer le low gav entries e = cc
  imported_again (suc left) zero pom other building fewer le low gav entries e = absurd (omega (arith, le))
  imported_again (suc left) (suc more) pom other building fewer le low gav entries e =
      let first = bound (wanted world pom building gav) _ entries e in
      let next = bound (read first.0.pom first.0.bytes) _ entries first.2 in
      let last = bound (whole world given (imported world given left next.0.pom (next_poms building next.0.pom)) next.0) _ entries next.2 in
      ap (λ s. s >>= import_on world given (imported world given more) fewer) (met_again pom other building fewer gav (world.by_gav gav) first.0 low first.1)
      ∙ ap (λ s. s >>= (λ (raw : RawModel). managed_of (whole world given (imported world given more raw.pom (next_poms fewer raw.pom)) raw))) next.1
      ∙ ap managed_of (whole_again (imported world given left next.0.pom (next_poms building next.0.pom)) (imported world given more next.0.pom (next_poms fewer next.0.pom)) next.0 last.0 (imported_again left more next.0.pom next.0.pom (next_poms building next.0.pom) (next_poms fewer next.0.pom) (omega (arith, le)) (more_fewer fewer building next.0.pom low)) last.1)
      ∙ last.2

  found_again : (pom : PomId) (building : List PomId) (gav : Gav) (o : Option Found) (found : Found) → met_import pom building gav o ≡ Ok found → read_found o ≡ read found.pom found.bytes
  found_again pom building gav None found e = cc
  found_again pom building gav (Some it) found e = by (is_in it.pom building) e
    where
      by : (b : Bool) → (if b then Err (gav_refused pom ImportCycle gav) else Ok it) ≡ Ok found → read it.pom it.bytes ≡ read found.pom found.bytes
      by true e = cc
      by false e = ap (λ (f : Found). read f.pom f.bytes) (ok_is it found e)

  -- what an import comes to is what the effective model of its coordinates manages
  managed_at : (left : ℕ) (pom : PomId) (building : List PomId) (gav : Gav) (entries : List Dependency) → left ≤ 31 → imported world given (suc left) pom building gav ≡ Ok entries → IsManagedAt world given gav entries
  unfolding imported
  managed_at left pom building gav entries le e =
      let first = bound (wanted world pom building gav) _ entries e in
      let next = bound (read first.0.pom first.0.bytes) _ entries first.2 in
      let last = bound (whole world given (imported world given left next.0.pom (next_poms building next.0.pom)) next.0) _ entries next.2 in
      record {
        model = last.0;
        is_effective = ap (λ s. s >>= (λ (raw : RawModel). whole world given (imported world given 31 raw.pom (raw.pom ∷ [])) raw)) (found_again pom building gav (world.by_gav gav) first.0 first.1 ∙ next.1)
            ∙ whole_again (imported world given left next.0.pom (next_poms building next.0.pom)) (imported world given 31 next.0.pom (next.0.pom ∷ [])) next.0 last.0 (imported_again left 31 next.0.pom next.0.pom (next_poms building next.0.pom) (next.0.pom ∷ []) le (first_fewer building next.0.pom)) last.1;
        manages = ok_is last.0.base.managed entries last.2;
      }

  entry_is : (pom : PomId) (up : Gav → Built (List Dependency)) (d : Dependency) (ds : List Dependency) (lists rest : List (List Dependency)) → ((gav : Gav) (entries : List Dependency) → up gav ≡ Ok entries → IsManagedAt world given gav entries) → entry pom up d ≡ Ok lists → AreImports world given pom ds rest → AreImports world given pom (d ∷ ds) (lists ++ rest)
  entry_is pom up d ds lists rest at e behind = by (is_import d) refl e
    where
      by : (b : Bool) → is_import d ≡ b → (if b then import_gav pom d >>= (λ gav. up gav >>= (λ entries. Ok (entries ∷ []))) else Ok []) ≡ Ok lists → AreImports world given pom (d ∷ ds) (lists ++ rest)
      by true is e =
          let first = bound (import_gav pom d) _ lists e in
          let next = bound (up first.0) _ lists first.2 in
          subst (λ l. AreImports world given pom (d ∷ ds) (l ++ rest)) (ok_is (next.0 ∷ []) lists next.2) (import_entry d ds first.0 next.0 rest is first.1 (at first.0 next.0 next.1) behind)
      by false is e = subst (λ l. AreImports world given pom (d ∷ ds) (l ++ rest)) (ok_is [] lists e) (own_entry d ds rest is behind)

  imports_are : (pom : PomId) (up : Gav → Built (List Dependency)) (done : List (List Dependency)) (ds : List Dependency) (all : List (List Dependency)) → ((gav : Gav) (entries : List Dependency) → up gav ≡ Ok entries → IsManagedAt world given gav entries) → imports_from pom up done ds ≡ Ok all → (lists : List (List Dependency)) × (all ≡ done ++ lists) × AreImports world given pom ds lists
  imports_are pom up done [] all at e = ([], sym (ok_is done all e) ∙ sym (append-nil done), no_more)
  imports_are pom up done (d ∷ ds) all at e =
      let first = bound (entry pom up d) _ all e in
      let rest = imports_are pom up (done ++ first.0) ds all at first.2 in
      (first.0 ++ rest.0, rest.1 ∙ append_assoc done first.0 rest.0, entry_is pom up d ds first.0 rest.0 at first.1 rest.2)

  unrefused : (problem : Option Problem) (m model : Model) → unless problem m ≡ Ok model → model ≡ m
  unrefused (Some p) m model e = cc
  unrefused None m model e = sym (ok_is m model e)

  pub put_together : (pom : PomId) (model : Model) → effective world given pom ≡ Ok model → IsPutTogether world given pom model
  put_together pom model e =
      let first = bound (asked world pom) _ model e in
      let next = bound (full world given first.0) _ model first.2 in
      let third = bound (built next.0) _ model next.2 in
      let last = bound (imports_from first.0.pom (imported world given 31 first.0.pom (first.0.pom ∷ [])) [] next.0.base.managed) _ model third.2 in
      let are = imports_are first.0.pom _ [] next.0.base.managed last.0 (λ gav entries e. managed_at 30 first.0.pom (first.0.pom ∷ []) gav entries (omega arith) e) last.1 in
      record {
        raw = first.0;
        is_asked = first.1;
        filled = next.0;
        is_full = next.1;
        plugins = third.0;
        are_built = third.1;
        lists = are.0;
        are_imports = are.2;
        is_whole = subst (λ l. model ≡ model_of next.0 third.0 l) are.1 (unrefused (model_problem (model_of next.0 third.0 last.0)) (model_of next.0 third.0 last.0) model last.2);
      }
