-- Doubles, one module at a time.
use Rattle.std.proofs.Common.{◌≡◌, ◌<◌, ◌≤◌, ℕ, zero, suc, ◌+◌, Bool, true, false, List, [], ◌∷◌, ◌++◌, drop, find, get_or, length, slice_get, zip, Option, None, Some, option_map, refl, sym, ap, ◌∙◌, arith, if◌then◌else◌}
use Rattle.std.specs.Prelude.{cond}
use Rattle.std.specs.Option.{option_or}
use Rattle.std.proofs.lemmas.List.{drop_all, drop_more}
use Rattle.std.proofs.lemmas.Option.{get_or_from_slice_get, slice_get_within}
use Rattle.mvn_base.specs.declared.gav.Gav.{Gav}
use Rattle.model_types.specs.declared.model.Model.{Model}
use Rattle.mvn_base.specs.Gav.{gav_eq}
use Rattle.lineage.proofs.Holding.{same_gav}
use Rattle.model_resolver.specs.declared.resolver.ProjectPom.{ProjectPom}
use Rattle.project_models.specs.Models.{double, first_double, path_of}
use Rattle.project_models.specs.declared.doubles.Double.{Double}

abbrev pub Module : Type 0
Module = ProjectPom × Model

-- one module behind others
path_behind : (before : List Module) (m : Module) (gav : Gav) → path_of (before ++ m ∷ []) gav ≡ option_or (path_of before gav) (if gav_eq m.1.gav gav then Some m.0.path else None)
path_behind [] m gav = by (gav_eq m.1.gav gav)
  where
    by : (same : Bool) → ◌≡◌ {A = Option (List ℕ)} (option_map (λ (x : Module). x.0.path) (cond same (Some m) None)) (if same then Some m.0.path else None)
    by true = refl
    by false = refl
path_behind (b ∷ before) m gav = by (path_behind before m gav) (gav_eq b.1.gav gav)
  where
    by : path_of (before ++ m ∷ []) gav ≡ option_or (path_of before gav) (if gav_eq m.1.gav gav then Some m.0.path else None) → (same : Bool)
        → option_map (λ (x : Module). x.0.path) (cond same (Some b) (find (λ (x : Module). gav_eq x.1.gav gav) (before ++ m ∷ [])))
        ≡ option_or (option_map (λ (x : Module). x.0.path) (cond same (Some b) (find (λ (x : Module). gav_eq x.1.gav gav) before))) (if gav_eq m.1.gav gav then Some m.0.path else None)
    by rest true = refl
    by rest false = rest

or_none : {A : Type 0} (a : Option A) → option_or a None ≡ a
or_none None = refl
or_none (Some x) = refl

-- one module more, whose coordinates none before has, has its path
pub path_more : (before : List Module) (m : Module) (gav : Gav) → path_of before m.1.gav ≡ None → path_of (before ++ m ∷ []) gav ≡ (if gav_eq m.1.gav gav then Some m.0.path else path_of before gav)
path_more before m gav none = path_behind before m gav ∙ by (gav_eq m.1.gav gav) refl
  where
    by : (same : Bool) → gav_eq m.1.gav gav ≡ same → option_or (path_of before gav) (if same then Some m.0.path else None) ≡ (if same then Some m.0.path else path_of before gav)
    by true is = ap (λ o. option_or o (Some m.0.path)) (ap (path_of before) (sym (same_gav m.1.gav gav is)) ∙ none)
    by false is = or_none (path_of before gav)

-- a list from a place on
drop_get : {A : Type 0} (xs : List A) (i : ℕ) (x : A) → Some x ≡ slice_get xs i → drop i xs ≡ x ∷ drop (i + 1) xs
drop_get xs i x e = drop_more xs i x (slice_get_within xs i x (sym e)) ∙ ap (λ z. z ∷ drop (i + 1) xs) (get_or_from_slice_get xs i x x (sym e))

none_low : {A : Type 0} (xs : List A) (i : ℕ) → None ≡ slice_get xs i → length xs ≤ i
none_low [] i e = omega arith
none_low (x ∷ xs) zero e = absurd cc
none_low (x ∷ xs) (suc i) e = let rest = none_low xs i e in omega (arith, rest)

-- a module, and the one whose path is found under its coordinates
abbrev pub with_path : List ℕ → Option (List ℕ) → Option Double
with_path later found = option_map (λ earlier. record { later = later; earlier = earlier }) found

-- what is known before a module is looked at: the paths of those before, and that no double was met
pub record Looked (paths : Gav → Option (List ℕ)) (poms : List ProjectPom) (models : List Model) (at : ℕ) : Type 0 where
  pub before : List Module
  pub known : (gav : Gav) → paths gav ≡ path_of before gav
  pub same : first_double before (zip (drop at poms) (drop at models)) ≡ first_double [] (zip poms models)

pub none_looked : (paths : Gav → Option (List ℕ)) (poms : List ProjectPom) (models : List Model) → ((gav : Gav) → paths gav ≡ None) → Looked paths poms models 0
none_looked paths poms models none = record { before = []; known = none; same = refl }

module _ (paths : Gav → Option (List ℕ)) (poms : List ProjectPom) (models : List Model) (at : ℕ) where
  -- the module that is next
  next_is : (p : ProjectPom) (m : Model) → at < length poms → p ≡ get_or poms at p → Some m ≡ slice_get models at
      → zip (drop at poms) (drop at models) ≡ (p, m) ∷ zip (drop (at + 1) poms) (drop (at + 1) models)
  next_is p m low is there =
      ap (λ l. zip l (drop at models)) (drop_more poms at p low ∙ ap (λ x. x ∷ drop (at + 1) poms) (sym is))
      ∙ ap (λ l. zip (p ∷ drop (at + 1) poms) l) (drop_get models at m there)

  -- it has the coordinates of one before it
  pub double_is : (p : ProjectPom) (m same : Model) (d : Double) → Looked paths poms models at → at < length poms → p ≡ get_or poms at p → Some m ≡ slice_get models at
      → same ≡ m → Some d ≡ with_path p.path (paths same.gav) → Some d ≡ first_double [] (zip poms models)
  unfolding first_double
  double_is p m same d looked low is there one e =
      let rest = first_double (looked.before ++ (p, m) ∷ []) (zip (drop (at + 1) poms) (drop (at + 1) models)) in
      let here : Some d ≡ double looked.before (p, m) = e ∙ ap (λ (x : Model). with_path p.path (paths x.gav)) one ∙ ap (with_path p.path) (looked.known m.gav) in
      ap (λ o. option_or o rest) here ∙ ap (λ l. first_double looked.before l) (sym (next_is p m low is there)) ∙ looked.same

  -- it has others
  pub one_looked : (next : Gav → Option (List ℕ)) (p : ProjectPom) (m same : Model) → Looked paths poms models at → at < length poms → p ≡ get_or poms at p → Some m ≡ slice_get models at
      → same ≡ m → None ≡ with_path p.path (paths same.gav)
      → ((other : Gav) → next other ≡ (if gav_eq same.gav other then Some p.path else paths other)) → Looked next poms models (at + 1)
  unfolding first_double
  one_looked next p m same looked low is there one none put =
      let rest = first_double (looked.before ++ (p, m) ∷ []) (zip (drop (at + 1) poms) (drop (at + 1) models)) in
      let here : None ≡ double looked.before (p, m) = none ∙ ap (λ (x : Model). with_path p.path (paths x.gav)) one ∙ ap (with_path p.path) (looked.known m.gav) in
      record {
        before = looked.before ++ (p, m) ∷ [];
        known = λ gav. put gav ∙ ap (λ (x : Model). if gav_eq x.gav gav then Some p.path else paths gav) one ∙ ap (λ o. if gav_eq m.gav gav then Some p.path else o) (looked.known gav) ∙ sym (path_more looked.before (p, m) gav (no_path (path_of looked.before m.gav) (sym here)));
        same = ap (λ o. option_or o rest) here ∙ ap (λ l. first_double looked.before l) (sym (next_is p m low is there)) ∙ looked.same;
      }
    where
      no_path : (o : Option (List ℕ)) → with_path p.path o ≡ None → o ≡ None
      no_path None e = refl
      no_path (Some x) e = cc

  -- none is next
  pub no_pom : Looked paths poms models at → drop at poms ≡ [] → None ≡ first_double [] (zip poms models)
  unfolding first_double
  no_pom looked none = ap (λ l. first_double looked.before (zip l (drop at models))) (sym none) ∙ looked.same

  pub no_model : Looked paths poms models at → None ≡ slice_get models at → None ≡ first_double [] (zip poms models)
  unfolding first_double
  no_model looked gone = sym (ap (λ l. first_double looked.before l) (empty (drop at poms))) ∙ ap (λ l. first_double looked.before (zip (drop at poms) l)) (sym (drop_all at models (none_low models at gone))) ∙ looked.same
    where
      empty : (l : List ProjectPom) → ◌≡◌ {A = List Module} (zip l []) []
      empty [] = refl
      empty (p ∷ l) = refl
