-- Modules of which no two have the same coordinates.
use Rattle.std.proofs.Common.{◌≡◌, ℕ, suc, Bool, true, false, List, [], ◌∷◌, ◌++◌, map, find, length, zip, Option, None, Some, option_map, refl, ap, subst}
use Rattle.std.specs.Prelude.{cond}
use Rattle.std.specs.List.{AllByRecursion, IsDistinct}
use Rattle.std.specs.Option.{option_or}
use Rattle.mvn_base.specs.declared.gav.Gav.{Gav}
use Rattle.model_types.specs.declared.model.Model.{Model}
use Rattle.mvn_base.specs.Gav.{gav_eq}
use Rattle.model_resolver.specs.declared.resolver.ProjectPom.{ProjectPom}
use Rattle.project_models.specs.Models.{double, first_double, path_of}
use Rattle.project_models.specs.declared.doubles.Double.{Double}

abbrev Module : Type 0
Module = ProjectPom × Model

abbrev gavs : List Module → List Gav
gavs modules = map (λ (m : Module). m.1.gav) modules

-- none of two
none_first : {A : Type 0} (a b : Option A) → option_or a b ≡ None → a ≡ None
none_first None b e = refl
none_first (Some x) b e = cc

none_second : {A : Type 0} (a b : Option A) → option_or a b ≡ None → b ≡ None
none_second None b e = e
none_second (Some x) b e = cc

none_mapped : {A B : Type 0} (f : A → B) (a : Option A) → option_map f a ≡ None → a ≡ None
none_mapped f None e = refl
none_mapped f (Some x) e = cc

-- whose coordinates none has, has others than each
none_has : (before : List Module) (gav : Gav) → path_of before gav ≡ None → AllByRecursion (λ g. gav_eq g gav ≡ false) (gavs before)
none_has [] gav e = tt
none_has (m ∷ before) gav e = by (none_has before gav) (gav_eq m.1.gav gav) refl e
  where
    by : (path_of before gav ≡ None → AllByRecursion (λ g. gav_eq g gav ≡ false) (gavs before)) → (same : Bool) → gav_eq m.1.gav gav ≡ same
        → option_map (λ (x : Module). x.0.path) (cond same (Some m) (find (λ (x : Module). gav_eq x.1.gav gav) before)) ≡ None
        → (gav_eq m.1.gav gav ≡ false) × AllByRecursion (λ g. gav_eq g gav ≡ false) (gavs before)
    by rest true is e = cc
    by rest false is e = (is, rest e)

-- each module after some has other coordinates than each of these
abbrev AllApart : List Module → List Module → Type 0
AllApart before after = AllByRecursion (λ (m : Module). AllByRecursion (λ g. gav_eq g m.1.gav ≡ false) (gavs before)) after

-- of the last of those before
last_of : (P : Gav → Type 0) (before : List Module) (m : Module) → AllByRecursion P (gavs (before ++ m ∷ [])) → P m.1.gav
last_of P [] m all = all.0
last_of P (b ∷ before) m all = last_of P before m all.1

last_apart : (before : List Module) (m : Module) (after : List Module) → AllApart (before ++ m ∷ []) after → AllByRecursion (λ g. gav_eq m.1.gav g ≡ false) (gavs after)
last_apart before m [] all = tt
last_apart before m (x ∷ after) all = (last_of (λ g. gav_eq g x.1.gav ≡ false) before m all.0, last_apart before m after all.1)

but_last : (P : Gav → Type 0) (before : List Module) (m : Module) → AllByRecursion P (gavs (before ++ m ∷ [])) → AllByRecursion P (gavs before)
but_last P [] m all = tt
but_last P (b ∷ before) m all = (all.0, but_last P before m all.1)

weaker : (before : List Module) (m : Module) (after : List Module) → AllApart (before ++ m ∷ []) after → AllApart before after
weaker before m [] all = tt
weaker before m (x ∷ after) all = (but_last (λ g. gav_eq g x.1.gav ≡ false) before m all.0, weaker before m after all.1)

-- without a double
are_apart : (before after : List Module) → first_double before after ≡ None → AllApart before after × IsDistinct gav_eq (gavs after)
unfolding first_double IsDistinct
are_apart before [] e = (tt, tt)
are_apart before (m ∷ after) e =
    let pair : List ℕ → Double = λ path. record { later = m.0.path; earlier = path } in
    let mine = none_mapped pair (path_of before m.1.gav) (none_first (double before m) (first_double (before ++ m ∷ []) after) e) in
    let rest = are_apart (before ++ m ∷ []) after (none_second (double before m) (first_double (before ++ m ∷ []) after) e) in
    ((none_has before m.1.gav mine, weaker before m after rest.0), (last_apart before m after rest.0, rest.1))

-- the coordinates of the models beside their POMs
zip_gavs : (poms : List ProjectPom) (models : List Model) → length models ≡ length poms → gavs (zip poms models) ≡ map (λ (m : Model). m.gav) models
zip_gavs [] [] e = refl
zip_gavs [] (m ∷ models) e = cc
zip_gavs (p ∷ poms) [] e = refl
zip_gavs (p ∷ poms) (m ∷ models) e = ap (λ l. m.gav ∷ l) (zip_gavs poms models (same_less (length models) (length poms) e))
  where
    same_less : (a b : ℕ) → suc a ≡ suc b → a ≡ b
    same_less a b e = cc

pub models_apart : (poms : List ProjectPom) (models : List Model) → length models ≡ length poms → first_double [] (zip poms models) ≡ None → IsDistinct gav_eq (map (λ (m : Model). m.gav) models)
models_apart poms models same none = subst (λ l. IsDistinct gav_eq l) (zip_gavs poms models same) (are_apart [] (zip poms models) none).1
