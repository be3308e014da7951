-- Modules that are looked for among those of their artifact.
use Rattle.std.proofs.Common.{◌≡◌, ℕ, suc, ◌+◌, Bool, true, false, ◌&&◌, List, [], ◌∷◌, Option, None, Some, slice_get, refl, ap, sym, subst, ◌∙◌, arith, if◌then◌else◌}
use Rattle.std.specs.Prelude.{filter}
use Rattle.std.specs.Option.{option_map_or}
use Rattle.mvn_base.specs.declared.gav.Gav.{Gav}
use Rattle.model_types.specs.declared.model.Model.{Model}
use Rattle.reactor.specs.Index.{passes_at}
use Rattle.reactor.specs.Naming.{is_named, named}
use Rattle.reactor.specs.Numbers.{has_artifact, numbers_from, numbers_where}

true_false : {A : Type 0} → true ≡ false → A
true_false e = cc

-- of the modules that pass one test, those that pass a narrower one
kept_from : (all : List Model) (wide narrow : Gav → Bool) → ((gav : Gav) → narrow gav ≡ true → wide gav ≡ true) → (n : ℕ) (modules : List Model) → ((i : ℕ) → slice_get all (n + i) ≡ slice_get modules i)
    → filter (passes_at all narrow) (numbers_from wide n modules) ≡ numbers_from narrow n modules
kept_from all wide narrow within n [] here = refl
kept_from all wide narrow within n (m ∷ modules) here =
    by (kept_from all wide narrow within (suc n) modules (λ i. let one : suc n + i ≡ n + suc i = omega arith in ap (slice_get all) one ∙ here (suc i))) (wide m.gav) (narrow m.gav) refl refl
  where
    zero_more : n + 0 ≡ n
    zero_more = omega arith

    at : passes_at all narrow n ≡ narrow m.gav
    at = ap (λ k. passes_at all narrow k) (sym zero_more) ∙ ap (λ o. option_map_or (λ (x : Model). narrow x.gav) o false) (here 0)

    by : filter (passes_at all narrow) (numbers_from wide (suc n) modules) ≡ numbers_from narrow (suc n) modules → (w s : Bool) → wide m.gav ≡ w → narrow m.gav ≡ s
        → filter (passes_at all narrow) (if w then n ∷ numbers_from wide (suc n) modules else numbers_from wide (suc n) modules) ≡ (if s then n ∷ numbers_from narrow (suc n) modules else numbers_from narrow (suc n) modules)
    by rest true true ew es = ap (λ b. if b then n ∷ filter (passes_at all narrow) (numbers_from wide (suc n) modules) else filter (passes_at all narrow) (numbers_from wide (suc n) modules)) (at ∙ es) ∙ ap (λ l. n ∷ l) rest
    by rest true false ew es = ap (λ b. if b then n ∷ filter (passes_at all narrow) (numbers_from wide (suc n) modules) else filter (passes_at all narrow) (numbers_from wide (suc n) modules)) (at ∙ es) ∙ rest
    by rest false true ew es = true_false (sym (within m.gav es) ∙ ew)
    by rest false false ew es = rest

and_left : (a b : Bool) → (a && b) ≡ true → a ≡ true
and_left true b e = refl
and_left false b e = cc

pub kept_are_named : (modules : List Model) (group artifact : List ℕ) (version : Option (List ℕ))
    → filter (passes_at modules (is_named group artifact version)) (numbers_where (has_artifact artifact) modules) ≡ named modules group artifact version
unfolding named
kept_are_named modules group artifact version = kept_from modules (has_artifact artifact) (is_named group artifact version) (λ gav is. and_left _ _ is) 0 modules (λ i. let same : 0 + i ≡ i = omega arith in ap (slice_get modules) same)
