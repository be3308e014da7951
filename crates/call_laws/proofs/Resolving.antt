-- What the dependencies of a project's modules lead to is one list, or one refusal.
use Rattle.std.proofs.Common.{◌≡◌, ◌<◌, ℕ, zero, suc, Bool, true, false, List, [], ◌∷◌, nat_lt, take, slice_get, Option, None, Some, unwrap_or, Ok, Err, Result, refl, sym, ap, subst, ◌∙◌, arith}
use Rattle.std.proofs.lemmas.Bool.Decides.{nat_tests}
use Rattle.mvn_base.specs.declared.refusal.Refusal.{Refusal}
use Rattle.model_types.specs.declared.model.Model.{Model}
use Rattle.classpaths.specs.declared.resolution.Resolution.{Resolution}
use Rattle.mediation.specs.Libraries.{Libraries}
use Rattle.mediation.specs.declared.fault.MediationFault.TheVariants as reasons
use Rattle.model_resolver.specs.declared.resolver.ProjectPom.{ProjectPom}
use Rattle.pom_source.specs.declared.fault.BuildFault.{BuildFault}
use Rattle.pom_source.specs.declared.fault.BuildFault.TheVariants.{Refused, Absent, Source, Memory}
use Rattle.project_libraries.specs.Resolving.{AreResolved, IsFirstRefused, IsRefused, MediatesModule, Resolves, managed_by, refused_at}
use Rattle.resolution.proofs.Single.{apart, one, refused}

none_some : {A : Type 0} (x : A) → ◌≡◌ {A = Option A} None (Some x) → ⊥
none_some x e = cc

-- the item at a place of the first ones is that of all
taken : (xs : List Model) (n k : ℕ) (x : Model) → k < n → slice_get xs k ≡ Some x → slice_get (take n xs) k ≡ Some x
taken xs zero k x low is = absurd (omega (arith, low))
taken [] (suc n) k x low is = absurd (none_some x is)
taken (y ∷ xs) (suc n) zero x low is = is
taken (y ∷ xs) (suc n) (suc k) x low is = taken xs n k x (omega (arith, low)) is

module _ (libraries : Libraries) where
  abbrev Comes : Model → Resolution → Type 0
  Comes m r = MediatesModule libraries m (Ok r)

  -- each of the modules is resolved
  resolved_at : (models : List Model) (rs : List Resolution) (k : ℕ) (m : Model) → AreResolved libraries models rs → slice_get models k ≡ Some m → (r : Resolution) × Comes m r
  resolved_at [] [] k m all is = absurd (none_some m is)
  resolved_at [] (r ∷ rs) k m all is = absurd (none_some m is)
  resolved_at (x ∷ models) [] k m all is = absurd all
  resolved_at (x ∷ models) (r ∷ rs) zero m all is = (r, subst (λ y. Comes y r) (ap (λ o. unwrap_or o x) is) all.0)
  resolved_at (x ∷ models) (r ∷ rs) (suc k) m all is = resolved_at models rs k m all.1 is

  same_resolutions : (models : List Model) (one_list other : List Resolution) → AreResolved libraries models one_list → AreResolved libraries models other → one_list ≡ other
  same_resolutions [] [] [] all too = refl
  same_resolutions [] [] (s ∷ ss) all too = absurd too
  same_resolutions [] (r ∷ rs) ss all too = absurd all
  same_resolutions (m ∷ models) [] ss all too = absurd all
  same_resolutions (m ∷ models) (r ∷ rs) [] all too = absurd too
  same_resolutions (m ∷ models) (r ∷ rs) (s ∷ ss) all too =
      let head = one libraries (managed_by m) m.base.dependencies r s all.0 too.0 in
      let rest = same_resolutions models rs ss all.1 too.1 in
      λ i. head i ∷ rest i

  -- a module that is resolved isn't refused
  not_both : (pom : ProjectPom) (m : Model) (r : Resolution) (refusal : Refusal) → Comes m r → IsRefused libraries pom m refusal → ⊥
  not_both pom m r refusal comes is = apart libraries (managed_by m) m.base.dependencies r is.rule is.place comes is.mediates

  module _ (poms : List ProjectPom) (models : List Model) where
    none_refused : (rs : List Resolution) (refusal : Refusal) → AreResolved libraries models rs → IsFirstRefused libraries poms models refusal → ⊥
    none_refused rs refusal all is =
        let there = resolved_at models rs is.at is.model all is.is_model in
        not_both is.pom is.model there.0 refusal there.1 is.refused

    -- no module before the first that is refused is
    not_before : (x y : Refusal) (a : IsFirstRefused libraries poms models x) (b : IsFirstRefused libraries poms models y) → a.at < b.at → ⊥
    not_before x y a b low =
        let there = resolved_at (take b.at models) b.before a.at a.model b.resolved (taken models b.at a.at a.model low a.is_model) in
        not_both a.pom a.model there.0 x there.1 a.refused

    same_place : (x y : Refusal) (a : IsFirstRefused libraries poms models x) (b : IsFirstRefused libraries poms models y) → a.at ≡ b.at
    same_place x y a b = by (nat_lt a.at b.at) refl (nat_lt b.at a.at) refl
      where
        by : (p : Bool) → nat_lt a.at b.at ≡ p → (q : Bool) → nat_lt b.at a.at ≡ q → a.at ≡ b.at
        by true low q _ = absurd (not_before x y a b (grind (arith, nat_tests, low)))
        by false _ true low = absurd (not_before y x b a (grind (arith, nat_tests, low)))
        by false least false other = grind (arith, nat_tests, least, other)

    same_refused : (x y : Refusal) (pom other : ProjectPom) (m n : Model) → IsRefused libraries pom m x → IsRefused libraries other n y → pom ≡ other → m ≡ n → x ≡ y
    same_refused x y pom other m n a b same_pom same_model =
        let first = subst (λ k. MediatesModule libraries k (Err (reasons.Refused a.rule a.place))) same_model a.mediates in
        let same = refused libraries (managed_by n) n.base.dependencies a.rule b.rule a.place b.place first b.mediates in
        a.is ∙ (λ i. refused_at (same_pom i) (same.0 i) (same.1 i)) ∙ sym b.is

    same_refusal : (x y : Refusal) → IsFirstRefused libraries poms models x → IsFirstRefused libraries poms models y → x ≡ y
    same_refusal x y a b =
        let at = same_place x y a b in
        let pom : a.pom ≡ b.pom = ap (λ o. unwrap_or o a.pom) (sym a.is_pom ∙ ap (slice_get poms) at ∙ b.is_pom) in
        let model : a.model ≡ b.model = ap (λ o. unwrap_or o a.model) (sym a.is_model ∙ ap (slice_get models) at ∙ b.is_model) in
        same_refused x y a.pom b.pom a.model b.model a.refused b.refused pom model

    -- what is said of the modules' dependencies is one
    abbrev Told : Result (List Resolution) BuildFault → Type 0
    Told answer = (answer ≡ Err Source → ⊥) × (answer ≡ Err Memory → ⊥)

    pub one_resolved : (a b : Result (List Resolution) BuildFault) → Resolves libraries poms models a → Resolves libraries poms models b → Told a → Told b → a ≡ b
    one_resolved (Err Absent) b is too told told_too = absurd is
    one_resolved (Err Source) b is too told told_too = absurd (told.0 refl)
    one_resolved (Err Memory) b is too told told_too = absurd (told.1 refl)
    one_resolved (Ok x) (Err Absent) is too told told_too = absurd too
    one_resolved (Ok x) (Err Source) is too told told_too = absurd (told_too.0 refl)
    one_resolved (Ok x) (Err Memory) is too told told_too = absurd (told_too.1 refl)
    one_resolved (Err (Refused x)) (Err Absent) is too told told_too = absurd too
    one_resolved (Err (Refused x)) (Err Source) is too told told_too = absurd (told_too.0 refl)
    one_resolved (Err (Refused x)) (Err Memory) is too told told_too = absurd (told_too.1 refl)
    one_resolved (Ok x) (Ok y) is too told told_too = ap (λ z. Ok z) (same_resolutions models x y is too)
    one_resolved (Ok x) (Err (Refused y)) is too told told_too = absurd (none_refused x y is too)
    one_resolved (Err (Refused x)) (Ok y) is too told told_too = absurd (none_refused y x too is)
    one_resolved (Err (Refused x)) (Err (Refused y)) is too told told_too = ap (λ z. Err (Refused z)) (same_refusal x y is too)
