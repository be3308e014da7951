-- The modules that a plan is made from are one list.
use Rattle.std.proofs.Common.{◌≡◌, ℕ, zero, suc, List, [], ◌∷◌, get_or, length, slice_get, Option, Some, unwrap_or, refl, sym, ap, ◌∙◌, arith}
use Rattle.goal_types.specs.declared.goal.SourceFile.{SourceFile}
use Rattle.model_types.specs.declared.model.Model.{Model}
use Rattle.classpaths.specs.declared.resolution.Resolution.{Resolution}
use Rattle.model_resolver.specs.declared.resolver.ProjectPom.{ProjectPom}
use Rattle.reactor.specs.declared.modules.ReactorModules.{ReactorModules}
use Rattle.module_plan.specs.declared.selected.SelectedModule.{SelectedModule}
use Rattle.built_modules.specs.Selected.{AreModules, IsModule}

-- two things at one place are one
at_once : {A : Type 0} (x y : A) (o : Option A) → o ≡ Some x → o ≡ Some y → x ≡ y
at_once x y o is too = ap (λ p. unwrap_or p x) (sym is ∙ too)

-- lists of one length whose items at each place are one are one
same_items : (xs ys : List SelectedModule) → length xs ≡ length ys
    → ((k : ℕ) (x y : SelectedModule) → slice_get xs k ≡ Some x → slice_get ys k ≡ Some y → x ≡ y) → xs ≡ ys
same_items [] [] long same = refl
same_items [] (y ∷ ys) long same = absurd (omega (arith, long))
same_items (x ∷ xs) [] long same = absurd (omega (arith, long))
same_items (x ∷ xs) (y ∷ ys) long same =
    let head = same zero x y refl refl in
    let rest = same_items xs ys (omega (arith, long)) (λ k v w is too. same (suc k) v w is too) in
    λ i. head i ∷ rest i

module _ (poms : List ProjectPom) (models : List Model) (resolutions : List Resolution) (built : ReactorModules) (sources : List (List SourceFile)) where
  same_module : (number : ℕ) (x y : SelectedModule) → IsModule poms models resolutions number x → IsModule poms models resolutions number y
      → x.upstream ≡ y.upstream → x.sources ≡ y.sources → x ≡ y
  same_module number x y is too upstream files =
      let model = at_once x.model y.model (slice_get models number) is.model too.model in
      let pom : x.pom ≡ y.pom = is.text ∙ ap (λ (p : ProjectPom). p.bytes) (at_once is.pom too.pom (slice_get poms number) is.is_pom too.is_pom) ∙ sym too.text in
      let resolution = at_once x.resolution y.resolution (slice_get resolutions number) is.resolution too.resolution in
      λ i. record { model = model i; pom = pom i; resolution = resolution i; upstream = upstream i; sources = files i }

  pub one_selection : (a b : List SelectedModule) → AreModules poms models resolutions built sources a → AreModules poms models resolutions built sources b → a ≡ b
  one_selection a b is too =
      same_items a b (is.long ∙ sym too.long)
      (λ k x y at there.
      same_module (get_or built.numbers k 0) x y (is.each k x at) (too.each k y there)
      (at_once x.upstream y.upstream (slice_get built.upstreams k) (is.upstream k x at) (too.upstream k y there))
      (at_once x.sources y.sources (slice_get sources k) (is.source k x at) (too.source k y there)))
