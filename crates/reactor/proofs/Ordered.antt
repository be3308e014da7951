-- The modules of a project have one order, or one circle.
use Rattle.std.proofs.Common.{◌≡◌, ℕ, List, length, Result, Ok, Err, refl, sym, ap, ◌∙◌}
use Rattle.mvn_base.specs.declared.fault.ModelError.{ModelError}
use Rattle.mvn_base.specs.declared.fault.ModelError.TheVariants.{Refused, Memory}
use Rattle.mvn_base.specs.declared.refusal.Refusal.{Refusal}
use Rattle.model_types.specs.declared.model.Model.{Model}
use Rattle.classpaths.specs.declared.resolution.Resolution.{Resolution}
use Rattle.reactor.specs.Edges.{soft_edges}
use Rattle.reactor_order.specs.Cycle.{order}
use Rattle.reactor_order.specs.Graph.{Edges}
use Rattle.reactor_order.proofs.Single.{one_kept}
use Rattle.reactor.specs.Circles.{circle_refused}
use Rattle.reactor.specs.Ordering.{Answers}
use Rattle.reactor.specs.declared.ordering.BuildOrder.{BuildOrder}
use Rattle.reactor.specs.Reactor.{Orders}
use Rattle.reactor.specs.Upstreams.{firm_edges}

abbrev value_or : List ℕ → Result (List ℕ) (List ℕ) → List ℕ
value_or d (Ok x) = x
value_or d (Err y) = d

abbrev fault_or : List ℕ → Result (List ℕ) (List ℕ) → List ℕ
fault_or d (Ok x) = d
fault_or d (Err y) = y

ok_err : (x y : List ℕ) → ◌≡◌ {A = Result (List ℕ) (List ℕ)} (Ok x) (Err y) → ⊥
ok_err x y e = cc

module _ (modules : List Model) (firm soft : Edges) where
  -- an order has no circle
  no_circle : (found : BuildOrder) (refusal : Refusal) → Answers modules firm soft (Ok found) → Answers modules firm soft (Err (Refused refusal)) → ⊥
  no_circle found refusal is (kept, keeps, (circle, stuck, said)) =
      let same = one_kept firm soft found.edges kept is.0 keeps in
      ok_err found.order circle (sym is.1 ∙ ap (order (length modules)) same ∙ stuck)

  same_order : (x y : BuildOrder) → Answers modules firm soft (Ok x) → Answers modules firm soft (Ok y) → x ≡ y
  same_order x y is too =
      let edges = one_kept firm soft x.edges y.edges is.0 too.0 in
      let places : x.order ≡ y.order = ap (value_or x.order) (sym is.1 ∙ ap (order (length modules)) edges ∙ too.1) in
      λ i. record { edges = edges i; order = places i }

  same_refusal : (x y : Refusal) → Answers modules firm soft (Err (Refused x)) → Answers modules firm soft (Err (Refused y)) → x ≡ y
  same_refusal x y (kept, keeps, (circle, stuck, said)) (others, keeps_too, (around, stuck_too, said_too)) =
      let edges = one_kept firm soft kept others keeps keeps_too in
      let same : circle ≡ around = ap (fault_or circle) (sym stuck ∙ ap (order (length modules)) edges ∙ stuck_too) in
      said ∙ ap (circle_refused modules) same ∙ sym said_too

  one_of : (a b : Result BuildOrder ModelError) → Answers modules firm soft a → Answers modules firm soft b → (a ≡ Err Memory → ⊥) → (b ≡ Err Memory → ⊥) → a ≡ b
  one_of (Err Memory) b is too said said_too = absurd (said refl)
  one_of (Ok x) (Err Memory) is too said said_too = absurd (said_too refl)
  one_of (Err (Refused x)) (Err Memory) is too said said_too = absurd (said_too refl)
  one_of (Ok x) (Ok y) is too said said_too = ap (λ z. Ok z) (same_order x y is too)
  one_of (Ok x) (Err (Refused y)) is too said said_too = absurd (no_circle x y is too)
  one_of (Err (Refused x)) (Ok y) is too said said_too = absurd (no_circle y x too is)
  one_of (Err (Refused x)) (Err (Refused y)) is too said said_too = ap (λ z. Err (Refused z)) (same_refusal x y is too)

pub one_order : (modules : List Model) (resolutions : List Resolution) (a b : Result BuildOrder ModelError) → Orders modules resolutions a → Orders modules resolutions b
    → (a ≡ Err Memory → ⊥) → (b ≡ Err Memory → ⊥) → a ≡ b
one_order modules resolutions = one_of modules (firm_edges modules resolutions) (soft_edges modules)
