-- A place has one widest scope.
use Rattle.std.proofs.Common.{◌≡◌, ℕ, zero, suc, List, Option, Some, None, refl, sym, ap, ◌∙◌, arith}
use Rattle.collector.specs.declared.scope.Scope.{Scope}
use Rattle.collector.specs.declared.scope.Scope.TheVariants.{Compile, Provided, Runtime, Test}
use Rattle.resolution.specs.declared.link.Link.{Link}
use Rattle.resolution.specs.Walks.{IsWidest, rank}

abbrev ranked : ℕ → Scope
ranked zero = Compile
ranked (suc zero) = Runtime
ranked (suc (suc zero)) = Provided
ranked (suc (suc (suc n))) = Test

back : (s : Scope) → ranked (rank s) ≡ s
back Compile = refl
back Runtime = refl
back Provided = refl
back Test = refl

same_rank : (a b : Scope) → rank a ≡ rank b → a ≡ b
same_rank a b is = sym (back a) ∙ ap ranked is ∙ back b

pub one_scope : (starts : List Link) (below : List (List Link)) (place : ℕ) (a b : Option Scope) → IsWidest starts below place a → IsWidest starts below place b → a ≡ b
one_scope starts below place None None no_walk none = refl
one_scope starts below place None (Some b) no_walk there = absurd (no_walk b there.0)
one_scope starts below place (Some a) None there no_walk = absurd (no_walk a there.0)
one_scope starts below place (Some a) (Some b) first second =
    ap Some (same_rank a b (omega (arith, first.1 b second.0, second.1 a first.0)))
