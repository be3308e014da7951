-- What winners come to is one.
use Rattle.std.proofs.Common.{◌≡◌, ◌≤◌, ◌<◌, ◌+◌, ℕ, zero, suc, List, [], ◌∷◌, ◌++◌, flat_map, get_or, slice_get, Option, Some, None, refl, sym, ap, ◌∙◌, arith}
use Rattle.mvn_base.specs.declared.key.Key.{Key}
use Rattle.model_types.specs.declared.dependency.Dependency.{Dependency}
use Rattle.classpaths.specs.declared.resolution.Resolution.{Resolution}
use Rattle.classpaths.specs.declared.resolution.Resolved.{Resolved}
use Rattle.collector.specs.declared.edge.Edge.{Edge}
use Rattle.collector.specs.declared.scope.Scope.{Scope}
use Rattle.collector.specs.declared.scope.Scope.TheVariants.{Compile, Provided, Runtime, Test}
use Rattle.resolution.specs.Walks.{rank}
use Rattle.mediation.specs.Libraries.{Libraries, graph_of}
use Rattle.mediation.specs.Rows.{IsWhole, paths_of}
use Rattle.mediation.specs.declared.winner.Winner.{Winner}
use Rattle.mediation.proofs.Places.{path_at}
use Rattle.resolution.specs.Resolved.{AreScopes, IsMade, resolved_at, resolved_row, tree_order}
use Rattle.collector.specs.Winners.{Graph, Path}
use Rattle.resolution.specs.Scopes.{IsScope}

-- the scope of a rank
abbrev of_rank : ℕ → Scope
of_rank zero = Compile
of_rank (suc zero) = Runtime
of_rank (suc (suc zero)) = Provided
of_rank (suc (suc (suc n))) = Test

its_rank : (scope : Scope) → of_rank (rank scope) ≡ scope
its_rank Compile = refl
its_rank Runtime = refl
its_rank Provided = refl
its_rank Test = refl

-- two scopes of which neither is wider are one
neither_wider : (s t : Scope) → rank s ≤ rank t → rank t ≤ rank s → s ≡ t
neither_wider s t low high =
    let same : rank s ≡ rank t = omega (arith, low, high) in
    sym (its_rank s) ∙ ap of_rank same ∙ its_rank t

-- a winner has one scope
one_scope : (graph : Graph) (won : List Path) (e : Edge) (path : Path) (s t : Scope) → IsScope graph won (e ∷ path) s → IsScope graph won (e ∷ path) t → s ≡ t
one_scope graph won e [] s t is other = is ∙ sym other
one_scope graph won e (f ∷ path) s t is other = neither_wider s t (is.1 t other.0) (other.1 s is.0)

same_mapped : (f g : ℕ → List Resolved) → ((n : ℕ) → f n ≡ g n) → (places : List ℕ) → flat_map f places ≡ flat_map g places
same_mapped f g same [] = refl
same_mapped f g same (n ∷ places) = ap (λ l. l ++ flat_map f places) (same n) ∙ ap (λ l. g n ++ l) (same_mapped f g same places)

module _ (libraries : Libraries) (managed : List (Key × Dependency)) (direct : List Dependency) (rows : List Winner) where
  -- so each winner is resolved in one way
  same_at : (scopes others : List Scope) → AreScopes libraries managed direct rows scopes → AreScopes libraries managed direct rows others
      → (place : ℕ) → resolved_at rows scopes place ≡ resolved_at rows others place
  same_at scopes others are too place = by (slice_get rows place) refl
    where
      by : (o : Option Winner) → slice_get rows place ≡ o → resolved_row (get_or scopes place Test) o ≡ resolved_row (get_or others place Test) o
      by None none = refl
      by (Some w) got =
          let there = path_at rows place w got in
          let path = w.edge ∷ there.0 in
          ap (λ s. resolved_row s (Some w))
          (one_scope (graph_of libraries managed direct) (paths_of rows) w.edge there.0 (get_or scopes place Test) (get_or others place Test) (are place path there.1) (too place path there.1))

  -- what all winners come to is one
  pub one_made : (one other : Resolution) → IsWhole libraries (graph_of libraries managed direct) rows → IsMade managed direct rows one → IsMade managed direct rows other → one ≡ other
  one_made one other whole made too =
      let same = same_at made.scopes too.scopes (made.widest libraries whole) (too.widest libraries whole) in
      let winners : one.winners ≡ other.winners = made.winners ∙ same_mapped (resolved_at rows made.scopes) (resolved_at rows too.scopes) same (tree_order rows) ∙ sym too.winners in
      let notes : one.notes ≡ other.notes = made.notes ∙ sym too.notes in
      λ i. record { winners = winners i; notes = notes i }
