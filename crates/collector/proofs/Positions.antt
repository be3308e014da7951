-- The edges of a POM stand in the order of its declarations.
use Rattle.std.proofs.Common.{◌≡◌, ◌⊎◌, inl, inr, ℕ, zero, suc, ◌<◌, ◌≤◌, ◌+◌, Bool, true, false, not, ◌&&◌, List, [], ◌∷◌, ◌++◌, length, slice_index_or, Option, Some, None, refl, sym, subst, arith, if◌then◌else◌}
use Rattle.std.specs.Bool.{⊤}
use Rattle.std.proofs.lemmas.List.Kept.{AllPairs-cons}
use Rattle.mvn_base.specs.declared.key.Key.{Key}
use Rattle.model_types.specs.declared.dependency.Dependency.{Dependency}
use Rattle.model_types.specs.declared.dependency.Exclusion.{Exclusion}
use Rattle.managed_deps.specs.Managed.{find_pair, key_of}
use Rattle.collector.specs.declared.edge.Edge.{Edge}
use Rattle.collector.specs.Edges.{by_management, direct_edge, direct_edges, edges_from, is_excluded, is_kept, stated_edge, transitive_edge, transitive_edges}
use Rattle.collector.specs.Winners.{Ascends}

abbrev EachOf : (Edge → Type 0) → List Edge → Type 0
EachOf P [] = ⊤
EachOf P (x ∷ xs) = P x × EachOf P xs

abbrev Climbs : List Edge → Type 0
Climbs [] = ⊤
Climbs (x ∷ xs) = EachOf (λ g. x.position < g.position) xs × Climbs xs

each_of_map : (P Q : Edge → Type 0) (xs : List Edge) → ((x : Edge) → P x → Q x) → EachOf P xs → EachOf Q xs
each_of_map P Q [] f all = all
each_of_map P Q (x ∷ xs) f all = (f x all.0, each_of_map P Q xs f all.1)

-- an edge of a place, or none
abbrev IsOne : ℕ → List Edge → Type 0
IsOne at edges = (edges ≡ []) ⊎ ((e : Edge) × (edges ≡ e ∷ []) × (e.position ≡ at))

module _ (f : ℕ → Dependency → List Edge) (one : (at : ℕ) (d : Dependency) → IsOne at (f at d)) where
  low : (at : ℕ) (ds : List Dependency) → EachOf (λ e. at ≤ e.position) (edges_from f at ds)
  low at [] = tt
  low at (d ∷ ds) = by (f at d) (one at d) (each_of_map (λ e. at + 1 ≤ e.position) (λ e. at ≤ e.position) (edges_from f (at + 1) ds) (λ e le. omega arith) (low (at + 1) ds))
    where
      by : (edges : List Edge) → IsOne at edges → EachOf (λ e. at ≤ e.position) (edges_from f (at + 1) ds) → EachOf (λ e. at ≤ e.position) (edges ++ edges_from f (at + 1) ds)
      by edges (inl is) rest = subst (λ l. EachOf (λ e. at ≤ e.position) (l ++ edges_from f (at + 1) ds)) (sym is) rest
      by edges (inr (e, is, place)) rest = subst (λ l. EachOf (λ e. at ≤ e.position) (l ++ edges_from f (at + 1) ds)) (sym is) (omega (arith, place), rest)

  climbs : (at : ℕ) (ds : List Dependency) → Climbs (edges_from f at ds)
  climbs at [] = tt
  climbs at (d ∷ ds) = by (f at d) (one at d) (low (at + 1) ds) (climbs (at + 1) ds)
    where
      by : (edges : List Edge) → IsOne at edges → EachOf (λ e. at + 1 ≤ e.position) (edges_from f (at + 1) ds) → Climbs (edges_from f (at + 1) ds) → Climbs (edges ++ edges_from f (at + 1) ds)
      by edges (inl is) above rest = subst (λ l. Climbs (l ++ edges_from f (at + 1) ds)) (sym is) rest
      by edges (inr (e, is, place)) above rest =
          subst (λ l. Climbs (l ++ edges_from f (at + 1) ds)) (sym is)
          (each_of_map (λ g. at + 1 ≤ g.position) (λ g. e.position < g.position) (edges_from f (at + 1) ds) (λ g le. omega (arith, place, le)) above, rest)

each_of_is : (P : Edge → Type 0) (xs : List Edge) → EachOf P xs → (k : ℕ) (d : Edge) → k < length xs → P (slice_index_or xs k d)
each_of_is P [] all k d lt = absurd (omega arith)
each_of_is P (x ∷ xs) all zero d lt = all.0
each_of_is P (x ∷ xs) all (suc k) d lt = each_of_is P xs all.1 k d (omega arith)

ascends : (xs : List Edge) → Climbs xs → Ascends xs
ascends [] all = λ i j d lt within. absurd (omega arith)
ascends (x ∷ xs) all = AllPairs-cons (λ e f. e.position < f.position) x xs (each_of_is (λ g. x.position < g.position) xs all.0) (ascends xs all.1)

place_of : (position : ℕ) (key : Key) (version scope : Option (List ℕ)) (managed : Bool) (cut : List Exclusion) → (stated_edge position key version scope managed cut).position ≡ position
unfolding stated_edge
place_of position key version scope managed cut = refl

place_below : (position : ℕ) (d : Dependency) (cut : List Exclusion) (o : Option Dependency) → (by_management position d cut o).position ≡ position
place_below position d cut None = place_of position (key_of d) d.version d.scope false (cut ++ d.exclusions)
place_below position d cut (Some m) = place_of _ _ _ _ _ _

direct_one : (at : ℕ) (d : Dependency) → IsOne at (direct_edge at d ∷ [])
direct_one at d = inr (direct_edge at d, refl, place_of at (key_of d) d.version d.scope false d.exclusions)

transitive_one : (managed : List (Key × Dependency)) (cut : List Exclusion) (at : ℕ) (d : Dependency) → IsOne at (transitive_edge managed cut at d)
transitive_one managed cut at d = by (is_kept d && not (is_excluded cut d))
  where
    by : (b : Bool) → IsOne at (if b then by_management at d cut (find_pair managed (key_of d)) ∷ [] else [])
    by true = inr (by_management at d cut (find_pair managed (key_of d)), refl, place_below at d cut (find_pair managed (key_of d)))
    by false = inl refl

pub direct_ascends : (ds : List Dependency) → Ascends (direct_edges ds)
direct_ascends ds = ascends (direct_edges ds) (climbs (λ at d. direct_edge at d ∷ []) direct_one 0 ds)

pub transitive_ascends : (ds : List Dependency) (managed : List (Key × Dependency)) (cut : List Exclusion) → Ascends (transitive_edges ds managed cut)
transitive_ascends ds managed cut = ascends (transitive_edges ds managed cut) (climbs (transitive_edge managed cut) (transitive_one managed cut) 0 ds)
