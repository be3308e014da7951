-- What a POM's dependencies lead to where none of them is managed and nothing is left out.
use Rattle.std.proofs.Common.{◌≡◌, ℕ, ◌+◌, Bool, true, false, not, ◌&&◌, ◌||◌, List, [], ◌∷◌, ◌++◌, Option, Some, None, is_some, refl, sym, ap, ◌∙◌, if◌then◌else◌}
use Rattle.std.specs.List.{list_any}
use Rattle.std.proofs.lemmas.Bool.{false≢true}
use Rattle.mvn_base.specs.declared.key.Key.{Key}
use Rattle.model_types.specs.declared.dependency.Dependency.{Dependency}
use Rattle.model_types.specs.declared.dependency.Exclusion.{Exclusion}
use Rattle.managed_deps.specs.Managed.{find_pair, key_of}
use Rattle.collector.specs.declared.edge.Edge.{Edge}
use Rattle.collector.specs.Edges.{by_management, edge_below, edges_from, is_excluded, is_kept, plain_edge, stated_edge, transitive_edge, transitive_edges}

-- neither of two
neither : (a b : Bool) → (a || b) ≡ false → (a ≡ false) × (b ≡ false)
neither true b e = absurd (false≢true (sym e))
neither false b e = (refl, e)

module _ (managed : List (Key × Dependency)) where
  -- whether an edge's key is managed
  abbrev is_managed : Edge → Bool
  is_managed e = is_some (find_pair managed e.key)

  -- a declaration that isn't managed leads to what it does where nothing is
  plain : (d : Dependency) (at : ℕ) → is_managed (edge_below at d [] []) ≡ false → edge_below at d managed [] ≡ edge_below at d [] []
  unfolding stated_edge
  plain d at free = by (find_pair managed (key_of d)) free
    where
      by : (o : Option Dependency) → is_some o ≡ false → by_management at d [] o ≡ plain_edge at (key_of d) d []
      by None e = refl
      by (Some m) e = absurd (false≢true (sym e))

  -- a declaration before others
  before : (d : Dependency) (at : ℕ) (one more : List Edge) (kept : Bool) → is_kept d ≡ kept
      → (list_any is_managed more ≡ false → one ≡ more)
      → list_any is_managed ((if kept && not (is_excluded [] d) then edge_below at d [] [] ∷ [] else []) ++ more) ≡ false
      → (if kept && not (is_excluded [] d) then edge_below at d managed [] ∷ [] else []) ++ one
      ≡ (if kept && not (is_excluded [] d) then edge_below at d [] [] ∷ [] else []) ++ more
  before d at one more false is further free = further free
  before d at one more true is further free =
      let both = neither (is_managed (edge_below at d [] [])) (list_any is_managed more) free in
      ap (λ e. e ∷ one) (plain d at both.0) ∙ ap (λ l. edge_below at d [] [] ∷ l) (further both.1)

  -- so do all
  plain_from : (ds : List Dependency) (at : ℕ) → list_any is_managed (edges_from (transitive_edge [] []) at ds) ≡ false
      → edges_from (transitive_edge managed []) at ds ≡ edges_from (transitive_edge [] []) at ds
  plain_from [] at free = refl
  plain_from (d ∷ ds) at free =
      before d at (edges_from (transitive_edge managed []) (at + 1) ds) (edges_from (transitive_edge [] []) (at + 1) ds) (is_kept d) refl
      (plain_from ds (at + 1)) free

-- all that a POM declares
pub all_plain : (managed : List (Key × Dependency)) (dependencies : List Dependency) (cut : List Exclusion) (edges : List Edge)
    → edges ≡ transitive_edges dependencies [] [] → cut ≡ [] → list_any (λ e. is_some (find_pair managed e.key)) edges ≡ false
    → edges ≡ transitive_edges dependencies managed cut
all_plain managed dependencies cut edges is none free =
    is ∙ sym (plain_from managed dependencies 0 (sym (ap (list_any (λ e. is_some (find_pair managed e.key))) is) ∙ free))
    ∙ ap (transitive_edges dependencies managed) (sym none)
