-- Places and marks behind edges, one edge more.
use Rattle.std.proofs.Common.{◌≡◌, ℕ, ◌+◌, ◌<◌, ◌⊎◌, inl, inr, Bool, true, ◌||◌, nat_eq, List, length, take, get_or, sym, subst, ◌∙◌}
use Rattle.std.proofs.lemmas.Bool.{cases_eq, eqb-true, or_cases}
use Rattle.std.proofs.lemmas.List.Folds.{list_any_more}
use Rattle.event_core.specs.declared.progress_edges.Edge.{Edge}
use Rattle.event_core.specs.Fronts.{IsBefore, IsFirst, is_touched}
use Rattle.event_core.proofs.Fronts.{first_before}

module _ (edges : List Edge) (at : ℕ) (low : at < length edges) (d : Edge) where
  abbrev edge : Edge
  edge = get_or edges at d

  touched_more : (k : ℕ) → is_touched k (take (at + 1) edges) ≡ (is_touched k (take at edges) || nat_eq edge.«module» k)
  touched_more k = list_any_more (λ (x : Edge). nat_eq x.«module» k) edges at d low

  -- touched by an edge before, or by this one
  touched_split : (k : ℕ) → is_touched k (take (at + 1) edges) ≡ true → (is_touched k (take at edges) ≡ true) ⊎ (k ≡ edge.«module»)
  touched_split k is = by (or_cases (is_touched k (take at edges)) (nat_eq edge.«module» k) (sym (touched_more k) ∙ is))
    where
      by : (is_touched k (take at edges) ≡ true) ⊎ (nat_eq edge.«module» k ≡ true) → (is_touched k (take at edges) ≡ true) ⊎ (k ≡ edge.«module»)
      by (inl before) = inl before
      by (inr here) = inr (sym (eqb-true edge.«module» k here))

  pub advanced : (p : ℕ → Bool) (up places new : List ℕ) (k old : ℕ)
      → ((j : ℕ) → (j ≡ edge.«module» → ⊥) → get_or new j 0 ≡ get_or places j 0)
      → (k ≡ edge.«module» → IsBefore p up (get_or places k 0) → IsFirst p up (get_or new k 0))
      → IsBefore p up (get_or places k 0) × ((is_touched k (take at edges) ≡ true) ⊎ IsFirst p up old → IsFirst p up (get_or places k 0))
      → IsBefore p up (get_or new k 0) × ((is_touched k (take (at + 1) edges) ≡ true) ⊎ IsFirst p up old → IsFirst p up (get_or new k 0))
  advanced p up places new k old others here before = by (cases_eq k edge.«module»)
    where
      by : (k ≡ edge.«module») ⊎ (k ≡ edge.«module» → ⊥) → IsBefore p up (get_or new k 0) × ((is_touched k (take (at + 1) edges) ≡ true) ⊎ IsFirst p up old → IsFirst p up (get_or new k 0))
      by (inl same) = let first = here same before.0 in (first_before p up (get_or new k 0) first, λ any. first)
      by (inr other) =
          let e = others k other in
          (subst (IsBefore p up) (sym e) before.0, λ any. subst (IsFirst p up) (sym e) (before.1 (back any)))
        where
          back : (is_touched k (take (at + 1) edges) ≡ true) ⊎ IsFirst p up old → (is_touched k (take at edges) ≡ true) ⊎ IsFirst p up old
          back (inr first) = inr first
          back (inl is) = pick (touched_split k is)
            where
              pick : (is_touched k (take at edges) ≡ true) ⊎ (k ≡ edge.«module») → (is_touched k (take at edges) ≡ true) ⊎ IsFirst p up old
              pick (inl was) = inl was
              pick (inr here) = absurd (other here)

  pub marked_on : (k : ℕ) (old now new wanted : Bool)
      → (k ≡ edge.«module» → new ≡ wanted) → ((k ≡ edge.«module» → ⊥) → new ≡ now)
      → ((is_touched k (take at edges) ≡ true) ⊎ (old ≡ wanted) → now ≡ wanted)
      → (is_touched k (take (at + 1) edges) ≡ true) ⊎ (old ≡ wanted) → new ≡ wanted
  marked_on k old now new wanted here others before any = by (cases_eq k edge.«module») any
    where
      by : (k ≡ edge.«module») ⊎ (k ≡ edge.«module» → ⊥) → (is_touched k (take (at + 1) edges) ≡ true) ⊎ (old ≡ wanted) → new ≡ wanted
      by (inl same) any = here same
      by (inr other) (inr was) = others other ∙ before (inr was)
      by (inr other) (inl is) = pick (touched_split k is)
        where
          pick : (is_touched k (take at edges) ≡ true) ⊎ (k ≡ edge.«module») → new ≡ wanted
          pick (inl was) = others other ∙ before (inl was)
          pick (inr here) = absurd (other here)
