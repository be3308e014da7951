-- Winners that stay where they stood, and what the POMs of the first of them lead to.
use Rattle.std.proofs.Common.{◌≡◌, ◌≤◌, ◌<◌, ◌+◌, ℕ, zero, suc, List, [], ◌∷◌, ◌++◌, take, map, length, Option, Some, None, slice_get, unwrap_or, refl, sym, ap, subst, ◌∙◌, arith, append-nil, append_assoc}
use Rattle.mvn_base.specs.declared.key.Key.{Key}
use Rattle.model_types.specs.declared.dependency.Dependency.{Dependency}
use Rattle.collector.specs.declared.edge.Edge.{Edge}
use Rattle.mediation.specs.declared.winner.Winner.{Winner}
use Rattle.mediation.specs.Rows.{IsPrefix, edges_below}

-- all of them
pub whole : (rows : List Winner) → IsPrefix rows rows
whole rows = record { more = []; is = sym (append-nil rows) }

-- one more
pub pushed : (old new : List Winner) (w : Winner) → new ≡ old ++ w ∷ [] → IsPrefix old new
pushed old new w is = record { more = w ∷ []; is = is }

-- and more behind them
pub onward : {a b c : List Winner} → IsPrefix a b → IsPrefix b c → IsPrefix a c
onward {a} {b} {c} one two = record { more = one.more ++ two.more; is = two.is ∙ ap (λ l. l ++ two.more) one.is ∙ append_assoc a one.more two.more }

-- one winner stands at a place
pub same_winner : (v w : Winner) → ◌≡◌ {A = Option Winner} (Some v) (Some w) → v ≡ w
same_winner v w e = ap (λ o. unwrap_or o v) e

pub none_some : (w : Winner) → ◌≡◌ {A = Option Winner} None (Some w) → ⊥
none_some w e = cc

got_behind : (rows more : List Winner) (k : ℕ) (w : Winner) → slice_get rows k ≡ Some w → slice_get (rows ++ more) k ≡ Some w
got_behind [] more k w is = absurd (none is)
  where
    none : None ≡ Some w → ⊥
    none e = cc
got_behind (r ∷ rows) more zero w is = is
got_behind (r ∷ rows) more (suc k) w is = got_behind rows more k w is

got_none : (rows : List Winner) (k : ℕ) → slice_get rows k ≡ None → length rows ≤ k
got_none [] k is = omega arith
got_none (r ∷ rows) zero is = absurd (some is)
  where
    some : Some r ≡ None → ⊥
    some e = cc
got_none (r ∷ rows) (suc k) is = omega (arith, got_none rows k is)

take_past : (rows : List Winner) (k : ℕ) → length rows ≤ k → take k rows ≡ rows
take_past [] zero low = refl
take_past [] (suc k) low = refl
take_past (r ∷ rows) zero low = absurd (never (omega (arith, low)))
  where
    never : ⊥ → ⊥
    never x = x
take_past (r ∷ rows) (suc k) low = ap (λ l. r ∷ l) (take_past rows k (omega (arith, low)))

take_behind : (rows more : List Winner) → take (length rows) (rows ++ more) ≡ rows
take_behind [] more = refl
take_behind (r ∷ rows) more = ap (λ l. r ∷ l) (take_behind rows more)

take_next : {B : Type 0} (f : Winner → B) (rows : List Winner) (k : ℕ) (w : Winner) → slice_get rows k ≡ Some w → map f (take (suc k) rows) ≡ map f (take k rows) ++ f w ∷ []
take_next f [] k w is = absurd (none is)
  where
    none : None ≡ Some w → ⊥
    none e = cc
take_next f (r ∷ rows) zero w is = ap (λ o. f (unwrap_or o r) ∷ []) is
take_next f (r ∷ rows) (suc k) w is = ap (λ l. f r ∷ l) (take_next f rows k w is)

module _ (managed : List (Key × Dependency)) where
  -- what the POM of the next winner leads to
  pub next_below : (first rows : List Winner) (place : ℕ) (old new : List (List Edge)) (edges : List Edge) → place < length first → IsPrefix first rows
      → ((w : Winner) → slice_get rows place ≡ Some w → edges ≡ edges_below managed w) → new ≡ old ++ edges ∷ []
      → old ≡ map (edges_below managed) (take place first) → new ≡ map (edges_below managed) (take (place + 1) first)
  next_below first rows place old new edges low stands given more so = by (slice_get first place) refl
    where
      by : (o : Option Winner) → slice_get first place ≡ o → new ≡ map (edges_below managed) (take (place + 1) first)
      by None is = absurd (omega (arith, got_none first place is, low))
      by (Some w) is =
          let next : suc place ≡ place + 1 = omega arith in
          let there : slice_get rows place ≡ Some w = subst (λ l. slice_get l place ≡ Some w) (sym stands.is) (got_behind first stands.more place w is) in
          more ∙ ap (λ l. l ++ edges ∷ []) so
          ∙ ap (λ e. map (edges_below managed) (take place first) ++ e ∷ []) (given w there)
          ∙ sym (take_next (edges_below managed) first place w is)
          ∙ ap (λ n. map (edges_below managed) (take n first)) next

  -- and so of all winners that a level began with
  pub level_below : (first rows : List Winner) (place to : ℕ) (below : List (List Edge)) → to ≡ length first → length first ≤ place → IsPrefix first rows
      → below ≡ map (edges_below managed) (take place first) → below ≡ map (edges_below managed) (take to rows)
  level_below first rows place to below all low stands so =
      so ∙ ap (map (edges_below managed)) (take_past first place low ∙ sym (take_behind first stands.more))
      ∙ ap (λ l. map (edges_below managed) (take (length first) l)) (sym stands.is)
      ∙ ap (λ n. map (edges_below managed) (take n rows)) (sym all)

  -- of all winners, where a place is behind them
  pub all_below : (rows : List Winner) (from : ℕ) (below : List (List Edge)) → length rows ≤ from → below ≡ map (edges_below managed) (take from rows) → below ≡ map (edges_below managed) rows
  all_below rows from below low so = so ∙ ap (map (edges_below managed)) (take_past rows from low)
