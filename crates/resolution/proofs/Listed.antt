-- Winners one after another.
use Rattle.std.proofs.Common.{◌≡◌, ℕ, zero, suc, ◌+◌, ◌<◌, ◌≤◌, Bool, true, false, List, [], ◌∷◌, ◌++◌, drop, flat_map, length, map, nat_lt, slice_get, Option, Some, None, unwrap_or, refl, sym, ap, subst, ◌∙◌, arith, append-nil, append_assoc, if◌then◌else◌}
use Rattle.std.specs.Option.{option_to_list}
use Rattle.std.proofs.lemmas.Bool.Decides.{nat_tests}
use Rattle.std.proofs.lemmas.Grind.{flat_map-append}
use Rattle.std.proofs.lemmas.List.{drop_all}
use Rattle.mediation.specs.declared.winner.Winner.{Winner}
use Rattle.resolution.specs.Preorder.{Ascends}
use Rattle.resolution.specs.Resolved.{above_at, aboves_from, earlier}

next_drop : (rows : List Winner) (k : ℕ) → drop k rows ≡ option_to_list (slice_get rows k) ++ drop (suc k) rows
next_drop [] zero = refl
next_drop [] (suc k) = refl
next_drop (w ∷ rows) zero = refl
next_drop (w ∷ rows) (suc k) = next_drop rows k

pub flat_one : {B : Type 0} (f : Winner → List B) (old new all : List B) (rows : List Winner) (k : ℕ) → new ≡ old ++ flat_map f (option_to_list (slice_get rows k))
    → old ++ flat_map f (drop k rows) ≡ all → new ++ flat_map f (drop (k + 1) rows) ≡ all
flat_one f old new all rows k is before =
    let next : k + 1 ≡ suc k = omega arith in
    let here = flat_map f (option_to_list (slice_get rows k)) in
    ap (λ n. new ++ flat_map f (drop n rows)) next
    ∙ ap (λ l. l ++ flat_map f (drop (suc k) rows)) is
    ∙ append_assoc old here (flat_map f (drop (suc k) rows))
    ∙ ap (λ l. old ++ l) (sym (flat_map-append f (option_to_list (slice_get rows k)) (drop (suc k) rows)))
    ∙ ap (λ l. old ++ flat_map f l) (sym (next_drop rows k))
    ∙ before

next_mapped : {B : Type 0} (f : Winner → B) (rows : List Winner) (k : ℕ) → map f (drop k rows) ≡ map f (option_to_list (slice_get rows k)) ++ map f (drop (suc k) rows)
next_mapped f [] zero = refl
next_mapped f [] (suc k) = refl
next_mapped f (w ∷ rows) zero = refl
next_mapped f (w ∷ rows) (suc k) = next_mapped f rows k

-- one winner more is mapped
pub mapped_one : {B : Type 0} (f : Winner → B) (old new all : List B) (rows : List Winner) (k : ℕ) → new ≡ old ++ map f (option_to_list (slice_get rows k))
    → old ++ map f (drop k rows) ≡ all → new ++ map f (drop (k + 1) rows) ≡ all
mapped_one f old new all rows k is before =
    let next : k + 1 ≡ suc k = omega arith in
    ap (λ n. new ++ map f (drop n rows)) next
    ∙ ap (λ l. l ++ map f (drop (suc k) rows)) is
    ∙ append_assoc old (map f (option_to_list (slice_get rows k))) (map f (drop (suc k) rows))
    ∙ ap (λ l. old ++ l) (sym (next_mapped f rows k))
    ∙ before

-- and then all are
pub mapped_all : {B : Type 0} (f : Winner → B) (list all : List B) (rows : List Winner) (k : ℕ) → length rows ≤ k → list ++ map f (drop k rows) ≡ all → list ≡ all
mapped_all f list all rows k low is = sym (append-nil list) ∙ ap (λ l. list ++ map f l) (sym (drop_all k rows low)) ∙ is

next_above : (rows : List Winner) (k at : ℕ) → aboves_from at (drop k rows) ≡ map (above_at at) (option_to_list (slice_get rows k)) ++ aboves_from (at + 1) (drop (suc k) rows)
next_above [] zero at = refl
next_above [] (suc k) at = refl
next_above (w ∷ rows) zero at = refl
next_above (w ∷ rows) (suc k) at = next_above rows k at

pub above_one : (old new all : List (Option ℕ)) (rows : List Winner) (k : ℕ) → new ≡ old ++ map (above_at k) (option_to_list (slice_get rows k))
    → old ++ aboves_from k (drop k rows) ≡ all → new ++ aboves_from (k + 1) (drop (k + 1) rows) ≡ all
above_one old new all rows k is before =
    let next : k + 1 ≡ suc k = omega arith in
    ap (λ n. new ++ aboves_from (k + 1) (drop n rows)) next
    ∙ ap (λ l. l ++ aboves_from (k + 1) (drop (suc k) rows)) is
    ∙ append_assoc old (map (above_at k) (option_to_list (slice_get rows k))) (aboves_from (k + 1) (drop (suc k) rows))
    ∙ ap (λ l. old ++ l) (sym (next_above rows k k))
    ∙ before

-- each place above comes before
earlier_is : (at : ℕ) (above : Option ℕ) (parent : ℕ) → earlier at above ≡ Some parent → parent < at
earlier_is at None parent is = absurd (none is)
  where
    none : None ≡ Some parent → ⊥
    none e = cc
earlier_is at (Some place) parent is = by (nat_lt place at) refl is
  where
    none : None ≡ Some parent → ⊥
    none e = cc

    by : (b : Bool) → nat_lt place at ≡ b → (if b then Some place else None) ≡ Some parent → parent < at
    by true low is =
        let same : place ≡ parent = ap (λ o. unwrap_or o place) is in
        grind (arith, nat_tests, low, same)
    by false low is = absurd (none is)

ascend_from : (rows : List Winner) (at k parent : ℕ) → slice_get (aboves_from at rows) k ≡ Some (Some parent) → parent < at + k
ascend_from [] at k parent is = absurd (none is)
  where
    none : None ≡ Some (Some parent) → ⊥
    none e = cc
ascend_from (w ∷ rows) at zero parent is =
    let low = earlier_is at w.above parent (ap (λ o. unwrap_or o (above_at at w)) is) in
    omega (arith, low)
ascend_from (w ∷ rows) at (suc k) parent is =
    let low = ascend_from rows (at + 1) k parent is in
    omega (arith, low)

pub ascend : (rows : List Winner) → Ascends (aboves_from 0 rows)
ascend rows place parent is =
    let low = ascend_from rows 0 place parent is in
    omega (arith, low)
