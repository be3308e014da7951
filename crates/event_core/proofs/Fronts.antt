-- Marks, places and edges, as lists.
use Rattle.std.proofs.Common.{◌≡◌, ◌≢◌, ℕ, zero, suc, ◌+◌, ◌*◌, ◌/◌, ◌%◌, ◌<◌, ◌≤◌, ◌⊎◌, inl, inr, Bool, true, false, ◌&&◌, ◌||◌, not, nat_eq, nat_lt, nat_le, List, [], ◌∷◌, ◌++◌, length, find, get_or, set, slice_get, Some, None, is_none, is_some, if◌then◌else◌, refl, arith, sym, ap, subst, ◌∙◌}
use Rattle.std.specs.Int.{bit_at}
use Rattle.std.specs.Option.{option_or}
use Rattle.std.proofs.lemmas.Bool.{cases_eq, cases_lt, eq-eqb, eqb-true, false≢true, le-leb, le-ltb, lt-leb, lt-ltb, ne_eqb}
use Rattle.std.proofs.lemmas.List.{get_or-set_other, get_or-set_same}
use Rattle.std.proofs.lemmas.List.Folds.{find-append, find_at, list_any-append}
use Rattle.std.proofs.lemmas.List.Sums.{position_or_len_is}
use Rattle.std.proofs.lemmas.Nat.Bits.{bit_at-zero}
use Rattle.std.proofs.lemmas.Option.{slice_get-get_or, slice_get_past}
use Rattle.build_core.specs.Locks.{below}
use Rattle.event_core.specs.declared.progress_edges.Edge.{Edge}
use Rattle.event_core.specs.HowFar.{is_this}
use Rattle.event_core.specs.Fronts.{AreEdges, IsBefore, IsFirst, has_edge, is_marked, is_touched}
use Rattle.event_core.proofs.Below.{found_at, not_yet}

-- ---- marks

pub above_zero : (n : ℕ) → (n ≡ 0 → ⊥) → 0 < n
above_zero zero other = absurd (other refl)
above_zero (suc n) other = omega arith

zero_word : (words : List ℕ) (k : ℕ) → get_or words (k / 64) 0 ≡ 0 → is_marked words k ≡ false
zero_word words k e = ap (λ x. nat_eq (bit_at x (k % 64)) 1) e ∙ ap (λ n. nat_eq n 1) (bit_at-zero (k % 64))

pub first_marked : (words : List ℕ) (word place : ℕ) → ((i : ℕ) → i < word → get_or words i 0 ≡ 0) → place < 64 → bit_at (get_or words word 0) place ≡ 1 → ((i : ℕ) → i < place → bit_at (get_or words word 0) i ≡ 0)
    → (is_marked words (word * 64 + place) ≡ true) × ((j : ℕ) → j < word * 64 + place → is_marked words j ≡ false)
first_marked words word place zeros low is before = (here, λ j less. by j less (cases_lt (j / 64) word))
  where
    at_word : (word * 64 + place) / 64 ≡ word
    at_word = omega (arith, low)

    at_place : (word * 64 + place) % 64 ≡ place
    at_place = omega (arith, low)

    here : is_marked words (word * 64 + place) ≡ true
    here = ap (λ w. nat_eq (bit_at (get_or words w 0) ((word * 64 + place) % 64)) 1) at_word ∙ ap (λ p. nat_eq (bit_at (get_or words word 0) p) 1) at_place ∙ ap (λ n. nat_eq n 1) is

    by : (j : ℕ) → j < word * 64 + place → (j / 64 < word) ⊎ (word ≤ j / 64) → is_marked words j ≡ false
    by j less (inl early) = zero_word words j (zeros (j / 64) early)
    by j less (inr late) =
        let same : j / 64 ≡ word = omega (arith, less, low, late) in
        ap (λ w. nat_eq (bit_at (get_or words w 0) (j % 64)) 1) same ∙ ap (λ n. nat_eq n 1) (before (j % 64) (omega (arith, less, same)))

-- words that have a mark are marked themselves
abbrev Grouped : List ℕ → List ℕ → Type 0
Grouped words groups = (i : ℕ) → is_marked groups i ≡ not (nat_eq (get_or words i 0) 0)

pub word_zero : (words groups : List ℕ) (i : ℕ) → Grouped words groups → is_marked groups i ≡ false → get_or words i 0 ≡ 0
word_zero words groups i grouped free = by (get_or words i 0) (sym (grouped i) ∙ free)
  where
    by : (n : ℕ) → not (nat_eq n 0) ≡ false → n ≡ 0
    by zero e = refl
    by (suc n) e = absurd (false≢true (sym e ∙ ap not (ne_eqb (suc n) 0 (λ same. omega (arith, same)))))

pub no_word : (words groups : List ℕ) (i : ℕ) → Grouped words groups → is_marked groups i ≡ true → get_or words i 0 ≡ 0 → ⊥
no_word words groups i grouped is zero_there = false≢true (sym (grouped i ∙ ap (λ n. not (nat_eq n 0)) zero_there) ∙ is)

pub none_marked : (words groups : List ℕ) → Grouped words groups → ((i : ℕ) → is_marked groups i ≡ false) → (k : ℕ) → is_marked words k ≡ false
none_marked words groups grouped free k = zero_word words k (word_zero words groups (k / 64) grouped (free (k / 64)))

-- marks that are right below a number, and there
pub next_mark : (new old : List ℕ) (value : ℕ → Bool) (at : ℕ) → is_marked new at ≡ value at → ((k : ℕ) → k ≢ at → is_marked new k ≡ is_marked old k) → ((k : ℕ) → k < at → is_marked old k ≡ value k) → (k : ℕ) → k < at + 1 → is_marked new k ≡ value k
next_mark new old value at here others before k low = by (cases_eq k at)
  where
    by : (k ≡ at) ⊎ (k ≢ at) → is_marked new k ≡ value k
    by (inl same) = subst (λ n. is_marked new n ≡ value n) (sym same) here
    by (inr other) = others k other ∙ before k (less (cases_lt k at))
      where
        less : (k < at) ⊎ (at ≤ k) → k < at
        less (inl it) = it
        less (inr far) = absurd (other (omega (arith, far, low)))

-- ---- the first that is marked, below a number

module _ (p : ℕ → Bool) where
  pub none_below : (n : ℕ) → ((j : ℕ) → j < n → p j ≡ false) → find p (below n) ≡ None
  none_below zero none = refl
  none_below (suc n) none =
      let e : n + 1 ≡ suc n = omega arith in
      subst (λ k. find p (below k) ≡ None) e (not_yet p n (none_below n (λ j low. none j (omega (arith, low)))) (none n (omega arith)))

  pub first_below : (k n : ℕ) → p k ≡ true → ((j : ℕ) → j < k → p j ≡ false) → k < n → find p (below n) ≡ Some k
  first_below k n is before low = found_at p k n (none_below k before) is low

pub find_alike : (p q : ℕ → Bool) (n : ℕ) → ((k : ℕ) → k < n → p k ≡ q k) → find p (below n) ≡ find q (below n)
find_alike p q zero alike = refl
find_alike p q (suc n) alike =
    find-append p (below n) (n ∷ [])
    ∙ ap (λ o. option_or o (find p (n ∷ []))) (find_alike p q n (λ k low. alike k (omega (arith, low))))
    ∙ ap (λ b. option_or (find q (below n)) (if b then Some n else None)) (alike n (omega arith))
    ∙ sym (find-append q (below n) (n ∷ []))

-- ---- first places

module _ (p : ℕ → Bool) (xs : List ℕ) where
  pub first_before : (at : ℕ) → IsFirst p xs at → IsBefore p xs at
  first_before at first = record { inside = first.inside; before = first.before }

  pub found_first : (at : ℕ) → IsFirst p xs at → find p xs ≡ slice_get xs at
  found_first at first = find_at p xs ∙ ap (slice_get xs) (position_or_len_is p xs at 0 first.inside first.before first.here)

  pub only_first : (a b : ℕ) → IsFirst p xs a → IsFirst p xs b → a ≡ b
  only_first a b one two = sym (position_or_len_is p xs a 0 one.inside one.before one.here) ∙ position_or_len_is p xs b 0 two.inside two.before two.here

-- whether there is something at a place
pub none_at : (xs : List ℕ) (at : ℕ) → is_none (slice_get xs at) ≡ nat_le (length xs) at
none_at xs at = by (cases_lt at (length xs))
  where
    by : (at < length xs) ⊎ (length xs ≤ at) → is_none (slice_get xs at) ≡ nat_le (length xs) at
    by (inl low) = ap is_none (slice_get-get_or xs at 0 low) ∙ sym (lt-leb (length xs) at low)
    by (inr far) = ap is_none (slice_get_past xs at far) ∙ sym (le-leb (length xs) at far)

pub some_at : (xs : List ℕ) (at : ℕ) → is_some (slice_get xs at) ≡ not (nat_le (length xs) at)
some_at xs at = by (cases_lt at (length xs))
  where
    by : (at < length xs) ⊎ (length xs ≤ at) → is_some (slice_get xs at) ≡ not (nat_le (length xs) at)
    by (inl low) = ap is_some (slice_get-get_or xs at 0 low) ∙ ap not (sym (lt-leb (length xs) at low))
    by (inr far) = ap is_some (slice_get_past xs at far) ∙ ap not (sym (le-leb (length xs) at far))

-- ---- edges

-- an upstream at a place
pub is_there_at : (xs : List ℕ) (at m : ℕ) → at < length xs → get_or xs at 0 ≡ m → is_this (slice_get xs at) m ≡ true
is_there_at xs at m low e = ap (λ o. is_this o m) (slice_get-get_or xs at 0 low) ∙ eq-eqb (get_or xs at 0) m e

pub there_is : (xs : List ℕ) (at m : ℕ) → is_this (slice_get xs at) m ≡ true → (at < length xs) × (get_or xs at 0 ≡ m)
there_is [] at m is = absurd (false≢true is)
there_is (x ∷ xs) zero m is = (omega arith, eqb-true x m is)
there_is (x ∷ xs) (suc at) m is = let rest = there_is xs at m is in (omega (arith, rest.0), rest.1)

-- an edge of a module touches it
pub edge_touches : (edges : List Edge) (k place : ℕ) → has_edge k place edges ≡ true → is_touched k edges ≡ true
edge_touches [] k place is = absurd (false≢true is)
edge_touches (e ∷ edges) k place is = by (nat_eq e.«module» k) (nat_eq e.place place) is (edge_touches edges k place)
  where
    by : (a b : Bool) → ((a && b) || has_edge k place edges) ≡ true → (has_edge k place edges ≡ true → is_touched k edges ≡ true) → (a || is_touched k edges) ≡ true
    by true b h again = refl
    by false b h again = again h

-- what isn't touched has no edge's module among its upstreams
pub apart : (ups : List (List ℕ)) (edges : List (List Edge)) (m k : ℕ) → AreEdges ups edges → m < length ups → is_touched k (get_or edges m []) ≡ false → (at : ℕ) → at < length (get_or ups k []) → get_or (get_or ups k []) at 0 ≡ m → ⊥
apart ups edges m k are low free at inside is =
    false≢true (sym free ∙ edge_touches (get_or edges m []) k at (are m k at low ∙ is_there_at (get_or ups k []) at m inside is))

-- ---- how edges are gathered

or_none : (b : Bool) → (b || false) ≡ b
or_none true = refl
or_none false = refl

edge_added : (edges : List (List Edge)) (u : ℕ) (e : Edge) (m k at : ℕ) → m < length edges → has_edge k at (get_or (set edges u (get_or edges u [] ++ e ∷ [])) m []) ≡ (has_edge k at (get_or edges m []) || (nat_eq u m && (nat_eq e.«module» k && nat_eq e.place at)))
edge_added edges u e m k at low = by (cases_eq m u)
  where
    more : List Edge
    more = get_or edges u [] ++ e ∷ []

    by : (m ≡ u) ⊎ (m ≡ u → ⊥) → has_edge k at (get_or (set edges u more) m []) ≡ (has_edge k at (get_or edges m []) || (nat_eq u m && (nat_eq e.«module» k && nat_eq e.place at)))
    by (inl same) =
        ap (λ j. has_edge k at (get_or (set edges u more) j [])) same
        ∙ ap (has_edge k at) (get_or-set_same edges u more [] (omega (arith, low, same)))
        ∙ list_any-append (λ (x : Edge). nat_eq x.«module» k && nat_eq x.place at) (get_or edges u []) (e ∷ [])
        ∙ ap (λ b. has_edge k at (get_or edges u []) || b) (or_none (nat_eq e.«module» k && nat_eq e.place at))
        ∙ ap (λ b. has_edge k at (get_or edges u []) || (b && (nat_eq e.«module» k && nat_eq e.place at))) (sym (eq-eqb u m (sym same)))
        ∙ ap (λ j. has_edge k at (get_or edges j []) || (nat_eq u m && (nat_eq e.«module» k && nat_eq e.place at))) (sym same)
    by (inr other) =
        ap (has_edge k at) (get_or-set_other edges u m more [] other)
        ∙ sym (or_none (has_edge k at (get_or edges m [])))
        ∙ ap (λ b. has_edge k at (get_or edges m []) || (b && (nat_eq e.«module» k && nat_eq e.place at))) (sym (ne_eqb u m (λ x. other (sym x))))

here_so : (a m u : Bool) → ((a || (m && (false && u))) || (u && (m && true))) ≡ (a || (m && (true && u)))
here_so true true true = refl
here_so true true false = refl
here_so true false true = refl
here_so true false false = refl
here_so false true true = refl
here_so false true false = refl
here_so false false true = refl
here_so false false false = refl

else_so : (a m l i u : Bool) → ((a || (m && (l && i))) || (u && (m && false))) ≡ (a || (m && (l && i)))
else_so true m l i u = refl
else_so false true l i true = or_none (l && i)
else_so false true l i false = or_none (l && i)
else_so false false l i true = refl
else_so false false l i false = refl

one_more_below : (k n : ℕ) → (k ≡ n → ⊥) → nat_lt k (n + 1) ≡ nat_lt k n
one_more_below k n other = by (cases_lt k n)
  where
    by : (k < n) ⊎ (n ≤ k) → nat_lt k (n + 1) ≡ nat_lt k n
    by (inl less) = lt-ltb k (n + 1) (omega (arith, less)) ∙ sym (lt-ltb k n less)
    by (inr far) = le-ltb k (n + 1) (beyond (cases_lt n k)) ∙ sym (le-ltb k n far)
      where
        beyond : (n < k) ⊎ (k ≤ n) → n + 1 ≤ k
        beyond (inl less) = omega (arith, less)
        beyond (inr back) = absurd (other (omega (arith, far, back)))

-- an upstream's edge more
pub edges_more : (old edges : List (List Edge)) (upstream : List ℕ) (at number : ℕ) (e : Edge) → e.«module» ≡ number → e.place ≡ at → at < length upstream → (m k p : ℕ) → m < length edges
    → has_edge k p (get_or edges m []) ≡ (has_edge k p (get_or old m []) || (nat_eq number k && (nat_lt p at && is_this (slice_get upstream p) m)))
    → has_edge k p (get_or (set edges (get_or upstream at 0) (get_or edges (get_or upstream at 0) [] ++ e ∷ [])) m []) ≡ (has_edge k p (get_or old m []) || (nat_eq number k && (nat_lt p (at + 1) && is_this (slice_get upstream p) m)))
edges_more old edges upstream at number e whose where_at low m k p inside so_far =
    edge_added edges u e m k p inside
    ∙ ap (λ b. b || (nat_eq u m && (nat_eq e.«module» k && nat_eq e.place p))) so_far
    ∙ ap (λ j. before || (nat_eq u m && (nat_eq j k && nat_eq e.place p))) whose
    ∙ ap (λ j. before || (nat_eq u m && (nat_eq number k && nat_eq j p))) where_at
    ∙ by (cases_eq p at)
  where
    u : ℕ
    u = get_or upstream at 0

    a : Bool
    a = has_edge k p (get_or old m [])

    before : Bool
    before = a || (nat_eq number k && (nat_lt p at && is_this (slice_get upstream p) m))

    by : (p ≡ at) ⊎ (p ≡ at → ⊥) → (before || (nat_eq u m && (nat_eq number k && nat_eq at p))) ≡ (a || (nat_eq number k && (nat_lt p (at + 1) && is_this (slice_get upstream p) m)))
    by (inl same) =
        let it : is_this (slice_get upstream p) m ≡ nat_eq u m = ap (λ j. is_this (slice_get upstream j) m) same ∙ ap (λ o. is_this o m) (slice_get-get_or upstream at 0 low) in
        ap (λ b. (a || (nat_eq number k && (nat_lt p at && b))) || (nat_eq u m && (nat_eq number k && nat_eq at p))) it
        ∙ ap (λ b. (a || (nat_eq number k && (b && nat_eq u m))) || (nat_eq u m && (nat_eq number k && nat_eq at p))) (le-ltb p at (omega (arith, same)))
        ∙ ap (λ b. (a || (nat_eq number k && (false && nat_eq u m))) || (nat_eq u m && (nat_eq number k && b))) (eq-eqb at p (sym same))
        ∙ here_so a (nat_eq number k) (nat_eq u m)
        ∙ ap (λ b. a || (nat_eq number k && (b && nat_eq u m))) (sym (lt-ltb p (at + 1) (omega (arith, same))))
        ∙ ap (λ b. a || (nat_eq number k && (nat_lt p (at + 1) && b))) (sym it)
    by (inr other) =
        ap (λ b. before || (nat_eq u m && (nat_eq number k && b))) (ne_eqb at p (λ x. other (sym x)))
        ∙ else_so a (nat_eq number k) (nat_lt p at) (is_this (slice_get upstream p) m) (nat_eq u m)
        ∙ ap (λ b. a || (nat_eq number k && (b && is_this (slice_get upstream p) m))) (sym (one_more_below p at other))

past_places : (upstream : List ℕ) (at p m : ℕ) → length upstream ≤ at → (nat_lt p at && is_this (slice_get upstream p) m) ≡ is_this (slice_get upstream p) m
past_places upstream at p m far = by (cases_lt p at)
  where
    by : (p < at) ⊎ (at ≤ p) → (nat_lt p at && is_this (slice_get upstream p) m) ≡ is_this (slice_get upstream p) m
    by (inl less) = ap (λ b. b && is_this (slice_get upstream p) m) (lt-ltb p at less)
    by (inr late) = ap (λ o. nat_lt p at && is_this o m) none ∙ and_false (nat_lt p at) ∙ sym (ap (λ o. is_this o m) none)
      where
        none : slice_get upstream p ≡ None
        none = slice_get_past upstream p (omega (arith, far, late))

        and_false : (b : Bool) → (b && false) ≡ false
        and_false true = refl
        and_false false = refl

-- all of a module's
pub edges_end : (edges old : List (List Edge)) (upstream : List ℕ) (at number m k p : ℕ) → length upstream ≤ at
    → has_edge k p (get_or edges m []) ≡ (has_edge k p (get_or old m []) || (nat_eq number k && (nat_lt p at && is_this (slice_get upstream p) m)))
    → has_edge k p (get_or edges m []) ≡ (has_edge k p (get_or old m []) || (nat_eq number k && is_this (slice_get upstream p) m))
edges_end edges old upstream at number m k p far so_far = so_far ∙ ap (λ b. has_edge k p (get_or old m []) || (nat_eq number k && b)) (past_places upstream at p m far)
