-- Declarations and winners one after another.
use Rattle.std.proofs.Common.{◌≡◌, ℕ, zero, suc, ◌+◌, ◌≤◌, Bool, true, false, ◌||◌, List, [], ◌∷◌, ◌++◌, cond, drop, find, flat_map, length, slice_get, Option, Some, None, unwrap_or, refl, sym, ap, subst, ◌∙◌, arith}
use Rattle.std.specs.List.{list_any}
use Rattle.std.specs.Option.{option_to_list}
use Rattle.std.proofs.lemmas.List.{drop_all}
use Rattle.std.proofs.lemmas.Grind.{flat_map-append}
use Rattle.collector.specs.declared.edge.Edge.{Edge}
use Rattle.mediation.specs.declared.winner.Winner.{Winner}
use Rattle.model_merge.specs.Keyed.{same_key}
use Rattle.mvn_base.specs.declared.key.Key.{Key}

or_assoc : (a b c : Bool) → (a || (b || c)) ≡ ((a || b) || c)
or_assoc true b c = refl
or_assoc false b c = refl

or_false : (a : Bool) → (a || false) ≡ a
or_false true = refl
or_false false = refl

any_append : (t : Edge → Bool) (xs ys : List Edge) → list_any t (xs ++ ys) ≡ (list_any t xs || list_any t ys)
any_append t [] ys = refl
any_append t (x ∷ xs) ys = ap (λ b. t x || b) (any_append t xs ys) ∙ or_assoc (t x) (list_any t xs) (list_any t ys)

next_drop : {A : Type 0} (rows : List A) (k : ℕ) → drop k rows ≡ option_to_list (slice_get rows k) ++ drop (suc k) rows
next_drop [] zero = refl
next_drop [] (suc k) = refl
next_drop (w ∷ rows) zero = refl
next_drop (w ∷ rows) (suc k) = next_drop rows k

-- one list more
pub one_more : {A : Type 0} (t : Edge → Bool) (f : A → List Edge) (rows : List A) (k : ℕ) (old new all : Bool)
    → new ≡ (old || list_any t (flat_map f (option_to_list (slice_get rows k))))
    → (old || list_any t (flat_map f (drop k rows))) ≡ all → (new || list_any t (flat_map f (drop (k + 1) rows))) ≡ all
one_more t f rows k old new all is before =
    let next : k + 1 ≡ suc k = omega arith in
    let here = flat_map f (option_to_list (slice_get rows k)) in
    ap (λ n. new || list_any t (flat_map f (drop n rows))) next
    ∙ ap (λ b. b || list_any t (flat_map f (drop (suc k) rows))) is
    ∙ sym (or_assoc old (list_any t here) (list_any t (flat_map f (drop (suc k) rows))))
    ∙ ap (λ b. old || b) (sym (any_append t here (flat_map f (drop (suc k) rows))))
    ∙ ap (λ l. old || list_any t l) (sym (flat_map-append f (option_to_list (slice_get rows k)) (drop (suc k) rows)))
    ∙ ap (λ l. old || list_any t (flat_map f l)) (sym (next_drop rows k))
    ∙ before

-- the project's declarations, and then the winners'
pub begun : {A : Type 0} (t : Edge → Bool) (f : A → List Edge) (rows : List A) (edges : List Edge) (old : Bool) → old ≡ list_any t edges
    → (old || list_any t (flat_map f (drop 0 rows))) ≡ list_any t (edges ++ flat_map f rows)
begun t f rows edges old is = ap (λ b. b || list_any t (flat_map f rows)) is ∙ sym (any_append t edges (flat_map f rows))

pub ended : {A : Type 0} (t : Edge → Bool) (f : A → List Edge) (rows : List A) (k : ℕ) (now all : Bool) → length rows ≤ k → (now || list_any t (flat_map f (drop k rows))) ≡ all → now ≡ all
ended t f rows k now all low is = sym (or_false now) ∙ ap (λ l. now || list_any t (flat_map f l)) (sym (drop_all k rows low)) ∙ is

some_none : (w : Winner) → ◌≡◌ {A = Option Winner} (Some w) None → ⊥
some_none w e = cc

-- the winner at a place passes a test, or those behind it are looked at
pub find_here : (t : Winner → Bool) (rows : List Winner) (k : ℕ) (w : Winner) → slice_get rows k ≡ Some w → t w ≡ true → find t (drop k rows) ≡ Some w
find_here t [] k w got is = absurd (some_none w (sym got))
find_here t (v ∷ rows) zero w got is =
    let same : v ≡ w = ap (λ o. unwrap_or o v) got in
    ap (λ v. cond (t v) (Some v) (find t rows)) same ∙ ap (λ b. cond b (Some w) (find t rows)) is
find_here t (v ∷ rows) (suc k) w got is = find_here t rows k w got is

find_on : (t : Winner → Bool) (rows : List Winner) (k : ℕ) (w : Winner) → slice_get rows k ≡ Some w → t w ≡ false → find t (drop k rows) ≡ find t (drop (suc k) rows)
find_on t [] k w got is = absurd (some_none w (sym got))
find_on t (v ∷ rows) zero w got is =
    let same : v ≡ w = ap (λ o. unwrap_or o v) got in
    ap (λ v. cond (t v) (Some v) (find t rows)) same ∙ ap (λ b. cond b (Some w) (find t rows)) is
find_on t (v ∷ rows) (suc k) w got is = find_on t rows k w got is

pub find_next : (t : Winner → Bool) (rows : List Winner) (k : ℕ) (w : Winner) → slice_get rows k ≡ Some w → t w ≡ false → find t rows ≡ find t (drop k rows) → find t rows ≡ find t (drop (k + 1) rows)
find_next t rows k w got is before =
    let next : suc k ≡ k + 1 = omega arith in
    before ∙ find_on t rows k w got is ∙ ap (λ n. find t (drop n rows)) next

find_skip : (t : Winner → Bool) (rows : List Winner) (k : ℕ) → slice_get rows k ≡ None → find t (drop k rows) ≡ find t (drop (suc k) rows)
find_skip t [] zero none = refl
find_skip t [] (suc k) none = refl
find_skip t (v ∷ rows) zero none = absurd (some_none v none)
find_skip t (v ∷ rows) (suc k) none = find_skip t rows k none

pub find_none : (t : Winner → Bool) (rows : List Winner) (k : ℕ) → slice_get rows k ≡ None → find t rows ≡ find t (drop k rows) → find t rows ≡ find t (drop (k + 1) rows)
find_none t rows k none before =
    let next : suc k ≡ k + 1 = omega arith in
    before ∙ find_skip t rows k none ∙ ap (λ n. find t (drop n rows)) next

pub find_end : (t : Winner → Bool) (rows : List Winner) (k : ℕ) → length rows ≤ k → find t rows ≡ find t (drop k rows) → find t rows ≡ None
find_end t rows k low is = is ∙ ap (find t) (drop_all k rows low)

-- no winner's key is among no keys
pub find_without : (keys : List Key) (rows : List Winner) → length keys ≡ 0 → ◌≡◌ {A = Option Winner} None (find (λ w. list_any (same_key w.edge.key) keys) rows)
find_without keys [] none = refl
find_without [] (w ∷ rows) none = find_without [] rows none
find_without (key ∷ keys) (w ∷ rows) none = absurd (never (length keys) none)
  where
    never : (n : ℕ) → suc n ≡ 0 → ⊥
    never n e = omega (arith, e)
