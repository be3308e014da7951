-- The places of winners, which stay where they are as winners are added.
use Rattle.std.proofs.Common.{◌≡◌, ℕ, zero, suc, ◌+◌, ◌<◌, ◌≤◌, Bool, true, false, not, cond, nat_lt, List, [], ◌∷◌, ◌++◌, drop, find, flat_map, get_or, length, map, position, take, Option, Some, None, is_some, unwrap_or, refl, sym, ap, subst, ◌∙◌, arith, append-nil, append_assoc, length-append}
use Rattle.std.specs.List.{position_or_len}
use Rattle.std.proofs.lemmas.Bool.{false≢true}
use Rattle.std.proofs.lemmas.Bool.Decides.{nat_tests}
use Rattle.std.proofs.lemmas.Grind.{flat_map-append}
use Rattle.std.proofs.lemmas.List.{take_more}
use Rattle.model_merge.specs.Keyed.{same_key}
use Rattle.mvn_base.specs.declared.key.Key.{Key}
use Rattle.collector.specs.declared.edge.Edge.{Edge}
use Rattle.mediation.specs.declared.winner.Winner.{Winner}
use Rattle.mediation.specs.Rows.{ArePlaced, IsPrefix, place_of, row_of}
use Rattle.mediation.proofs.Within.{same_self}

none_low : (n : ℕ) → n < 0 → ⊥
none_low n low = omega (arith, low)

none_some : {A : Type 0} (x : A) → ◌≡◌ {A = Option A} None (Some x) → ⊥
none_some x e = cc

-- where some winner passes a test, the first of them stands before the end; and the other way
len_low : (p : Winner → Bool) (rows : List Winner) → is_some (find p rows) ≡ true → position_or_len p rows < length rows
len_low p [] some = absurd (false≢true some)
len_low p (w ∷ rows) some = by (p w) some (len_low p rows)
  where
    by : (b : Bool) → is_some (cond b (Some w) (find p rows)) ≡ true → (is_some (find p rows) ≡ true → position_or_len p rows < length rows) → cond (not b) (1 + position_or_len p rows) 0 < suc (length rows)
    by true some rest = omega arith
    by false some rest = omega (arith, rest some)

low_found : (p : Winner → Bool) (rows : List Winner) → position_or_len p rows < length rows → is_some (find p rows) ≡ true
low_found p [] low = absurd (none_low 0 low)
low_found p (w ∷ rows) low = by (p w) low (low_found p rows)
  where
    by : (b : Bool) → cond (not b) (1 + position_or_len p rows) 0 < suc (length rows) → (position_or_len p rows < length rows → is_some (find p rows) ≡ true) → is_some (cond b (Some w) (find p rows)) ≡ true
    by true low rest = refl
    by false low rest = rest (omega (arith, low))

-- it stands there whatever stands behind
behind_len : (p : Winner → Bool) (rows more : List Winner) → position_or_len p rows < length rows → position_or_len p (rows ++ more) ≡ position_or_len p rows
behind_len p [] more low = absurd (none_low 0 low)
behind_len p (w ∷ rows) more low = by (p w) low (behind_len p rows more)
  where
    by : (b : Bool) → cond (not b) (1 + position_or_len p rows) 0 < suc (length rows) → (position_or_len p rows < length rows → position_or_len p (rows ++ more) ≡ position_or_len p rows)
        → cond (not b) (1 + position_or_len p (rows ++ more)) 0 ≡ cond (not b) (1 + position_or_len p rows) 0
    by true low rest = refl
    by false low rest = ap (λ n. 1 + n) (rest (omega (arith, low)))

last_len : (p : Winner → Bool) (rows : List Winner) (w : Winner) → is_some (find p rows) ≡ false → p w ≡ true → position_or_len p (rows ++ w ∷ []) ≡ length rows
last_len p [] w none is = ap (λ b. cond (not b) (1 + position_or_len p []) 0) is
last_len p (v ∷ rows) w none is = by (p v) none (λ none. last_len p rows w none is)
  where
    by : (b : Bool) → is_some (cond b (Some v) (find p rows)) ≡ false → (is_some (find p rows) ≡ false → position_or_len p (rows ++ w ∷ []) ≡ length rows) → cond (not b) (1 + position_or_len p (rows ++ w ∷ [])) 0 ≡ suc (length rows)
    by true none rest = absurd (false≢true (sym none))
    by false none rest = omega (arith, rest none)

-- the place is that of the first which passes
record IsLow (p : Winner → Bool) (rows : List Winner) (i : ℕ) : Type 0 where
  pub low : position_or_len p rows < length rows
  pub is : position_or_len p rows ≡ i

place_low : (p : Winner → Bool) (rows : List Winner) (i : ℕ) → position p rows ≡ Some i → IsLow p rows i
place_low p rows i is = by (nat_lt (position_or_len p rows) (length rows)) refl is
  where
    by : (b : Bool) → nat_lt (position_or_len p rows) (length rows) ≡ b → cond b (Some (position_or_len p rows)) None ≡ Some i → IsLow p rows i
    by true low is = record { low = grind (arith, nat_tests, low); is = ap (λ o. unwrap_or o 0) is }
    by false low is = absurd (none_some i is)

low_place : (p : Winner → Bool) (rows : List Winner) → position_or_len p rows < length rows → position p rows ≡ Some (position_or_len p rows)
low_place p rows low =
    let is : nat_lt (position_or_len p rows) (length rows) ≡ true = grind (arith, nat_tests, low) in
    ap (λ b. cond b (Some (position_or_len p rows)) None) is

abbrev of_key : Key → Winner → Bool
of_key key w = same_key key w.edge.key

-- a key has a place exactly where it has a winner
pub some_row : (rows : List Winner) (key : Key) (i : ℕ) → place_of rows key ≡ Some i → is_some (row_of rows key) ≡ true
some_row rows key i is = low_found (of_key key) rows (place_low (of_key key) rows i is).low

pub no_row : (rows : List Winner) (key : Key) → place_of rows key ≡ None → row_of rows key ≡ None
no_row rows key none = by (row_of rows key) refl
  where
    by : (o : Option Winner) → row_of rows key ≡ o → o ≡ None
    by None is = refl
    by (Some w) is = absurd (none_some (position_or_len (of_key key) rows) (sym none ∙ low_place (of_key key) rows (len_low (of_key key) rows (ap is_some is))))

-- a place stays
place_behind : (rows more : List Winner) (key : Key) (i : ℕ) → place_of rows key ≡ Some i → place_of (rows ++ more) key ≡ Some i
place_behind rows more key i is =
    let at = place_low (of_key key) rows i is in
    let same = behind_len (of_key key) rows more at.low in
    let low : position_or_len (of_key key) (rows ++ more) < length (rows ++ more) = omega (arith, same, at.low, length-append rows more) in
    low_place (of_key key) (rows ++ more) low ∙ ap Some (same ∙ at.is)

pub place_stays : (old new : List Winner) (key : Key) (i : ℕ) → IsPrefix old new → place_of old key ≡ Some i → place_of new key ≡ Some i
place_stays old new key i stands is = subst (λ l. place_of l key ≡ Some i) (sym stands.is) (place_behind old stands.more key i is)

-- a winner that is added stands behind all others
pub place_last : (old new : List Winner) (w : Winner) → row_of old w.edge.key ≡ None → new ≡ old ++ w ∷ [] → place_of new w.edge.key ≡ Some (length old)
place_last old new w none is =
    let at = last_len (of_key w.edge.key) old w (ap is_some none) (same_self w.edge.key) in
    let low : position_or_len (of_key w.edge.key) (old ++ w ∷ []) < length (old ++ w ∷ []) = omega (arith, at, length-append old (w ∷ [])) in
    subst (λ l. place_of l w.edge.key ≡ Some (length old)) (sym is)
    (low_place (of_key w.edge.key) (old ++ w ∷ []) low ∙ ap Some at)

cons_none : {A : Type 0} (x : A) (xs : List A) → x ∷ xs ≡ [] → ⊥
cons_none x xs e = cc

-- the places of some edges stay
pub still_placed : (old new : List Winner) (edges : List Edge) (places : List ℕ) → IsPrefix old new → ArePlaced old edges places → ArePlaced new edges places
still_placed old new [] places stands is = is
still_placed old new (e ∷ edges) [] stands is = absurd (cons_none (place_of old e.key) (map (λ e. place_of old e.key) edges) is)
still_placed old new (e ∷ edges) (p ∷ places) stands is =
    let first : place_of new e.key ≡ Some p = place_stays old new e.key p stands (ap (λ l. get_or l zero None) is) in
    let rest : ArePlaced new edges places = still_placed old new edges places stands (ap (λ l. drop (suc zero) l) is) in
    ap (λ o. o ∷ map (λ e. place_of new e.key) edges) first ∙ ap (λ l. Some p ∷ l) rest

mapped_last : {A B : Type 0} (f : A → B) (xs : List A) (x : A) → map f (xs ++ x ∷ []) ≡ map f xs ++ f x ∷ []
mapped_last f [] x = refl
mapped_last f (y ∷ xs) x = ap (λ l. f y ∷ l) (mapped_last f xs x)

-- one edge more
one_placed : (rows : List Winner) (edges : List Edge) (places : List ℕ) (e : Edge) (p : ℕ) → ArePlaced rows edges places → place_of rows e.key ≡ Some p → ArePlaced rows (edges ++ e ∷ []) (places ++ p ∷ [])
one_placed rows edges places e p are is =
    mapped_last (λ e. place_of rows e.key) edges e
    ∙ ap (λ l. l ++ place_of rows e.key ∷ []) are
    ∙ ap (λ o. map Some places ++ o ∷ []) is
    ∙ sym (mapped_last Some places p)

next_taken : (edges : List Edge) (k : ℕ) (e : Edge) → k < length edges → e ≡ get_or edges k e → take (k + 1) edges ≡ take k edges ++ e ∷ []
next_taken edges k e low at = take_more edges k e low ∙ ap (λ f. take k edges ++ f ∷ []) (sym at)

-- the next of some edges
pub next_placed : (old new : List Winner) (done edges : List Edge) (k : ℕ) (e : Edge) (before after : List ℕ) (p : ℕ) → k < length edges → e ≡ get_or edges k e
    → IsPrefix old new → place_of new e.key ≡ Some p → after ≡ before ++ p ∷ [] → ArePlaced old (done ++ take k edges) before → ArePlaced new (done ++ take (k + 1) edges) after
next_placed old new done edges k e before after p low at stands is more are =
    let all : (done ++ take k edges) ++ e ∷ [] ≡ done ++ take (k + 1) edges = append_assoc done (take k edges) (e ∷ []) ∙ ap (λ l. done ++ l) (sym (next_taken edges k e low at)) in
    subst (λ l. ArePlaced new l after) all (subst (λ l. ArePlaced new ((done ++ take k edges) ++ e ∷ []) l) (sym more)
    (one_placed new (done ++ take k edges) before e p (still_placed old new (done ++ take k edges) before stands are) is))

-- none of them, and all
pub none_placed : (rows : List Winner) (done edges : List Edge) (places : List ℕ) → edges ≡ [] → ArePlaced rows done places → ArePlaced rows (done ++ edges) places
none_placed rows done edges places none are = subst (λ l. ArePlaced rows l places) (sym (ap (λ l. done ++ l) none ∙ append-nil done)) are

take_none : (edges : List Edge) → take zero edges ≡ []
take_none [] = refl
take_none (e ∷ edges) = refl

pub begun_placed : (rows : List Winner) (done edges : List Edge) (places : List ℕ) → ArePlaced rows done places → ArePlaced rows (done ++ take zero edges) places
begun_placed rows done edges places are = none_placed rows done (take zero edges) places (take_none edges) are

taken_all : (edges : List Edge) (k : ℕ) → length edges ≤ k → take k edges ≡ edges
taken_all [] zero low = refl
taken_all [] (suc k) low = refl
taken_all (e ∷ edges) zero low = absurd (none_low (length edges) (omega (arith, low)))
taken_all (e ∷ edges) (suc k) low = ap (λ l. e ∷ l) (taken_all edges k (omega (arith, low)))

pub all_placed : (rows : List Winner) (done edges : List Edge) (k : ℕ) (places : List ℕ) → length edges ≤ k → ArePlaced rows (done ++ take k edges) places → ArePlaced rows (done ++ edges) places
all_placed rows done edges k places low are = subst (λ l. ArePlaced rows (done ++ l) places) (taken_all edges k low) are

-- one list of edges more
pub list_placed : (rows : List Winner) (done : List Edge) (old new : List (List Edge)) (edges : List Edge) (places : List ℕ) → new ≡ old ++ edges ∷ []
    → ArePlaced rows ((done ++ flat_map (λ edges. edges) old) ++ edges) places → ArePlaced rows (done ++ flat_map (λ edges. edges) new) places
list_placed rows done old new edges places more are =
    let same : (done ++ flat_map (λ edges. edges) old) ++ edges ≡ done ++ flat_map (λ edges. edges) new =
    append_assoc done (flat_map (λ edges. edges) old) edges
    ∙ ap (λ l. done ++ (flat_map (λ edges. edges) old ++ l)) (sym (append-nil edges))
    ∙ ap (λ l. done ++ l) (sym (flat_map-append (λ edges. edges) old (edges ∷ [])))
    ∙ ap (λ l. done ++ flat_map (λ edges. edges) l) (sym more) in
    subst (λ l. ArePlaced rows l places) same are

-- the project's own edges
pub own_placed : (old rows : List Winner) (declared own : List Edge) (below : List (List Edge)) (none places : List ℕ) → none ≡ [] → below ≡ [] → declared ≡ own
    → ((done : List Edge) → ArePlaced old done none → ArePlaced rows (done ++ declared) places) → ArePlaced rows (own ++ flat_map (λ edges. edges) below) places
own_placed old rows declared own below none places empty above is given =
    let same : declared ≡ own ++ flat_map (λ edges. edges) below = is ∙ sym (ap (λ l. own ++ flat_map (λ edges. edges) l) above ∙ append-nil own) in
    subst (λ l. ArePlaced rows l places) same (given [] (sym (ap (map Some) empty)))
