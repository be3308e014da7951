-- The places of winners, and their paths.
use Rattle.std.proofs.Common.{◌≡◌, ◌⊎◌, inl, inr, ℕ, zero, suc, ◌+◌, ◌<◌, ◌≤◌, Bool, true, false, not, cond, nat_lt, List, [], ◌∷◌, ◌++◌, find, fold, length, position, slice_get, Option, Some, None, is_none, is_some, unwrap_or, refl, sym, ap, subst, ◌∙◌, arith}
use Rattle.std.specs.List.{position_or_len}
use Rattle.std.proofs.lemmas.Bool.{false≢true}
use Rattle.std.proofs.lemmas.Bool.Decides.{nat_tests}
use Rattle.mvn_base.specs.declared.key.Key.{Key}
use Rattle.model_merge.specs.Keyed.{same_key}
use Rattle.collector.specs.declared.edge.Edge.{Edge}
use Rattle.mediation.specs.Rows.{add_path, path_above, paths_of, place_of, row_of}
use Rattle.mediation.specs.declared.winner.Winner.{Winner}
use Rattle.collector.specs.Winners.{Path}
use Rattle.collector.proofs.Firsts.{same_key_is}
use Rattle.resolution.specs.Scopes.{is_single}

pub some_is_none : {A : Type 0} (x : A) → ◌≡◌ {A = Option A} (Some x) None → ⊥
some_is_none x e = cc

-- the first that passes a test, at its place
pub record FoundAt (p : Winner → Bool) (rows : List Winner) (n : ℕ) : Type 0 where
  pub row : Winner
  pub got : slice_get rows n ≡ Some row
  pub passes : p row ≡ true

found_at : (p : Winner → Bool) (rows : List Winner) (n : ℕ) → n ≡ position_or_len p rows → n < length rows → FoundAt p rows n
found_at p [] n e low = absurd (never n low)
  where
    never : (n : ℕ) → n < 0 → ⊥
    never n low = omega (arith, low)
found_at p (w ∷ rows) n e low = by (p w) refl (found_at p rows (position_or_len p rows) refl)
  where
    by : (b : Bool) → p w ≡ b → (position_or_len p rows < length rows → FoundAt p rows (position_or_len p rows)) → FoundAt p (w ∷ rows) n
    by true is rest =
        let here : n ≡ 0 = e ∙ ap (λ b. cond (not b) (1 + position_or_len p rows) 0) is in
        subst (λ n. FoundAt p (w ∷ rows) n) (sym here) (record { row = w; got = refl; passes = is })
    by false is rest =
        let there : n ≡ 1 + position_or_len p rows = e ∙ ap (λ b. cond (not b) (1 + position_or_len p rows) 0) is in
        let next : n ≡ suc (position_or_len p rows) = omega (arith, there) in
        let found = rest (omega (arith, next, low)) in
        subst (λ n. FoundAt p (w ∷ rows) n) (sym next) (record { row = found.row; got = found.got; passes = found.passes })

-- the place of a key has the winner of the key
pub placed : (rows : List Winner) (key : Key) (i : ℕ) → place_of rows key ≡ Some i → FoundAt (λ w. same_key key w.edge.key) rows i
placed rows key i is = by (nat_lt (position_or_len (λ w. same_key key w.edge.key) rows) (length rows)) refl is
  where
    by : (b : Bool) → nat_lt (position_or_len (λ w. same_key key w.edge.key) rows) (length rows) ≡ b → cond b (Some (position_or_len (λ w. same_key key w.edge.key) rows)) None ≡ Some i → FoundAt (λ w. same_key key w.edge.key) rows i
    by true low is = found_at (λ w. same_key key w.edge.key) rows i (sym (ap (λ o. unwrap_or o 0) is)) (grind (arith, nat_tests, low, ap (λ o. unwrap_or o 0) is))
    by false low is = absurd (some_is_none i (sym is))

-- a key that has a winner has a place
found_low : (p : Winner → Bool) (rows : List Winner) → is_some (find p rows) ≡ true → position_or_len p rows < length rows
found_low p [] some = absurd (false≢true some)
found_low p (w ∷ rows) some = by (p w) some (found_low p rows)
  where
    by : (b : Bool) → is_some (cond b (Some w) (find p rows)) ≡ true → (is_some (find p rows) ≡ true → position_or_len p rows < length rows) → cond (not b) (1 + position_or_len p rows) 0 < suc (length rows)
    by true some rest = omega arith
    by false some rest = omega (arith, rest some)

pub has_place : (rows : List Winner) (key : Key) → is_some (row_of rows key) ≡ true → (i : ℕ) × (place_of rows key ≡ Some i)
has_place rows key some =
    let low : nat_lt (position_or_len (λ w. same_key key w.edge.key) rows) (length rows) ≡ true = grind (arith, nat_tests, found_low (λ w. same_key key w.edge.key) rows some) in (
      position_or_len (λ w. same_key key w.edge.key) rows,
      ap (λ b. cond b (Some (position_or_len (λ w. same_key key w.edge.key) rows)) None) low,
    )

pub same_key_at : (rows : List Winner) (key : Key) (i : ℕ) (w : Winner) → FoundAt (λ w. same_key key w.edge.key) rows i → slice_get rows i ≡ Some w → key ≡ w.edge.key
same_key_at rows key i w found got =
    let same : found.row ≡ w = ap (λ o. unwrap_or o w) (sym found.got ∙ got) in
    same_key_is key w.edge.key (sym (ap (λ v. same_key key v.edge.key) same) ∙ found.passes)

-- paths that aren't empty
abbrev pub is_filled : Path → Bool
is_filled [] = false
is_filled (e ∷ path) = true

abbrev AllFilled : List Path → Type 0
AllFilled [] = Unit {0}
AllFilled (p ∷ paths) = (is_filled p ≡ true) × AllFilled paths

filled_more : (paths : List Path) (e : Edge) (path : Path) → AllFilled paths → AllFilled (paths ++ (e ∷ path) ∷ [])
filled_more [] e path all = (refl, tt)
filled_more (p ∷ paths) e path all = (all.0, filled_more paths e path all.1)

filled_at : (paths : List Path) (k : ℕ) (p : Path) → AllFilled paths → slice_get paths k ≡ Some p → is_filled p ≡ true
filled_at [] k p all is = absurd (some_is_none p (sym is))
filled_at (q ∷ paths) zero p all is = sym (ap (λ o. is_filled (unwrap_or o q)) is) ∙ all.0
filled_at (q ∷ paths) (suc k) p all is = filled_at paths k p all.1 is

-- a path below a winner has more than one edge
single_below : (e : Edge) (front : Path) → is_filled front ≡ true → is_single (e ∷ front) ≡ false
single_below e [] is = absurd (false≢true is)
single_below e (f ∷ front) is = refl

single_is : (paths : List Path) (e : Edge) (above : Option ℕ) → AllFilled paths → is_single (e ∷ path_above paths e above) ≡ is_none above
single_is paths e None all = refl
single_is paths e (Some k) all = by (slice_get paths k) refl
  where
    by : (o : Option Path) → slice_get paths k ≡ o → is_single (e ∷ unwrap_or o (e ∷ [])) ≡ false
    by None is = refl
    by (Some p) is = single_below e p (filled_at paths k p all is)

-- a winner's path, and whether the project declares it
pub record PathOf (paths : List Path) (k : ℕ) (w : Winner) : Type 0 where
  pub front : Path
  pub got : slice_get paths k ≡ Some (w.edge ∷ front)
  pub single : is_single (w.edge ∷ front) ≡ is_none w.above

got_last : (paths : List Path) (p : Path) → slice_get (paths ++ p ∷ []) (length paths) ≡ Some p
got_last [] p = refl
got_last (q ∷ paths) p = got_last paths p

got_more : (paths more : List Path) (k : ℕ) (p : Path) → slice_get paths k ≡ Some p → slice_get (paths ++ more) k ≡ Some p
got_more [] more k p is = absurd (some_is_none p (sym is))
got_more (q ∷ paths) more zero p is = is
got_more (q ∷ paths) more (suc k) p is = got_more paths more k p is

got_folded : (paths : List Path) (rows : List Winner) (k : ℕ) (p : Path) → slice_get paths k ≡ Some p → slice_get (fold add_path paths rows) k ≡ Some p
got_folded paths [] k p is = is
got_folded paths (r ∷ rows) k p is = got_folded (add_path paths r) rows k p (got_more paths ((r.edge ∷ path_above paths r.edge r.above) ∷ []) k p is)

length_last : (paths : List Path) (p : Path) → length (paths ++ p ∷ []) ≡ length paths + 1
length_last [] p = refl
length_last (q ∷ paths) p = omega (arith, length_last paths p)

path_folded : (paths : List Path) (rows : List Winner) (k : ℕ) (w : Winner) → AllFilled paths → slice_get rows k ≡ Some w → PathOf (fold add_path paths rows) (length paths + k) w
path_folded paths [] k w all is = absurd (some_is_none w (sym is))
path_folded paths (r ∷ rows) zero w all is =
    let same : r ≡ w = ap (λ o. unwrap_or o r) is in
    let front = path_above paths r.edge r.above in
    let at : slice_get (fold add_path (add_path paths r) rows) (length paths) ≡ Some (r.edge ∷ front) =
    got_folded (add_path paths r) rows (length paths) (r.edge ∷ front) (got_last paths (r.edge ∷ front)) in
    let here : length paths ≡ length paths + 0 = omega arith in
    subst (λ n. PathOf (fold add_path (add_path paths r) rows) n w) here
    (subst (λ v. PathOf (fold add_path (add_path paths r) rows) (length paths) v) same (record { front = front; got = at; single = single_is paths r.edge r.above all }))
path_folded paths (r ∷ rows) (suc k) w all is =
    let more = length_last paths (r.edge ∷ path_above paths r.edge r.above) in
    let there : length (add_path paths r) + k ≡ length paths + suc k = omega (arith, more) in
    subst (λ n. PathOf (fold add_path (add_path paths r) rows) n w) there
    (path_folded (add_path paths r) rows k w (filled_more paths r.edge (path_above paths r.edge r.above) all) is)

pub path_of : (rows : List Winner) (k : ℕ) (w : Winner) → slice_get rows k ≡ Some w → PathOf (paths_of rows) k w
path_of rows k w is =
    let same : 0 + k ≡ k = omega arith in
    subst (λ n. PathOf (paths_of rows) n w) same (path_folded [] rows k w tt is)
