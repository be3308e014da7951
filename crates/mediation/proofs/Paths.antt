-- The paths of winners as they are kept.
use Rattle.std.proofs.Common.{◌≡◌, ◌≤◌, ◌<◌, drop, get_or, ℕ, zero, suc, ◌+◌, Bool, true, false, ◌||◌, List, [], ◌∷◌, ◌++◌, fold, length, slice_get, Option, Some, None, is_some, unwrap_or, refl, sym, ap, ◌∙◌, cond, arith, length-append}
use Rattle.std.specs.Option.{option_or}
use Rattle.std.proofs.lemmas.List.{drop_all, drop_more}
use Rattle.model_merge.specs.Keyed.{same_key}
use Rattle.mvn_base.specs.declared.key.Key.{Key}
use Rattle.collector.specs.declared.edge.Edge.{Edge}
use Rattle.mediation.specs.declared.winner.Winner.{Winner}
use Rattle.mediation.specs.Rows.{Leads, add_path, path_above, paths_of, row_of}
use Rattle.collector.specs.Winners.{Path, winner_of}
use Rattle.collector.proofs.Firsts.{found_behind}

folded : (paths : List Path) (rows : List Winner) (w : Winner) → fold add_path paths (rows ++ w ∷ []) ≡ add_path (fold add_path paths rows) w
folded paths [] w = refl
folded paths (r ∷ rows) w = folded (add_path paths r) rows w

-- one winner more
pub path_more : (rows : List Winner) (w : Winner) → paths_of (rows ++ w ∷ []) ≡ paths_of rows ++ (w.edge ∷ path_above (paths_of rows) w.edge w.above) ∷ []
path_more rows w = folded [] rows w

pub length_more : (paths : List Path) (p : Path) → length (paths ++ p ∷ []) ≡ length paths + 1
length_more paths p = omega (arith, length-append paths (p ∷ []))

length_folded : (paths : List Path) (rows : List Winner) → length (fold add_path paths rows) ≡ length paths + length rows
length_folded paths [] = zero_more (length paths)
  where
    zero_more : (n : ℕ) → n ≡ n + 0
    zero_more n = omega arith
length_folded paths (r ∷ rows) = length_folded (add_path paths r) rows ∙ ap (λ n. n + length rows) (length_more paths (r.edge ∷ path_above paths r.edge r.above)) ∙ moved (length paths) (length rows)
  where
    moved : (a b : ℕ) → a + 1 + b ≡ a + suc b
    moved a b = omega arith

-- there are as many paths as winners
pub length_paths : (rows : List Winner) → length (paths_of rows) ≡ length rows
length_paths rows = omega (arith, length_folded [] rows)

-- the path above, where it is known
pub above_is : (paths : List Path) (e : Edge) (above : Option ℕ) (front : Path) → Leads paths above front → path_above paths e above ≡ front
above_is paths e None front is = sym is
above_is paths e (Some place) front is = ap (λ o. unwrap_or o (e ∷ [])) is

pub got_more : (paths more : List Path) (k : ℕ) (p : Path) → slice_get paths k ≡ Some p → slice_get (paths ++ more) k ≡ Some p
got_more [] more k p is = absurd (none is)
  where
    none : None ≡ Some p → ⊥
    none e = cc
got_more (q ∷ paths) more zero p is = is
got_more (q ∷ paths) more (suc k) p is = got_more paths more k p is

pub leads_more : (paths more : List Path) (above : Option ℕ) (front : Path) → Leads paths above front → Leads (paths ++ more) above front
leads_more paths more None front is = is
leads_more paths more (Some place) front is = got_more paths more place front is

either : (a s r : Bool) (w : Winner) (p : Path) (o : Option Path) (q : Option Winner) → is_some o ≡ a → is_some q ≡ r → (is_some (option_or o (cond s (Some p) None)) || is_some q) ≡ (is_some o || is_some (cond s (Some w) q))
either a s r w p (Some x) q _ _ = refl
either a true r w p None q _ _ = refl
either a false r w p None q _ _ = refl

has_folded : (paths : List Path) (rows : List Winner) (key : Key) → is_some (winner_of (fold add_path paths rows) key) ≡ (is_some (winner_of paths key) || is_some (row_of rows key))
has_folded paths [] key = none (winner_of paths key)
  where
    none : (o : Option Path) → is_some o ≡ (is_some o || false)
    none (Some x) = refl
    none None = refl
has_folded paths (w ∷ rows) key =
    has_folded (add_path paths w) rows key
    ∙ ap (λ o. is_some o || is_some (row_of rows key)) (found_behind key paths ((w.edge ∷ path_above paths w.edge w.above) ∷ []))
    ∙ either (is_some (winner_of paths key)) (same_key key w.edge.key) (is_some (row_of rows key)) w (w.edge ∷ path_above paths w.edge w.above) (winner_of paths key) (row_of rows key) refl refl

-- a key has a path exactly where it has a winner
pub has_path : (rows : List Winner) (key : Key) → is_some (winner_of (paths_of rows) key) ≡ is_some (row_of rows key)
has_path rows key = has_folded [] rows key

-- the edge at a place, and those behind it
pub next_edge : (edges : List Edge) (k : ℕ) (e : Edge) → k < length edges → e ≡ get_or edges k e → drop k edges ≡ e ∷ drop (k + 1) edges
next_edge edges k e low at = drop_more edges k e low ∙ ap (λ f. f ∷ drop (k + 1) edges) (sym at)

-- nothing is left behind the last
pub no_edge : (edges : List Edge) (k : ℕ) → length edges ≤ k → drop k edges ≡ []
no_edge edges k low = drop_all k edges low
