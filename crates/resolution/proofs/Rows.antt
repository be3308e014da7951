-- All winners of a project are one list.
use Rattle.std.proofs.Common.{◌≡◌, inl, inr, ◌≤◌, ◌<◌, ◌+◌, ℕ, zero, suc, Bool, true, false, List, [], ◌∷◌, ◌++◌, fold, length, nat_lt, slice_get, slice_index_or, Option, Some, None, unwrap_or, Result, Ok, Err, All, refl, sym, ap, subst, ◌∙◌, arith}
use Rattle.std.proofs.lemmas.Bool.{false≢true}
use Rattle.std.proofs.lemmas.Bool.Decides.{nat_tests}
use Rattle.std.proofs.lemmas.Option.{slice_get_within}
use Rattle.mvn_base.specs.declared.key.Key.{Key}
use Rattle.model_types.specs.declared.dependency.Dependency.{Dependency}
use Rattle.collector.specs.declared.edge.Edge.{Edge}
use Rattle.mediation.specs.Counting.{IsMediated}
use Rattle.mediation.specs.Faults.{Reason}
use Rattle.mediation.specs.Libraries.{Libraries, gav_of, graph_of, picked}
use Rattle.mediation.specs.Rows.{IsPicked, IsWhole, add_path, path_above, paths_of}
use Rattle.mediation.specs.declared.winner.Winner.{Winner}
use Rattle.mediation.proofs.Nearest.{won_mediated}
use Rattle.mediation.proofs.Paths.{got_more, length_more}
use Rattle.mediation.proofs.Places.{no_path, path_at}
use Rattle.mediation.proofs.Within.{IsIn, found_alone, same_self}
use Rattle.collector.specs.Winners.{Path, SharesNone, ends_at, shares_end, winner_of}

none_some : {A : Type 0} (x : A) → ◌≡◌ {A = Option A} None (Some x) → ⊥
none_some x e = cc

at_in : (xs : List Path) (k : ℕ) (p : Path) → slice_get xs k ≡ Some p → IsIn xs p
at_in [] k p is = absurd (none_some p is)
at_in (x ∷ xs) zero p is = inl (ap (λ o. unwrap_or o x) is)
at_in (x ∷ xs) (suc k) p is = inr (at_in xs k p is)

index_is : (xs : List Path) (k : ℕ) (p d : Path) → slice_get xs k ≡ Some p → slice_index_or xs k d ≡ p
index_is [] k p d is = absurd (none_some p is)
index_is (x ∷ xs) zero p d is = ap (λ o. unwrap_or o x) is
index_is (x ∷ xs) (suc k) p d is = index_is xs k p d is

-- of paths with keys of their own no two at different places end alike
differ : (xs : List Path) (i j : ℕ) (p q : Path) → SharesNone xs → i < j → slice_get xs i ≡ Some p → slice_get xs j ≡ Some q → shares_end p q ≡ false
differ xs i j p q apart less at there =
    subst (λ x. shares_end x q ≡ false) (index_is xs i p q at)
    (subst (λ y. shares_end (slice_index_or xs i q) y ≡ false) (index_is xs j q q there)
    (apart i j q less (slice_get_within xs j q there)))

-- winners' paths: none is empty, none stands below its own edge alone, and each has one place
record IsFit (all : List Path) : Type 0 where
  filled : (k : ℕ) → slice_get all k ≡ Some [] → ⊥
  alone : (k : ℕ) (e : Edge) → slice_get all k ≡ Some (e ∷ e ∷ []) → ⊥
  once : (i j : ℕ) (p : Path) → slice_get all i ≡ Some p → slice_get all j ≡ Some p → i ≡ j

module _ (rows : List Winner) where
  filled_rows : (k : ℕ) → slice_get (paths_of rows) k ≡ Some [] → ⊥
  filled_rows k is = by (slice_get rows k) refl
    where
      never : (e : Edge) (p : Path) → ◌≡◌ {A = Option Path} (Some (e ∷ p)) (Some []) → ⊥
      never e p same = cc

      by : (o : Option Winner) → slice_get rows k ≡ o → ⊥
      by None none = none_some [] (sym (no_path rows k none) ∙ is)
      by (Some w) got = let there = path_at rows k w got in never w.edge there.0 (sym there.1 ∙ is)

  once_rows : SharesNone (paths_of rows) → (i j : ℕ) (p : Path) → slice_get (paths_of rows) i ≡ Some p → slice_get (paths_of rows) j ≡ Some p → i ≡ j
  once_rows apart i j [] at there = absurd (filled_rows i at)
  once_rows apart i j (e ∷ path) at there = by (nat_lt i j) refl (nat_lt j i) refl
    where
      p : Path
      p = e ∷ path

      same : (a b : ℕ) → a < b → slice_get (paths_of rows) a ≡ Some p → slice_get (paths_of rows) b ≡ Some p → ⊥
      same a b less x y = false≢true (sym (differ (paths_of rows) a b p p apart less x y) ∙ same_self e.key)

      by : (x : Bool) → nat_lt i j ≡ x → (y : Bool) → nat_lt j i ≡ y → i ≡ j
      by true less y _ = absurd (same i j (grind (arith, nat_tests, less)) at there)
      by false _ true less = absurd (same j i (grind (arith, nat_tests, less)) there at)
      by false least false other = grind (arith, nat_tests, least, other)

fit : (libraries : Libraries) (managed : List (Key × Dependency)) (direct : List Dependency) (rows : List Winner) → IsWhole libraries (graph_of libraries managed direct) rows → IsFit (paths_of rows)
fit libraries managed direct rows whole =
    let won = won_mediated libraries managed direct rows whole in
    record { filled = filled_rows rows; alone = alone won; once = once_rows rows won.one }
  where
    longer_is : (e : Edge) → ◌≡◌ {A = Option Path} (Some (e ∷ e ∷ [])) (Some (e ∷ [])) → ⊥
    longer_is e same = cc

    alone : IsMediated (graph_of libraries managed direct) (paths_of rows) → (k : ℕ) (e : Edge) → slice_get (paths_of rows) k ≡ Some (e ∷ e ∷ []) → ⊥
    alone won k e is =
        let here = found_alone (paths_of rows) e (e ∷ []) won.one (at_in (paths_of rows) k (e ∷ e ∷ []) is) in
        longer_is e (sym here ∙ (won.counts e.key (e ∷ e ∷ []) here).1)

got_last : (paths : List Path) (p : Path) → slice_get (paths ++ p ∷ []) (length paths) ≡ Some p
got_last [] p = refl
got_last (q ∷ paths) p = got_last paths p

got_folded : (paths : List Path) (rows : List Winner) (k : ℕ) (p : Path) → slice_get paths k ≡ Some p → slice_get (fold add_path paths rows) k ≡ Some p
got_folded paths [] k p is = is
got_folded paths (r ∷ rows) k p is = got_folded (add_path paths r) rows k p (got_more paths ((r.edge ∷ path_above paths r.edge r.above) ∷ []) k p is)

long : (paths : List Path) (rows : List Winner) → length paths ≤ length (fold add_path paths rows)
long paths [] = omega arith
long paths (r ∷ rows) = omega (arith, long (add_path paths r) rows, length_more paths (r.edge ∷ path_above paths r.edge r.above))

-- there is no winner more
none_more : (paths all : List Path) (w : Winner) (rows : List Winner) → paths ≡ all → fold add_path paths (w ∷ rows) ≡ all → ⊥
none_more paths all w rows is more =
    omega (arith, ap length is, ap length more, long (add_path paths w) rows, length_more paths (w.edge ∷ path_above paths w.edge w.above))

-- the first of the rest stands behind those that are there
next_at : (paths all : List Path) (w : Winner) (rows : List Winner) → fold add_path paths (w ∷ rows) ≡ all → slice_get all (length paths) ≡ Some (w.edge ∷ path_above paths w.edge w.above)
next_at paths all w rows is =
    let p = w.edge ∷ path_above paths w.edge w.above in
    ap (λ l. slice_get l (length paths)) (sym is) ∙ got_folded (add_path paths w) rows (length paths) p (got_last paths p)

module _ (paths all : List Path) (e : Edge) (at : ℕ) (known : (k : ℕ) (p : Path) → slice_get paths k ≡ Some p → slice_get all k ≡ Some p) (fits : IsFit all) where
  -- the place above a winner has the path above
  front_at : (front : Path) → slice_get all at ≡ Some (e ∷ front) → (k : ℕ) → path_above paths e (Some k) ≡ front → slice_get all k ≡ Some front
  front_at front here k is = by (slice_get paths k) refl is
    where
      by : (o : Option Path) → slice_get paths k ≡ o → unwrap_or o (e ∷ []) ≡ front → slice_get all k ≡ Some front
      by None none is = absurd (fits.alone at e (here ∙ ap (λ f. Some (e ∷ f)) (sym is)))
      by (Some p) got is = known k p got ∙ ap Some is

  -- so a path has one place above it
  one_above : (front : Path) → slice_get all at ≡ Some (e ∷ front) → (a b : Option ℕ) → path_above paths e a ≡ front → path_above paths e b ≡ front → a ≡ b
  one_above front here None None is other = refl
  one_above front here None (Some k) is other = absurd (fits.filled k (front_at front here k other ∙ ap Some (sym is)))
  one_above front here (Some k) None is other = absurd (fits.filled k (front_at front here k is ∙ ap Some (sym other)))
  one_above front here (Some k) (Some j) is other = ap Some (fits.once k j front (front_at front here k is) (front_at front here j other))

abbrev head_or : Edge → Path → Edge
head_or d [] = d
head_or d (e ∷ path) = e

abbrev tail_of : Path → Path
tail_of [] = []
tail_of (e ∷ path) = path

abbrev version_or : List ℕ → Result (List ℕ) Reason → List ℕ
version_or d (Ok version) = version
version_or d (Err r) = d

module _ (libraries : Libraries) where
  -- winners of one edge below one place are one
  one_row : (v w : Winner) → v.edge ≡ w.edge → v.above ≡ w.above → IsPicked libraries v → IsPicked libraries w → v ≡ w
  one_row v w edge above first second =
      let version : v.version ≡ w.version = ap (version_or v.version) (sym first.version ∙ ap (picked libraries) edge ∙ second.version) in
      let coordinate : gav_of v.edge.key v.version ≡ gav_of w.edge.key w.version = (λ i. gav_of (edge i).key (version i)) in
      let known : v.known ≡ w.known = first.known ∙ ap libraries.at coordinate ∙ sym second.known in
      λ i. record { edge = edge i; version = version i; above = above i; known = known i }

  rest_picked : (w : Winner) (rows : List Winner) → All (IsPicked libraries) (w ∷ rows) → All (IsPicked libraries) rows
  rest_picked w rows all k d low = all (suc k) d (omega (arith, low))

  same_next : (all paths : List Path) (v w : Winner) (one other : List Winner) → IsFit all → fold add_path paths (v ∷ one) ≡ all → fold add_path paths (w ∷ other) ≡ all
      → IsPicked libraries v → IsPicked libraries w → v ≡ w
  same_next all paths v w one other fits is there first second =
      let at = next_at paths all v one is in
      let same : v.edge ∷ path_above paths v.edge v.above ≡ w.edge ∷ path_above paths w.edge w.above =
      ap (λ o. unwrap_or o (v.edge ∷ path_above paths v.edge v.above)) (sym at ∙ next_at paths all w other there) in
      let edge : v.edge ≡ w.edge = ap (head_or v.edge) same in
      let front : path_above paths v.edge w.above ≡ path_above paths v.edge v.above = ap (λ e. path_above paths e w.above) edge ∙ sym (ap tail_of same) in
      let known : (k : ℕ) (p : Path) → slice_get paths k ≡ Some p → slice_get all k ≡ Some p =
      λ k p got. ap (λ l. slice_get l k) (sym is) ∙ got_folded paths (v ∷ one) k p got in
      one_row v w edge (one_above paths all v.edge (length paths) known fits (path_above paths v.edge v.above) at v.above w.above refl front) first second

  same_from : (all paths : List Path) (one other : List Winner) → IsFit all → fold add_path paths one ≡ all → fold add_path paths other ≡ all
      → All (IsPicked libraries) one → All (IsPicked libraries) other → one ≡ other
  same_from all paths [] [] fits is there first second = refl
  same_from all paths [] (w ∷ other) fits is there first second = absurd (none_more paths all w other is there)
  same_from all paths (v ∷ one) [] fits is there first second = absurd (none_more paths all v one there is)
  same_from all paths (v ∷ one) (w ∷ other) fits is there first second =
      let row = same_next all paths v w one other fits is there (first 0 v (omega arith)) (second 0 w (omega arith)) in
      let rest = same_from all (add_path paths v) one other fits is (ap (λ x. fold add_path (add_path paths x) other) row ∙ there) (rest_picked v one first) (rest_picked w other second) in
      λ i. row i ∷ rest i

-- all winners of a project are one list
pub same_winners : (libraries : Libraries) (managed : List (Key × Dependency)) (direct : List Dependency) (one other : List Winner)
    → IsWhole libraries (graph_of libraries managed direct) one → IsWhole libraries (graph_of libraries managed direct) other → one ≡ other
same_winners libraries managed direct one other first second =
    let far = first.longest + second.longest in
    let same : paths_of other ≡ paths_of one = second.wins far (omega arith) ∙ sym (first.wins far (omega arith)) in
    same_from libraries (paths_of one) [] one other (fit libraries managed direct one first) refl same first.versions second.versions
