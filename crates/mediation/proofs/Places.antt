-- The winners at places, and what they lead to.
use Rattle.std.proofs.Common.{◌≡◌, ◌≤◌, ◌<◌, ◌+◌, ℕ, zero, suc, List, [], ◌∷◌, ◌++◌, drop, flat_map, fold, map, length, Option, Some, None, slice_get, unwrap_or, Result, Ok, Err, All, refl, sym, ap, subst, ◌∙◌, arith, append-nil}
use Rattle.std.specs.Option.{option_to_list}
use Rattle.std.proofs.lemmas.Grind.{flat_map-append}
use Rattle.std.proofs.lemmas.List.{drop_all}
use Rattle.std.proofs.lemmas.List.Elements.{All-get_or}
use Rattle.std.proofs.lemmas.Option.{get_or_from_slice_get, slice_get_past, slice_get_within}
use Rattle.model_types.specs.declared.dependency.Dependency.{Dependency}
use Rattle.mvn_base.specs.declared.key.Key.{Key}
use Rattle.collector.specs.declared.edge.Edge.{Edge}
use Rattle.mediation.specs.declared.fault.MediationFault.{MediationFault}
use Rattle.mediation.specs.declared.winner.Winner.{Winner}
use Rattle.mediation.specs.Faults.{Reason}
use Rattle.collector.specs.Edges.{transitive_edges}
use Rattle.mediation.specs.Libraries.{Libraries, declarations, graph_of, leads_to, picked}
use Rattle.mediation.specs.Rows.{Adds, Grows, IsPicked, Leads, add_path, edges_below, path_above, paths_of}
use Rattle.collector.specs.Winners.{Graph, Path, firsts, longer}
use Rattle.mediation.proofs.Paths.{got_more, length_more, length_paths}
use Rattle.mediation.proofs.Growing.{add_more, refused_early, same_rows}
use Rattle.mediation.proofs.Lengths.{next_drop}

got_last : (paths : List Path) (p : Path) → slice_get (paths ++ p ∷ []) (length paths) ≡ Some p
got_last [] p = refl
got_last (q ∷ paths) p = got_last paths p

got_folded : (paths : List Path) (rows : List Winner) (k : ℕ) (p : Path) → slice_get paths k ≡ Some p → slice_get (fold add_path paths rows) k ≡ Some p
got_folded paths [] k p is = is
got_folded paths (r ∷ rows) k p is = got_folded (add_path paths r) rows k p (got_more paths ((r.edge ∷ path_above paths r.edge r.above) ∷ []) k p is)

-- the path at a place ends at the winner there
abbrev pub PathAt : List Path → ℕ → Winner → Type 0
PathAt paths k w = (front : Path) × (slice_get paths k ≡ Some (w.edge ∷ front))

path_folded : (paths : List Path) (rows : List Winner) (k : ℕ) (w : Winner) → slice_get rows k ≡ Some w → PathAt (fold add_path paths rows) (length paths + k) w
path_folded paths [] k w is = absurd (none is)
  where
    none : None ≡ Some w → ⊥
    none e = cc
path_folded paths (r ∷ rows) zero w is =
    let same : r ≡ w = ap (λ o. unwrap_or o r) is in
    let front = path_above paths r.edge r.above in
    let at : slice_get (fold add_path (add_path paths r) rows) (length paths) ≡ Some (r.edge ∷ front) =
    got_folded (add_path paths r) rows (length paths) (r.edge ∷ front) (got_last paths (r.edge ∷ front)) in
    let here : length paths ≡ length paths + 0 = omega arith in
    subst (λ n. PathAt (fold add_path (add_path paths r) rows) n w) here (subst (λ v. PathAt (fold add_path (add_path paths r) rows) (length paths) v) same (front, at))
path_folded paths (r ∷ rows) (suc k) w is =
    let more = length_more paths (r.edge ∷ path_above paths r.edge r.above) in
    let there : length (add_path paths r) + k ≡ length paths + suc k = omega (arith, more) in
    subst (λ n. PathAt (fold add_path (add_path paths r) rows) n w) there (path_folded (add_path paths r) rows k w is)

pub path_at : (rows : List Winner) (k : ℕ) (w : Winner) → slice_get rows k ≡ Some w → PathAt (paths_of rows) k w
path_at rows k w is =
    let same : 0 + k ≡ k = omega arith in
    subst (λ n. PathAt (paths_of rows) n w) same (path_folded [] rows k w is)

got_none : {T : Type 0} (xs : List T) (k : ℕ) → slice_get xs k ≡ None → length xs ≤ k
got_none [] k is = omega arith
got_none (x ∷ xs) zero is = absurd (some is)
  where
    some : Some x ≡ None → ⊥
    some e = cc
got_none (x ∷ xs) (suc k) is = omega (arith, got_none xs k is)

-- where no winner is, no path is
pub no_path : (rows : List Winner) (k : ℕ) → slice_get rows k ≡ None → slice_get (paths_of rows) k ≡ None
no_path rows k is = slice_get_past (paths_of rows) k (omega (arith, got_none rows k is, length_paths rows))

pub all_at : (P : Winner → Type 0) (rows : List Winner) (k : ℕ) (w : Winner) → All P rows → slice_get rows k ≡ Some w → P w
all_at P rows k w all is = subst P (get_or_from_slice_get rows k w w is) (All-get_or P rows k w (slice_get_within rows k w is) all)

-- the paths that stood stand still
abbrev pub Stands : List Winner → List Winner → Type 0
Stands first rows = (k : ℕ) (p : Path) → slice_get (paths_of first) k ≡ Some p → slice_get (paths_of rows) k ≡ Some p

abbrev value_or : {X : Type 0} → X → Result X Reason → X
value_or d (Ok x) = x
value_or d (Err r) = d

pub same_value : (a b : List Edge) → ◌≡◌ {A = Result (List Edge) Reason} (Ok a) (Ok b) → a ≡ b
same_value a b e = ap (value_or a) e

module _ (libraries : Libraries) where
  -- a winner leads to the edges that its version's POM leads to
  pub expanded : (managed : List (Key × Dependency)) (direct : List Dependency) (rows new : List Winner) (place : ℕ) (w : Winner) (edges : List Edge) (result : Result (Unit {0}) MediationFault)
      → slice_get rows place ≡ Some w → All (IsPicked libraries) rows → edges ≡ edges_below managed w
      → ((front : Path) → Leads (paths_of rows) (Some place) front → Adds libraries rows new (map (λ e. e ∷ front) edges) result)
      → Adds libraries rows new (flat_map (longer (graph_of libraries managed direct)) (option_to_list (slice_get (paths_of rows) place))) result
  expanded managed direct rows new place w edges result got picks is adds =
      let graph = graph_of libraries managed direct in
      let there = path_at rows place w got in
      let path = w.edge ∷ there.0 in
      let pick = all_at (IsPicked libraries) rows place w picks got in
      let all : flat_map (longer graph) (option_to_list (slice_get (paths_of rows) place)) ≡ map (λ e. e ∷ path) edges =
      ap (λ o. flat_map (longer graph) (option_to_list o)) there.1
      ∙ append-nil (longer graph path)
      ∙ ap (λ p. map (λ e. e ∷ path) (leads_to libraries managed w.edge p)) pick.version
      ∙ ap (λ k. map (λ e. e ∷ path) (transitive_edges (declarations k) managed w.edge.exclusions)) (sym pick.known)
      ∙ ap (λ l. map (λ e. e ∷ path) l) (sym is) in
      subst (λ l. Adds libraries rows new l result) (sym all) (adds path there.1)

  -- nothing stands at a place
  pub nothing_there : (graph : Graph) (rows : List Winner) (place : ℕ) → slice_get rows place ≡ None → Grows libraries rows rows (flat_map (longer graph) (option_to_list (slice_get (paths_of rows) place)))
  nothing_there graph rows place none = subst (λ l. Grows libraries rows rows l) (ap (λ o. flat_map (longer graph) (option_to_list o)) (sym (no_path rows place none))) (same_rows libraries rows)

  pub stands_more : (first rows new : List Winner) (paths : List Path) → Stands first rows → Grows libraries rows new paths → Stands first new
  stands_more first rows new paths stands grown k p is =
      subst (λ l. slice_get l k ≡ Some p) (sym grown.wins) (got_more (paths_of rows) (firsts (paths_of rows) paths) k p (stands k p is))

  still_there : (first rows : List Winner) (place : ℕ) → place < length first → Stands first rows → slice_get (paths_of rows) place ≡ slice_get (paths_of first) place
  still_there first rows place low stands = by (slice_get (paths_of first) place) refl
    where
      by : (o : Option Path) → slice_get (paths_of first) place ≡ o → slice_get (paths_of rows) place ≡ slice_get (paths_of first) place
      by None is = absurd (omega (arith, got_none (paths_of first) place is, length_paths first, low))
      by (Some p) is = stands place p is ∙ sym is

  -- the next winner of a level, and the rest of it
  parts : (graph : Graph) (first rows : List Winner) (place : ℕ) → place < length first → Stands first rows
      → flat_map (longer graph) (drop place (paths_of first)) ≡ flat_map (longer graph) (option_to_list (slice_get (paths_of rows) place)) ++ flat_map (longer graph) (drop (place + 1) (paths_of first))
  parts graph first rows place low stands =
      let next : suc place ≡ place + 1 = omega arith in
      ap (λ l. flat_map (longer graph) l) (next_drop (paths_of first) place)
      ∙ flat_map-append (longer graph) (option_to_list (slice_get (paths_of first) place)) (drop (suc place) (paths_of first))
      ∙ ap (λ o. flat_map (longer graph) (option_to_list o) ++ flat_map (longer graph) (drop (suc place) (paths_of first))) (sym (still_there first rows place low stands))
      ∙ ap (λ n. flat_map (longer graph) (option_to_list (slice_get (paths_of rows) place)) ++ flat_map (longer graph) (drop n (paths_of first))) next

  pub level_step : (graph : Graph) (first rows mid new : List Winner) (place : ℕ) (result : Result (Unit {0}) MediationFault) → place < length first → Stands first rows
      → Grows libraries rows mid (flat_map (longer graph) (option_to_list (slice_get (paths_of rows) place)))
      → Adds libraries mid new (flat_map (longer graph) (drop (place + 1) (paths_of first))) result
      → Adds libraries rows new (flat_map (longer graph) (drop place (paths_of first))) result
  level_step graph first rows mid new place result low stands grown adds =
      subst (λ l. Adds libraries rows new l result) (sym (parts graph first rows place low stands))
      (add_more libraries rows mid new (flat_map (longer graph) (option_to_list (slice_get (paths_of rows) place))) (flat_map (longer graph) (drop (place + 1) (paths_of first))) result grown adds)

  pub level_stopped : (graph : Graph) (first rows new other : List Winner) (place : ℕ) (fault : MediationFault) → place < length first → Stands first rows
      → Adds {T = Unit {0}} libraries rows new (flat_map (longer graph) (option_to_list (slice_get (paths_of rows) place))) (Err fault)
      → Adds {T = Unit {0}} libraries rows other (flat_map (longer graph) (drop place (paths_of first))) (Err fault)
  level_stopped graph first rows new other place fault low stands is =
      subst (λ l. Adds {T = Unit {0}} libraries rows other l (Err fault)) (sym (parts graph first rows place low stands))
      (refused_early libraries rows new other (flat_map (longer graph) (option_to_list (slice_get (paths_of rows) place))) (flat_map (longer graph) (drop (place + 1) (paths_of first))) fault is)

  pub level_done : (graph : Graph) (first rows : List Winner) (place : ℕ) → length first ≤ place → Grows libraries rows rows (flat_map (longer graph) (drop place (paths_of first)))
  level_done graph first rows place low =
      let past : length (paths_of first) ≤ place = omega (arith, length_paths first, low) in
      subst (λ l. Grows libraries rows rows (flat_map (longer graph) l)) (sym (drop_all place (paths_of first) past)) (same_rows libraries rows)
