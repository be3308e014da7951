-- What holds of all winners of a project.
use Rattle.std.proofs.Common.{◌≡◌, inl, inr, ◌<◌, ◌≤◌, ◌+◌, ℕ, zero, suc, Bool, true, false, List, [], ◌∷◌, Contains, flat_map, find, length, slice_index_or, Some, is_some, Result, Ok, Err, refl, sym, ap, subst, ◌∙◌, cond, arith}
use Rattle.std.proofs.lemmas.Bool.{false≢true}
use Rattle.std.proofs.lemmas.List.Elements.{All-contains, Contains-append_left, Contains-append_right}
use Rattle.collector.specs.Edges.{direct_edges}
use Rattle.collector.specs.declared.edge.Edge.{Edge}
use Rattle.model_types.specs.declared.dependency.Dependency.{Dependency}
use Rattle.mvn_base.specs.declared.key.Key.{Key}
use Rattle.model_merge.specs.Keyed.{same_key}
use Rattle.mediation.specs.declared.winner.Winner.{Winner}
use Rattle.mediation.specs.Counting.{Counts, IsMediated, Wins}
use Rattle.mediation.specs.Faults.{Reason}
use Rattle.mediation.specs.Libraries.{Libraries, declarations, gav_of, graph_of, leads_to, picked}
use Rattle.mediation.specs.Rows.{IsWhole, paths_of}
use Rattle.collector.specs.Winners.{Ascends, Graph, IsAtMost, IsOrdered, Path, SharesNone, counting, ends_at, is_won, level, longer, next_edges, winner_of, winners}
use Rattle.collector.proofs.Apart.{one_winner}
use Rattle.collector.proofs.Ascends.{least}
use Rattle.collector.proofs.Direct.{direct_stands}
use Rattle.collector.proofs.Firsts.{first_counts}
use Rattle.collector.proofs.Positions.{direct_ascends, transitive_ascends}
use Rattle.mediation.proofs.Within.{IsIn, counts_next, found_alone, found_in, in_from, in_to, level_front, level_of, level_wins, same_self, winners_kept}

find_any : (test : Path → Bool) (xs : List Path) (k : ℕ) (d : Path) → k < length xs → test (slice_index_or xs k d) ≡ true → is_some (find test xs) ≡ true
find_any test [] k d low is = absurd (omega (arith, low))
find_any test (x ∷ xs) zero d low is = ap (λ b. is_some (cond b (Some x) (find test xs))) is
find_any test (x ∷ xs) (suc k) d low is = by (test x) (find_any test xs k d (omega (arith, low)) is)
  where
    by : (b : Bool) → is_some (find test xs) ≡ true → is_some (cond b (Some x) (find test xs)) ≡ true
    by true rest = refl
    by false rest = rest

won_at : (xs : List Path) (p : Path) (k : ℕ) (d : Path) → k < length xs → slice_index_or xs k d ≡ p → is_won xs p ≡ true
won_at xs [] k d low is = refl
won_at xs (e ∷ path) k d low is = find_any (ends_at e.key) xs k d low (ap (ends_at e.key) is ∙ same_self e.key)

-- each path of a list has its key there
won_here : (xs : List Path) (p : Path) → Contains xs p → is_won xs p ≡ true
won_here xs p there = All-contains (λ q. is_won xs q ≡ true) xs p (λ k d low. won_at xs (slice_index_or xs k d) k d low refl) there

same_won : (graph : Graph) (n : ℕ) (p : Path) → is_won (winners graph n) p ≡ is_won (counting graph n) p
same_won graph n [] = refl
same_won graph n (e ∷ path) = ap is_some (first_counts graph n e.key)

-- what counts up to a length counts up to a greater one
more_counts : (graph : Graph) (n k : ℕ) (p : Path) → Contains (counting graph n) p → Contains (counting graph (n + k)) p
more_counts graph n zero p there =
    let same : n ≡ n + 0 = omega arith in
    subst (λ m. Contains (counting graph m) p) same there
more_counts graph n (suc k) p there =
    let next : suc (n + k) ≡ n + suc k = omega arith in
    subst (λ m. Contains (counting graph m) p) next (Contains-append_left (counting graph (n + k)) (flat_map (longer graph) (level graph (n + k))) p (more_counts graph n k p there))

-- the graph stands in the order of the declarations
ordered : (libraries : Libraries) (managed : List (Key × Dependency)) (direct : List Dependency) → IsOrdered (graph_of libraries managed direct)
ordered libraries managed direct = record { direct = direct_ascends direct; below = λ e. by e (picked libraries e) }
  where
    by : (e : Edge) (r : Result (List ℕ) Reason) → Ascends (leads_to libraries managed e r)
    by e (Ok version) = transitive_ascends (declarations (libraries.at (gav_of e.key version))) managed e.exclusions
    by e (Err refusal) = λ i j d lt within. absurd (omega arith)

-- winners that stand from some length on
module _ (graph : Graph) (won : List Path) (longest : ℕ) (all : (n : ℕ) → longest ≤ n → won ≡ winners graph n) where
  apart : SharesNone won
  apart = subst SharesNone (sym (all longest (omega arith))) (one_winner graph longest)

  there_counts : (n : ℕ) (p : Path) → Contains (counting graph n) p → is_won won p ≡ true
  there_counts n p there =
      ap (λ l. is_won l p) (all (n + longest) (omega arith)) ∙ same_won graph (n + longest) p ∙ won_here (counting graph (n + longest)) p (more_counts graph n longest p there)

  least_counts : IsOrdered graph → (n : ℕ) (key : Key) (p w : Path) → Contains (counting graph n) p → winner_of won key ≡ Some w → IsAtMost key w p
  least_counts orders n key p w there is =
      All-contains (IsAtMost key w) (counting graph (n + longest)) p
      (least graph (n + longest) key w orders (ap (λ l. winner_of l key) (sym (all (n + longest) (omega arith))) ∙ is))
      (more_counts graph n longest p there)

  -- what wins wins at its length
  at_level : (p : Path) → Wins won p → IsIn (level graph (length p)) p
  at_level [] wins = inl refl
  at_level (e ∷ path) wins =
      level_of graph longest (e ∷ path) (subst (λ l. IsIn l (e ∷ path)) (all longest (omega arith)) (found_in (ends_at e.key) won (e ∷ path) wins))

  -- a path that counts, as it is met
  met : (e : Edge) (path : Path) → Counts graph won (e ∷ path) → Contains (counting graph (suc (length path))) (e ∷ path)
  met e path counts =
      let next = flat_map (longer graph) (level graph (length path)) in
      Contains-append_right (counting graph (length path)) next (e ∷ path)
      (in_to next (e ∷ path) (counts_next graph (length path) path e (at_level path counts.1) (in_from (next_edges graph path) e counts.0)))

  there_each : (p : Path) → Counts graph won p → is_won won p ≡ true
  there_each [] counts = refl
  there_each (e ∷ path) counts = there_counts (suc (length path)) (e ∷ path) (met e path counts)

  least_each : IsOrdered graph → (key : Key) (p w : Path) → Counts graph won p → winner_of won key ≡ Some w → IsAtMost key w p
  least_each orders key [] w counts is = λ ends. absurd (false≢true ends)
  least_each orders key (e ∷ path) w counts is = least_counts orders (suc (length path)) key (e ∷ path) w (met e path counts) is

  -- what stands at a length wins, and counts
  level_won : (n : ℕ) (p : Path) → IsIn (level graph n) p → Wins won p
  level_won n [] at = tt
  level_won zero (e ∷ path) (inl same) = absurd (never same)
    where
      never : [] ≡ e ∷ path → ⊥
      never is = cc
  level_won zero (e ∷ path) (inr at) = absurd at
  level_won (suc n) (e ∷ path) at =
      let here = winners_kept graph (suc n) longest (e ∷ path) (level_wins graph n (e ∷ path) at) in
      found_alone won e path apart (subst (λ l. IsIn l (e ∷ path)) (sym (all (suc n + longest) (omega arith))) here)

  level_counts : (n : ℕ) (p : Path) → IsIn (level graph n) p → Counts graph won p
  level_counts zero p (inl same) = subst (Counts graph won) same tt
  level_counts zero p (inr at) = absurd at
  level_counts (suc n) p at =
      let has = level_front graph n p at in
      subst (Counts graph won) has.is (in_to (next_edges graph has.front) has.edge has.leads, level_won n has.front has.there, level_counts n has.front has.there)

  winner_counts : (key : Key) (w : Path) → winner_of won key ≡ Some w → Counts graph won w
  winner_counts key w is =
      let at = subst (λ l. IsIn l w) (all longest (omega arith)) (found_in (ends_at key) won w is) in
      level_counts (length w) w (level_of graph longest w at)

  pub mediated : IsOrdered graph → IsMediated graph won
  mediated orders = record { there = there_each; counts = winner_counts; least = least_each orders; one = apart }

pub won_mediated : (libraries : Libraries) (managed : List (Key × Dependency)) (direct : List Dependency) (rows : List Winner) → IsWhole libraries (graph_of libraries managed direct) rows → IsMediated (graph_of libraries managed direct) (paths_of rows)
won_mediated libraries managed direct rows whole = mediated (graph_of libraries managed direct) (paths_of rows) whole.longest whole.wins (ordered libraries managed direct)

pub won_direct : (libraries : Libraries) (managed : List (Key × Dependency)) (direct : List Dependency) (rows : List Winner) → IsWhole libraries (graph_of libraries managed direct) rows
    → (key : Key) (e : Edge) → find (λ f. same_key key f.key) (direct_edges direct) ≡ Some e → winner_of (paths_of rows) key ≡ Some (e ∷ [])
won_direct libraries managed direct rows whole key e is =
    ap (λ l. winner_of l key) (whole.wins (suc whole.longest) (omega arith)) ∙ direct_stands (graph_of libraries managed direct) whole.longest key e is
