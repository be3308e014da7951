-- Counting paths stand by length, and of one length by their positions.
use Rattle.std.proofs.Common.{◌≡◌, inl, inr, ℕ, zero, suc, ◌<◌, ◌≤◌, ◌+◌, Bool, true, false, List, [], ◌∷◌, ◌++◌, map, length, slice_index_or, flat_map, refl, sym, ap, ◌∙◌, if◌then◌else◌, arith, All, AllPairs, Some, unwrap_or, subst, cond, length-append}
use Rattle.std.specs.Bool.{⊤}
use Rattle.std.specs.Cmp.Lexicographic.{slice_cmp}
use Rattle.std.specs.Ordering.{nat_cmp, ordering_then}
use Rattle.std.specs.declared.cmp.Ordering.{Ordering}
use Rattle.std.specs.declared.cmp.Ordering.TheVariants.{Less, Equal, Greater}
use Rattle.std.proofs.lemmas.Cmp.{by_ranked, ranked}
use Rattle.std.proofs.lemmas.List.Kept.{AllPairs-cons}
use Rattle.collector.specs.declared.edge.Edge.{Edge}
use Rattle.mvn_base.specs.declared.key.Key.{Key}
use Rattle.std.proofs.lemmas.Bool.{false≢true}
use Rattle.collector.proofs.Firsts.{first_counts}
use Rattle.collector.specs.Winners.{Ascends, Before, Graph, IsAtMost, IsOrdered, Path, counting, ends_at, firsts, is_won, level, longer, next_edges, positions, winner_of, winners}

-- each of a list, and each with each later one
abbrev Each : (Path → Type 0) → List Path → Type 0
Each P [] = ⊤
Each P (x ∷ xs) = P x × Each P xs

abbrev Pairs : (Path → Path → Type 0) → List Path → Type 0
Pairs R [] = ⊤
Pairs R (x ∷ xs) = Each (R x) xs × Pairs R xs

each_join : (P : Path → Type 0) (xs ys : List Path) → Each P xs → Each P ys → Each P (xs ++ ys)
each_join P [] ys first second = second
each_join P (x ∷ xs) ys first second = (first.0, each_join P xs ys first.1 second)

each_map : (P Q : Path → Type 0) (xs : List Path) → ((x : Path) → P x → Q x) → Each P xs → Each Q xs
each_map P Q [] f all = all
each_map P Q (x ∷ xs) f all = (f x all.0, each_map P Q xs f all.1)

pairs_join : (R : Path → Path → Type 0) (xs ys : List Path) → Pairs R xs → Pairs R ys → Each (λ x. Each (R x) ys) xs → Pairs R (xs ++ ys)
pairs_join R [] ys first second across = second
pairs_join R (x ∷ xs) ys first second across = (each_join (R x) xs ys first.0 across.0, pairs_join R xs ys first.1 second across.1)

pairs_map : (R S : Path → Path → Type 0) (xs : List Path) → ((x y : Path) → R x y → S x y) → Pairs R xs → Pairs S xs
pairs_map R S [] f all = all
pairs_map R S (x ∷ xs) f all = (each_map (R x) (S x) xs (f x) all.0, pairs_map R S xs f all.1)

each_first : (P : Path → Type 0) (won paths : List Path) → Each P paths → Each P (firsts won paths)
each_first P won [] all = all
each_first P won (p ∷ paths) all = by (is_won won p) (each_first P won paths all.1) (each_first P (won ++ p ∷ []) paths all.1)
  where
    by : (b : Bool) → Each P (firsts won paths) → Each P (firsts (won ++ p ∷ []) paths) → Each P (if b then firsts won paths else p ∷ firsts (won ++ p ∷ []) paths)
    by true rest further = rest
    by false rest further = (all.0, further)

pairs_first : (R : Path → Path → Type 0) (won paths : List Path) → Pairs R paths → Pairs R (firsts won paths)
pairs_first R won [] all = all
pairs_first R won (p ∷ paths) all = by (is_won won p) (pairs_first R won paths all.1) (pairs_first R (won ++ p ∷ []) paths all.1)
  where
    by : (b : Bool) → Pairs R (firsts won paths) → Pairs R (firsts (won ++ p ∷ []) paths) → Pairs R (if b then firsts won paths else p ∷ firsts (won ++ p ∷ []) paths)
    by true rest further = rest
    by false rest further = (each_first (R p) (won ++ p ∷ []) paths all.0, further)

-- paths of one length, by their positions
abbrev Lex : Path → Path → Type 0
Lex p q = slice_cmp nat_cmp (positions p) (positions q) ≡ Less

less : (a b : ℕ) → a < b → nat_cmp a b ≡ Less
less a b lt = by_ranked (a < b) (a ≡ b) (b < a) (nat_cmp a b) (ranked a b (nat_cmp a b) refl) (λ is _. is) (λ is e. absurd (omega arith)) (λ is e. absurd (omega arith))

equal : (a : ℕ) → nat_cmp a a ≡ Equal
equal a = by_ranked (a < a) (a ≡ a) (a < a) (nat_cmp a a) (ranked a a (nat_cmp a a) refl) (λ is e. absurd (omega arith)) (λ is _. is) (λ is e. absurd (omega arith))

one_front : (xs : List ℕ) (a b : ℕ) → a < b → slice_cmp nat_cmp (xs ++ a ∷ []) (xs ++ b ∷ []) ≡ Less
one_front [] a b lt = ap (λ o. ordering_then o Equal) (less a b lt)
one_front (x ∷ xs) a b lt = ap (λ o. ordering_then o (slice_cmp nat_cmp (xs ++ a ∷ []) (xs ++ b ∷ []))) (equal x) ∙ one_front xs a b lt

two_fronts : (xs ys : List ℕ) (a b : ℕ) → length xs ≡ length ys → slice_cmp nat_cmp xs ys ≡ Less → slice_cmp nat_cmp (xs ++ a ∷ []) (ys ++ b ∷ []) ≡ Less
two_fronts [] [] a b same lt = absurd (not_less lt)
  where
    not_less : Equal ≡ Less → ⊥
    not_less e = cc
two_fronts [] (y ∷ ys) a b same lt = absurd (omega arith)
two_fronts (x ∷ xs) [] a b same lt = absurd (omega arith)
two_fronts (x ∷ xs) (y ∷ ys) a b same lt = by (nat_cmp x y) lt (two_fronts xs ys a b (omega arith))
  where
    by : (o : Ordering) → ordering_then o (slice_cmp nat_cmp xs ys) ≡ Less → (slice_cmp nat_cmp xs ys ≡ Less → slice_cmp nat_cmp (xs ++ a ∷ []) (ys ++ b ∷ []) ≡ Less) → ordering_then o (slice_cmp nat_cmp (xs ++ a ∷ []) (ys ++ b ∷ [])) ≡ Less
    by Less lt rest = refl
    by Equal lt rest = rest lt
    by Greater lt rest = lt

count : (p : Path) → length (positions p) ≡ length p
count [] = refl
count (e ∷ p) = omega (arith, length-append (positions p) (e.position ∷ []), count p)

-- the paths one edge longer than one
tail_of : (e : Edge) (edges : List Edge) → Ascends (e ∷ edges) → Ascends edges
tail_of e edges all i j d lt within = all (suc i) (suc j) d (omega arith) (omega arith)

longer_later : (p : Path) (e : Edge) (edges : List Edge) → ((k : ℕ) (d : Edge) → k < length edges → e.position < (slice_index_or edges k d).position) → Each (Lex (e ∷ p)) (map (λ f. f ∷ p) edges)
longer_later p e [] all = tt
longer_later p e (f ∷ edges) all = (one_front (positions p) e.position f.position (all 0 f (omega arith)), longer_later p e edges (λ k d lt. all (suc k) d (omega arith)))

longer_pairs : (p : Path) (edges : List Edge) → Ascends edges → Pairs Lex (map (λ e. e ∷ p) edges)
longer_pairs p [] all = tt
longer_pairs p (e ∷ edges) all = (longer_later p e edges (λ k d lt. all 0 (suc k) d (omega arith) (omega arith)), longer_pairs p edges (tail_of e edges all))

longer_than : (p q : Path) (e : Edge) (edges : List Edge) → length p ≡ length q → Lex p q → Each (Lex (e ∷ p)) (map (λ f. f ∷ q) edges)
longer_than p q e [] same lt = tt
longer_than p q e (f ∷ edges) same lt = (two_fronts (positions p) (positions q) e.position f.position (count p ∙ same ∙ sym (count q)) lt, longer_than p q e edges same lt)

longer_across : (p q : Path) (edges further : List Edge) → length p ≡ length q → Lex p q → Each (λ x. Each (Lex x) (map (λ f. f ∷ q) further)) (map (λ e. e ∷ p) edges)
longer_across p q [] further same lt = tt
longer_across p q (e ∷ edges) further same lt = (longer_than p q e further same lt, longer_across p q edges further same lt)

module _ (graph : Graph) (ordered : IsOrdered graph) where
  ends_ascend : (p : Path) → Ascends (next_edges graph p)
  ends_ascend [] = ordered.direct
  ends_ascend (e ∷ p) = ordered.below e

  -- one of a length before all of it that are further
  beside_one : (p : Path) (n : ℕ) (e : Edge) (paths : List Path) → length p ≡ n → Each (λ q. length q ≡ n) paths → Each (Lex p) paths → Each (Lex (e ∷ p)) (flat_map (longer graph) paths)
  beside_one p n e [] own same lt = tt
  beside_one p n e (q ∷ paths) own same lt =
      each_join (Lex (e ∷ p)) (longer graph q) (flat_map (longer graph) paths) (longer_than p q e (next_edges graph q) (own ∙ sym same.0) lt.0) (beside_one p n e paths own same.1 lt.1)

  beside : (p : Path) (n : ℕ) (edges : List Edge) (paths : List Path) → length p ≡ n → Each (λ q. length q ≡ n) paths → Each (Lex p) paths → Each (λ x. Each (Lex x) (flat_map (longer graph) paths)) (map (λ e. e ∷ p) edges)
  beside p n [] paths own same lt = tt
  beside p n (e ∷ edges) paths own same lt = (beside_one p n e paths own same lt, beside p n edges paths own same lt)

  next_pairs : (n : ℕ) (paths : List Path) → Each (λ p. length p ≡ n) paths → Pairs Lex paths → Pairs Lex (flat_map (longer graph) paths)
  next_pairs n [] same lt = tt
  next_pairs n (p ∷ paths) same lt =
      pairs_join Lex (longer graph p) (flat_map (longer graph) paths) (longer_pairs p (next_edges graph p) (ends_ascend p)) (next_pairs n paths same.1 lt.1) (beside p n (next_edges graph p) paths same.0 same.1 lt.0)

  longer_counts : (n : ℕ) (p : Path) (edges : List Edge) → length p ≡ n → Each (λ q. length q ≡ suc n) (map (λ e. e ∷ p) edges)
  longer_counts n p [] same = tt
  longer_counts n p (e ∷ edges) same = (ap suc same, longer_counts n p edges same)

  next_counts : (n : ℕ) (paths : List Path) → Each (λ p. length p ≡ n) paths → Each (λ p. length p ≡ suc n) (flat_map (longer graph) paths)
  next_counts n [] same = tt
  next_counts n (p ∷ paths) same = each_join (λ q. length q ≡ suc n) (longer graph p) (flat_map (longer graph) paths) (longer_counts n p (next_edges graph p) same.0) (next_counts n paths same.1)

  level_counts : (n : ℕ) → Each (λ p. length p ≡ n) (level graph n)
  level_counts zero = (refl, tt)
  level_counts (suc n) = each_first (λ p. length p ≡ suc n) (winners graph n) (flat_map (longer graph) (level graph n)) (next_counts n (level graph n) (level_counts n))

  level_pairs : (n : ℕ) → Pairs Lex (level graph n)
  level_pairs zero = (tt, tt)
  level_pairs (suc n) = pairs_first Lex (winners graph n) (flat_map (longer graph) (level graph n)) (next_pairs n (level graph n) (level_counts n) (level_pairs n))

  short : (n : ℕ) → Each (λ p. length p ≤ n) (counting graph n)
  short zero = tt
  short (suc n) =
      each_join (λ p. length p ≤ suc n) (counting graph n) (flat_map (longer graph) (level graph n))
      (each_map (λ p. length p ≤ n) (λ p. length p ≤ suc n) (counting graph n) (λ p le. omega arith) (short n))
      (each_map (λ p. length p ≡ suc n) (λ p. length p ≤ suc n) (flat_map (longer graph) (level graph n)) (λ p is. omega arith) (next_counts n (level graph n) (level_counts n)))

  -- paths of one length that stand by their positions
  before_each : (n : ℕ) (p : Path) (paths : List Path) → length p ≡ n → Each (λ q. length q ≡ n) paths → Each (Lex p) paths → Each (Before p) paths
  before_each n p [] own same lt = tt
  before_each n p (q ∷ paths) own same lt = (inr (own ∙ sym same.0, lt.0), before_each n p paths own same.1 lt.1)

  of_length : (n : ℕ) (paths : List Path) → Each (λ p. length p ≡ n) paths → Pairs Lex paths → Pairs Before paths
  of_length n [] same lt = tt
  of_length n (p ∷ paths) same lt = (before_each n p paths same.0 same.1 lt.0, of_length n paths same.1 lt.1)

  shorter : (n : ℕ) (xs ys : List Path) → Each (λ p. length p ≤ n) xs → Each (λ p. length p ≡ suc n) ys → Each (λ x. Each (Before x) ys) xs
  shorter n [] ys le is = tt
  shorter n (x ∷ xs) ys le is = (each_map (λ p. length p ≡ suc n) (Before x) ys (λ p same. inl (below x p le.0 same)) is, shorter n xs ys le.1 is)
    where
      below : (x p : Path) → length x ≤ n → length p ≡ suc n → length x < length p
      below x p le same = omega arith

  counting_pairs : (n : ℕ) → Pairs Before (counting graph n)
  counting_pairs zero = tt
  counting_pairs (suc n) =
      let paths = flat_map (longer graph) (level graph n) in
      let counts = next_counts n (level graph n) (level_counts n) in
      pairs_join Before (counting graph n) paths (counting_pairs n)
      (of_length (suc n) paths counts (next_pairs n (level graph n) (level_counts n) (level_pairs n)))
      (shorter n (counting graph n) paths (short n) counts)

-- as std says it
each_is : (P : Path → Type 0) (xs : List Path) → Each P xs → (k : ℕ) (d : Path) → k < length xs → P (slice_index_or xs k d)
each_is P [] all k d lt = absurd (omega arith)
each_is P (x ∷ xs) all zero d lt = all.0
each_is P (x ∷ xs) all (suc k) d lt = each_is P xs all.1 k d (omega arith)

pairs_are : (R : Path → Path → Type 0) (xs : List Path) → Pairs R xs → AllPairs R xs
pairs_are R [] all = λ i j d lt within. absurd (omega arith)
pairs_are R (x ∷ xs) all = AllPairs-cons R x xs (each_is (R x) xs all.0) (pairs_are R xs all.1)

pub ascending : (graph : Graph) (n : ℕ) → IsOrdered graph → AllPairs Before (counting graph n)
ascending graph n ordered = pairs_are Before (counting graph n) (counting_pairs graph ordered n)

-- of paths that stand in order the first of a key is the least of that key
least_each : (key : Key) (paths : List Path) (w : Path) → Pairs Before paths → winner_of paths key ≡ Some w → Each (IsAtMost key w) paths
least_each key [] w pairs is = tt
least_each key (p ∷ paths) w pairs is = by (ends_at key p) refl is (least_each key paths w pairs.1)
  where
    by : (b : Bool) → ends_at key p ≡ b → cond b (Some p) (winner_of paths key) ≡ Some w → (winner_of paths key ≡ Some w → Each (IsAtMost key w) paths) → IsAtMost key w p × Each (IsAtMost key w) paths
    by true t is rest =
        let same : p ≡ w = ap (λ o. unwrap_or o p) is in
        (λ _. inl (sym same), each_map (Before p) (IsAtMost key w) paths (λ q before _. inr (subst (λ x. Before x q) same before)) pairs.0)
    by false t is rest = (λ e. absurd (false≢true (sym t ∙ e)), rest is)

pub least : (graph : Graph) (n : ℕ) (key : Key) (w : Path) → IsOrdered graph → winner_of (winners graph n) key ≡ Some w → All (IsAtMost key w) (counting graph n)
least graph n key w ordered is =
    each_is (IsAtMost key w) (counting graph n) (least_each key (counting graph n) w (counting_pairs graph ordered n) (sym (first_counts graph n key) ∙ is))
