-- Which declaration of a dependency counts. Introduction to the Dependency Mechanism, "Dependency mediation": the nearest,
-- and of those the first.
use Rattle.std.specs.Prelude.{◌≡◌, ◌⊎◌, ℕ, zero, suc, ◌<◌, Bool, true, false, List, [], ◌∷◌, ◌++◌, map, length, flat_map, find, Option, is_some, if◌then◌else◌, AllPairs}
use Rattle.std.specs.Cmp.Lexicographic.{slice_cmp}
use Rattle.std.specs.Ordering.{nat_cmp}
use Rattle.std.specs.declared.cmp.Ordering.TheVariants.{Less}
use Rattle.collector.specs.declared.edge.Edge.{Edge}
use Rattle.mvn_base.specs.declared.key.Key.{Key}
use Rattle.model_merge.specs.Keyed.{same_key}

-- what a project's declarations and each edge's end lead to
pub record Graph : Type 0 where
  pub direct : List Edge
  pub below : Edge → List Edge

-- the edges from a path's end back to the project
abbrev pub Path : Type 0
Path = List Edge

-- what a path's end leads to, and the paths one edge longer
abbrev pub next_edges : Graph → Path → List Edge
next_edges graph [] = graph.direct
next_edges graph (e ∷ path) = graph.below e

abbrev pub longer : Graph → Path → List Path
longer graph path = map (λ e. e ∷ path) (next_edges graph path)

-- the path that ends at a key, the first that is there
abbrev pub ends_at : Key → Path → Bool
ends_at key [] = false
ends_at key (e ∷ path) = same_key key e.key

abbrev pub winner_of : List Path → Key → Option Path
winner_of won key = find (ends_at key) won

-- whether a path's key is won already
abbrev pub is_won : List Path → Path → Bool
is_won won [] = true
is_won won (e ∷ path) = is_some (winner_of won e.key)

-- two paths that end at one key
abbrev pub shares_end : Path → Path → Bool
shares_end p [] = false
shares_end p (e ∷ path) = ends_at e.key p

-- no two of them do
abbrev pub SharesNone : List Path → Type 0
SharesNone paths = AllPairs (λ p q. shares_end p q ≡ false) paths

-- of paths in order the first of each key that isn't won already
abbrev pub firsts : List Path → List Path → List Path
firsts won [] = []
firsts won (p ∷ paths) = if is_won won p then firsts won paths else p ∷ firsts (won ++ p ∷ []) paths

-- the winners of a length, and those up to it: of the paths one edge longer than the winners of the length before, the
-- first of each key that no shorter path has won
abbrev mutual
  pub level : Graph → ℕ → List Path
  level graph zero = [] ∷ []
  level graph (suc n) = firsts (winners graph n) (flat_map (longer graph) (level graph n))

  pub winners : Graph → ℕ → List Path
  winners graph zero = []
  winners graph (suc n) =
      winners graph n ++ firsts (winners graph n) (flat_map (longer graph) (level graph n))

-- the counting paths up to a length: those one edge longer than a winner, or than the project alone
abbrev pub counting : Graph → ℕ → List Path
counting graph zero = []
counting graph (suc n) = counting graph n ++ flat_map (longer graph) (level graph n)

-- the places of a path's declarations, from the project on
abbrev pub positions : Path → List ℕ
positions [] = []
positions (e ∷ path) = positions path ++ e.position ∷ []

-- the shorter path comes first, and of one length the one that is declared first
abbrev pub Before : Path → Path → Type 0
Before p q =
    (length p < length q)
    ⊎ ((length p ≡ length q) × (slice_cmp nat_cmp (positions p) (positions q) ≡ Less))

-- a path of a key comes before another of it, or is it
abbrev pub IsAtMost : Key → Path → Path → Type 0
IsAtMost key p q = ends_at key q ≡ true → (p ≡ q) ⊎ Before p q

-- what an end leads to stands in the order of its declarations
abbrev pub Ascends : List Edge → Type 0
Ascends edges = AllPairs (λ e f. e.position < f.position) edges

pub record IsOrdered (graph : Graph) : Type 0 where
  pub direct : Ascends graph.direct
  pub below : (e : Edge) → Ascends (graph.below e)
