-- Which paths of a graph count, and what their winners are, said of all paths. Introduction to the Dependency Mechanism,
-- "Dependency mediation".
use Rattle.std.specs.Prelude.{◌≡◌, true, List, [], ◌∷◌, Contains, Some}
use Rattle.std.specs.Bool.{⊤}
use Rattle.mvn_base.specs.declared.key.Key.{Key}
use Rattle.collector.specs.Winners.{Graph, IsAtMost, Path, SharesNone, is_won, next_edges, winner_of}

-- a path is the project alone, or the winner of its key
abbrev pub Wins : List Path → Path → Type 0
Wins won [] = ⊤
Wins won (e ∷ path) = winner_of won e.key ≡ Some (e ∷ path)

-- a path counts where each of its edges is one that the path above it leads to, which wins
abbrev pub Counts : Graph → List Path → Path → Type 0
Counts graph won [] = ⊤
Counts graph won (e ∷ path) = Contains (next_edges graph path) e × Wins won path × Counts graph won path

-- each counting path ends at a key that has a winner; the winner counts, and is the least of those that do; it is the
-- only winner of its key
pub record IsMediated (graph : Graph) (won : List Path) : Type 0 where
  pub there : (p : Path) → Counts graph won p → is_won won p ≡ true
  pub counts : (key : Key) (w : Path) → winner_of won key ≡ Some w → Counts graph won w
  pub least : (key : Key) (p w : Path) → Counts graph won p → winner_of won key ≡ Some w → IsAtMost key w p
  pub one : SharesNone won
