-- Marks on modules, and the list of those that are marked. Own rules.
use Rattle.std.specs.Prelude.{◌≡◌, ℕ, suc, ◌+◌, ◌≤◌, Bool, true, false, List, [], ◌∷◌, length, get_or, take, ◌||◌}
use Rattle.reactor_order.specs.Graph.{has, IsReached}

-- how many are not marked
abbrev pub unmarked : List Bool → ℕ
unmarked [] = 0
unmarked (true ∷ marks) = unmarked marks
unmarked (false ∷ marks) = suc (unmarked marks)

-- the list has those that are marked, each once
pub record IsMarked (marks : List Bool) (found : List ℕ) : Type 0 where
  pub same : (m : ℕ) → has found m ≡ get_or marks m false
  pub count : length found + unmarked marks ≡ length marks

-- none of so many is marked
pub record AreFree (n : ℕ) (marks : List Bool) (found : List ℕ) : Type 0 where
  pub marked : IsMarked marks found
  pub long : length marks ≡ n
  pub free : (m : ℕ) → get_or marks m false ≡ false
  pub none : found ≡ []

-- what is marked after these were
pub record AreMarked (more : List ℕ) (marks now : List Bool) (found founds : List ℕ) : Type 0 where
  pub marked : IsMarked now founds
  pub long : length now ≡ length marks
  pub each : (m : ℕ) → get_or now m false ≡ (get_or marks m false || has more m)
  pub longer : length found ≤ length founds
  pub front : take (length found) founds ≡ found

-- marked are the modules that one comes to, and no others
pub record AreReached (next : ℕ → List ℕ) (starts : List ℕ) (n : ℕ) (marks : List Bool) : Type 0 where
  pub long : length marks ≡ n
  pub sound : (m : ℕ) → get_or marks m false ≡ true → IsReached next starts m
  pub whole : (m : ℕ) → IsReached next starts m → get_or marks m false ≡ true
