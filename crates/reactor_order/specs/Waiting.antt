-- How many upstreams each module waits for while modules are placed. Own words.
use Rattle.std.specs.Prelude.{◌≡◌, ℕ, suc, ◌+◌, ◌<◌, ◌≤◌, true, ◌&&◌, ◌||◌, ◌==◌, nat_lt, List, [], ◌∷◌, length, get_or, if◌then◌else◌}
use Rattle.std.specs.BTreeSet.{BTreeSet}
use Rattle.reactor_order.specs.Graph.{Edges, has, upstreams}
use Rattle.reactor_order.specs.Order.{can_follow}
use Rattle.reactor_order.specs.Ready.{is_in}

-- how many of these are not placed
abbrev pub missing : List ℕ → List ℕ → ℕ
missing placed [] = 0
missing placed (u ∷ us) = if has placed u then missing placed us else suc (missing placed us)

-- how often a number stands in a list
abbrev pub times : ℕ → List ℕ → ℕ
times m [] = 0
times m (x ∷ xs) = if x == m then suc (times m xs) else times m xs

-- these modules wait for one upstream less each time that they stand there, and are ready where they wait for none
pub record AreReleased (downs : List ℕ) (waits now : List ℕ) (ready after : BTreeSet ℕ) : Type 0 where
  pub long : length now ≡ length waits
  pub fewer : (m : ℕ) → get_or now m 0 + times m downs ≡ get_or waits m 0
  pub added : (m : ℕ) → is_in after m ≡ (is_in ready m || (nat_lt 0 (times m downs) && (get_or now m 0 == 0)))

-- what is kept while modules are placed
pub record IsPlacing (n : ℕ) (edges : Edges) (placed waits : List ℕ) (ready : BTreeSet ℕ) : Type 0 where
  pub long : length waits ≡ n
  pub waiting : (m : ℕ) → m < n → get_or waits m 0 ≡ missing placed (upstreams edges m)
  pub can : (m : ℕ) → is_in ready m ≡ (nat_lt m n && can_follow edges placed m)
  pub settled : (m : ℕ) → has placed m ≡ true → missing placed (upstreams edges m) ≡ 0
  pub inside : (m : ℕ) → n ≤ m → upstreams edges m ≡ []
  pub below : (m : ℕ) → has placed m ≡ true → m < n
