-- Where one goes from each module, in a list. Own words.
use Rattle.std.specs.Prelude.{◌≡◌, ℕ, ◌<◌, min, Bool, ◌||◌, ◌==◌, List, length, get_or, if◌then◌else◌}
use Rattle.reactor_order.specs.Graph.{Edges}
use Rattle.reactor_order.specs.Cycle.{goes_to}

-- with one upstream more, the module itself standing for none
abbrev pub earlier : ℕ → ℕ → ℕ → Bool → ℕ
earlier m next upstream placed = if upstream == m || placed then next else (if next == m then upstream else min next upstream)

-- the list says it for all modules
pub record Goes (n : ℕ) (edges : Edges) (placed nexts : List ℕ) : Type 0 where
  pub long : length nexts ≡ n
  pub each : (m : ℕ) → m < n → get_or nexts m 0 ≡ goes_to edges placed m
  pub below : (m : ℕ) → m < n → get_or nexts m 0 < n
