-- Sets of modules as bits of words, and for each module the ones that one comes to and from. Own words.
use Rattle.std.specs.Prelude.{◌≡◌, ◌↔◌, ℕ, ◌+◌, ◌/◌, ◌%◌, ◌<◌, Bool, true, nat_eq, List, [], length, get_or}
use Rattle.std.specs.Int.{bit_at}
use Rattle.reactor_order.specs.Graph.{Edges, upstreams, Leads}

-- a module is in the set
abbrev pub is_in : List ℕ → ℕ → Bool
is_in words k = nat_eq (bit_at (get_or words (k / 64) 0) (k % 64)) 1

-- how many words have a bit for each of so many modules
abbrev pub words_for : ℕ → ℕ
words_for n = n / 64 + 1

-- so many rows of as many words
pub record AreRows (n : ℕ) (rows : List (List ℕ)) : Type 0 where
  pub long : length rows ≡ n
  pub wide : (a : ℕ) → a < n → length (get_or rows a []) ≡ words_for n

-- the rows say for each two modules whether one comes from the first to the second: `ups` in the row of the first, `downs` in that of
-- the second
pub record IsReachability (n : ℕ) (edges : Edges) (ups downs : List (List ℕ)) : Type 0 where
  pub up : (a b : ℕ) → a < n → b < n → (is_in (get_or ups a []) b ≡ true) ↔ Leads (upstreams edges) a b
  pub down : (a b : ℕ) → a < n → b < n → (is_in (get_or downs b []) a ≡ true) ↔ Leads (upstreams edges) a b
