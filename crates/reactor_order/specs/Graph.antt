-- Modules and their upstreams. Guide to Working with Multiple Modules.
use Rattle.std.specs.Prelude.{◌≡◌, ℕ, ◌<◌, Bool, true, ◌==◌, List, [], ◌∷◌, length, get_or, map, if◌then◌else◌}
use Rattle.std.specs.List.{list_any}

-- an edge is a module and an upstream of it
abbrev pub Edges : Type 0
Edges = List (ℕ × ℕ)

abbrev pub has : List ℕ → ℕ → Bool
has xs m = list_any (λ x. x == m) xs

-- the upstreams of a module, in the order of the edges
abbrev pub upstreams : Edges → ℕ → List ℕ
upstreams [] m = []
upstreams (e ∷ edges) m = if e.0 == m then e.1 ∷ upstreams edges m else upstreams edges m

-- each edge the other way round
abbrev pub flipped : Edges → Edges
flipped edges = map (λ e. (e.1, e.0)) edges

-- one comes from a module to another over what stands next
pub data Leads (next : ℕ → List ℕ) : ℕ → ℕ → Type 0 where
  here : (a : ℕ) → Leads next a a
  onward : (a b c : ℕ) → has (next a) b ≡ true → Leads next b c → Leads next a c

-- one comes to a module from one of these
pub record IsReached (next : ℕ → List ℕ) (starts : List ℕ) (m : ℕ) : Type 0 where
  pub start : ℕ
  pub starts_there : has starts start ≡ true
  pub path : Leads next start m

-- all these are below a number
abbrev pub AreBelow : ℕ → List ℕ → Type 0
AreBelow n xs = (m : ℕ) → has xs m ≡ true → m < n

-- all edges are between modules below a number
abbrev pub AreEdgesBelow : ℕ → Edges → Type 0
AreEdgesBelow n edges = (i : ℕ) → i < length edges → ((get_or edges i (0, 0)).0 < n) × ((get_or edges i (0, 0)).1 < n)

-- the lists have each module's upstreams
pub record IsGraph (n : ℕ) (edges : Edges) (lists : List (List ℕ)) : Type 0 where
  pub long : length lists ≡ n
  pub each : (m : ℕ) → get_or lists m [] ≡ upstreams edges m
  pub below : (m u : ℕ) → has (upstreams edges m) u ≡ true → u < n
