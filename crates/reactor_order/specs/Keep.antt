-- Which edges are kept: all firm ones, and each soft one that closes no cycle. Own rules.
use Rattle.std.specs.Prelude.{◌≡◌, ◌⊎◌, ℕ, [], ◌∷◌, ◌++◌}
use Rattle.reactor_order.specs.Graph.{Edges, upstreams, Leads}

-- the edges lead from the edge's upstream back to its module
abbrev pub Closes : Edges → ℕ × ℕ → Type 0
Closes edges e = Leads (upstreams edges) e.1 e.0

-- the edges that are kept, and the soft ones one after another
abbrev pub Keeps : Edges → Edges → Edges → Type 0
Keeps kept [] result = result ≡ kept
Keeps kept (e ∷ soft) result = (Closes kept e × Keeps kept soft result) ⊎ ((¬ (Closes kept e)) × Keeps (kept ++ e ∷ []) soft result)

-- one soft edge is kept, or closes a cycle
abbrev pub Tries : Edges → ℕ × ℕ → Edges → Type 0
Tries kept e now = (Closes kept e × (now ≡ kept)) ⊎ ((¬ (Closes kept e)) × (now ≡ kept ++ e ∷ []))
