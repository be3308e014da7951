use Rattle.std.proofs.Common.{◌≡◌, ℕ, ◌<◌, ◌&&◌, nat_lt, [], length, get_or, slice_get}
use Rattle.event_core.specs.HowFar.{is_this}
use Rattle.event_core.specs.Fronts.{has_edge}
use Rattle.event_core.proofs.progress_edges.edges_of.Given as goal

-- the edges of the modules before this one are there
abbrev pub invariant-loop-at : goal.invariant-loop-at
invariant-loop-at l =
    (length l.edges.items ≡ length l.upstream)
    × ((m k place : ℕ) → m < length l.upstream → has_edge k place (get_or l.edges.items m []) ≡ (nat_lt k l.at && is_this (slice_get (get_or l.upstream k []) place) m))
