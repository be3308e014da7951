use Rattle.std.proofs.Common.{◌≡◌, ℕ, ◌<◌, ◌&&◌, ◌||◌, nat_eq, nat_lt, [], length, get_or, slice_get}
use Rattle.event_core.specs.HowFar.{is_this}
use Rattle.event_core.specs.Fronts.{has_edge}
use Rattle.event_core.proofs.progress_edges.add_edges.Given as goal

-- the edges of the upstreams before this one are there too
abbrev pub invariant-loop-place : goal.invariant-loop-place
invariant-loop-place l =
    (length l.edges.items ≡ length l.initial.edges.items)
    × ((m k at : ℕ) → m < length l.initial.edges.items → has_edge k at (get_or l.edges.items m []) ≡ (has_edge k at (get_or l.initial.edges.items m []) || (nat_eq l.«module» k && (nat_lt at l.place && is_this (slice_get l.upstream at) m))))
