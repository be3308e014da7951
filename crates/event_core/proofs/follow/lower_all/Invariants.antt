use Rattle.std.proofs.Common.{◌≡◌, ◌⊎◌, ℕ, ◌≤◌, true, length, take, get_or}
use Rattle.event_core.specs.Fronts.{has_edge}
use Rattle.event_core.proofs.follow.lower_all.Given as goal

-- what is ensured, for the edges before this one
abbrev pub invariant-loop-at : goal.invariant-loop-at
invariant-loop-at l =
    (length l.places.items ≡ length l.initial.places.items)
    × ((k : ℕ) → get_or l.places.items k 0 ≤ get_or l.initial.places.items k 0)
    × ((k place : ℕ) → has_edge k place (take l.at l.edges) ≡ true → get_or l.places.items k 0 ≤ place)
    × ((k : ℕ) → (get_or l.places.items k 0 ≡ get_or l.initial.places.items k 0) ⊎ (has_edge k (get_or l.places.items k 0) (take l.at l.edges) ≡ true))
