use Rattle.std.proofs.Common.{◌≡◌, ◌⊎◌, ℕ, ◌<◌, true, [], length, take, get_or}
use Rattle.event_core.specs.Fronts.{IsBefore, IsFirst, is_touched, is_unbuilt}
use Rattle.event_core.proofs.follow.advance_all.Given as goal

-- what is ensured, for the edges before this one; no place is too far
abbrev pub invariant-loop-at : goal.invariant-loop-at
invariant-loop-at l =
    (length l.unbuilt.items ≡ length l.initial.unbuilt.items)
    × ((k : ℕ) → k < length l.upstream → IsBefore (is_unbuilt l.progress) (get_or l.upstream k []) (get_or l.initial.unbuilt.items k 0)
    → IsBefore (is_unbuilt l.progress) (get_or l.upstream k []) (get_or l.unbuilt.items k 0)
    × ((is_touched k (take l.at l.edges) ≡ true) ⊎ IsFirst (is_unbuilt l.progress) (get_or l.upstream k []) (get_or l.initial.unbuilt.items k 0) → IsFirst (is_unbuilt l.progress) (get_or l.upstream k []) (get_or l.unbuilt.items k 0)))
