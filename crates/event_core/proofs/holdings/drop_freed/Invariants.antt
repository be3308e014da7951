use Rattle.std.proofs.Common.{◌≡◌, ℕ, true, nat_lt, filter, vec_capacity, vec_len}
use Rattle.std.specs.List.{list_all}
use Rattle.scripts.specs.Climbing.{Climbs}
use Rattle.event_core.specs.Taken.{is_held}
use Rattle.event_core.proofs.holdings.drop_freed.Given as goal

abbrev pub decreases-loop-names : goal.decreases-loop-names
decreases-loop-names l = vec_len l.names

-- what is ensured, but for the last name
abbrev pub invariant-loop-names : goal.invariant-loop-names
invariant-loop-names l =
    (filter (is_held l.locks l.worker) l.names.items ≡ filter (is_held l.locks l.worker) l.initial.names.items)
    × (Climbs 0 l.initial.names.items → Climbs 0 l.names.items)
    × ((n : ℕ) → list_all (λ h. nat_lt h n) l.initial.names.items ≡ true → list_all (λ h. nat_lt h n) l.names.items ≡ true)
    × (vec_capacity l.names ≡ vec_capacity l.initial.names)
