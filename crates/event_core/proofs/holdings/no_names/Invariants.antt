use Rattle.std.proofs.Common.{◌≡◌, ◌<◌, All, [], map, replicate, vec_capacity}
use Rattle.event_core.proofs.holdings.no_names.Given as goal

-- so many lists, each empty and with room
abbrev pub invariant-loop-worker : goal.invariant-loop-worker
invariant-loop-worker l = (map (λ names. names.items) l.held.items ≡ replicate l._worker []) × All (λ list. l.names < vec_capacity list) l.held.items
