use Rattle.std.proofs.Common.{◌≡◌, ◌++◌, flat_map, drop}
use Rattle.goal_types.specs.Requests.{entry_bytes}
use Rattle.goal_types.proofs.request.push_entries.Given as goal

-- the bytes so far, and those of what is left
abbrev pub invariant-loop-entry : goal.invariant-loop-entry
invariant-loop-entry l = l.bytes.items ++ flat_map (λ e. entry_bytes e.bytes) (drop l.entry-index l.entries) ≡ l.fn.bytes.items ++ flat_map (λ e. entry_bytes e.bytes) l.entries
