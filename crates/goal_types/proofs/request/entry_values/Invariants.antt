use Rattle.std.proofs.Common.{◌≡◌, ◌++◌, map, drop}
use Rattle.serde_json.specs.View.{view}
use Rattle.goal_types.specs.Requests.{entry_data}
use Rattle.goal_types.proofs.request.entry_values.Given as goal

-- the values so far, and those of what is left
abbrev pub invariant-loop-entry : goal.invariant-loop-entry
invariant-loop-entry l = map view l.values.items ++ map entry_data (drop l.entry-index l.entries) ≡ map entry_data l.entries
