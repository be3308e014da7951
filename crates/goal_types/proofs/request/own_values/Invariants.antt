use Rattle.std.proofs.Common.{◌≡◌, ◌++◌, map, drop}
use Rattle.serde_json.specs.View.{view}
use Rattle.goal_types.specs.Requests.{own_data}
use Rattle.goal_types.proofs.request.own_values.Given as goal

-- the values so far, and those of what is left
abbrev pub invariant-loop-output : goal.invariant-loop-output
invariant-loop-output l = map view l.values.items ++ map own_data (drop l.output-index l.own) ≡ map own_data l.own
