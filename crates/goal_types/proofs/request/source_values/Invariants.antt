use Rattle.std.proofs.Common.{◌≡◌, ◌++◌, map, drop}
use Rattle.serde_json.specs.View.{view}
use Rattle.goal_types.specs.Requests.{source_data}
use Rattle.goal_types.proofs.request.source_values.Given as goal

-- the values so far, and those of what is left
abbrev pub invariant-loop-source : goal.invariant-loop-source
invariant-loop-source l = map view l.values.items ++ map source_data (drop l.source-index l.sources) ≡ map source_data l.sources
