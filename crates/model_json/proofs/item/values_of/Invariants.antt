use Rattle.std.proofs.Common.{◌≡◌, ◌++◌, map, drop}
use Rattle.serde_json.specs.View.{view}
use Rattle.model_json.proofs.item.values_of.Given as goal

-- the values so far, and those of what is left
abbrev pub invariant-loop-item : goal.invariant-loop-item
invariant-loop-item g l = map view l.values.items ++ map g.T.Item.json (drop l.item-index l.items) ≡ map g.T.Item.json l.items
