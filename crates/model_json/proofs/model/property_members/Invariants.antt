use Rattle.std.proofs.Common.{◌≡◌, fold, drop}
use Rattle.serde_json.specs.Data.{no_members}
use Rattle.serde_json.specs.View.{members_view}
use Rattle.model_json.specs.ModelJson.{property_at}
use Rattle.model_json.proofs.model.property_members.Given as goal

-- the members so far, and what is left put behind them
abbrev pub invariant-loop-pair : goal.invariant-loop-pair
invariant-loop-pair l = fold property_at (members_view l.ms.entries) (drop l.pair-index l.pairs) ≡ fold property_at no_members l.pairs
