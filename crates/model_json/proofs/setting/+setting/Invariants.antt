use Rattle.std.proofs.Common.{◌≡◌, ◌++◌, map, drop}
use Rattle.serde_json.specs.View.{view}
use Rattle.goal_types.specs.Requests.{setting_data}
use Rattle.model_json.proofs.setting.+setting.Given as goal

-- the values so far, and those of what is left
abbrev pub invariant-setting_values-loop-setting : goal.invariant-setting_values-loop-setting
invariant-setting_values-loop-setting l = map view l.values.items ++ map setting_data (drop l.setting-index l.settings) ≡ map setting_data l.settings
