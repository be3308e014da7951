use Rattle.std.proofs.Common.{◌≡◌, ◌+◌, ◌*◌, drop}
use Rattle.goal_program.specs.Members.{all_of, views}
use Rattle.goal_program.specs.Settings.{setting_in}
use Rattle.goal_program.proofs.RequestSettings.{preceded}
use Rattle.goal_program.proofs.setting.+setting.Given as goal

abbrev pub decreases-setting_in : goal.decreases-setting_in
decreases-setting_in l = 2 * l.levels

abbrev pub decreases-settings_in : goal.decreases-settings_in
decreases-settings_in l = 2 * l.levels + 1

abbrev pub invariant-settings_in-loop-value : goal.invariant-settings_in-loop-value
invariant-settings_in-loop-value l = preceded l.settings (all_of (setting_in l.levels) (views (drop l.value-index l.values))) ≡ all_of (setting_in l.levels) (views l.values)
