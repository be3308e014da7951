use Rattle.std.proofs.Common.{◌≡◌, ◌-◌, ◌++◌, map, drop}
use Rattle.pom_model.specs.AnyNames.{all_in, setting_of, settings_within}
use Rattle.pom_model.proofs.setting.+settings_within.Given as goal

abbrev pub decreases-settings_within : goal.decreases-settings_within
decreases-settings_within l = l.depth

abbrev pub invariant-loop-k : goal.invariant-loop-k
invariant-loop-k l = l.settings ++ map (setting_of (settings_within (l.depth - 1) l.nodes)) (all_in l.nodes (drop l.k-index l.ks)) ≡ map (setting_of (settings_within (l.depth - 1) l.nodes)) (all_in l.nodes l.ks)
