use Rattle.std.proofs.Common.{◌≡◌, List, [], drop}
use Rattle.mvn_base.specs.declared.machine.Pair.{Pair}
use Rattle.interpolation.specs.Filling.{each, fill_setting}
use Rattle.interpolation.specs.Tables.{IsTable}
use Rattle.interpolation.specs.Told.{prefixed}
use Rattle.interpolation.proofs.settings.+filled_setting.Given as goal

abbrev pub invariant-fill_settings-loop-setting : goal.invariant-fill_settings-loop-setting
invariant-fill_settings-loop-setting l = (known : List Pair) → IsTable known [] l.initial.filler → IsTable known [] l.filler × (prefixed l.list (each (fill_setting known) (drop l.setting-index l.setting-items)) ≡ each (fill_setting known) l.setting-items)
