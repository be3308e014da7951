use Rattle.std.proofs.Common.{◌≡◌, ◌++◌, drop}
use Rattle.mvn_base.proofs.setting.+copy.Given as goal

-- the copies so far, and what is left
abbrev pub invariant-copies-loop-setting : goal.invariant-copies-loop-setting
invariant-copies-loop-setting l = l.copies ++ drop l.setting-index l.setting-items ≡ l.setting-items
