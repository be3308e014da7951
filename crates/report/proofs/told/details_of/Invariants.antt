use Rattle.std.proofs.Common.{◌≡◌, ◌++◌, drop}
use Rattle.report.specs.FullDetails.{details_of}
use Rattle.report.proofs.told.details_of.Given as goal

-- what is told so far, and of the modules that are left
abbrev pub invariant-loop-at : goal.invariant-loop-at
invariant-loop-at l = l.list ++ details_of l.full (drop l.at l.models) (drop l.at l.resolutions) (drop l.at l.unbound) ≡ details_of l.full l.models l.resolutions l.unbound
