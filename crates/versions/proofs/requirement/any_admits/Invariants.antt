use Rattle.std.proofs.Common.{◌≡◌, drop}
use Rattle.std.specs.List.{list_any}
use Rattle.versions.specs.Intervals.{is_within}
use Rattle.versions.proofs.requirement.any_admits.Given as goal

abbrev pub invariant-loop-interval : goal.invariant-loop-interval
invariant-loop-interval l = list_any (λ interval. is_within interval l.version) l.intervals ≡ list_any (λ interval. is_within interval l.version) (drop l.interval-index l.intervals)
