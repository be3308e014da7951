use Rattle.std.proofs.Common.{◌≡◌, ◌+◌, drop}
use Rattle.versions.specs.Requirements.{divider_place}
use Rattle.versions.proofs.requirement.divider_place.Given as goal

abbrev pub invariant-loop-at : goal.invariant-loop-at
invariant-loop-at l = divider_place l.text ≡ l.at + divider_place (drop l.at l.text)
