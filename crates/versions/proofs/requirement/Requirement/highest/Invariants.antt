use Rattle.versions.specs.Requirements.{admits}
use Rattle.versions.specs.Highest.{IsHighest}
use Rattle.versions.proofs.requirement.Requirement.highest.Given as goal

abbrev pub invariant-loop-at : goal.invariant-loop-at
invariant-loop-at l = IsHighest (admits l.self) l.versions l.at l.highest
