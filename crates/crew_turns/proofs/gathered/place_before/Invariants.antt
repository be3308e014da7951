use Rattle.std.proofs.Common.{◌≡◌, None}
use Rattle.crew_turns.specs.Parts.{place_before}
use Rattle.crew_turns.proofs.gathered.place_before.Given as goal

-- no entry before this one comes from the file
abbrev pub invariant-loop-at : goal.invariant-loop-at
invariant-loop-at l = place_before l.entries l.at l.file ≡ None
