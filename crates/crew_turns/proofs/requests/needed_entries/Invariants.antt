use Rattle.std.proofs.Common.{◌≡◌, take}
use Rattle.run_law.specs.Gathered.{needed_of}
use Rattle.crew_turns.proofs.requests.needed_entries.Given as goal

-- of the entries before this one, those that are needed
abbrev pub invariant-loop-at : goal.invariant-loop-at
invariant-loop-at l = l.needed ≡ needed_of l.need (take l.at l.entries) (take l.at l.paths)
