use Rattle.std.specs.Prelude.{ℕ, Option}
use Rattle.board.specs.Builds.{standing_at}
use Rattle.run_law.specs.Absent.{IsFirstAbsent}
use Rattle.crew_turns.proofs.looks.first_absent.Given as goal

-- the first that isn't there from here on is the first of all
abbrev pub invariant-loop-at : goal.invariant-loop-at
invariant-loop-at g l = (found : Option ℕ) → IsFirstAbsent (standing_at l.board).there l.files l.at found → IsFirstAbsent (standing_at l.board).there l.files l.from found
