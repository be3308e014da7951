-- What a turn brings to a pass. Project rule.
use Rattle.std.specs.Prelude.{◌≡◌, ℕ, List, ◌++◌}
use Rattle.event_core.specs.declared.entry.RunEntry.{RunEntry}
use Rattle.turn_lock.specs.Passes.{with_view}
use Rattle.turn_lock.specs.Turns.{given, with_turn}
use Rattle.board.specs.Logs.{role}
use Rattle.run_law.specs.Others.{AreOthers}
use Rattle.crew_turns.specs.Seen.{Told, seen_by, view}

-- others' entries came since a pass looked last
pub record HasCome (w : ℕ) (before : Told) (log : List RunEntry) : Type 0 where
  pub others : List RunEntry
  pub apart : AreOthers w others
  pub is : log ≡ seen_by before ++ others

-- a pass whose turn came out with one log and was given back with another
abbrev pub given_back : Told → (out log : List RunEntry) → Told
given_back before out log = with_view before (given role (with_turn (view before) out) log)
