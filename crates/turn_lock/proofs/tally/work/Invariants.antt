use Rattle.std.specs.Prelude.{◌≡◌}
use Rattle.turn_lock.specs.Noted.{noted, notes_of}
use Rattle.turn_lock.specs.Passes.{view_of}
use Rattle.turn_lock.specs.Resting.{RestsAgain}
use Rattle.turn_lock.proofs.tally.work.Given as goal

-- the pass is at rest, and as wide and heavy as it was, and has seen the worker's numbers so far
abbrev pub invariant-loop-number : goal.invariant-loop-number
invariant-loop-number g l =
    RestsAgain l.lock l.worker l.initial.pass l.pass
    × (notes_of l.worker (view_of l.pass).seen ≡ noted l.worker l.number)
