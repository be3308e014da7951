use Rattle.std.specs.Prelude.{◌≡◌}
use Rattle.turn_lock.specs.Noted.{notes_of}
use Rattle.turn_lock.specs.Passes.{view_of}
use Rattle.turn_lock.specs.Resting.{RestsAgain}
use Rattle.turn_lock.proofs.tally.rest_until.Given as goal

-- the pass is at rest, and as wide and heavy as it was, and has seen the worker's notes as before
abbrev pub invariant-loop : goal.invariant-loop
invariant-loop g l =
    RestsAgain l.lock l.worker l.initial.pass l.pass
    × (notes_of l.worker (view_of l.pass).seen ≡ notes_of l.worker (view_of l.initial.pass).seen)
