use Rattle.std.proofs.Common.{◌≡◌, ◌+◌, drop}
use Rattle.versions.specs.Pieces.{front}
use Rattle.versions.proofs.piece.front.Given as goal

abbrev pub invariant-loop-at : goal.invariant-loop-at
invariant-loop-at l = front l.text ≡ l.at + front (drop l.at l.text)
