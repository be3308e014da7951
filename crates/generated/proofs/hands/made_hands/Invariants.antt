use Rattle.std.proofs.Common.{◌≡◌, map, replicate}
use Rattle.outside_mem.specs.FilesNamed.{files_named}
use Rattle.generated.specs.Made.{fresh_hand}
use Rattle.generated.specs.States.{state}
use Rattle.generated.proofs.hands.made_hands.Given as goal

-- as many so far
abbrev pub invariant-loop-hand : goal.invariant-loop-hand
invariant-loop-hand l = map state l.hands.items ≡ replicate l.hand (fresh_hand (files_named l.files))
