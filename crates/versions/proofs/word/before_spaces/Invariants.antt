use Rattle.std.proofs.Common.{◌≡◌, ◌≤◌, length, take}
use Rattle.std.specs.Str.{IsCharBoundary}
use Rattle.versions.specs.Requirements.{before_spaces}
use Rattle.versions.proofs.word.before_spaces.Given as goal

abbrev pub invariant-loop-end : goal.invariant-loop-end
invariant-loop-end l = record {
  within : l.end ≤ length l.bytes;
  boundary : IsCharBoundary l.word l.end;
  rest : before_spaces (take l.end l.word) ≡ before_spaces l.word;
}

abbrev pub decreases-loop-end : goal.decreases-loop-end
decreases-loop-end l = l.end
