use Rattle.std.proofs.Common.{◌≡◌, ◌-◌, ◌≤◌, length, take, false, None}
use Rattle.std.specs.FinMap as map
use Rattle.mvn_outside.specs.Staged.{staged}
use Rattle.mvn_outside.proofs.staging.stage.Given as goal

-- the new piece has a part of the bytes from their front
abbrev pub invariant-loop-done : goal.invariant-loop-done
invariant-loop-done g l = record {
  within : l.done ≤ length l.bytes;
  fresh : map.get (g.A.Area.pieces l.fn.area) l.piece ≡ None;
  begun : g.A.Area.pieces l.area ≡ map.insert (g.A.Area.pieces l.fn.area) l.piece false;
  so_far : g.A.Area.contents l.area ≡ staged (g.A.Area.contents l.fn.area) l.piece (take l.done l.bytes);
  never : g.A.Area.never_fails l.area ≡ g.A.Area.never_fails l.fn.area;
  quiet : g.A.Area.faults l.area ≡ g.A.Area.faults l.fn.area;
}

abbrev pub decreases-loop-done : goal.decreases-loop-done
decreases-loop-done g l = length l.bytes - l.done
