use Rattle.std.proofs.Common.{◌≡◌, ◌-◌, ◌≤◌, length, take}
use Rattle.mvn_shared.specs.Told.{gains}
use Rattle.mvn_outside.proofs.sink.write_all.Given as goal

abbrev pub invariant-loop-done : goal.invariant-loop-done
invariant-loop-done g l = record {
  within : l.done ≤ length l.text;
  so_far : g.O.Sink.written l.out ≡ gains (g.O.Sink.written l.fn.out) (take l.done l.text);
  never : g.O.Sink.never_fails l.out ≡ g.O.Sink.never_fails l.fn.out;
  quiet : g.O.Sink.faults l.out ≡ g.O.Sink.faults l.fn.out;
}

abbrev pub decreases-loop-done : goal.decreases-loop-done
decreases-loop-done g l = length l.text - l.done
