use Rattle.std.proofs.Common.{◌≡◌, ◌-◌, ◌≤◌, vec_len}
use Rattle.goal_program.proofs.Steps.{ReadSoFar}
use Rattle.goal_program.proofs.input.read_all.Given as goal

abbrev pub invariant-loop-bytes : goal.invariant-loop-bytes
invariant-loop-bytes g l = record {
  within : vec_len l.bytes ≤ 536870913;
  part : vec_len l.part ≡ 65536;
  so_far : ReadSoFar (g.I.Source.left l.fn.input) (g.I.Source.left l.input) l.bytes.items;
  never : g.I.Source.never_fails l.input ≡ g.I.Source.never_fails l.fn.input;
  quiet : g.I.Source.faults l.input ≡ g.I.Source.faults l.fn.input;
}

abbrev pub decreases-loop-bytes : goal.decreases-loop-bytes
decreases-loop-bytes g l = 536870913 - vec_len l.bytes
