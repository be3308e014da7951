use Rattle.std.proofs.Common.{◌≡◌, ◌-◌, ◌≤◌, vec_len}
use Rattle.gates.specs.Asking.{most_taken}
use Rattle.gates.proofs.Steps.{ReadSoFar}
use Rattle.gates.proofs.reading.read_output.Given as goal

abbrev pub invariant-loop-bytes : goal.invariant-loop-bytes
invariant-loop-bytes g l = record {
  within : vec_len l.bytes ≤ most_taken;
  part : vec_len l.part ≡ 65536;
  so_far : ReadSoFar (g.P.Spawner.told l.fn.spawner) (g.P.Spawner.told l.spawner) l.child l.bytes.items;
  there : g.P.Spawner.children l.spawner ≡ g.P.Spawner.children l.fn.spawner;
  never : g.P.Spawner.never_fails l.spawner ≡ g.P.Spawner.never_fails l.fn.spawner;
  quiet : g.P.Spawner.faults l.spawner ≡ g.P.Spawner.faults l.fn.spawner;
}

abbrev pub decreases-loop-bytes : goal.decreases-loop-bytes
decreases-loop-bytes g l = most_taken - vec_len l.bytes
