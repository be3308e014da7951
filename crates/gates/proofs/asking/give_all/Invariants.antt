use Rattle.std.proofs.Common.{◌≡◌, ◌-◌, ◌≤◌, length, take}
use Rattle.children.specs.Children.{changed, given_more}
use Rattle.gates.proofs.asking.give_all.Given as goal

abbrev pub invariant-loop-done : goal.invariant-loop-done
invariant-loop-done g l = record {
  within : l.done ≤ length l.bytes;
  so_far : g.P.Spawner.told l.spawner ≡ changed (given_more (take l.done l.bytes)) l.child (g.P.Spawner.told l.fn.spawner);
  there : g.P.Spawner.children l.spawner ≡ g.P.Spawner.children l.fn.spawner;
  never : g.P.Spawner.never_fails l.spawner ≡ g.P.Spawner.never_fails l.fn.spawner;
  quiet : g.P.Spawner.faults l.spawner ≡ g.P.Spawner.faults l.fn.spawner;
}

abbrev pub decreases-loop-done : goal.decreases-loop-done
decreases-loop-done g l = length l.bytes - l.done
