use Rattle.std.proofs.Common.{◌≡◌, ◌≤◌, ◌-◌, [], take, drop}
use Rattle.pom_model.specs.Faults.{among, count_read, fault_within}
use Rattle.pom_model.proofs.walk.+fault_within.Given as goal

abbrev pub decreases-fault_within : goal.decreases-fault_within
decreases-fault_within l = l.depth

abbrev pub invariant-loop-i : goal.invariant-loop-i
invariant-loop-i l = record {
  same : among (fault_within (l.depth - 1) l.nodes) l.nodes l.kind (take l.i l.children) (drop l.i l.children) ≡ among (fault_within (l.depth - 1) l.nodes) l.nodes l.kind [] l.children;
  counted : l.read ≡ count_read l.nodes l.kind (take l.i l.children);
  small : l.read ≤ l.i;
}
