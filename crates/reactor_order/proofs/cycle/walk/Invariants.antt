use Rattle.std.proofs.Common.{◌≡◌, ℕ, ◌-◌, ◌<◌, [], List, length}
use Rattle.reactor_order.specs.Graph.{Edges}
use Rattle.reactor_order.specs.Cycle.{walk}
use Rattle.reactor_order.specs.Marks.{unmarked, IsMarked}
use Rattle.reactor_order.specs.Walking.{Goes}
use Rattle.reactor_order.proofs.cycle.walk.Given as goal

abbrev pub invariant-loop-seen : goal.invariant-loop-seen
invariant-loop-seen l = record {
  marked : IsMarked l.seen.marks.items l.seen.found.items;
  long : length l.seen.marks.items ≡ l.n;
  within : l.m < l.n;
  on : (edges : Edges) (placed : List ℕ) → Goes l.n edges placed l.nexts → walk l.n edges placed [] l.first ≡ walk (l.n - length l.seen.found.items) edges placed l.seen.found.items l.m;
}

abbrev pub decreases-loop-seen : goal.decreases-loop-seen
decreases-loop-seen l = unmarked l.seen.marks.items
