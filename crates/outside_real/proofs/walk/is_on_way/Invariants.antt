use Rattle.std.proofs.Common.{◌≡◌, ◌-◌, length}
use Rattle.std.specs.List.{list_any}
use Rattle.outside_real.specs.Walk.{is_known_as, is_on_way, way_down}
use Rattle.outside_real.proofs.walk.is_on_way.Given as goal

abbrev pub invariant-loop : goal.invariant-loop
invariant-loop l = is_on_way l.folders l.fn.place l.device l.number
    ≡ list_any (is_known_as l.device l.number) (way_down (length l.folders - l.counter) l.folders l.next)
