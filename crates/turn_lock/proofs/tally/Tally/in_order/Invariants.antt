use Rattle.std.proofs.Common.{◌≡◌, ◌≤◌, ◌^◌, take}
use Rattle.turn_lock.specs.Noted.{in_order}
use Rattle.turn_lock.proofs.tally.Tally.in_order.Given as goal

-- the notes before this one are looked at
abbrev pub invariant-loop-at : goal.invariant-loop-at
invariant-loop-at l = (l.next ≤ 2 ^ 32) × (l.next ≡ in_order l.worker (take l.at l.self.notes.items))
