use Rattle.std.proofs.Common.{◌≡◌, nat_eq, drop, find}
use Rattle.std.specs.Cmp.Lexicographic.{pointwise}
use Rattle.goal_types.specs.Requests.{slot_name}
use Rattle.goal_program.proofs.lists.slot_among.Given as goal

-- the slot of this name is among those that are left where it is among all
abbrev pub invariant-loop-slot : goal.invariant-loop-slot
invariant-loop-slot l = find (λ slot. pointwise nat_eq (slot_name slot) l.word) (drop l.slot-index l.slots) ≡ find (λ slot. pointwise nat_eq (slot_name slot) l.word) l.slots
