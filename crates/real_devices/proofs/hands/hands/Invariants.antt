use Rattle.std.proofs.Common.{◌≡◌, length, map, replicate}
use Rattle.real_devices.specs.Gates.{named_program, gate_program}
use Rattle.real_devices.proofs.hands.hands.Given as goal

abbrev pub invariant-loop-i : goal.invariant-loop-i
invariant-loop-i l = (length l.hands.items ≡ l.i) × (map (λ hand. gate_program hand.gate) l.hands.items ≡ replicate l.i (named_program l.places.program))
