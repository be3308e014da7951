use Rattle.std.proofs.Common.{◌≡◌, ◌≤◌, length, map, vec_capacity}
use Rattle.build_core.specs.Locks.{below}
use Rattle.event_core.specs.HowFar.{state_of}
use Rattle.event_core.specs.Standing.{standing_of}
use Rattle.board.proofs.states.fill.Given as goal

-- the states of so many modules, with room for the others
abbrev pub invariant-loop-number : goal.invariant-loop-number
invariant-loop-number l = (l.states.items ≡ map (λ n. state_of l.fn.core.0 (standing_of l.fn.core.0 l.fn.core.1).progress n) (below l.number)) × (length l.states.items ≡ l.number) × (l.fn.count ≤ vec_capacity l.states)
