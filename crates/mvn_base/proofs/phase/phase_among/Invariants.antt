use Rattle.std.proofs.Common.{◌≡◌, nat_eq, drop, find}
use Rattle.std.specs.Cmp.Lexicographic.{pointwise}
use Rattle.mvn_base.specs.Phase.{phase_name}
use Rattle.mvn_base.proofs.phase.phase_among.Given as goal

-- the phase is among those that are left where it is among all
abbrev pub invariant-loop-phase : goal.invariant-loop-phase
invariant-loop-phase l =
    find (λ phase. pointwise nat_eq l.word (phase_name phase)) (drop l.phase-index l.phases) ≡ find (λ phase. pointwise nat_eq l.word (phase_name phase)) l.phases
