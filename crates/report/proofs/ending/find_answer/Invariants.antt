use Rattle.std.proofs.Common.{◌≡◌, ◌&&◌, ◌==◌, find, drop}
use Rattle.build_core.specs.declared.event.Answered.{Answered}
use Rattle.report.proofs.ending.find_answer.Given as goal

-- the first of those that are left is the first of all
abbrev pub invariant-loop-answer : goal.invariant-loop-answer
invariant-loop-answer l =
    find (λ (a : Answered). (a.«module» == l.number) && (a.goal == l.goal)) (drop l.answer-index l.answers)
    ≡ find (λ (a : Answered). (a.«module» == l.number) && (a.goal == l.goal)) l.answers
