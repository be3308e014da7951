use Rattle.std.proofs.Common.{◌≡◌, ◌∷◌, drop, map}
use Rattle.version_index.specs.Sets.{ascends}
use Rattle.version_index.proofs.reading.ascend_from.Given as goal

-- what is left, with the last line before it, ascends where all lines do
abbrev pub invariant-loop-line : goal.invariant-loop-line
invariant-loop-line l = ascends (l.last ∷ map (λ x. x.now) (drop l.line-index l.lines)) ≡ ascends (l.first ∷ map (λ x. x.now) l.lines)
