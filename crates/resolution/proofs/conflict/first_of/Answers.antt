use Rattle.std.proofs.Common.{sym, ◌∙◌}
use Rattle.std.specs.HashSet.{contains}
use Rattle.model_merge.specs.Keyed.{same_key}
use Rattle.resolution.proofs.Joined.{find_here, find_next, find_none, find_without}
use Rattle.resolution.proofs.conflict.first_of.Goals as goal
use Rattle.resolution.proofs.conflict.first_of.Goals.{in-Some+else-contains, in_default}

pub returns-then-is_empty : goal.returns-then-is_empty
returns-then-is_empty c = find_without c.args.keys.now.keys c.args.winners.now (c.is_empty.ensures.0 c.if-is_empty.true)

pub returns-then-contains : goal.returns-then-contains
returns-then-contains c =
    sym (c.loop-place.invariant
    ∙ find_here (λ w. contains same_key c.args.keys.now w.edge.key) c.args.winners.now c.loop-place.place c.in-Some.winner.now (sym c.in-Some.ensures) (sym c.contains.ensures ∙ c.if-contains.true))

pub loop-place-preserved : goal.loop-place-preserved
loop-place-preserved c = elim c.match-get.branch [ in-Some+else-contains w ↦ find_next (λ w. contains same_key c.args.keys.now w.edge.key) c.args.winners.now c.loop-place.place w.in-Some.winner.now (sym w.in-Some.ensures) (sym w.contains.ensures ∙ w.if-contains.false) c.loop-place.invariant | in_default w ↦ find_none (λ w. contains same_key c.args.keys.now w.edge.key) c.args.winners.now c.loop-place.place (sym w.in_default.ensures) c.loop-place.invariant ]
