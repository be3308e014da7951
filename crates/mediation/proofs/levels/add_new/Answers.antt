use Rattle.std.proofs.Common.{List, ℕ, Err, is_some, sym, ap, subst, ◌∙◌}
use Rattle.mediation.specs.Faults.{Says}
use Rattle.mediation.specs.Libraries.{chosen}
use Rattle.mediation.proofs.Growing.{settled, stopped}
use Rattle.mediation.proofs.levels.add_new.Goals as goal

pub returns-in-Ok-clause-adds : goal.returns-in-Ok-clause-adds
returns-in-Ok-clause-adds g c = λ libraries front fits leads.
    settled libraries c.args.winners.now c.add_winner.new.winners c.args.edge.now c.args.above c.in-Ok.version front c.add_winner.result (ap is_some c.requires.new) leads
    (ap (λ n. chosen libraries n c.args.edge.now) (sym c.len.ensures.value) ∙ c.in-Ok.ensures.says libraries fits)
    (c.add_winner.ensures.adds libraries (c.in-Ok.ensures.same libraries fits))
    (c.add_winner.ensures.says libraries (c.in-Ok.ensures.same libraries fits))

pub returns-in-Err-clause-adds : goal.returns-in-Err-clause-adds
returns-in-Err-clause-adds g c = λ libraries front fits leads.
    stopped libraries c.args.winners.now c.args.winners.now c.args.edge.now front c.in-Err.fault (ap is_some c.requires.new)
    (subst (λ n. Says {T = List ℕ} (chosen libraries n c.args.edge.now) (Err c.in-Err.fault)) c.len.ensures.value (c.in-Err.ensures.says libraries fits))
