use Rattle.std.proofs.Common.{ap, ◌∙◌}
use Rattle.turn_lock.specs.declared.tally.Note.{Note}
use Rattle.turn_lock.proofs.Tallies.{never_open}
use Rattle.turn_lock.proofs.tally.held.Goals as goal

pub returns-clause-rest : goal.returns-clause-rest
returns-clause-rest g c =
    let given = c.give.ensures in
    let taken = c.take-value.ensures.pass in
    let rest = c.requires.rest in
    record {
      own = ap (λ p. p.0) given ∙ ap (λ p. p.0) taken ∙ rest.own;
      quiet = ap (λ p. p.2.turn) given;
      clear = ap (λ p. p.2.owed) given ∙ never_open {E = Note} (λ n. n.worker) (c.take-value.new.pass.2).number c.take-value.result.value.notes.items;
      number = ap (λ p. p.2.number) given ∙ ap (λ p. p.2.number) taken ∙ rest.number;
      to = ap (λ p. p.2.reach) given ∙ ap (λ p. p.2.reach) taken;
      heavy = ap (λ p. p.2.weight) given ∙ ap (λ p. p.2.weight) taken;
      among = ap (λ p. p.2.workers) given ∙ ap (λ p. p.2.workers) taken;
    }
