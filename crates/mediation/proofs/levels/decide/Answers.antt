use Rattle.std.proofs.Common.{ℕ, [], ◌∷◌, sym}
use Rattle.mediation.proofs.Growing.{fault_stays, lost}
use Rattle.mediation.proofs.Standing.{no_row, some_row}
use Rattle.mediation.proofs.levels.decide.Goals as goal

pub add_new-requires : goal.add_new-requires
add_new-requires g c = record { new = no_row c.args.winners.now c.args.edge.now.key (sym c.in_default.ensures.value) }

pub returns-in-Some-clause-adds : goal.returns-in-Some-clause-adds
returns-in-Some-clause-adds g c = λ libraries front fits leads.
    lost libraries c.args.winners.now c.args.edge.now front (some_row c.args.winners.now c.args.edge.now.key c.in-Some.place (sym c.in-Some.ensures.value))

pub returns-in-Err-clause-adds : goal.returns-in-Err-clause-adds
returns-in-Err-clause-adds g c = λ libraries front fits leads.
    fault_stays libraries ℕ (Unit {0}) c.args.winners.now c.add_new.new.winners ((c.args.edge.now ∷ front) ∷ []) c.in-Err.fault
    (c.in-Err.ensures.adds libraries front fits leads)
