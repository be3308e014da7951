use Rattle.std.proofs.Common.{List, ◌++◌, flat_map, slice_get, Ok, Err, ap, sym, subst, ◌∙◌}
use Rattle.collector.specs.declared.edge.Edge.{Edge}
use Rattle.std.specs.Option.{option_to_list}
use Rattle.mediation.specs.Rows.{ArePlaced, edges_below, paths_of}
use Rattle.collector.specs.Winners.{longer}
use Rattle.mediation.proofs.Growing.{fault_stays}
use Rattle.mediation.proofs.Prefixes.{none_some, same_winner}
use Rattle.mediation.specs.Libraries.{graph_of}
use Rattle.mediation.proofs.Places.{expanded, nothing_there}
use Rattle.mediation.proofs.levels.expand.Goals as goal

pub returns-in_default-clause-adds : goal.returns-in_default-clause-adds
returns-in_default-clause-adds g c = λ libraries direct fits picks.
    nothing_there libraries (graph_of libraries c.args.managed.now direct) c.args.winners.now c.args.place (sym c.in_default.ensures)

pub returns-in-Ok-clause-adds : goal.returns-in-Ok-clause-adds
returns-in-Ok-clause-adds g c = λ libraries direct fits picks.
    expanded libraries c.args.managed.now direct c.args.winners.now c.add_edges.new.winners c.args.place c.in-Some.winner.now c.as_slice-list.result.now (Ok tt) (sym c.in-Some.ensures) picks
    (c.as_slice-list.ensures ∙ c.deref.ensures ∙ c.in_ok-edges.ensures)
    (λ front leads. c.in-Ok.ensures.adds libraries front fits leads)

pub returns-in-Err-clause-adds : goal.returns-in-Err-clause-adds
returns-in-Err-clause-adds g c = λ libraries direct fits picks.
    fault_stays libraries (List Edge) (Unit {0}) c.args.winners.now c.add_edges.new.winners (flat_map (longer (graph_of libraries c.args.managed.now direct)) (option_to_list (slice_get (paths_of c.args.winners.now) c.args.place))) c.in-Err.fault
    (expanded libraries c.args.managed.now direct c.args.winners.now c.add_edges.new.winners c.args.place c.in-Some.winner.now c.as_slice-list.result.now (Err c.in-Err.fault) (sym c.in-Some.ensures) picks
    (c.as_slice-list.ensures ∙ c.deref.ensures ∙ c.in_ok-edges.ensures)
    (λ front leads. c.in-Err.ensures.adds libraries front fits leads))

pub returns-in-Ok-clause-below : goal.returns-in-Ok-clause-below
returns-in-Ok-clause-below g c = λ w is. c.in_ok-edges.ensures ∙ ap (edges_below c.args.managed.now) (same_winner c.in-Some.winner.now w (c.in-Some.ensures ∙ is))

pub returns-in_default-clause-below : goal.returns-in_default-clause-below
returns-in_default-clause-below g c = λ w is. absurd (none_some w (c.in_default.ensures ∙ is))

pub returns-in-Ok-clause-placed : goal.returns-in-Ok-clause-placed
returns-in-Ok-clause-placed g c = λ done are.
    subst (λ l. ArePlaced c.add_edges.new.winners (done ++ l) c.add_edges.new.places) (c.as_slice-list.ensures ∙ c.deref.ensures) (c.in-Ok.ensures.placed done are)
