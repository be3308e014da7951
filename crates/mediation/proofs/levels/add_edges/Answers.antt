use Rattle.std.proofs.Common.{◌≡◌, ◌≤◌, ◌+◌, ℕ, [], ◌∷◌, drop, length, map, Err, Ok, arith, refl, sym, subst, ◌∙◌}
use Rattle.mediation.specs.Libraries.{Libraries}
use Rattle.mediation.specs.Rows.{Adds, Grows, Leads, paths_of}
use Rattle.mediation.specs.Telling.TellsOn.{here}
use Rattle.collector.specs.Winners.{Path, firsts}
use Rattle.mediation.proofs.Growing.{add_more, fault_stays, refused_early, same_rows}
use Rattle.mediation.proofs.Paths.{leads_more, next_edge, no_edge}
use Rattle.mediation.proofs.Prefixes.{onward, whole}
use Rattle.mediation.proofs.Standing.{all_placed, begun_placed, next_placed}
use Rattle.mediation.proofs.Telling.{told_both}
use Rattle.mediation.proofs.levels.add_edges.Goals as goal

pub loop-edge-init : goal.loop-edge-init
loop-edge-init g c = record {
  rest = λ libraries front fits leads new result adds. adds;
  leads = λ libraries front fits leads. leads;
  keeps = whole c.args.winners.now;
  placed = λ done are. begun_placed c.args.winners.now done c.args.edges.now c.args.places.now are;
  fit = λ libraries fits. fits;
  alike = here c.args.lookup.now;
  faults = refl;
}

pub loop-edge-preserved : goal.loop-edge-preserved
loop-edge-preserved g c =
    let kept = c.loop-edge.invariant in
    let edge = c.edge-item.result in
    let behind = drop (c.loop-edge.edge-index + 1) c.args.edges.now in
    let moved : drop c.loop-edge.edge-index c.args.edges.now ≡ edge ∷ behind = next_edge c.args.edges.now c.loop-edge.edge-index edge c.loop-edge-test.true c.edge-item.is in
    let grown : (libraries : Libraries) (front : Path) → g.L.Lookup.fits c.args.lookup.now libraries → Leads (paths_of c.args.winners.now) c.args.above front
    → Grows libraries c.loop-edge.winners c.decide.new.winners ((edge ∷ front) ∷ []) =
    λ libraries front fits leads. c.in-Ok.ensures.adds libraries front (kept.fit libraries fits) (kept.leads libraries front fits leads) in
    record {
      rest = λ libraries front fits leads new result adds.
          kept.rest libraries front fits leads new result
          (subst (λ l. Adds libraries c.loop-edge.winners new (map (λ e. e ∷ front) l) result) (sym moved)
          (add_more libraries c.loop-edge.winners c.decide.new.winners new ((edge ∷ front) ∷ []) (map (λ e. e ∷ front) behind) result (grown libraries front fits leads) adds));
      leads = λ libraries front fits leads.
          subst (λ p. Leads p c.args.above front) (sym (grown libraries front fits leads).wins)
          (leads_more (paths_of c.loop-edge.winners) (firsts (paths_of c.loop-edge.winners) ((edge ∷ front) ∷ [])) c.args.above front (kept.leads libraries front fits leads));
      keeps = onward kept.keeps c.in-Ok.ensures.keeps;
      placed = λ done are.
          next_placed c.loop-edge.winners c.decide.new.winners done c.args.edges.now c.loop-edge.edge-index edge c.loop-edge.places c.push.new.self c.in-Ok.place c.loop-edge-test.true c.edge-item.is
          c.in-Ok.ensures.keeps c.in-Ok.ensures.placed c.in_ok-push.ensures.ok (kept.placed done are);
      fit = λ libraries fits. c.in-Ok.ensures.same libraries (kept.fit libraries fits);
      alike = told_both kept.alike c.in-Ok.ensures.alike;
      faults = c.in-Ok.ensures.cause ∙ kept.faults;
    }

pub returns-in-Err-clause-adds : goal.returns-in-Err-clause-adds
returns-in-Err-clause-adds g c = λ libraries front fits leads.
    let kept = c.loop-edge.invariant in
    let edge = c.edge-item.result in
    let behind = drop (c.loop-edge.edge-index + 1) c.args.edges.now in
    let moved : drop c.loop-edge.edge-index c.args.edges.now ≡ edge ∷ behind = next_edge c.args.edges.now c.loop-edge.edge-index edge c.loop-edge-test.true c.edge-item.is in
    kept.rest libraries front fits leads c.decide.new.winners (Err c.in-Err.fault)
    (subst (λ l. Adds {T = Unit {0}} libraries c.loop-edge.winners c.decide.new.winners (map (λ e. e ∷ front) l) (Err c.in-Err.fault)) (sym moved)
    (refused_early libraries c.loop-edge.winners c.decide.new.winners c.decide.new.winners ((edge ∷ front) ∷ []) (map (λ e. e ∷ front) behind) c.in-Err.fault
    (fault_stays libraries (Unit {0}) ℕ c.loop-edge.winners c.decide.new.winners ((edge ∷ front) ∷ []) c.in-Err.fault
    (c.in-Err.ensures.adds libraries front (kept.fit libraries fits) (kept.leads libraries front fits leads)))))

pub returns-clause-adds : goal.returns-clause-adds
returns-clause-adds g c = λ libraries front fits leads.
    let over : length c.args.edges.now ≤ c.loop-edge.edge-index = omega (arith, c.loop-edge-test.false) in
    c.loop-edge.invariant.rest libraries front fits leads c.loop-edge.winners (Ok tt)
    (subst (λ l. Grows libraries c.loop-edge.winners c.loop-edge.winners (map (λ e. e ∷ front) l)) (sym (no_edge c.args.edges.now c.loop-edge.edge-index over)) (same_rows libraries c.loop-edge.winners))

pub returns-clause-placed : goal.returns-clause-placed
returns-clause-placed g c = λ done are.
    let over : length c.args.edges.now ≤ c.loop-edge.edge-index = omega (arith, c.loop-edge-test.false) in
    all_placed c.loop-edge.winners done c.args.edges.now c.loop-edge.edge-index c.loop-edge.places over (c.loop-edge.invariant.placed done are)
