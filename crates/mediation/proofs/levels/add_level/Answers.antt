use Rattle.std.proofs.Common.{List, ◌++◌, ◌<◌, ◌≤◌, [], length, slice_get, flat_map, Ok, Err, refl, arith, ◌∙◌}
use Rattle.collector.specs.declared.edge.Edge.{Edge}
use Rattle.std.specs.Option.{option_to_list}
use Rattle.mediation.specs.Libraries.{graph_of}
use Rattle.mediation.specs.Rows.{paths_of}
use Rattle.collector.specs.Winners.{longer}
use Rattle.mediation.proofs.Growing.{fault_stays}
use Rattle.mediation.proofs.Places.{level_done, level_step, level_stopped, stands_more}
use Rattle.mediation.proofs.Prefixes.{level_below, next_below, onward, whole}
use Rattle.mediation.proofs.Standing.{list_placed}
use Rattle.mediation.proofs.Telling.{told_both}
use Rattle.mediation.specs.Telling.TellsOn.{here}
use Rattle.mediation.proofs.levels.add_level.Goals as goal

pub loop-place-init : goal.loop-place-init
loop-place-init g c = record {
  rest = λ libraries direct fits picks new result adds. adds;
  versions = λ libraries fits picks. picks;
  before = λ libraries fits picks k p is. is;
  keeps = whole c.args.winners.now;
  below = λ so. so;
  placed = λ done are. are;
  fit = λ libraries fits. fits;
  alike = here c.args.lookup.now;
  faults = refl;
}

pub returns-in-Err-clause-adds : goal.returns-in-Err-clause-adds
returns-in-Err-clause-adds g c = λ libraries direct fits picks.
    let inv = c.loop-place.invariant in
    let low : c.loop-place.place < length c.args.winners.now = omega (arith, c.loop-place-test.true, c.requires.all) in
    inv.rest libraries direct fits picks c.expand.new.winners (Err c.in-Err.fault)
    (level_stopped libraries (graph_of libraries c.args.managed.now direct) c.args.winners.now c.loop-place.winners c.expand.new.winners c.expand.new.winners c.loop-place.place c.in-Err.fault low (inv.before libraries fits picks)
    (fault_stays libraries (Unit {0}) (List Edge) c.loop-place.winners c.expand.new.winners (flat_map (longer (graph_of libraries c.args.managed.now direct)) (option_to_list (slice_get (paths_of c.loop-place.winners) c.loop-place.place))) c.in-Err.fault
    (c.in-Err.ensures.adds libraries direct (inv.fit libraries fits) (inv.versions libraries fits picks))))

pub loop-place-preserved : goal.loop-place-preserved
loop-place-preserved g c =
    let inv = c.loop-place.invariant in
    let low : c.loop-place.place < length c.args.winners.now = omega (arith, c.loop-place-test.true, c.requires.all) in
    record {
      rest = λ libraries direct fits picks new result adds.
          inv.rest libraries direct fits picks new result
          (level_step libraries (graph_of libraries c.args.managed.now direct) c.args.winners.now c.loop-place.winners c.expand.new.winners new c.loop-place.place result low (inv.before libraries fits picks)
          (c.in-Ok.ensures.adds libraries direct (inv.fit libraries fits) (inv.versions libraries fits picks)) adds);
      versions = λ libraries fits picks.
          let before = inv.versions libraries fits picks in
          (c.in-Ok.ensures.adds libraries [] (inv.fit libraries fits) before).versions before;
      before = λ libraries fits picks.
          stands_more libraries c.args.winners.now c.loop-place.winners c.expand.new.winners
          (flat_map (longer (graph_of libraries c.args.managed.now [])) (option_to_list (slice_get (paths_of c.loop-place.winners) c.loop-place.place)))
          (inv.before libraries fits picks) (c.in-Ok.ensures.adds libraries [] (inv.fit libraries fits) (inv.versions libraries fits picks));
      keeps = onward inv.keeps c.in-Ok.ensures.keeps;
      below = λ so. next_below c.args.managed.now c.args.winners.now c.loop-place.winners c.loop-place.place c.loop-place.below c.push.new.self c.in-Ok.edges low inv.keeps
          (λ w is. c.in-Ok.ensures.below w is) c.in_ok-push.ensures.ok (inv.below so);
      placed = λ done are.
          list_placed c.expand.new.winners done c.loop-place.below c.push.new.self c.in-Ok.edges c.expand.new.places c.in_ok-push.ensures.ok
          (c.in-Ok.ensures.placed (done ++ flat_map (λ edges. edges) c.loop-place.below) (inv.placed done are));
      fit = λ libraries fits. c.in-Ok.ensures.same libraries (inv.fit libraries fits);
      alike = told_both inv.alike c.in-Ok.ensures.alike;
      faults = c.in-Ok.ensures.cause ∙ inv.faults;
    }

pub returns-clause-adds : goal.returns-clause-adds
returns-clause-adds g c = λ libraries direct fits picks.
    let low : length c.args.winners.now ≤ c.loop-place.place = omega (arith, c.loop-place-test.false, c.requires.all) in
    c.loop-place.invariant.rest libraries direct fits picks c.loop-place.winners (Ok tt)
    (level_done libraries (graph_of libraries c.args.managed.now direct) c.args.winners.now c.loop-place.winners c.loop-place.place low)

pub returns-clause-below : goal.returns-clause-below
returns-clause-below g c = λ so.
    let low : length c.args.winners.now ≤ c.loop-place.place = omega (arith, c.loop-place-test.false, c.requires.all) in
    level_below c.args.managed.now c.args.winners.now c.loop-place.winners c.loop-place.place c.args.to c.loop-place.below c.requires.all low c.loop-place.invariant.keeps (c.loop-place.invariant.below so)

pub returns-clause-placed : goal.returns-clause-placed
returns-clause-placed g c = λ done are. c.loop-place.invariant.placed done are
