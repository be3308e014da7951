use Rattle.std.proofs.Common.{◌≤◌, [], length, refl, sym, subst, arith, ◌∙◌}
use Rattle.mediation.specs.Libraries.{graph_of}
use Rattle.mediation.proofs.Lengths.{IsUpTo, begun, ended, not_begun, not_turned, turned}
use Rattle.mediation.proofs.Prefixes.{all_below}
use Rattle.mediation.proofs.Standing.{own_placed}
use Rattle.mediation.proofs.Telling.{told_both}
use Rattle.mediation.proofs.levels.add_levels.Goals as goal

pub returns-in-Err-clause-resolves : goal.returns-in-Err-clause-resolves
returns-in-Err-clause-resolves g c = λ libraries direct all fits.
    not_begun libraries (graph_of libraries c.args.managed.now direct) c.args.winners.now c.add_edges.new.winners c.args.own.now c.in-Err.fault c.requires.winners all
    (c.in-Err.ensures.adds libraries [] fits refl)

pub loop-from-init : goal.loop-from-init
loop-from-init g c = record {
  stand = λ libraries direct all fits.
      begun libraries (graph_of libraries c.args.managed.now direct) c.args.winners.now c.add_edges.new.winners c.args.own.now c.requires.winners all
      (c.in-Ok.ensures.adds libraries [] fits refl);
  below = c.requires.below;
  placed =
      own_placed c.args.winners.now c.add_edges.new.winners c.args.own.now c.args.own.now c.args.below.now c.args.places.now c.add_edges.new.places
      c.requires.places c.requires.below refl c.in-Ok.ensures.placed;
  fit = λ libraries fits. c.in-Ok.ensures.same libraries fits;
  alike = c.in-Ok.ensures.alike;
  faults = c.in-Ok.ensures.cause;
}

pub returns-in-Err-add_level-clause-resolves : goal.returns-in-Err-add_level-clause-resolves
returns-in-Err-add_level-clause-resolves g c = λ libraries direct all fits.
    let inv = c.loop-from.invariant in
    let stands = inv.stand libraries direct all fits in
    not_turned libraries (graph_of libraries c.args.managed.now direct) c.loop-from.winners c.add_level.new.winners c.loop-from.from c.in-Err-add_level.fault stands
    (c.in-Err-add_level.ensures.adds libraries direct (inv.fit libraries fits) stands.versions)

pub returns-in-Err-add_level-clause-same : goal.returns-in-Err-add_level-clause-same
returns-in-Err-add_level-clause-same g c = λ libraries fits. c.in-Err-add_level.ensures.same libraries (c.loop-from.invariant.fit libraries fits)

pub returns-in-Err-add_level-clause-alike : goal.returns-in-Err-add_level-clause-alike
returns-in-Err-add_level-clause-alike g c = told_both c.loop-from.invariant.alike c.in-Err-add_level.ensures.alike

pub loop-from-preserved : goal.loop-from-preserved
loop-from-preserved g c =
    let inv = c.loop-from.invariant in
    record {
      stand = λ libraries direct all fits.
          let stands = inv.stand libraries direct all fits in
          subst (λ n. IsUpTo libraries (graph_of libraries c.args.managed.now direct) c.add_level.new.winners n) (sym c.len-to.ensures.value)
          (turned libraries (graph_of libraries c.args.managed.now direct) c.loop-from.winners c.add_level.new.winners c.loop-from.from stands
          (c.in-Ok-add_level.ensures.adds libraries direct (inv.fit libraries fits) stands.versions));
      below = c.in-Ok-add_level.ensures.below inv.below;
      placed = c.in-Ok-add_level.ensures.placed c.args.own.now inv.placed;
      fit = λ libraries fits. c.in-Ok-add_level.ensures.same libraries (inv.fit libraries fits);
      alike = told_both inv.alike c.in-Ok-add_level.ensures.alike;
      faults = c.in-Ok-add_level.ensures.cause ∙ inv.faults;
    }

pub returns-clause-resolves : goal.returns-clause-resolves
returns-clause-resolves g c = λ libraries direct all fits.
    let low : length c.loop-from.winners ≤ c.loop-from.from = omega (arith, c.loop-from-test.false, c.len.ensures.value) in
    ended libraries (graph_of libraries c.args.managed.now direct) c.loop-from.winners c.loop-from.from (c.loop-from.invariant.stand libraries direct all fits) low

pub returns-clause-below : goal.returns-clause-below
returns-clause-below g c =
    let low : length c.loop-from.winners ≤ c.loop-from.from = omega (arith, c.loop-from-test.false, c.len.ensures.value) in
    all_below c.args.managed.now c.loop-from.winners c.loop-from.from c.loop-from.below low c.loop-from.invariant.below

pub returns-clause-placed : goal.returns-clause-placed
returns-clause-placed g c = c.loop-from.invariant.placed
