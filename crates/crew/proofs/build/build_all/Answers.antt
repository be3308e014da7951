use Rattle.std.proofs.Common.{◌+◌, length, slice_index_or, subst, sym}
use Rattle.crew_turns.specs.Hands.{state_by}
use Rattle.crew_turns.specs.Seen.{seen_by}
use Rattle.crew.specs.Crews.{HasLeft, IsReady, opened_by}
use Rattle.crew.specs.Whole.{IsBuilt}
use Rattle.crew.proofs.Closing.{worked_by}
use Rattle.crew.proofs.Rests.{few_hands, ready_first, some_hand}
use Rattle.crew.proofs.build.build_all.Goals as goal

pub run_crew-pass-requires-clause-some : goal.run_crew-pass-requires-clause-some
run_crew-pass-requires-clause-some g c κs within = some_hand c.args.plan.now (length c.args.hands.now) c.requires.sound c.requires.hands

pub run_crew-pass-requires-clause-few : goal.run_crew-pass-requires-clause-few
run_crew-pass-requires-clause-few g c κs within = few_hands c.args.plan.now (length c.args.hands.now) c.requires.sound c.requires.hands

pub run_crew-pass-requires-clause-ready : goal.run_crew-pass-requires-clause-ready
run_crew-pass-requires-clause-ready g c κs within =
    subst (λ s. IsReady (opened_by g.S.Shelf.told g.S.Shelf.faults c.args.plan.now s) c.in-Ok.lock 0 (length c.args.hands.now) c.in-Ok.pass) (sym c.of.ensures)
    (ready_first (opened_by g.S.Shelf.told g.S.Shelf.faults c.args.plan.now c.args.shelf) c.in-Ok.lock (length c.args.hands.now) c.in-Ok.pass c.requires.sound c.requires.few c.in-Ok.ensures.own c.in-Ok.ensures.first c.requires.hands)

pub returns-in-Ok-clause-built : goal.returns-in-Ok-clause-built
returns-in-Ok-clause-built g c =
    let end = c.finished.ensures in (
      end.0,
      subst (λ s. IsBuilt g.S.Shelf.told g.S.Shelf.faults c.args.plan.now s end.0 c.finished.result) c.of.ensures end.3,
      λ i d low.
          worked_by (opened_by g.S.Shelf.told g.S.Shelf.faults c.args.plan.now c.args.shelf) i
          (state_by g.R.Remote.files g.R.Remote.faults g.S.Area.Area.contents g.S.Area.Area.faults g.S.Area.Area.pieces g.G.Gate.answers g.G.Gate.faults (slice_index_or c.args.hands.now i d))
          (state_by g.R.Remote.files g.R.Remote.faults g.S.Area.Area.contents g.S.Area.Area.faults g.S.Area.Area.pieces g.G.Gate.answers g.G.Gate.faults (slice_index_or c.run_crew-pass.new.hands i d))
          (seen_by c.run_crew-pass.result) end.0 end.2 end.1
          (subst (λ s. HasLeft (opened_by g.S.Shelf.told g.S.Shelf.faults c.args.plan.now s) (0 + i) (state_by g.R.Remote.files g.R.Remote.faults g.S.Area.Area.contents g.S.Area.Area.faults g.S.Area.Area.pieces g.G.Gate.answers g.G.Gate.faults (slice_index_or c.args.hands.now i d)) (state_by g.R.Remote.files g.R.Remote.faults g.S.Area.Area.contents g.S.Area.Area.faults g.S.Area.Area.pieces g.G.Gate.answers g.G.Gate.faults (slice_index_or c.run_crew-pass.new.hands i d)) (seen_by c.run_crew-pass.result)) c.of.ensures (c.run_crew-pass.ensures.hands i d low)),
    )
