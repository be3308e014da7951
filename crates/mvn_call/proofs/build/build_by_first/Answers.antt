use Rattle.std.proofs.Common.{◌∙◌, ap, sym, take}
use Rattle.crew_turns.specs.Hands.{state_by}
use Rattle.call_plan.specs.Headline.{told_of}
use Rattle.mvn_call.proofs.Cut.{by_first_in}
use Rattle.mvn_call.proofs.build.build_by_first.Goals as goal

pub returns-clause-reports : goal.returns-clause-reports
returns-clause-reports g c =
    let cut = c.split_at_mut-first in
    let built = c.build_planned-call in
    let p = c.args.planned.now in
    by_first_in g.O.Shelf.Shelf.told g.O.Shelf.Shelf.faults (state_by g.O.Remote.Remote.files g.O.Remote.Remote.faults g.O.Area.Area.contents g.O.Area.Area.faults g.O.Area.Area.pieces g.O.Gate.Gate.answers g.O.Gate.Gate.faults) p.plan (told_of c.args.full p) p.plan.workers c.args.devices.shelf built.result.devices c.args.devices.hands.items cut.result.0.now built.new.hands cut.result.1.now
    built.result.trace built.result.answers built.result.outcome (cut.ensures.front ∙ ap (take p.plan.workers) c.deref_mut.ensures.value) cut.ensures.front_len built.ensures c.args.devices.hands.len c.args.devices.hands.ok.0 (sym c.deref_mut.ensures.value ∙ cut.ensures.value)
