use Rattle.std.proofs.Common.{◌≡◌, arith, ap, false, is_some, subst, sym, true, ◌∙◌}
use Rattle.build_core.specs.OneThread.{lacks_artifact}
use Rattle.build_core.specs.Slots.{kept_of}
use Rattle.crew_turns.specs.Tasks.{IsTask, stood_by}
use Rattle.crew_turns.specs.Hands.{told_by}
use Rattle.crew_modules.proofs.InstallEnding.{nothing_told}
use Rattle.crew_modules.proofs.InstallStopping.{lacking_stops, plain_stops}
use Rattle.crew_modules.proofs.installing.install.Goals as goal

pub end_holding-requires-clause-may : goal.end_holding-requires-clause-may
end_holding-requires-clause-may g c =
    let t = c.args.task.now in
    let test = c.if-not-task.true in
    let off : c.task.inside.unit.now.installs ≡ false = grind (arith, test) in
    let installs : t.unit.installs ≡ false = sym (ap (λ v. v.unit.installs) c.task.view_is) ∙ off in
    (plain_stops t c.args.lock.now c.args.pass.now c.requires.of (subst IsTask c.task.view_is c.task.invariant) c.requires.good.0 c.requires.good.1 nothing_told installs).may

pub returns-then-not-task-clause-fits : goal.returns-then-not-task-clause-fits
returns-then-not-task-clause-fits g c =
    let t = c.args.task.now in
    let test = c.if-not-task.true in
    let off : c.task.inside.unit.now.installs ≡ false = grind (arith, test) in
    let installs : t.unit.installs ≡ false = sym (ap (λ v. v.unit.installs) c.task.view_is) ∙ off in
    λ remote gate.
    let told = told_by remote (is_some (g.S.Area.Area.contents c.args.area.now)) gate in
    c.end_holding.ensures.fits told (plain_stops t c.args.lock.now c.args.pass.now c.requires.of (subst IsTask c.task.view_is c.task.invariant) c.requires.good.0 c.requires.good.1 told installs)

pub end_holding-requires-then-lacks_artifact-clause-may : goal.end_holding-requires-then-lacks_artifact-clause-may
end_holding-requires-then-lacks_artifact-clause-may g c =
    let t = c.args.task.now in
    let test = c.if-not-task.false in
    let on : c.task.inside.unit.now.installs ≡ true = grind (arith, test) in
    let installs : t.unit.installs ≡ true = sym (ap (λ v. v.unit.installs) c.task.view_is) ∙ on in
    let lacks : lacks_artifact t.unit (kept_of (stood_by t c.args.pass.now).goals) ≡ true = ap (lacks_artifact t.unit) (sym c.requires.own) ∙ sym (ap (λ v. lacks_artifact v.unit c.args.own.now) c.task.view_is) ∙ sym c.lacks_artifact.ensures ∙ c.if-lacks_artifact.true in
    (lacking_stops t c.args.lock.now c.args.pass.now c.requires.of (subst IsTask c.task.view_is c.task.invariant) c.requires.good.0 c.requires.good.1 nothing_told installs lacks).may

pub returns-then-lacks_artifact-clause-fits : goal.returns-then-lacks_artifact-clause-fits
returns-then-lacks_artifact-clause-fits g c =
    let t = c.args.task.now in
    let test = c.if-not-task.false in
    let on : c.task.inside.unit.now.installs ≡ true = grind (arith, test) in
    let installs : t.unit.installs ≡ true = sym (ap (λ v. v.unit.installs) c.task.view_is) ∙ on in
    let lacks : lacks_artifact t.unit (kept_of (stood_by t c.args.pass.now).goals) ≡ true = ap (lacks_artifact t.unit) (sym c.requires.own) ∙ sym (ap (λ v. lacks_artifact v.unit c.args.own.now) c.task.view_is) ∙ sym c.lacks_artifact.ensures ∙ c.if-lacks_artifact.true in
    λ remote gate.
    let told = told_by remote (is_some (g.S.Area.Area.contents c.args.area.now)) gate in
    c.end_holding-then-lacks_artifact.ensures.fits told (lacking_stops t c.args.lock.now c.args.pass.now c.requires.of (subst IsTask c.task.view_is c.task.invariant) c.requires.good.0 c.requires.good.1 told installs lacks)
