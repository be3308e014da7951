use Rattle.std.proofs.Common.{◌≡◌, ◌≤◌, [], length, IfSome, is_some, ap, arith, subst}
use Rattle.event_core.specs.Enabled.{IsRun}
use Rattle.event_core.specs.Standing.{standing_of}
use Rattle.mvn_outside.specs.Shelf.{files_now}
use Rattle.event_core.specs.Runs.{IsRunOf, contents}
use Rattle.run_law.specs.Given.{IsPresent}
use Rattle.board.specs.Builds.{AreBusy, HasFiles, IsCalm, standing_at}
use Rattle.board.specs.Logs.{AreCarried, published_since}
use Rattle.board.specs.Keeping.{room_of}
use Rattle.board.proofs.Logs.{length_is}
use Rattle.board.proofs.Steps.{at_build}
use Rattle.board.proofs.Telling.{carried_is, contents_told, files_there}
use Rattle.board.proofs.board.Board.keeps.Goals as goal

pub returns-clause-run : goal.returns-clause-run
returns-clause-run g c = subst (λ v. IsRunOf v.plan v.log) c.self.view_is (at_build g.S.Shelf.told g.S.Shelf.faults c.self.inside.plan.now c.self.inside.core c.self.inside.opening.value c.self.inside.shelf c.self.inside.answers.kept c.self.inside.marks.items (room_of c.self.inside.answers c.self.inside.states) c.self.invariant (λ o es. IsRun o [] es) c.runs_within_bound.ensures.run)

pub returns-clause-bound : goal.returns-clause-bound
returns-clause-bound g c = subst (λ v. length v.log ≤ v.plan.events) c.self.view_is
    (let long = length_is (published_since (g.S.Shelf.told c.self.inside.opening.value) (g.S.Shelf.told c.self.inside.shelf)) c.self.inside.answers.kept c.self.inside.core.1 in
    let same = ap (λ o. o.events) c.self.invariant.outline in
    omega (arith, long, same, c.runs_within_bound.ensures.bound))

pub returns-clause-present : goal.returns-clause-present
returns-clause-present g c = subst (λ v. IfSome (g.S.Shelf.told v.opening) (λ told. IsPresent v.plan (files_now told))) c.self.view_is c.self.invariant.present

pub returns-clause-carried : goal.returns-clause-carried
returns-clause-carried g c = subst (λ v. AreCarried (is_some (g.S.Shelf.told v.opening)) v.log) c.self.view_is
    (carried_is g.S.Shelf.told g.S.Shelf.faults c.self.inside.plan.now c.self.inside.core c.self.inside.opening.value c.self.inside.shelf c.self.inside.answers.kept c.self.inside.marks.items (room_of c.self.inside.answers c.self.inside.states) c.self.invariant c.runs_within_bound.ensures.run)

pub returns-clause-there : goal.returns-clause-there
returns-clause-there g c = subst (λ v. IfSome (g.S.Shelf.told v.shelf) (HasFiles v)) c.self.view_is
    (files_there g.S.Shelf.told g.S.Shelf.faults c.self.inside.plan.now c.self.inside.core c.self.inside.opening.value c.self.inside.shelf c.self.inside.answers.kept c.self.inside.marks.items (room_of c.self.inside.answers c.self.inside.states) c.self.invariant c.runs_within_bound.ensures.run)

pub returns-clause-contents : goal.returns-clause-contents
returns-clause-contents g c = subst (λ v. IfSome (g.S.Shelf.told v.opening) (λ first. IfSome (g.S.Shelf.told v.shelf) (λ told. files_now told ≡ contents v.plan (files_now first) v.log))) c.self.view_is
    (contents_told g.S.Shelf.told g.S.Shelf.faults c.self.inside.plan.now c.self.inside.core c.self.inside.opening.value c.self.inside.shelf c.self.inside.answers.kept c.self.inside.marks.items (room_of c.self.inside.answers c.self.inside.states) c.self.invariant c.runs_within_bound.ensures.run)

pub returns-clause-busy : goal.returns-clause-busy
returns-clause-busy g c = subst (λ v. AreBusy (standing_at v) v.marks) c.self.view_is
    (at_build g.S.Shelf.told g.S.Shelf.faults c.self.inside.plan.now c.self.inside.core c.self.inside.opening.value c.self.inside.shelf c.self.inside.answers.kept c.self.inside.marks.items (room_of c.self.inside.answers c.self.inside.states) c.self.invariant (λ o es. AreBusy (standing_of o es) c.self.inside.marks.items) c.self.invariant.busy)

pub returns-clause-calm : goal.returns-clause-calm
returns-clause-calm g c = subst (λ v. IsCalm (g.S.Shelf.faults v.opening) (g.S.Shelf.faults v.shelf) v.log v.marks) c.self.view_is c.self.invariant.calm
