use Rattle.std.proofs.Common.{◌≡◌, ◌≤◌, true, length, map, ap, subst, sym, ◌∙◌}
use Rattle.build_core.specs.Locks.{below}
use Rattle.event_core.specs.Runs.{IsQuiet, answers_in, events_of}
use Rattle.event_core.specs.HowFar.{state_of}
use Rattle.event_core.specs.Standing.{is_complete, standing_of}
use Rattle.run_law.specs.Given.{states_after}
use Rattle.board.specs.Builds.{standing_at}
use Rattle.board.specs.Keeping.{room_of}
use Rattle.board.proofs.Busy.{none_at_end}
use Rattle.board.proofs.Steps.{at_build, at_core, events_same}
use Rattle.board.proofs.board.Board.finish.Goals as goal

pub states-all-requires-clause-room : goal.states-all-requires-clause-room
states-all-requires-clause-room g c = c.self.invariant.states

pub states-all-requires-clause-few : goal.states-all-requires-clause-few
states-all-requires-clause-few g c = c.self.invariant.few

pub returns-clause-shelf : goal.returns-clause-shelf
returns-clause-shelf g c = ap (λ v. v.shelf) c.self.view_is

pub returns-clause-trace : goal.returns-clause-trace
returns-clause-trace g c = c.into_events.ensures ∙ sym (events_same g.S.Shelf.told g.S.Shelf.faults c.self.inside.plan.now c.self.inside.core c.self.inside.opening.value c.self.inside.shelf c.self.inside.answers.kept c.self.inside.marks.items (room_of c.self.inside.answers c.self.inside.states) c.self.invariant) ∙ ap (λ v. events_of v.log) c.self.view_is

pub returns-clause-answers : goal.returns-clause-answers
returns-clause-answers g c = c.into_answers.ensures ∙ c.self.invariant.kept ∙ ap (λ v. answers_in v.plan v.log) c.self.view_is

pub returns-clause-states : goal.returns-clause-states
returns-clause-states g c = subst (λ v. c.states-all.result ≡ states_after v.plan v.log) c.self.view_is
    (at_build g.S.Shelf.told g.S.Shelf.faults c.self.inside.plan.now c.self.inside.core c.self.inside.opening.value c.self.inside.shelf c.self.inside.answers.kept c.self.inside.marks.items (room_of c.self.inside.answers c.self.inside.states) c.self.invariant (λ o es. c.states-all.result ≡ map (λ number. state_of o (standing_of o es).progress number) (below (length c.self.inside.plan.now.modules))) c.states-all.ensures)

pub returns-clause-calm : goal.returns-clause-calm
returns-clause-calm g c = subst (λ v. IsQuiet v.log → g.S.Shelf.faults c.self.inside.shelf ≡ g.S.Shelf.faults v.opening) c.self.view_is
    (λ quiet. c.self.invariant.calm quiet (none_at_end c.self.inside.core.0 c.self.inside.core.1 c.self.inside.marks.items c.runs_within_bound.ensures.run
    (at_core g.S.Shelf.told g.S.Shelf.faults c.self.inside.plan.now c.self.inside.core c.self.inside.opening.value c.self.inside.shelf c.self.inside.answers.kept c.self.inside.marks.items (room_of c.self.inside.answers c.self.inside.states) c.self.invariant (λ o es. is_complete (standing_of o es) ≡ true) (subst (λ v. is_complete (standing_at v) ≡ true) (sym c.self.view_is) c.requires.complete)) c.self.invariant.busy))

pub returns-clause-no_fall : goal.returns-clause-no_fall
returns-clause-no_fall g c = subst (λ v. g.S.Shelf.faults v.opening ≤ g.S.Shelf.faults c.self.inside.shelf) c.self.view_is c.self.invariant.no_fall
