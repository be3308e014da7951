use Rattle.std.proofs.Common.{◌<◌, sym, subst}
use Rattle.build_core.specs.declared.plan.Plan.{Plan}
use Rattle.crew_turns.specs.Hands.{state_by}
use Rattle.crew_turns.specs.Seen.{IsOf}
use Rattle.crew.specs.Between.{IsBetween}
use Rattle.crew.proofs.Works.{built_more, seen_more}
use Rattle.crew.proofs.worker.go_on.Goals as goal

pub build_module-requires : goal.build_module-requires
build_module-requires g c =
    let began = c.in-Task.ensures.turn in
    record {
      few = subst (λ (p : Plan). p.events < 4294967296) (sym began.plan_is) c.requires.few;
      of = subst (λ p. IsOf p c.args.lock.now c.in-Task.task.worker c.next_task.new.pass) (sym began.plan_is) (subst (λ w. IsOf c.args.plan.now c.args.lock.now w c.next_task.new.pass) (sym began.worker_is) began.step.of);
      begun = began.begun;
    }

pub returns-in-Task-clause-between : goal.returns-in-Task-clause-between
returns-in-Task-clause-between g c = λ start first is.
    built_more c.args.plan.now c.args.lock.now c.args.worker start c.args.pass.now c.next_task.new.pass c.build_module.new.pass first (state_by g.R.Remote.files g.R.Remote.faults g.S.Area.Area.contents g.S.Area.Area.faults g.S.Area.Area.pieces g.G.Gate.answers g.G.Gate.faults c.args.hand.now) (state_by g.R.Remote.files g.R.Remote.faults g.S.Area.Area.contents g.S.Area.Area.faults g.S.Area.Area.pieces g.G.Gate.answers g.G.Gate.faults c.build_module.new.hand) is c.in-Task.task
    c.in-Task.ensures.turn c.in-Task.ensures.fits c.build_module.result c.build_module.ensures.ended c.build_module.ensures.fits c.build_module.ensures.worked

pub returns-in-Skipped-clause-between : goal.returns-in-Skipped-clause-between
returns-in-Skipped-clause-between g c = λ start first is.
    seen_more c.args.plan.now c.args.lock.now c.args.worker start c.args.pass.now c.next_task.new.pass first (state_by g.R.Remote.files g.R.Remote.faults g.S.Area.Area.contents g.S.Area.Area.faults g.S.Area.Area.pieces g.G.Gate.answers g.G.Gate.faults c.args.hand.now) is c.in-Skipped.ensures.turn c.in-Skipped.ensures.fits

pub returns-in-Done-clause-between : goal.returns-in-Done-clause-between
returns-in-Done-clause-between g c = λ start first is.
    seen_more c.args.plan.now c.args.lock.now c.args.worker start c.args.pass.now c.next_task.new.pass first (state_by g.R.Remote.files g.R.Remote.faults g.S.Area.Area.contents g.S.Area.Area.faults g.S.Area.Area.pieces g.G.Gate.answers g.G.Gate.faults c.args.hand.now) is c.in-Done.ensures.turn.turn c.in-Done.ensures.fits

pub rest-requires : goal.rest-requires
rest-requires g c = record { own = c.in-Wait.ensures.turn.of.own; free = c.in-Wait.ensures.turn.of.quiet }

pub returns-in-Wait-clause-between : goal.returns-in-Wait-clause-between
returns-in-Wait-clause-between g c = λ start first is.
    subst (λ p. IsBetween c.args.plan.now c.args.lock.now c.args.worker start p first (state_by g.R.Remote.files g.R.Remote.faults g.S.Area.Area.contents g.S.Area.Area.faults g.S.Area.Area.pieces g.G.Gate.answers g.G.Gate.faults c.args.hand.now)) (sym c.rest.ensures)
    (seen_more c.args.plan.now c.args.lock.now c.args.worker start c.args.pass.now c.next_task.new.pass first (state_by g.R.Remote.files g.R.Remote.faults g.S.Area.Area.contents g.S.Area.Area.faults g.S.Area.Area.pieces g.G.Gate.answers g.G.Gate.faults c.args.hand.now) is c.in-Wait.ensures.turn c.in-Wait.ensures.fits)
