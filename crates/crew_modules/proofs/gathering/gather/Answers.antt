use Rattle.std.proofs.Common.{◌≡◌, List, length, sym, subst}
use Rattle.goal_types.specs.declared.goal.PathEntry.{PathEntry}
use Rattle.crew_turns.specs.Paths.{IsPath}
use Rattle.crew_modules.proofs.Entries.{read_all, within_all}
use Rattle.crew_modules.proofs.gathering.gather.Goals as goal

pub returns-in-Ok-clause-of : goal.returns-in-Ok-clause-of
returns-in-Ok-clause-of g c = c.in-Ok.ensures.goes.of

pub returns-in-Ok-clause-follows : goal.returns-in-Ok-clause-follows
returns-in-Ok-clause-follows g c = c.in-Ok.ensures.goes.follows

pub returns-in-Ok-clause-all : goal.returns-in-Ok-clause-all
returns-in-Ok-clause-all g c = read_all c.args.task.now c.in-Ok.gathered c.gather_each.new.pass c.in-Ok.ensures.each

pub returns-in-Ok-clause-path : goal.returns-in-Ok-clause-path
returns-in-Ok-clause-path g c = subst (λ (ps : List PathEntry). IsPath c.args.task.now ps c.gather_each.new.pass) (sym c.finished.ensures.is) c.in-Ok.ensures.each.are

pub returns-in-Ok-clause-beside : goal.returns-in-Ok-clause-beside
returns-in-Ok-clause-beside g c = subst (λ (ps : List PathEntry). length ps ≡ length c.args.task.now.unit.entries) (sym c.finished.ensures.is) c.in-Ok.ensures.each.many

pub returns-in-Ok-clause-within : goal.returns-in-Ok-clause-within
returns-in-Ok-clause-within g c = within_all c.args.task.now c.in-Ok.gathered c.gather_each.new.pass c.in-Ok.ensures.each c.finished.ensures.within

pub returns-in-Ok-clause-held : goal.returns-in-Ok-clause-held
returns-in-Ok-clause-held g c = c.in-Ok.ensures.each.at.at.held

pub returns-in-Ok-clause-fits : goal.returns-in-Ok-clause-fits
returns-in-Ok-clause-fits g c = c.in-Ok.ensures.goes.fits

pub returns-in-Err-clause-of : goal.returns-in-Err-clause-of
returns-in-Err-clause-of g c = c.in-Err.ensures.goes.of

pub returns-in-Err-clause-follows : goal.returns-in-Err-clause-follows
returns-in-Err-clause-follows g c = c.in-Err.ensures.goes.follows

pub returns-in-Err-clause-stop : goal.returns-in-Err-clause-stop
returns-in-Err-clause-stop g c = c.in-Err.ensures.each.may

pub returns-in-Err-clause-held : goal.returns-in-Err-clause-held
returns-in-Err-clause-held g c = c.in-Err.ensures.each.held

pub returns-in-Err-clause-fits : goal.returns-in-Err-clause-fits
returns-in-Err-clause-fits g c = c.in-Err.ensures.goes.fits

pub returns-in-Err-clause-end : goal.returns-in-Err-clause-end
returns-in-Err-clause-end g c = c.in-Err.ensures.each.end
