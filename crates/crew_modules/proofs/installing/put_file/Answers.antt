use Rattle.std.proofs.Common.{◌≡◌, ap, subst, None, slice_index_or, ◌∙◌}
use Rattle.goal_types.specs.declared.goal.Slot.TheVariants.{Nowhere}
use Rattle.build_core.specs.OneThread.{own_bytes}
use Rattle.build_core.specs.declared.plan.OwnFile.{OwnFile}
use Rattle.crew_turns.specs.Tasks.{IsTask}
use Rattle.crew_modules.proofs.Files.{none_by, nothing_put, skip_installing}
use Rattle.crew_modules.proofs.Owns.{read_at}
use Rattle.crew_modules.proofs.installing.put_file.Goals as goal

pub returns-in-None-clause-behind : goal.returns-in-None-clause-behind
returns-in-None-clause-behind g c =
    let t = c.args.task.now in
    let own : OwnFile = slice_index_or c.as_slice.result.now c.args.at (record { slot = Nowhere; file = 0 }) in
    let here = read_at c.as_slice.result.now t.unit.own c.args.at (record { slot = Nowhere; file = 0 }) (c.as_slice.ensures ∙ ap (λ v. v.unit.own) c.task.view_is) c.requires.some_file in
    let none : own_bytes t.unit c.args.own.now own.slot ≡ None = none_by t c.task.inside.unit.now c.args.own.now own.slot (ap (λ v. v.unit) c.task.view_is) c.in-None.ensures in
    skip_installing t c.args.lock.now c.args.pass.now c.requires.of (subst IsTask c.task.view_is c.task.invariant) c.args.own.now c.args.at own here none c.requires.at

pub returns-in-None-clause-put : goal.returns-in-None-clause-put
returns-in-None-clause-put g c =
    let t = c.args.task.now in
    let own : OwnFile = slice_index_or c.as_slice.result.now c.args.at (record { slot = Nowhere; file = 0 }) in
    let here = read_at c.as_slice.result.now t.unit.own c.args.at (record { slot = Nowhere; file = 0 }) (c.as_slice.ensures ∙ ap (λ v. v.unit.own) c.task.view_is) c.requires.some_file in
    let none : own_bytes t.unit c.args.own.now own.slot ≡ None = none_by t c.task.inside.unit.now c.args.own.now own.slot (ap (λ v. v.unit) c.task.view_is) c.in-None.ensures in
    λ quiet. nothing_put t c.args.own.now c.args.at own c.args.pass.now here none
