use Rattle.std.proofs.Common.{◌≡◌, ◌≤◌, List, length, Some, None, sym, ap, subst, ◌∙◌, arith}
use Rattle.build_core.specs.declared.plan.Entry.{Entry}
use Rattle.build_core.specs.declared.plan.Origin.TheVariants as origin
use Rattle.crew_turns.specs.Parts.{place_before}
use Rattle.crew_turns.specs.Tasks.{IsTask}
use Rattle.crew_modules.proofs.Entries.{at_low, goes_nowhere, had_copy, is_before}
use Rattle.crew_modules.proofs.gathering.file_bytes.Goals as goal

pub place_before-requires : goal.place_before-requires
place_before-requires g c =
    let t = c.args.task.now in
    let is = subst IsTask c.task.view_is c.task.invariant in
    let low = at_low t is c.args.at c.args.gathered.now c.args.pass.now c.requires.gathered (origin.File c.args.file) c.requires.from in
    let high : c.args.at ≤ length t.unit.entries = omega (arith, low) in
    subst (λ (es : List Entry). c.args.at ≤ length es) (sym (c.as_slice-entries.ensures ∙ ap (λ v. v.unit.entries) c.task.view_is)) high

pub same_bytes-requires : goal.same_bytes-requires
same_bytes-requires g c =
    let t = c.args.task.now in
    let is = subst IsTask c.task.view_is c.task.invariant in
    let same : c.as_slice-entries.result.now ≡ t.unit.entries = c.as_slice-entries.ensures ∙ ap (λ v. v.unit.entries) c.task.view_is in
    let found = sym (subst (λ (es : List Entry). Some c.in-Some.before ≡ place_before es c.args.at c.args.file) same c.in-Some.ensures) in
    is_before t is c.args.at c.args.gathered.now c.args.pass.now c.requires.gathered c.args.file c.in-Some.before c.requires.from found

pub returns-in-Some-clause-goes : goal.returns-in-Some-clause-goes
returns-in-Some-clause-goes g c = goes_nowhere c.args.task.now c.args.lock.now c.args.pass.now c.requires.of

pub returns-in-Some-clause-had : goal.returns-in-Some-clause-had
returns-in-Some-clause-had g c =
    let t = c.args.task.now in
    let is = subst IsTask c.task.view_is c.task.invariant in
    let same : c.as_slice-entries.result.now ≡ t.unit.entries = c.as_slice-entries.ensures ∙ ap (λ v. v.unit.entries) c.task.view_is in
    let found = sym (subst (λ (es : List Entry). Some c.in-Some.before ≡ place_before es c.args.at c.args.file) same c.in-Some.ensures) in
    had_copy t is c.args.at c.args.gathered.now c.args.pass.now c.requires.gathered c.args.file c.in-Some.before c.requires.from found c.same_bytes.result c.same_bytes.ensures.ok c.same_bytes.ensures.err

pub new_bytes-requires : goal.new_bytes-requires
new_bytes-requires g c = record {
  of = c.requires.of;
  gathered = c.requires.gathered;
  is_task = subst IsTask c.task.view_is c.task.invariant;
  from = c.requires.from;
  new = subst (λ (es : List Entry). place_before es c.args.at c.args.file ≡ None) (c.as_slice-entries.ensures ∙ ap (λ v. v.unit.entries) c.task.view_is) (sym c.in-None.ensures);
}
