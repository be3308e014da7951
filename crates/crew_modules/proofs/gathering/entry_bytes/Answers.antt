use Rattle.std.proofs.Common.{◌≡◌, ◌<◌, List, length, slice_get, Some, option_map, sym, ap, subst, ◌∙◌}
use Rattle.build_core.specs.declared.plan.Entry.{Entry}
use Rattle.build_core.specs.declared.plan.Origin.TheVariants as origin
use Rattle.crew_turns.specs.Tasks.{IsTask}
use Rattle.crew_modules.proofs.Entries.{goes_nowhere, had_nothing}
use Rattle.crew_modules.proofs.gathering.entry_bytes.Goals as goal

pub origin_of-requires : goal.origin_of-requires
origin_of-requires g c = subst (λ (es : List Entry). c.args.at < length es) (sym (c.as_slice-entries.ensures ∙ ap (λ v. v.unit.entries) c.task.view_is)) c.requires.some_entry

pub file_bytes-requires : goal.file_bytes-requires
file_bytes-requires g c = record {
  of = c.requires.of;
  gathered = c.requires.gathered;
  from = subst (λ (es : List Entry). option_map (λ (e : Entry). e.origin) (slice_get es c.args.at) ≡ Some (origin.File c.in-File.file)) (c.as_slice-entries.ensures ∙ ap (λ v. v.unit.entries) c.task.view_is) c.in-File.ensures;
}

pub output_bytes-requires : goal.output_bytes-requires
output_bytes-requires g c = record {
  of = c.requires.of;
  reading = c.requires.gathered.at;
  is_task = subst IsTask c.task.view_is c.task.invariant;
  from = subst (λ (es : List Entry). option_map (λ (e : Entry). e.origin) (slice_get es c.args.at) ≡ Some (origin.Module c.in-Module.number c.in-Module.slot)) (c.as_slice-entries.ensures ∙ ap (λ v. v.unit.entries) c.task.view_is) c.in-Module.ensures;
}

pub returns-in-Nothing-clause-goes : goal.returns-in-Nothing-clause-goes
returns-in-Nothing-clause-goes g c = goes_nowhere c.args.task.now c.args.lock.now c.args.pass.now c.requires.of

pub returns-in-Nothing-clause-had : goal.returns-in-Nothing-clause-had
returns-in-Nothing-clause-had g c =
    had_nothing c.args.task.now (subst IsTask c.task.view_is c.task.invariant) c.args.at c.args.gathered.now c.args.pass.now c.requires.gathered
    (subst (λ (es : List Entry). option_map (λ (e : Entry). e.origin) (slice_get es c.args.at) ≡ Some origin.Nothing) (c.as_slice-entries.ensures ∙ ap (λ v. v.unit.entries) c.task.view_is) c.in-Nothing.ensures)
