use Rattle.std.proofs.Common.{◌≡◌, ◌<◌, List, length, slice_get, Some, refl, sym, ap, subst, ◌∙◌}
use Rattle.std.proofs.lemmas.Option.{slice_get_read}
use Rattle.build_core.specs.declared.plan.Entry.{Entry}
use Rattle.run_law.specs.Gathered.{files_before}
use Rattle.crew_turns.specs.Tasks.{IsTask}
use Rattle.crew_modules.proofs.Entries.{more_by, paths_stay}
use Rattle.crew_modules.proofs.gathering.next_entry.Goals as goal

pub returns-in-Ok-clause-more : goal.returns-in-Ok-clause-more
returns-in-Ok-clause-more g c =
    let t = c.args.task.now in
    let is = subst IsTask c.task.view_is c.task.invariant in
    let at = c.args.at in
    let before = c.args.pass.now in
    let pass = c.entry_bytes.new.pass in
    let gathered = c.requires.gathered in
    let entries = c.as_slice-entries.result.now in
    let same : entries ≡ t.unit.entries = c.as_slice-entries.ensures ∙ ap (λ v. v.unit.entries) c.task.view_is in
    let low = subst (λ (es : List Entry). at < length es) (sym same) c.requires.some_entry in
    let its = subst (λ (es : List Entry). slice_get es at ≡ Some c.index-entries-at.result) same (slice_get_read entries (length entries) at c.index-entries-at.result refl low c.index-entries-at.is) in
    let are = paths_stay t is c.args.lock.now before pass c.in-Ok.ensures.goes (length (files_before t.unit at)) gathered.at at c.args.gathered.now gathered.are in
    more_by t is at c.index-entries-at.result its c.args.gathered.now pass are c.in-Ok.bytes c.in-Ok.ensures.had gathered.many c.add.result c.add.new.self c.add.ensures.ok c.add.ensures.err
