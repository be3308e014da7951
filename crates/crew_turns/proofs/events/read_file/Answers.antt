use Rattle.std.proofs.Common.{◌≡◌, ◌<◌, length, Some, IfOk, IfSome, IsSomeAnd, inr, ap, sym, subst, ◌∙◌}
use Rattle.mvn_shared.specs.Files.{file_at}
use Rattle.mvn_outside.specs.Shelf.{files_now}
use Rattle.mvn_outside.specs.declared.fault.ReadFault.{ReadFault}
use Rattle.mvn_outside.specs.declared.fault.ReadFault.TheVariants.{TooLarge}
use Rattle.build_core.specs.OneThread.{name_of}
use Rattle.build_core.specs.declared.event.Event.TheVariants as event
use Rattle.event_core.specs.Runs.{IsRunOf, contents}
use Rattle.board.specs.Builds.{MayCome}
use Rattle.crew_turns.specs.Seen.{Told, seen_by, start_by, view}
use Rattle.crew_turns.proofs.Taken.{itself}
use Rattle.crew_turns.proofs.Readings.{IsBare, by_fault, files_by, read_fits, read_left, read_may}
use Rattle.crew_turns.proofs.Results.{adds_by, fits_by, same_opened, sees_by, steps_by}
use Rattle.crew_turns.proofs.events.read_file.Goals as goal

pub read-read-requires : goal.read-read-requires
read-read-requires g c =
    let t = c.args.task.now in
    let b = c.taken-value.result in
    let is = c.taken-value.ensures.out t.plan t.worker c.requires.of in
    record {
      may = subst (λ k. MayCome b (event.Read k c.args.file)) (sym (ap (λ v. v.worker) c.task.view_is)) (read_may t.plan c.args.lock.now t.worker c.args.pass.now c.requires.of b is c.args.file c.requires.file c.requires.due);
    }

pub give-requires-clause-taken : goal.give-requires-clause-taken
give-requires-clause-taken g c =
    let t = c.args.task.now in
    let b = c.taken-value.result in
    let now = c.read-read.new.self in
    let is = c.taken-value.ensures.out t.plan t.worker c.requires.of in
    let left = read_left b now c.task.inside.worker t.worker c.args.file (ap (λ v. v.worker) c.task.view_is) c.read-read.result c.read-read.ensures.entry c.read-read.ensures.err in
    adds_by t.plan c.args.lock.now t.worker c.args.pass.now c.requires.of b is (event.Read t.worker c.args.file) IsBare c.read-read.result now left.log c.taken-value.new.pass c.taken-value.new.pass c.taken-value.ensures.pass (inr (itself t.worker))

pub give-requires-clause-fixed : goal.give-requires-clause-fixed
give-requires-clause-fixed g c =
    let t = c.args.task.now in
    let b = c.taken-value.result in
    let now = c.read-read.new.self in
    let left = read_left b now c.task.inside.worker t.worker c.args.file (ap (λ v. v.worker) c.task.view_is) c.read-read.result c.read-read.ensures.entry c.read-read.ensures.err in
    ap Some (same_opened g.S.Shelf.told g.S.Shelf.faults b now left.plan left.opening) ∙ c.taken-value.ensures.fixed ∙ sym (ap (λ (p : Told). (view p).fixed) c.taken-value.ensures.pass)

pub give-requires-clause-workers : goal.give-requires-clause-workers
give-requires-clause-workers g c =
    let t = c.args.task.now in
    let b = c.taken-value.result in
    let now = c.read-read.new.self in
    let left = read_left b now c.task.inside.worker t.worker c.args.file (ap (λ v. v.worker) c.task.view_is) c.read-read.result c.read-read.ensures.entry c.read-read.ensures.err in
    ap (λ p. p.workers) left.plan ∙ c.taken-value.ensures.workers ∙ sym (ap (λ (p : Told). (view p).workers) c.taken-value.ensures.pass)

pub returns-clause-ok : goal.returns-clause-ok
returns-clause-ok g c =
    let t = c.args.task.now in
    let b = c.taken-value.result in
    let now = c.read-read.new.self in
    let is = c.taken-value.ensures.out t.plan t.worker c.requires.of in
    let left = read_left b now c.task.inside.worker t.worker c.args.file (ap (λ v. v.worker) c.task.view_is) c.read-read.result c.read-read.ensures.entry c.read-read.ensures.err in
    steps_by t.plan c.args.lock.now t.worker c.args.pass.now c.requires.of b is (event.Read t.worker c.args.file) IsBare c.read-read.result now left.log c.taken-value.new.pass c.give.new.pass c.taken-value.ensures.pass c.give.ensures
    (read_may t.plan c.args.lock.now t.worker c.args.pass.now c.requires.of b is c.args.file c.requires.file c.requires.due)

pub returns-clause-err : goal.returns-clause-err
returns-clause-err g c =
    let t = c.args.task.now in
    let b = c.taken-value.result in
    let now = c.read-read.new.self in
    let is = c.taken-value.ensures.out t.plan t.worker c.requires.of in
    let left = read_left b now c.task.inside.worker t.worker c.args.file (ap (λ v. v.worker) c.task.view_is) c.read-read.result c.read-read.ensures.entry c.read-read.ensures.err in
    sees_by t.plan c.args.lock.now t.worker c.args.pass.now c.requires.of b is (event.Read t.worker c.args.file) IsBare c.read-read.result now left.log c.taken-value.new.pass c.give.new.pass c.taken-value.ensures.pass c.give.ensures
    (subst (λ p. IsRunOf p now.log) (left.plan ∙ is.plan_is) c.keeps.ensures.run)

pub returns-clause-bytes : goal.returns-clause-bytes
returns-clause-bytes g c =
    let t = c.args.task.now in
    let b = c.taken-value.result in
    let now = c.read-read.new.self in
    let is = c.taken-value.ensures.out t.plan t.worker c.requires.of in
    let left = read_left b now c.task.inside.worker t.worker c.args.file (ap (λ v. v.worker) c.task.view_is) c.read-read.result c.read-read.ensures.entry c.read-read.ensures.err in
    files_by g.S.Shelf.told g.S.Shelf.faults t.plan c.args.pass.now b now c.taken-value.new.pass c.give.new.pass c.taken-value.ensures.pass c.give.ensures c.taken-value.ensures.fixed (left.plan ∙ is.plan_is) left.opening
    (λ files. IfOk c.read-read.result (λ bytes. file_at files (name_of t.plan c.args.file) ≡ Some bytes)) c.keeps.ensures.told c.keeps.ensures.contents
    (subst (λ told. IfSome told (λ x. IfOk c.read-read.result (λ bytes. file_at (files_now x) (name_of t.plan c.args.file) ≡ Some bytes))) (sym c.read-read.ensures.told)
    (subst (λ p. IfSome (g.S.Shelf.told b.shelf) (λ x. IfOk c.read-read.result (λ bytes. file_at (files_now x) (name_of p c.args.file) ≡ Some bytes))) is.plan_is c.read-read.ensures.bytes))

pub returns-clause-large : goal.returns-clause-large
returns-clause-large g c =
    let t = c.args.task.now in
    let b = c.taken-value.result in
    let now = c.read-read.new.self in
    let is = c.taken-value.ensures.out t.plan t.worker c.requires.of in
    let left = read_left b now c.task.inside.worker t.worker c.args.file (ap (λ v. v.worker) c.task.view_is) c.read-read.result c.read-read.ensures.entry c.read-read.ensures.err in
    by_fault (λ (fault : ReadFault). fault ≡ TooLarge → IfSome (g.S.Shelf.told b.shelf) (λ x. IsSomeAnd (file_at (files_now x) (name_of b.plan c.args.file)) (λ bytes. c.args.limit < length bytes)))
    (λ fault. fault ≡ TooLarge → IfSome (Rattle.std.specs.Option.option_map (λ files. contents t.plan files (seen_by c.give.new.pass)) (start_by c.give.new.pass)) (λ files. IsSomeAnd (file_at files (name_of t.plan c.args.file)) (λ bytes. c.args.limit < length bytes)))
    (λ fault large same.
    files_by g.S.Shelf.told g.S.Shelf.faults t.plan c.args.pass.now b now c.taken-value.new.pass c.give.new.pass c.taken-value.ensures.pass c.give.ensures c.taken-value.ensures.fixed (left.plan ∙ is.plan_is) left.opening
    (λ files. IsSomeAnd (file_at files (name_of t.plan c.args.file)) (λ bytes. c.args.limit < length bytes)) c.keeps.ensures.told c.keeps.ensures.contents
    (subst (λ told. IfSome told (λ x. IsSomeAnd (file_at (files_now x) (name_of t.plan c.args.file)) (λ bytes. c.args.limit < length bytes))) (sym c.read-read.ensures.told)
    (subst (λ p. IfSome (g.S.Shelf.told b.shelf) (λ x. IsSomeAnd (file_at (files_now x) (name_of p c.args.file)) (λ bytes. c.args.limit < length bytes))) is.plan_is (large same))))
    c.read-read.result c.read-read.ensures.large

pub returns-clause-fits : goal.returns-clause-fits
returns-clause-fits g c =
    let t = c.args.task.now in
    let b = c.taken-value.result in
    let now = c.read-read.new.self in
    let is = c.taken-value.ensures.out t.plan t.worker c.requires.of in
    let left = read_left b now c.task.inside.worker t.worker c.args.file (ap (λ v. v.worker) c.task.view_is) c.read-read.result c.read-read.ensures.entry c.read-read.ensures.err in
    λ told. fits_by t.plan c.args.lock.now t.worker c.args.pass.now c.requires.of b is (event.Read t.worker c.args.file) IsBare c.read-read.result now left.log c.taken-value.new.pass c.give.new.pass c.taken-value.ensures.pass c.give.ensures
    (subst (λ p. IsRunOf p now.log) (left.plan ∙ is.plan_is) c.keeps.ensures.run) told
    (λ what none. read_fits t.plan (start_by c.args.pass.now) told b.log t.worker c.args.file what none)
