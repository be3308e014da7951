use Rattle.std.proofs.Common.{◌≡◌, ◌<◌, arith, ap, length, refl, None, Some, subst, sym, ◌∙◌}
use Rattle.std.proofs.lemmas.Bool.Decides.{nat_tests}
use Rattle.build_core.specs.Slots.{kept_of}
use Rattle.crew_turns.specs.Stages.{IsInstalling}
use Rattle.crew_modules.proofs.Files.{all_put, none_put, puts_more}
use Rattle.crew_modules.proofs.InstallFitting.{put_more}
use Rattle.crew_modules.proofs.installing.put_files.Goals as goal

pub loop-at-init : goal.loop-at-init
loop-at-init g c = none_put g.S.Area.Area.contents g.S.Area.Area.faults g.S.Area.Area.pieces c.args.task.now c.args.lock.now c.args.own.now c.args.pass.now c.args.area.now c.requires.of c.requires.at

pub put_file-requires-clause-of : goal.put_file-requires-clause-of
put_file-requires-clause-of g c = c.loop-at.invariant.has.on.of

pub put_file-requires-clause-at : goal.put_file-requires-clause-at
put_file-requires-clause-at g c = c.loop-at.invariant.at

pub put_file-requires-clause-own : goal.put_file-requires-clause-own
put_file-requires-clause-own g c = c.requires.own ∙ sym (ap kept_of c.loop-at.invariant.has.on.goals)

pub returns-in-Some-clause-has : goal.returns-in-Some-clause-has
returns-in-Some-clause-has g c =
    put_more g.S.Area.Area.contents g.S.Area.Area.faults g.S.Area.Area.pieces c.args.task.now c.args.lock.now c.args.pass.now c.loop-at.pass c.put_file.new.pass c.args.area.now c.loop-at.area c.put_file.new.area (Some c.in-Some.ending)
    c.loop-at.invariant.has c.in-Some.ensures.has

pub loop-at-preserved : goal.loop-at-preserved
loop-at-preserved g c =
    let one = c.in-None.ensures.has in
    let test = c.loop-at-test.true in
    let same = ap (λ v. length v.unit.own) c.task.view_is in
    let len = c.len-at-end.ensures in
    record {
      has =
          put_more g.S.Area.Area.contents g.S.Area.Area.faults g.S.Area.Area.pieces c.args.task.now c.args.lock.now c.args.pass.now c.loop-at.pass c.put_file.new.pass c.args.area.now c.loop-at.area c.put_file.new.area None
          c.loop-at.invariant.has one;
      at = c.in-None.ensures.behind;
      puts = puts_more c.args.task.now c.args.own.now c.loop-at.at c.loop-at.pass c.put_file.new.pass one.on.follows c.loop-at.invariant.puts (c.in-None.ensures.put refl);
      within = grind (arith, nat_tests, test, same, len);
    }

pub returns-clause-behind : goal.returns-clause-behind
returns-clause-behind g c =
    let test = c.loop-at-test.false in
    let same = ap (λ v. length v.unit.own) c.task.view_is in
    let len = c.len-at-end.ensures in
    let within = c.loop-at.invariant.within in
    let last : c.loop-at.at ≡ length c.args.task.now.unit.own = grind (arith, nat_tests, test, same, len, within) in
    subst (λ n. IsInstalling c.args.task.now n c.loop-at.pass) last c.loop-at.invariant.at

pub returns-clause-put : goal.returns-clause-put
returns-clause-put g c =
    let test = c.loop-at-test.false in
    let same = ap (λ v. length v.unit.own) c.task.view_is in
    let len = c.len-at-end.ensures in
    let within = c.loop-at.invariant.within in
    let last : c.loop-at.at ≡ length c.args.task.now.unit.own = grind (arith, nat_tests, test, same, len, within) in
    λ quiet. all_put c.args.task.now c.args.own.now c.loop-at.pass (c.requires.own ∙ sym (ap kept_of c.loop-at.invariant.has.on.goals)) (λ i low. c.loop-at.invariant.puts i (subst (λ n. i < n) (sym last) low))
