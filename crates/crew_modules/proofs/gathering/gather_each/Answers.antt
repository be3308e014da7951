use Rattle.std.proofs.Common.{◌≡◌, List, length, sym, ap, subst, arith}
use Rattle.goal_types.specs.declared.goal.PathEntry.{PathEntry}
use Rattle.crew_turns.specs.Paths.{IsGathered}
use Rattle.crew_modules.proofs.Entries.{begun, goes_further, goes_nowhere}
use Rattle.crew_modules.proofs.gathering.gather_each.Goals as goal

pub loop-at-init : goal.loop-at-init
loop-at-init g c = record {
  low = omega arith;
  goes = goes_nowhere c.args.task.now c.args.lock.now c.args.pass.now c.requires.of;
  gathered = subst (λ (ps : List PathEntry). IsGathered c.args.task.now 0 ps c.args.pass.now) (sym c.new-gathered.ensures) (begun c.args.task.now c.args.pass.now c.requires.at);
}

pub next_entry-requires : goal.next_entry-requires
next_entry-requires g c =
    let low = c.loop-at-test.true in
    let same = ap (λ v. length v.unit.entries) c.task.view_is in
    record { of = c.loop-at.invariant.goes.of; gathered = c.loop-at.invariant.gathered; some_entry = omega (arith, low, same) }

pub loop-at-preserved : goal.loop-at-preserved
loop-at-preserved g c =
    let low = c.loop-at-test.true in
    let same = ap (λ v. length v.unit.entries) c.task.view_is in
    record {
      low = omega (arith, low, same);
      goes = goes_further c.args.task.now c.args.lock.now c.args.pass.now c.requires.of c.loop-at.pass c.next_entry.new.pass c.loop-at.invariant.goes c.in-Ok.ensures.goes;
      gathered = c.in-Ok.ensures.more;
    }

pub returns-in-Err-clause-goes : goal.returns-in-Err-clause-goes
returns-in-Err-clause-goes g c = goes_further c.args.task.now c.args.lock.now c.args.pass.now c.requires.of c.loop-at.pass c.next_entry.new.pass c.loop-at.invariant.goes c.in-Err.ensures.goes

pub returns-clause-goes : goal.returns-clause-goes
returns-clause-goes g c = c.loop-at.invariant.goes

pub returns-clause-each : goal.returns-clause-each
returns-clause-each g c =
    let t = c.args.task.now in
    let high = c.loop-at-test.false in
    let low = c.loop-at.invariant.low in
    let same = ap (λ v. length v.unit.entries) c.task.view_is in
    let end : c.loop-at.at ≡ length t.unit.entries = omega (arith, high, low, same) in
    subst (λ n. IsGathered t n c.loop-at.gathered c.loop-at.pass) end c.loop-at.invariant.gathered
