use Rattle.std.proofs.Common.{◌≡◌, ℕ, ◌-◌, ◌<◌, ◌≤◌, length, length-take, vec_len, true, refl, sym, ap, subst, ◌∙◌, arith}
use Rattle.children.specs.Children.{is_there, read_on}
use Rattle.gates.specs.Asking.{Touches, most_taken}
use Rattle.gates.proofs.Steps.{ReadSoFar, on_err, read_enough, read_nothing, read_step, read_to_end, touched_self, touched_then}
use Rattle.gates.proofs.reading.read_output.Goals as goal

pub returns-in_default-clause-err : goal.returns-in_default-clause-err
returns-in_default-clause-err g c = touched_self (g.P.Spawner.told c.args.spawner.now) (g.P.Spawner.told c.args.spawner.now) c.args.child refl

pub loop-bytes-init : goal.loop-bytes-init
loop-bytes-init g c =
    let told = g.P.Spawner.told c.args.spawner.now in
    record {
      within = omega (arith, c.new-bytes.ensures.len);
      part = c.in-Ok.ensures.len;
      so_far = subst (λ bytes. ReadSoFar told told c.args.child bytes) (sym c.new-bytes.ensures.items) (read_nothing told c.args.child);
      there = refl;
      never = refl;
      quiet = refl;
    }

pub read_more-requires-clause-there : goal.read_more-requires-clause-there
read_more-requires-clause-there g c = ap (λ s. is_there s c.args.child) c.loop-bytes.invariant.there ∙ c.requires.there

pub read_more-requires-clause-room : goal.read_more-requires-clause-room
read_more-requires-clause-room g c =
    omega (arith, length-take c.min-room.result c.deref_mut.result.now, c.deref_mut.ensures.len, c.loop-bytes.invariant.part, c.min-room.ensures, c.len-in-loop-bytes.ensures, c.len.ensures, c.loop-bytes-test.true)

pub loop-bytes-smaller : goal.loop-bytes-smaller
loop-bytes-smaller g c =
    let r = c.in_ok-read_more.ensures.reads in
    let more : 0 < r.count = r.some c.if-branch.false in
    let less : most_taken - vec_len c.read_more.new.bytes < most_taken - vec_len c.loop-bytes.bytes =
    omega (arith, more, r.len, c.loop-bytes.bytes.ok.0, c.read_more.new.bytes.ok.0, c.len.ensures, c.loop-bytes-test.true) in
    less

pub loop-bytes-preserved : goal.loop-bytes-preserved
loop-bytes-preserved g c =
    let r = c.in_ok-read_more.ensures.reads in
    record {
      within = omega (arith, r.within, r.len, length-take c.min-room.result c.deref_mut.result.now, c.min-room.ensures, c.len-in-loop-bytes.ensures, c.loop-bytes.bytes.ok.0, c.read_more.new.bytes.ok.0, c.loop-bytes.invariant.within);
      part = c.loop-bytes.invariant.part;
      so_far = read_step (g.P.Spawner.told c.args.spawner.now) (g.P.Spawner.told c.loop-bytes.spawner) (g.P.Spawner.told c.read_more.new.spawner) c.args.child _ _ _ _ c.loop-bytes.invariant.so_far r;
      there = c.in_ok-read_more.ensures.there ∙ c.loop-bytes.invariant.there;
      never = c.in_ok-read_more.ensures.never ∙ c.loop-bytes.invariant.never;
      quiet = c.in_ok-read_more.ensures.cause ∙ c.loop-bytes.invariant.quiet;
    }

pub returns-in_err-read_more-clause-err : goal.returns-in_err-read_more-clause-err
returns-in_err-read_more-clause-err g c =
    let told = g.P.Spawner.told c.args.spawner.now in
    let here = g.P.Spawner.told c.loop-bytes.spawner in
    let left = g.P.Spawner.told c.read_more.new.spawner in
    on_err (Touches c.args.child told left) c.from_residual.result
    (touched_then told here left c.args.child (read_on (length c.loop-bytes.bytes.items)) c.loop-bytes.invariant.so_far.told_now c.in_err-read_more.ensures.err)

pub returns-then-branch-clause-output : goal.returns-then-branch-clause-output
returns-then-branch-clause-output g c =
    let r = c.in_ok-read_more.ensures.reads in
    let low : length c.read_more.new.bytes.items ≤ most_taken =
    omega (arith, r.within, r.len, length-take c.min-room.result c.deref_mut.result.now, c.min-room.ensures, c.len-in-loop-bytes.ensures, c.loop-bytes.bytes.ok.0, c.loop-bytes.invariant.within) in
    read_to_end (g.P.Spawner.told c.args.spawner.now) (g.P.Spawner.told c.loop-bytes.spawner) (g.P.Spawner.told c.read_more.new.spawner) c.args.child _ _ _ _ low c.loop-bytes.invariant.so_far r c.if-branch.true

pub returns-then-branch-clause-reads : goal.returns-then-branch-clause-reads
returns-then-branch-clause-reads g c =
    let so_far = read_step (g.P.Spawner.told c.args.spawner.now) (g.P.Spawner.told c.loop-bytes.spawner) (g.P.Spawner.told c.read_more.new.spawner) c.args.child _ _ _ _ c.loop-bytes.invariant.so_far c.in_ok-read_more.ensures.reads in
    so_far.told_now

pub returns-clause-output : goal.returns-clause-output
returns-clause-output g c =
    let full : length c.loop-bytes.bytes.items ≡ most_taken = omega (arith, c.loop-bytes.invariant.within, c.loop-bytes.bytes.ok.0, c.len.ensures, c.loop-bytes-test.false) in
    read_enough (g.P.Spawner.told c.args.spawner.now) (g.P.Spawner.told c.loop-bytes.spawner) c.args.child c.loop-bytes.bytes.items c.loop-bytes.invariant.so_far full

pub returns-clause-reads : goal.returns-clause-reads
returns-clause-reads g c = c.loop-bytes.invariant.so_far.told_now
