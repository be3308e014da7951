use Rattle.std.proofs.Common.{◌≡◌, ◌-◌, Some, IfSome, ◌+◌, ◌<◌, ◌≤◌, length, length-take, take, vec_len, refl, sym, subst, ◌∙◌, arith}
use Rattle.goal_program.specs.Requests.{most_request}
use Rattle.goal_program.specs.Reading.{most_read}
use Rattle.goal_program.proofs.Steps.{ReadSoFar, whole, read_nothing, read_step, read_to_end, read_too_much, read_none, read_further, read_so_far}
use Rattle.goal_program.proofs.input.read_all.Goals as goal

pub loop-bytes-init : goal.loop-bytes-init
loop-bytes-init g c =
    let left = g.I.Source.left c.args.input.now in
    record {
      within = omega (arith, c.new-bytes.ensures.len);
      part = c.in-Ok.ensures.len;
      so_far = subst (λ bytes. ReadSoFar left left bytes) (sym c.new-bytes.ensures.items) (read_nothing left);
      never = refl;
      quiet = refl;
    }

pub read_more-requires : goal.read_more-requires
read_more-requires g c =
    omega (arith, length-take c.min-room.result c.deref_mut.result.now, c.deref_mut.ensures.len, c.loop-bytes.invariant.part, c.min-room.ensures, c.len-in-loop-bytes.ensures, c.len.ensures, c.loop-bytes-test.true)

pub loop-bytes-smaller : goal.loop-bytes-smaller
loop-bytes-smaller g c =
    let r = c.in_ok-read_more.ensures.reads in
    let more : 0 < r.count = r.some c.if-branch.false in
    let less : 536870913 - vec_len c.read_more.new.bytes < 536870913 - vec_len c.loop-bytes.bytes =
    omega (arith, more, r.len, c.loop-bytes.bytes.ok.0, c.read_more.new.bytes.ok.0, c.len.ensures, c.loop-bytes-test.true) in
    less

pub loop-bytes-preserved : goal.loop-bytes-preserved
loop-bytes-preserved g c =
    let r = c.in_ok-read_more.ensures.reads in
    record {
      within = omega (arith, r.within, r.len, length-take c.min-room.result c.deref_mut.result.now, c.min-room.ensures, c.len-in-loop-bytes.ensures, c.loop-bytes.bytes.ok.0, c.read_more.new.bytes.ok.0, c.loop-bytes.invariant.within);
      part = c.loop-bytes.invariant.part;
      so_far = read_step (g.I.Source.left c.args.input.now) (g.I.Source.left c.loop-bytes.input) (g.I.Source.left c.read_more.new.input) _ _ _ _ c.loop-bytes.invariant.so_far r;
      never = c.in_ok-read_more.ensures.never ∙ c.loop-bytes.invariant.never;
      quiet = c.in_ok-read_more.ensures.cause ∙ c.loop-bytes.invariant.quiet;
    }

pub returns-then-branch-clause-all : goal.returns-then-branch-clause-all
returns-then-branch-clause-all g c =
    let low : length c.loop-bytes.bytes.items ≤ most_request = omega (arith, c.loop-bytes.bytes.ok.0, c.len.ensures, c.loop-bytes-test.true) in
    subst (λ b. IfSome (g.I.Source.left c.args.input.now) (λ rest. Some b ≡ whole rest)) (sym c.of.ensures)
    (read_to_end (g.I.Source.left c.args.input.now) (g.I.Source.left c.loop-bytes.input) (g.I.Source.left c.read_more.new.input) _ _ _ _ low c.loop-bytes.invariant.so_far c.in_ok-read_more.ensures.reads c.if-branch.true)

pub returns-clause-all : goal.returns-clause-all
returns-clause-all g c =
    let long : most_request < length c.loop-bytes.bytes.items = omega (arith, c.loop-bytes.bytes.ok.0, c.len.ensures, c.loop-bytes-test.false) in
    read_too_much (g.I.Source.left c.args.input.now) (g.I.Source.left c.loop-bytes.input) c.loop-bytes.bytes.items long c.loop-bytes.invariant.so_far

pub returns-in_default-clause-stops : goal.returns-in_default-clause-stops
returns-in_default-clause-stops g c = read_none most_read (g.I.Source.left c.args.input.now) (g.I.Source.left c.args.input.now) refl

pub returns-in_err-read_more-clause-stops : goal.returns-in_err-read_more-clause-stops
returns-in_err-read_more-clause-stops g c =
    let room = length (take c.min-room.result c.deref_mut.result.now) in
    let low : length c.loop-bytes.bytes.items + room ≤ most_read =
    omega (arith, length-take c.min-room.result c.deref_mut.result.now, c.min-room.ensures, c.len-in-loop-bytes.ensures, c.loop-bytes.bytes.ok.0, c.loop-bytes.invariant.within) in
    read_further (g.I.Source.left c.args.input.now) (g.I.Source.left c.loop-bytes.input) (g.I.Source.left c.read_more.new.input) c.loop-bytes.bytes.items room low c.loop-bytes.invariant.so_far c.in_err-read_more.ensures.up_to

pub returns-then-branch-clause-stops : goal.returns-then-branch-clause-stops
returns-then-branch-clause-stops g c =
    let room = length (take c.min-room.result c.deref_mut.result.now) in
    let low : length c.loop-bytes.bytes.items + room ≤ most_read =
    omega (arith, length-take c.min-room.result c.deref_mut.result.now, c.min-room.ensures, c.len-in-loop-bytes.ensures, c.loop-bytes.bytes.ok.0, c.loop-bytes.invariant.within) in
    read_further (g.I.Source.left c.args.input.now) (g.I.Source.left c.loop-bytes.input) (g.I.Source.left c.read_more.new.input) c.loop-bytes.bytes.items room low c.loop-bytes.invariant.so_far c.in_ok-read_more.ensures.up_to

pub returns-clause-stops : goal.returns-clause-stops
returns-clause-stops g c =
    let low : length c.loop-bytes.bytes.items ≤ most_read = omega (arith, c.loop-bytes.bytes.ok.0, c.loop-bytes.invariant.within) in
    read_so_far (g.I.Source.left c.args.input.now) (g.I.Source.left c.loop-bytes.input) c.loop-bytes.bytes.items low c.loop-bytes.invariant.so_far
