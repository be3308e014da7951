use Rattle.std.proofs.Common.{arith, ◌≡◌, ◌-◌, IfOk, refl, ap, subst, ◌∙◌}
use Rattle.std.proofs.lemmas.List.{drop_all}
use Rattle.pom_model.proofs.Lacking.{bare}
use Rattle.pom_model.proofs.Walks.{IsRead, begun_refused, ended_same, fault_zero, nothing_refused, one_more_read, read_seen, within_refused}
use Rattle.pom_model.specs.Faults.{under}
use Rattle.pom_model.proofs.walk.+fault_within.Goals as goal

pub returns-then-depth-eq0 : goal.returns-then-depth-eq0
returns-then-depth-eq0 t c = fault_zero c.args.depth c.args.nodes.now c.args.kind c.args.node.now c.if-depth-eq0.true

pub returns-in-Some-2 : goal.returns-in-Some-2
returns-in-Some-2 t c =
    let children = c.as_slice-children.result.now in
    begun_refused c.args.depth c.args.nodes.now c.args.kind c.args.node.now children c.loop-i.i c.loop-i.read c.in-Some.inner c.in-Some.times c.in-Some.child.now c.split_at.result.0.now c.in_ok-fault.field-0 c.in-Some-2.fault
    (record { some = c.if-depth-eq0.false; whole = c.as_slice-children.ensures; same = c.loop-i.invariant.same; counted = c.loop-i.invariant.counted })
    (record { low = c.loop-i-test.true; is = read_seen c.args.nodes.now c.args.kind _ c.in-Some.inner c.in-Some.times c.in-Some.child c.read_child.result c.in-Some.is c.read_child.ensures })
    c.split_at.ensures.front c.in_ok-fault.ensures c.in-Some-2.is

pub returns-in-Some-3 : goal.returns-in-Some-3
returns-in-Some-3 t c =
    let children = c.as_slice-children.result.now in
    within_refused c.args.depth c.args.nodes.now c.args.kind c.args.node.now children c.loop-i.i c.loop-i.read c.in-Some.inner c.in-Some.times c.in-Some.child.now c.split_at.result.0.now c.name_of.result.now c.in_ok-fault.field-0 c.in_ok-fault-2.field-0 c.in-Some-3.fault c.in_ok-under.field-0
    (record { some = c.if-depth-eq0.false; whole = c.as_slice-children.ensures; same = c.loop-i.invariant.same; counted = c.loop-i.invariant.counted })
    (record { low = c.loop-i-test.true; is = read_seen c.args.nodes.now c.args.kind _ c.in-Some.inner c.in-Some.times c.in-Some.child c.read_child.result c.in-Some.is c.read_child.ensures })
    c.split_at.ensures.front c.in_ok-fault.ensures c.in_default-2.is c.in_ok-fault-2.ensures c.in-Some-3.is c.name_of.ensures
    (c.in_ok-under.ensures ∙ ap (λ s. under s c.in-Some-3.fault) (c.as_str.ensures.value ∙ c.in_ok-step.ensures))

pub returns : goal.returns
returns t c =
    let children = c.as_slice-children.result.now in
    subst (λ x. IfOk c.ended.result (λ fault. fault ≡ x))
    (ended_same c.args.depth c.args.nodes.now c.args.kind c.args.node.now children c.loop-i.i c.loop-i.read (record { some = c.if-depth-eq0.false; whole = c.as_slice-children.ensures; same = c.loop-i.invariant.same; counted = c.loop-i.invariant.counted }) (drop_all c.loop-i.i children c.loop-i-test.false))
    c.ended.ensures

pub loop-i-preserved-then-is_bare : goal.loop-i-preserved-then-is_bare
loop-i-preserved-then-is_bare t c =
    let children = c.as_slice-children.result.now in
    let seen : IsRead c.args.nodes.now c.args.kind children c.loop-i.i c.in-Some.inner c.in-Some.times c.in-Some.child.now =
    record { low = c.loop-i-test.true; is = read_seen c.args.nodes.now c.args.kind _ c.in-Some.inner c.in-Some.times c.in-Some.child c.read_child.result c.in-Some.is c.read_child.ensures } in
    record {
      same =
          nothing_refused c.args.depth c.args.nodes.now c.args.kind c.args.node.now children c.loop-i.i c.loop-i.read c.in-Some.inner c.in-Some.times c.in-Some.child.now c.split_at.result.0.now c.in_ok-fault.field-0
          (record { some = c.if-depth-eq0.false; whole = c.as_slice-children.ensures; same = c.loop-i.invariant.same; counted = c.loop-i.invariant.counted }) seen
          c.split_at.ensures.front c.in_ok-fault.ensures c.in_default-2.is
          (bare (c.args.depth - 1) c.args.nodes.now c.in-Some.inner c.in-Some.child.now (c.if-is_bare.ensures.leaf refl) (c.if-is_bare.ensures.none refl));
      counted = one_more_read c.args.nodes.now c.args.kind children c.loop-i.i c.loop-i.read c.in-Some.inner c.in-Some.times c.in-Some.child.now seen c.loop-i.invariant.counted;
      small = omega (arith, c.loop-i.invariant.small);
    }
