use Rattle.std.proofs.Common.{◌≤◌, ◌++◌, length, arith, ap, ◌∙◌}
use Rattle.resolution.specs.Links.{begins_within}
use Rattle.resolution.proofs.Turning.{begins_all, begins_one}
use Rattle.resolution.proofs.links.begins_of.Goals as goal

pub loop-shared-init : goal.loop-shared-init
loop-shared-init c = ap (λ l. l ++ begins_within c.args.end 0 c.args.lists.now) c.in_ok-list.ensures

pub loop-shared-preserved : goal.loop-shared-preserved
loop-shared-preserved c =
    begins_one c.args.end c.loop-shared.at c.onward-at.result c.loop-shared.list c.push.new.self (begins_within c.args.end 0 c.args.lists.now) c.args.lists.now c.loop-shared.shared-index
    c.shared-item.result c.as_slice-edges.result.now c.loop-shared-test.true c.shared-item.is (c.as_slice-edges.ensures ∙ c.deref.ensures) c.onward-at.ensures
    c.in_ok-push.ensures.ok c.loop-shared.invariant

pub returns : goal.returns
returns c =
    let low : length c.args.lists.now ≤ c.loop-shared.shared-index = omega (arith, c.loop-shared-test.false) in
    begins_all c.args.end c.loop-shared.at c.loop-shared.list (begins_within c.args.end 0 c.args.lists.now) c.args.lists.now c.loop-shared.shared-index low c.loop-shared.invariant
