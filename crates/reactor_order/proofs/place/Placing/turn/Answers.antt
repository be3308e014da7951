use Rattle.std.proofs.Common.{◌≡◌, ◌<◌, ◌≤◌, Some, [], length, get_or, subst, sym, ◌∙◌}
use Rattle.std.proofs.lemmas.List.{get_or_default}
use Rattle.reactor_order.specs.Graph.{upstreams, flipped}
use Rattle.reactor_order.specs.Ready.{TakesLeast}
use Rattle.reactor_order.specs.Waiting.{times, AreReleased, IsPlacing}
use Rattle.reactor_order.proofs.Placing.{none_follows, least_is_next, waits_for, place_one, place_none, is_free}
use Rattle.reactor_order.proofs.place.Placing.turn.Goals as goal

pub returns-in_default-clause-next : goal.returns-in_default-clause-next
returns-in_default-clause-next c =
    let p = c.args.self.now in
    sym (none_follows p.n p.edges.now p.placed.items p.waits.items p.ready c.requires.placing c.in_default.ensures.0)

pub returns-in_default-clause-placing : goal.returns-in_default-clause-placing
returns-in_default-clause-placing c =
    let p = c.args.self.now in
    place_none p.n p.edges.now p.placed.items p.waits.items p.ready c.take_least.new.ready c.requires.placing c.in_default.ensures

pub release-requires : goal.release-requires
release-requires c =
    let p = c.args.self.now in
    let takes : TakesLeast p.ready c.take_least.new.ready (Some c.in-Some.m) = c.in-Some.ensures in
    let f = is_free p.n p.edges.now p.placed.items p.waits.items p.ready c.take_least.new.ready c.in-Some.m c.requires.placing takes in
    let low : c.in-Some.m < length p.downstreams.lists.items = subst (λ k. c.in-Some.m < k) (sym c.requires.downstreams.long) f.within in
    let list : c.as_slice.result.now ≡ upstreams (flipped p.edges.now) c.in-Some.m =
    c.as_slice.ensures ∙ c.index.ensures ∙ get_or_default p.downstreams.lists.items c.in-Some.m c.index.result.now [] low ∙ c.requires.downstreams.each c.in-Some.m in
    λ k. subst (λ l. times k l ≤ get_or p.waits.items k 0) (sym list) (waits_for p.n p.edges.now p.placed.items p.waits.items p.ready c.in-Some.m c.requires.placing f.free k)

pub returns-clause-next : goal.returns-clause-next
returns-clause-next c =
    let p = c.args.self.now in
    sym (least_is_next p.n p.edges.now p.placed.items p.waits.items p.ready c.take_least.new.ready c.in-Some.m c.requires.placing c.in-Some.ensures)

pub returns-clause-placing : goal.returns-clause-placing
returns-clause-placing c =
    let p = c.args.self.now in
    let takes : TakesLeast p.ready c.take_least.new.ready (Some c.in-Some.m) = c.in-Some.ensures in
    let f = is_free p.n p.edges.now p.placed.items p.waits.items p.ready c.take_least.new.ready c.in-Some.m c.requires.placing takes in
    let low : c.in-Some.m < length p.downstreams.lists.items = subst (λ k. c.in-Some.m < k) (sym c.requires.downstreams.long) f.within in
    let list : c.as_slice.result.now ≡ upstreams (flipped p.edges.now) c.in-Some.m =
    c.as_slice.ensures ∙ c.index.ensures ∙ get_or_default p.downstreams.lists.items c.in-Some.m c.index.result.now [] low ∙ c.requires.downstreams.each c.in-Some.m in
    let released : AreReleased (upstreams (flipped p.edges.now) c.in-Some.m) p.waits.items c.release.new.waits.items c.take_least.new.ready c.release.new.ready =
    subst (λ l. AreReleased l p.waits.items c.release.new.waits.items c.take_least.new.ready c.release.new.ready) list c.in_ok-release.ensures in
    subst (λ l. IsPlacing p.n p.edges.now l c.release.new.waits.items c.release.new.ready) (sym c.in_ok-push.ensures.items)
    (place_one p.n p.edges.now p.placed.items p.waits.items c.release.new.waits.items p.ready c.take_least.new.ready c.release.new.ready c.in-Some.m c.requires.placing takes released)
