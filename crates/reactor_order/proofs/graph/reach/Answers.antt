use Rattle.std.proofs.Common.{◌≡◌, ◌<◌, rules, [], length, get_or, sym, ap, subst, ◌∙◌}
use Rattle.std.proofs.lemmas.List.{get_or_default}
use Rattle.reactor_order.specs.Graph.{has}
use Rattle.reactor_order.specs.Marks.{AreMarked}
use Rattle.reactor_order.proofs.Reaching.{search_begins, search_goes_on, search_ends, looks_at}
use Rattle.reactor_order.proofs.graph.reach.Goals as goal

pub loop-at-init : goal.loop-at-init
loop-at-init c = search_begins (λ m. get_or c.args.next.now m []) c.args.starts.now _ _ _ _ _ c.requires.free c.in_ok-mark_all.ensures

pub bounds-next-m : goal.bounds-next-m
bounds-next-m c =
    let found = c.loop-at.marks.found.items in
    let low : c.loop-at.at < length found = search rules in
    let same : c.index.result.now ≡ get_or found c.loop-at.at 0 = c.index.ensures ∙ get_or_default found c.loop-at.at c.index.result.now 0 low in
    subst (λ k. k < length c.args.next.now) (sym same) (looks_at (λ m. get_or c.args.next.now m []) c.args.starts.now (length c.args.next.now) c.loop-at.at c.loop-at.marks.marks.items found c.loop-at.invariant low)

pub mark_all-requires-in-loop-at-clause-below : goal.mark_all-requires-in-loop-at-clause-below
mark_all-requires-in-loop-at-clause-below c =
    let next = c.args.next.now in
    let m = c.index.result.now in
    let found = c.loop-at.marks.found.items in
    let at_found : c.loop-at.at < length found = search rules in
    let same : c.index.result.now ≡ get_or found c.loop-at.at 0 = c.index.ensures ∙ get_or_default found c.loop-at.at c.index.result.now 0 at_found in
    let low : m < length next = subst (λ k. k < length next) (sym same) (looks_at (λ m. get_or next m []) c.args.starts.now (length next) c.loop-at.at c.loop-at.marks.marks.items found c.loop-at.invariant at_found) in
    let list : c.as_slice.result.now ≡ get_or next m [] = c.as_slice.ensures ∙ c.index-next-m.is ∙ get_or_default next m c.index-next-m.result [] low in
    λ k is. subst (λ n. k < n) (sym c.loop-at.invariant.long) (c.requires.next m k (ap (λ l. has l k) (sym list) ∙ is))

pub loop-at-preserved : goal.loop-at-preserved
loop-at-preserved c =
    let next = c.args.next.now in
    let m = c.index.result.now in
    let found = c.loop-at.marks.found.items in
    let at_found : c.loop-at.at < length found = search rules in
    let same : c.index.result.now ≡ get_or found c.loop-at.at 0 = c.index.ensures ∙ get_or_default found c.loop-at.at c.index.result.now 0 at_found in
    let low : m < length next = subst (λ k. k < length next) (sym same) (looks_at (λ m. get_or next m []) c.args.starts.now (length next) c.loop-at.at c.loop-at.marks.marks.items found c.loop-at.invariant at_found) in
    let list : c.as_slice.result.now ≡ get_or next (get_or found c.loop-at.at 0) [] = c.as_slice.ensures ∙ c.index-next-m.is ∙ get_or_default next m c.index-next-m.result [] low ∙ ap (λ k. get_or next k []) same in
    let more : AreMarked (get_or next (get_or found c.loop-at.at 0) []) c.loop-at.marks.marks.items c.mark_all-in-loop-at.new.self.marks.items found c.mark_all-in-loop-at.new.self.found.items =
    subst (λ l. AreMarked l c.loop-at.marks.marks.items c.mark_all-in-loop-at.new.self.marks.items found c.mark_all-in-loop-at.new.self.found.items) list c.in_ok-mark_all-2.ensures in
    search_goes_on (λ m. get_or next m []) c.args.starts.now (length next) c.loop-at.at c.loop-at.marks.marks.items c.mark_all-in-loop-at.new.self.marks.items found c.mark_all-in-loop-at.new.self.found.items c.loop-at.invariant at_found more

pub returns-clause-reached : goal.returns-clause-reached
returns-clause-reached c = search_ends (λ m. get_or c.args.next.now m []) c.args.starts.now (length c.args.next.now) c.loop-at.at c.loop-at.marks.marks.items c.loop-at.marks.found.items c.loop-at.invariant (search rules)
