use Rattle.std.proofs.Common.{◌≡◌, ◌-◌, ◌<◌, true, false, [], ◌∷◌, ◌++◌, length, get_or, subst, sym, ap, ◌∙◌, length-append, arith}
use Rattle.std.proofs.lemmas.List.{get_or_default}
use Rattle.reactor_order.specs.Cycle.{from_first, walk}
use Rattle.reactor_order.proofs.Marking.{unmarked_set}
use Rattle.reactor_order.proofs.Walks.{walk_on, walk_ends}
use Rattle.reactor_order.proofs.cycle.walk.Goals as goal

pub loop-seen-preserved : goal.loop-seen-preserved
loop-seen-preserved c =
    let n = c.args.n in
    let m = c.loop-seen.m in
    let marks = c.loop-seen.seen.marks.items in
    let found = c.loop-seen.seen.found.items in
    let was = c.loop-seen.invariant in
    let low : m < length marks = subst (λ k. m < k) (sym was.long) was.within in
    let free : get_or marks m false ≡ false = sym (c.index.ensures ∙ get_or_default marks m c.index.result.now false low) ∙ c.loop-seen-test.true in
    let more : c.mark.new.self.found.items ≡ found ++ m ∷ [] = c.in_ok-mark.ensures.found free in
    let goes = c.requires.goes in
    let some : 0 < n - length found = omega (arith, was.marked.count, was.long, unmarked_set marks m low free) in
    let less : n - length found - 1 ≡ n - length c.mark.new.self.found.items = omega (arith, ap length more, length-append found (m ∷ [])) in
    record {
      marked = c.in_ok-mark.ensures.marked.marked;
      long = c.in_ok-mark.ensures.marked.long ∙ was.long;
      within = goes.2.below m was.within;
      on = λ edges placed g. was.on edges placed g ∙ walk_on (n - length found) edges placed found m some (was.marked.same m ∙ free)
          ∙ (λ i. walk (less i) edges placed (sym more i) (sym (g.each m was.within) i));
    }

pub returns : goal.returns
returns c = λ edges placed g.
    let m = c.loop-seen.m in
    let marks = c.loop-seen.seen.marks.items in
    let found = c.loop-seen.seen.found.items in
    let was = c.loop-seen.invariant in
    let low : m < length marks = subst (λ k. m < k) (sym was.long) was.within in
    let there : get_or marks m false ≡ true = sym (c.index.ensures ∙ get_or_default marks m c.index.result.now false low) ∙ c.loop-seen-test.false in
    c.in_ok-cycle.ensures ∙ ap (from_first m) c.deref.ensures.value
    ∙ sym (was.on edges placed g ∙ walk_ends (c.args.n - length found) edges placed found m (was.marked.same m ∙ there))
