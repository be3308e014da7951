use Rattle.std.proofs.Common.{◌≡◌, ℕ, ◌||◌, false, get_or, subst, sym, ap, ◌∙◌}
use Rattle.reactor_order.specs.Graph.{has}
use Rattle.reactor_order.specs.Walking.{Goes}
use Rattle.reactor_order.proofs.cycle.cycle.Goals as goal

pub returns : goal.returns
returns c =
    let n = c.args.n in
    let edges = c.args.edges.now in
    let placed = c.args.placed.now in
    let none = c.in_ok-marks.marks.marks.items in
    let marks = c.mark_all.new.self.marks.items in
    let same : (m : ℕ) → has placed m ≡ get_or marks m false = λ m. sym (c.in_ok-mark_all.ensures.each m ∙ ap (λ b. b || has placed m) (c.in_ok-marks.ensures.free m)) in
    let found = c.in-Some.ensures.value placed (λ m. same m ∙ ap (λ l. get_or l m false) (sym c.deref.ensures.value)) in
    let goes : Goes n edges placed c.deref-3.result.now = subst (Goes n edges placed) (sym c.deref-3.ensures.value) (c.in_ok-nexts.ensures placed (λ m. same m ∙ ap (λ l. get_or l m false) (sym c.deref-2.ensures.value))) in
    rw (← found) (c.in_ok-cycle.ensures edges placed goes)
