use Rattle.std.proofs.Common.{◌≡◌, ◌<◌, false, None, [], filter, get_or, map, set, sym, ap, subst, vec_capacity, ◌∙◌}
use Rattle.build_core.specs.Locks.{IsSeat, names_of, with_hold}
use Rattle.scripts.specs.Climbing.{but}
use Rattle.event_core.specs.Taken.{AreStacks, ends_freed, held_from, is_held}
use Rattle.event_core.proofs.Taken.{freed_stacks, freed_view}
use Rattle.event_core.proofs.holdings.Holdings.free.Goals as goal

pub invariant_of-self : goal.invariant_of-self
invariant_of-self c =
    let it = c.self.inside in
    let rows = map (λ names. names.items) it.taken.items in
    let n = c.args.name in
    let w = c.args.worker in
    let seat = subst (λ v. IsSeat v.0 n w) (sym c.self.view_is) c.requires.seat in
    let left = c.drop_names.ensures in
    let held = subst (λ l. filter (is_held l w) left.0 ≡ filter (is_held l w) (get_or rows w [])) c.free.ensures left.2 in
    let top = subst (λ l. ends_freed l w left.0 ≡ false) c.free.ensures left.3 in
    let stacks = freed_stacks it.locks rows c.self.invariant.0 n w seat left.0 held left.4 left.5 top in (
      subst (λ l. AreStacks l (map (λ names. names.items) c.drop_names.new.taken.items)) (sym c.free.ensures) (subst (AreStacks (with_hold it.locks n w None)) (sym left.1) stacks),
      λ k d low. subst (λ l. names_of l < vec_capacity (get_or c.drop_names.new.taken.items k d)) (sym c.free.ensures) (left.6 (names_of it.locks) c.self.invariant.1 k d low),
    )

pub returns : goal.returns
returns c =
    let it = c.self.inside in
    let rows = map (λ names. names.items) it.taken.items in
    let n = c.args.name in
    let w = c.args.worker in
    let seat = subst (λ v. IsSeat v.0 n w) (sym c.self.view_is) c.requires.seat in
    let left = c.drop_names.ensures in
    let held = subst (λ l. filter (is_held l w) left.0 ≡ filter (is_held l w) (get_or rows w [])) c.free.ensures left.2 in
    let view = ap (λ l. held_from l 0 (map (λ names. names.items) c.drop_names.new.taken.items)) c.free.ensures
    ∙ ap (held_from (with_hold it.locks n w None) 0) left.1
    ∙ freed_view it.locks rows c.self.invariant.0 n w seat left.0 held
    ∙ ap (λ v. set v.1 w (but n (get_or v.1 w []))) c.self.view_is in
    λ i. ((c.free.ensures ∙ ap (λ v. with_hold v.0 n w None) c.self.view_is) i, view i)
