use Rattle.std.proofs.Common.{◌≡◌, ◌≤◌, ◌<◌, true, Some, [], ◌∷◌, ◌++◌, length, get_or, map, nat_lt, set, arith, sym, ap, subst, vec_capacity, ◌∙◌}
use Rattle.std.specs.List.{list_all}
use Rattle.build_core.specs.Locks.{IsSeat, names_of, with_hold}
use Rattle.event_core.specs.Taken.{AreStacks, held_from}
use Rattle.event_core.proofs.Fits.{all_back}
use Rattle.event_core.proofs.Taken.{short_rows, taken_stacks, taken_view}
use Rattle.event_core.proofs.holdings.Holdings.take.Goals as goal

pub push_name-requires-clause-room : goal.push_name-requires-clause-room
push_name-requires-clause-room c = λ k d low.
    let it = c.self.inside in
    let short = all_back (λ names. names.items) (λ held. length held ≤ names_of it.locks) it.taken.items (λ k d low. short_rows it.locks (map (λ names. names.items) it.taken.items) c.self.invariant.0 k d low) k d low in
    let room = c.self.invariant.1 k d low in
    omega (arith, short, room)

pub invariant_of-self : goal.invariant_of-self
invariant_of-self c =
    let it = c.self.inside in
    let rows = map (λ names. names.items) it.taken.items in
    let n = c.args.name in
    let w = c.args.worker in
    let seat = subst (λ v. IsSeat v.0 n w) (sym c.self.view_is) c.requires.seat in
    let above = subst (λ v. list_all (λ h. nat_lt h n) (get_or v.1 w []) ≡ true) (sym c.self.view_is) c.requires.above in
    let stacks = taken_stacks it.locks rows c.self.invariant.0 n w seat c.args.mode above in (
      subst (λ l. AreStacks l (map (λ names. names.items) c.push_name.new.held.items)) (sym c.hold_so.ensures) (subst (AreStacks (with_hold it.locks n w (Some c.args.mode))) (sym c.push_name.ensures.items) stacks),
      λ k d low. subst (λ l. names_of l < vec_capacity (get_or c.push_name.new.held.items k d)) (sym c.hold_so.ensures) (c.push_name.ensures.capacity (names_of it.locks) c.self.invariant.1 k d low),
    )

pub returns : goal.returns
returns c =
    let it = c.self.inside in
    let rows = map (λ names. names.items) it.taken.items in
    let n = c.args.name in
    let w = c.args.worker in
    let seat = subst (λ v. IsSeat v.0 n w) (sym c.self.view_is) c.requires.seat in
    let above = subst (λ v. list_all (λ h. nat_lt h n) (get_or v.1 w []) ≡ true) (sym c.self.view_is) c.requires.above in
    let view = ap (λ l. held_from l 0 (map (λ names. names.items) c.push_name.new.held.items)) c.hold_so.ensures
    ∙ ap (held_from (with_hold it.locks n w (Some c.args.mode)) 0) c.push_name.ensures.items
    ∙ taken_view it.locks rows c.self.invariant.0 n w seat c.args.mode above
    ∙ ap (λ v. set v.1 w (get_or v.1 w [] ++ n ∷ [])) c.self.view_is in
    λ i. ((c.hold_so.ensures ∙ ap (λ v. with_hold v.0 n w (Some c.args.mode)) c.self.view_is) i, view i)
