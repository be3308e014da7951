use Rattle.std.proofs.Common.{◌≡◌, true, nat_lt, sym, ap, subst, ◌∙◌}
use Rattle.std.specs.List.{list_all}
use Rattle.std.specs.Option.{option_to_list}
use Rattle.scripts.specs.Climbing.{Climbs}
use Rattle.event_core.specs.Taken.{ends_freed}
use Rattle.event_core.proofs.Taken.{all_front, climbs_front, dropped}
use Rattle.event_core.proofs.holdings.drop_freed.Goals as goal

pub loop-names-preserved : goal.loop-names-preserved
loop-names-preserved c =
    let locks = c.args.locks.now in
    let cur = c.loop-names.names.items in
    let next = c.pop.new.self.items in
    let so_far = c.loop-names.invariant in
    let freed = ap (ends_freed locks c.args.worker) (sym c.as_slice.ensures.value) ∙ sym c.ends_freed.ensures ∙ c.loop-names-test.true in (
      dropped locks c.args.worker cur next c.pop.result c.pop.ensures.items freed ∙ so_far.0,
      λ climbs. climbs_front next (option_to_list c.pop.result) 0 (subst (Climbs 0) c.pop.ensures.items (so_far.1 climbs)),
      λ n all. all_front (λ h. nat_lt h n) next (option_to_list c.pop.result) (subst (λ t. list_all (λ h. nat_lt h n) t ≡ true) c.pop.ensures.items (so_far.2 n all)),
      c.pop.ensures.capacity ∙ so_far.3,
    )
