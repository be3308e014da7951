use Rattle.std.proofs.Common.{◌≡◌, ◌<◌, true, filter, nat_lt, sym, ap, subst, vec_capacity, ◌∙◌}
use Rattle.std.specs.List.{list_all}
use Rattle.std.proofs.lemmas.List.{map-set}
use Rattle.std.proofs.lemmas.List.Elements.{All-set}
use Rattle.scripts.specs.Climbing.{Climbs}
use Rattle.event_core.specs.Taken.{is_held}
use Rattle.scripts.proofs.Climbs.{all_at, row_at}
use Rattle.event_core.proofs.holdings.drop_names.Goals as goal

pub returns : goal.returns
returns c =
    let rows = c.args.taken.now.items in
    let w = c.args.worker in
    let row = row_at (λ names. names.items) rows w c.index_mut.result.now c.requires c.index_mut.ensures.value in
    let new = c.drop_freed.new.names in (
      new.items,
      map-set (λ names. names.items) rows w new,
      c.drop_freed.ensures.held ∙ ap (filter (is_held c.args.locks.now w)) (sym row),
      c.drop_freed.ensures.top,
      λ climbs. c.drop_freed.ensures.climbs (subst (Climbs 0) row climbs),
      λ n all. c.drop_freed.ensures.low n (subst (λ t. list_all (λ h. nat_lt h n) t ≡ true) row all),
      λ n all. All-set (λ names. n < vec_capacity names) rows w new (subst (λ k. n < k) (sym c.drop_freed.ensures.capacity) (all_at (λ names. n < vec_capacity names) rows w c.index_mut.result.now all c.requires c.index_mut.ensures.value)) all,
    )
