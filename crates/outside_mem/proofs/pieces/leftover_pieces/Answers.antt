use Rattle.std.proofs.Common.{◌≡◌, ◌∷◌, if◌then◌else◌, Some, drop, sym, ap, ◌∙◌}
use Rattle.std.specs.Ordering.{nat_cmp}
use Rattle.std.specs.BTreeMap.{is_at}
use Rattle.std.specs.Vec.Iter.{into_iter_items}
use Rattle.outside_mem.specs.Pieces.{leftover}
use Rattle.outside_mem.proofs.Leftovers.{one_piece, first_of_rest, rest_after}
use Rattle.outside_mem.proofs.pieces.leftover_pieces.Goals as goal

pub loop-number-preserved : goal.loop-number-preserved
loop-number-preserved c =
    let rest = into_iter_items c.next.new.self in
    let number = c.loop-number.number in
    let e : drop number c.args.list ≡ c.in-Some.bytes ∷ rest = sym c.loop-number.invariant.rest ∙ c.in-Some.ensures.items in
    record {
      rest = rest_after c.args.list rest number c.in-Some.bytes e;
      made = λ n. c.in_ok-put_leftover.ensures n
          ∙ ap (λ o. if is_at (nat_cmp number) n then Some (leftover c.in-Some.bytes) else o) (c.loop-number.invariant.made n)
          ∙ one_piece leftover c.args.list number c.in-Some.bytes (first_of_rest c.args.list rest number c.in-Some.bytes e) n;
    }
