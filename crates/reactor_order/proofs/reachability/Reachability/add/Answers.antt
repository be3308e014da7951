use Rattle.std.proofs.Common.{◌≡◌, ◌<◌, ◌&&◌, not, [], length, get_or, ap, ◌∙◌, arith}
use Rattle.std.proofs.lemmas.List.{get_or_read}
use Rattle.reactor_order.specs.Rows.{is_in}
use Rattle.reactor_order.proofs.Extending.{extended, extended_same}
use Rattle.reactor_order.proofs.reachability.Reachability.add.Goals as goal

pub returns-then-leads-clause-more : goal.returns-then-leads-clause-more
returns-then-leads-clause-more c = λ edges was.
    extended_same c.args.self.now.n c.args.m c.args.upstream edges c.args.self.now.ups.items c.args.self.now.downs.items was ((c.leads.ensures edges was).0 c.if-leads.true)

pub spread-requires-clause-modules : goal.spread-requires-clause-modules
spread-requires-clause-modules c =
    let rows = c.args.self.now.downs.items in
    let low : c.args.m < length rows = omega (arith, c.requires.m, c.args.self.now.down_rows.long) in
    let read : c.index-3.result.now ≡ get_or rows c.args.m [] = get_or_read rows c.args.m c.index-3.result.now low c.index-3.ensures [] in
    c.in_ok-below.ensures.long ∙ ap length read ∙ c.args.self.now.down_rows.wide c.args.m c.requires.m

pub spread-requires-clause-more : goal.spread-requires-clause-more
spread-requires-clause-more c =
    let rows = c.args.self.now.ups.items in
    let low : c.args.upstream < length rows = omega (arith, c.requires.upstream, c.args.self.now.up_rows.long) in
    let read : c.index.result.now ≡ get_or rows c.args.upstream [] = get_or_read rows c.args.upstream c.index.result.now low c.index.ensures [] in
    c.in_ok-above.ensures.long ∙ ap length read ∙ c.args.self.now.up_rows.wide c.args.upstream c.requires.upstream

pub spread-requires-2-clause-modules : goal.spread-requires-2-clause-modules
spread-requires-2-clause-modules c =
    let rows = c.args.self.now.ups.items in
    let low : c.args.upstream < length rows = omega (arith, c.requires.upstream, c.args.self.now.up_rows.long) in
    let read : c.index.result.now ≡ get_or rows c.args.upstream [] = get_or_read rows c.args.upstream c.index.result.now low c.index.ensures [] in
    c.in_ok-above.ensures.long ∙ ap length read ∙ c.args.self.now.up_rows.wide c.args.upstream c.requires.upstream

pub spread-requires-2-clause-more : goal.spread-requires-2-clause-more
spread-requires-2-clause-more c =
    let rows = c.args.self.now.downs.items in
    let low : c.args.m < length rows = omega (arith, c.requires.m, c.args.self.now.down_rows.long) in
    let read : c.index-3.result.now ≡ get_or rows c.args.m [] = get_or_read rows c.args.m c.index-3.result.now low c.index-3.ensures [] in
    c.in_ok-below.ensures.long ∙ ap length read ∙ c.args.self.now.down_rows.wide c.args.m c.requires.m

pub returns-clause-more : goal.returns-clause-more
returns-clause-more c = λ edges was.
    let n = c.args.self.now.n in
    let m = c.args.m in
    let u = c.args.upstream in
    let ups = c.args.self.now.ups.items in
    let downs = c.args.self.now.downs.items in
    let up_m : m < length ups = omega (arith, c.requires.m, c.args.self.now.up_rows.long) in
    let up_u : u < length ups = omega (arith, c.requires.upstream, c.args.self.now.up_rows.long) in
    let down_m : m < length downs = omega (arith, c.requires.m, c.args.self.now.down_rows.long) in
    let down_u : u < length downs = omega (arith, c.requires.upstream, c.args.self.now.down_rows.long) in
    let one : c.index.result.now ≡ get_or ups u [] = get_or_read ups u c.index.result.now up_u c.index.ensures [] in
    let two : c.index-2.result.now ≡ get_or ups m [] = get_or_read ups m c.index-2.result.now up_m c.index-2.ensures [] in
    let three : c.index-3.result.now ≡ get_or downs m [] = get_or_read downs m c.index-3.result.now down_m c.index-3.ensures [] in
    let four : c.index-4.result.now ≡ get_or downs u [] = get_or_read downs u c.index-4.result.now down_u c.index-4.ensures [] in
    extended n m u edges ups downs c.spread.new.rows.items c.spread-2.new.rows.items c.in_ok-below.below c.in_ok-above.above c.requires.m c.requires.upstream was
    (λ j. c.in_ok-above.ensures.each j ∙ ap (λ r. is_in r j && not (is_in c.index-2.result.now j)) one ∙ ap (λ r. is_in (get_or ups u []) j && not (is_in r j)) two)
    (λ j. c.in_ok-below.ensures.each j ∙ ap (λ r. is_in r j && not (is_in c.index-4.result.now j)) three ∙ ap (λ r. is_in (get_or downs m []) j && not (is_in r j)) four)
    c.spread.ensures.each c.spread-2.ensures.each
