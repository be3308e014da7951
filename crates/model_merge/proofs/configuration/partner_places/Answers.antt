use Rattle.std.proofs.Common.{ap, map, option_and_then, slice_get, refl, arith, ◌∙◌}
use Rattle.std.specs.Str.{bytes_eq}
use Rattle.std.proofs.lemmas.List.Sums.{count_by-le-length}
use Rattle.model_merge.specs.Configuration.{name_of}
use Rattle.model_merge.specs.Names.{count_in, places_in}
use Rattle.model_merge.proofs.Pairing.{map_one, nth_place, paired_more}
use Rattle.model_merge.proofs.configuration.partner_places.Goals as goal

pub counted-requires : goal.counted-requires
counted-requires c =
    let inv = c.loop-setting.invariant in
    let n = name_of c.setting-item.result in
    let few = count_by-le-length (λ b. bytes_eq b n) inv.0 in
    omega (arith, few, inv.1, inv.2 n, c.loop-setting-test.true)

pub loop-setting-preserved : goal.loop-setting-preserved
loop-setting-preserved c =
    let child = c.args.child.now in
    let parent = c.args.parent.now in
    let n = name_of c.setting-item.result in
    let number = count_in c.loop-setting.counts n in
    let found = option_and_then (slice_get parent) in
    paired_more child parent c.loop-setting.setting-index (count_in c.loop-setting.counts) (count_in c.counted.new.counts) (map found c.loop-setting.list.items) (map found c.push.new.self.items) c.setting-item.result (found c.place_at.result)
    c.loop-setting.invariant c.loop-setting-test.true c.setting-item.is c.in_ok-number.ensures.others
    (ap found (c.place_at.ensures ∙ ap (slice_get (places_in c.in_ok-places.places n)) c.in_ok-number.ensures.number ∙ ap (λ l. slice_get l number) (c.in_ok-places.ensures n)) ∙ nth_place n parent parent 0 number refl)
    (ap (map found) c.in_ok-push.ensures.items ∙ map_one found c.loop-setting.list.items c.place_at.result)
