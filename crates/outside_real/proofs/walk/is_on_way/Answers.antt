use Rattle.std.proofs.Common.{◌≡◌, ◌+◌, ◌-◌, ◌||◌, suc, length, slice_get, Some, refl, sym, ap, ◌∙◌, arith}
use Rattle.std.proofs.lemmas.Option.{slice_get_read}
use Rattle.std.specs.List.{list_any}
use Rattle.outside_real.specs.Walk.{is_known_as, way_down}
use Rattle.outside_real.proofs.Steps.{way_goes_on}
use Rattle.outside_real.proofs.walk.is_on_way.Goals as goal

pub loop-preserved : goal.loop-preserved
loop-preserved c =
    let folders = c.args.folders.now in
    let folder = c.in-Some-get.folder.now in
    let test = is_known_as c.args.device c.args.number in
    let more : length folders - c.loop.counter ≡ suc (length folders - (c.loop.counter + 1)) = omega (arith, c.loop-test.true) in
    let lookup = c.in-Some-get.ensures.lookup in
    let found : slice_get folders c.in-Some.place ≡ Some folder = slice_get_read folders (length folders) c.in-Some.place folder refl lookup.3.0 lookup.1 in
    c.loop.invariant ∙ ap (λ place. list_any test (way_down (length folders - c.loop.counter) folders place)) c.in-Some.is
    ∙ way_goes_on test folders (length folders - c.loop.counter) (length folders - (c.loop.counter + 1)) c.in-Some.place folder more found
    ∙ ap (λ b. b || list_any test (way_down (length folders - (c.loop.counter + 1)) folders folder.above)) (sym c.is_known_as.ensures ∙ c.if-is_known_as.false)
