use Rattle.std.proofs.Common.{◌≡◌, [], arith, ap, sym, ◌∙◌}
use Rattle.std.specs.HashMap.{get}
use Rattle.std.specs.Option.{option_or}
use Rattle.std.specs.Str.{bytes_eq}
use Rattle.std.specs.Vec.Iter.{into_iter_items}
use Rattle.interpolation.specs.Expressions.{last_named}
use Rattle.interpolation.proofs.ValueLists.{no_items}
use Rattle.interpolation.proofs.filler.texts_of.Goals as goal

pub returns : goal.returns
returns c = λ q.
    let ended : into_iter_items c.loop-pair.pair-iterator ≡ [] = no_items _ (omega (arith, c.in-None.ensures.steps.0, c.loop-pair.pair-iterator.rest.ok)) in
    ap (λ l. option_or (last_named l q) (get bytes_eq c.loop-pair.texts q)) (sym ended) ∙ c.loop-pair.invariant q
