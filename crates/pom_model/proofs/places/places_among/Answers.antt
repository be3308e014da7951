use Rattle.std.proofs.Common.{fold, sym, ap, ◌∙◌}
use Rattle.std.proofs.lemmas.List.{drop_all}
use Rattle.pom_model.specs.Places.{seen}
use Rattle.pom_model.proofs.Firsts.{places_found}
use Rattle.pom_model.proofs.places.places_among.Goals as goal

pub returns : goal.returns
returns c =
    let done = drop_all c.loop-k.k-index c.args.ks.now c.loop-k-test.false in
    ap (fold (seen c.args.nodes.now) c.loop-k.places) (sym done) ∙ c.loop-k.invariant ∙ places_found c.args.nodes.now c.args.ks.now
