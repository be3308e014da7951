use Rattle.std.proofs.Common.{ap, ◌∙◌}
use Rattle.mediation.specs.Rows.{place_of}
use Rattle.mediation.proofs.Kept.{place_is}
use Rattle.mediation.proofs.winner.Winners.place.Goals as goal

pub returns-clause-value : goal.returns-clause-value
returns-clause-value c = c.get_index_of.ensures.index ∙ ap (λ l. place_of l c.args.key.now) c.self.view_is

pub returns-clause-there : goal.returns-clause-there
returns-clause-there c =
    place_is c.args.self.now c.args.key.now c.get_index_of.result
    (c.get_index_of.ensures.index ∙ ap (λ l. place_of l c.args.key.now) c.self.view_is)
