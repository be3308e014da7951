use Rattle.std.proofs.Common.{◌<◌, ◌∷◌, [], ◌++◌, length, sym, ap, subst, ◌∙◌}
use Rattle.mediation.specs.Rows.{row_of}
use Rattle.mediation.proofs.Kept.{put_few, put_rows}
use Rattle.mediation.proofs.Standing.{place_last}
use Rattle.mediation.proofs.winner.Winners.push.Goals as goal
use Rattle.mediation.specs.Libraries.{most_winners}

pub invariant_of-self-2 : goal.invariant_of-self-2
invariant_of-self-2 c =
    put_few c.self.inside.index.keys c.insert.new.self.keys c.args.winner
    (ap (λ l. row_of l c.args.winner.edge.key) c.self.view_is ∙ c.requires.new)
    (subst (λ l. length l < most_winners) (sym c.self.view_is) c.requires.room)
    c.in_ok-insert.ensures.keys

pub returns-clause-more : goal.returns-clause-more
returns-clause-more c =
    put_rows c.self.inside.index.keys c.insert.new.self.keys c.args.winner
    (ap (λ l. row_of l c.args.winner.edge.key) c.self.view_is ∙ c.requires.new)
    c.in_ok-insert.ensures.keys
    ∙ ap (λ l. l ++ c.args.winner ∷ []) c.self.view_is

pub returns-clause-placed : goal.returns-clause-placed
returns-clause-placed c =
    place_last c.args.self.now c.insert.new.self.keys c.args.winner c.requires.new
    (put_rows c.self.inside.index.keys c.insert.new.self.keys c.args.winner
    (ap (λ l. row_of l c.args.winner.edge.key) c.self.view_is ∙ c.requires.new)
    c.in_ok-insert.ensures.keys
    ∙ ap (λ l. l ++ c.args.winner ∷ []) c.self.view_is)
