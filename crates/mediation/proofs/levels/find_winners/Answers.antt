use Rattle.std.proofs.Common.{◌++◌, flat_map, subst, ◌∙◌}
use Rattle.mediation.specs.Rows.{ArePlaced}
use Rattle.mediation.proofs.levels.find_winners.Goals as goal

pub returns-in-Ok-clause-resolves : goal.returns-in-Ok-clause-resolves
returns-in-Ok-clause-resolves g c = λ libraries fits.
    c.in-Ok.ensures.resolves libraries c.args.direct.now (c.as_slice-declared.ensures ∙ c.in_ok-own.ensures) fits

pub returns-in-Ok-clause-placed : goal.returns-in-Ok-clause-placed
returns-in-Ok-clause-placed g c =
    subst (λ l. ArePlaced c.add_levels.new.winners (l ++ flat_map (λ edges. edges) c.add_levels.new.below) c.add_levels.new.places) c.as_slice-declared.ensures c.in-Ok.ensures.placed

pub returns-in-Err-clause-resolves : goal.returns-in-Err-clause-resolves
returns-in-Err-clause-resolves g c = λ libraries fits.
    c.in-Err.ensures.resolves libraries c.args.direct.now (c.as_slice-declared.ensures ∙ c.in_ok-own.ensures) fits
