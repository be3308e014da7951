use Rattle.lineage.proofs.Telling.{fits_after}
use Rattle.lineage.proofs.judged.active_places.Goals as goal

pub returns-clause-fit : goal.returns-clause-fit
returns-clause-fit g c = fits_after g.met.P.PomSource.fits_on c.active.ensures.same
