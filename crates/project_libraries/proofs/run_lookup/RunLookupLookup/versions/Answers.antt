use Rattle.std.proofs.Common.{refl}
use Rattle.project_libraries.proofs.Running.{available_in, fits_still}
use Rattle.project_libraries.proofs.run_lookup.RunLookupLookup.versions.Goals as goal

pub returns-clause-tells : goal.returns-clause-tells
returns-clause-tells g c = λ libraries fits.
    available_in g.T.Tree.files g.T.Files.faults g.S.Shelf.told g.S.Shelf.faults g.R.Remote.files g.R.Remote.faults c.args.self.now libraries fits c.args.group.now c.args.artifact.now c.versions_in.result c.versions_in.ensures.tells

pub returns-clause-alike : goal.returns-clause-alike
returns-clause-alike g c = record { source = c.versions_in.ensures.same; given = refl; own = refl }

pub returns-clause-same : goal.returns-clause-same
returns-clause-same g c = λ libraries fits.
    fits_still g.T.Tree.files g.T.Files.faults g.S.Shelf.told g.S.Shelf.faults g.R.Remote.files g.R.Remote.faults c.args.self.now _ libraries (record { source = c.versions_in.ensures.same; given = refl; own = refl }) fits fits.holds fits.keeps
