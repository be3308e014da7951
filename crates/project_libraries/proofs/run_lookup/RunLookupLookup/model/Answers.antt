use Rattle.std.proofs.Common.{refl}
use Rattle.model_resolver.specs.Composing.{told_whole}
use Rattle.project_libraries.proofs.Running.{fits_still, fits_world, known_in, world_in}
use Rattle.project_libraries.proofs.run_lookup.RunLookupLookup.model.Goals as goal

pub returns-clause-tells : goal.returns-clause-tells
returns-clause-tells g c = λ libraries fits.
    known_in g.T.Tree.files g.T.Files.faults g.S.Shelf.told g.S.Shelf.faults g.R.Remote.files g.R.Remote.faults c.args.self.now libraries fits c.args.gav.now c.known_at.result
    (c.known_at.ensures.tells (world_in g.T.Tree.files g.T.Files.faults g.S.Shelf.told g.S.Shelf.faults g.R.Remote.files g.R.Remote.faults c.args.self.now libraries fits) c.args.self.now.own.now
    (fits_world g.T.Tree.files g.T.Files.faults g.S.Shelf.told g.S.Shelf.faults g.R.Remote.files g.R.Remote.faults c.args.self.now libraries fits) fits.holds fits.keeps)

pub returns-clause-alike : goal.returns-clause-alike
returns-clause-alike g c = record {
  source = told_whole g.T.Tree.files g.T.Files.faults g.S.Shelf.told g.S.Shelf.faults g.R.Remote.files g.R.Remote.faults c.known_at.ensures.same;
  given = refl;
  own = refl;
}

pub returns-clause-same : goal.returns-clause-same
returns-clause-same g c = λ libraries fits.
    let fit = fits_world g.T.Tree.files g.T.Files.faults g.S.Shelf.told g.S.Shelf.faults g.R.Remote.files g.R.Remote.faults c.args.self.now libraries fits in
    let world = world_in g.T.Tree.files g.T.Files.faults g.S.Shelf.told g.S.Shelf.faults g.R.Remote.files g.R.Remote.faults c.args.self.now libraries fits in
    fits_still g.T.Tree.files g.T.Files.faults g.S.Shelf.told g.S.Shelf.faults g.R.Remote.files g.R.Remote.faults c.args.self.now _ libraries
    (record {
      source = told_whole g.T.Tree.files g.T.Files.faults g.S.Shelf.told g.S.Shelf.faults g.R.Remote.files g.R.Remote.faults c.known_at.ensures.same;
      given = refl;
      own = refl;
    })
    fits (c.known_at.ensures.holds world fit fits.holds) (c.known_at.ensures.kept world c.args.self.now.own.now fit fits.holds fits.keeps)
