use Rattle.std.proofs.Common.{◌∷◌, ◌++◌, refl}
use Rattle.graph_lines.specs.Held.{known_of, models_in, told_of, versions_in}
use Rattle.graph_lines.proofs.libraries.MemLibraries.fits_libraries.Goals as goal

pub returns : goal.returns
returns c = (
  record {
    at = λ gav. known_of (models_in c.args.self.now gav);
    versions = λ group artifact. told_of (versions_in c.args.self.now (group ++ 58 ∷ artifact));
  },
  record { at = λ gav. refl; versions_of = λ group artifact. refl },
)
