use Rattle.std.proofs.Common.{refl}
use Rattle.mvn_shared.specs.Files.{file_at, is_there}
use Rattle.tree_projects.specs.Poms.{files_in, found_in}
use Rattle.tree_projects.proofs.poms.MemPoms.fits_a_world.Goals as goal

pub returns : goal.returns
returns g c = (record { by_path = file_at (files_in c.args.self.now); by_gav = found_in c.args.self.now; there = is_there (files_in c.args.self.now) }, record { by_path = λ path. refl; by_gav = λ gav. refl; there = λ path. refl })
