-- From the POM that is asked for to what it builds on.
use Rattle.std.proofs.Common.{◌≡◌, ℕ, List, Option, None, Some, Result, Ok, Err, refl, sym, ap, ◌∙◌}
use Rattle.mvn_base.specs.declared.gav.Gav.{Gav}
use Rattle.model_types.specs.declared.dependency.Dependency.{Dependency}
use Rattle.model_types.specs.declared.model.RawModel.{RawModel}
use Rattle.pom_source.specs.Answers.{Built, Fails, Says, ◌>>=◌}
use Rattle.pom_source.specs.Chains.{goes_on, stop_fails}
use Rattle.pom_source.specs.Worlds.{World}
use Rattle.pom_source.specs.declared.fault.BuildFault.{BuildFault}
use Rattle.pom_source.specs.declared.found.Given.{Given}
use Rattle.lineage.specs.Beside.{read_at}
use Rattle.lineage.specs.Lineage.{lineage}
use Rattle.lineage.specs.declared.joined.Joined.{Joined}
use Rattle.model_steps.specs.Folders.{filled}
use Rattle.effective.specs.Effective.{asked_path, full, if_there, managed_of, whole}

-- the POM that is asked for by its path was read there
there : (said : Built (Option RawModel)) (raw : RawModel) → (said >>= if_there) ≡ Ok raw → said ≡ Ok (Some raw)
there (Ok (Some x)) raw e = ap (λ (o : Built RawModel). o >>= (λ y. Ok (Some y))) e
there (Ok None) raw e = cc
there (Err fault) raw e = cc

pub read_there : (world : World) (path : List ℕ) (raw : RawModel) → asked_path world path ≡ Ok raw → read_at world path ≡ Ok (Some raw)
read_there world path raw e = there (read_at world path) raw e

module _ (world : World) (given : Given) where
  -- what was joined is filled
  pub full_says : (raw : RawModel) (joined : Joined) (r : Result RawModel BuildFault) → lineage world given raw ≡ Ok joined → Says (filled given joined.model) r → Says (full world given raw) r
  full_says raw joined r is says = goes_on (lineage world given raw) (λ joined. filled given joined.model) joined r is says

  -- all steps stop where nothing can be joined
  pub whole_stops : (up : Gav → Built (List Dependency)) (raw : RawModel) (fault : BuildFault) → Fails (lineage world given raw) fault → Fails (whole world given up raw) fault
  whole_stops up raw fault fails = stop_fails (full world given raw) _ fault (stop_fails (lineage world given raw) _ fault fails)

  pub managed_stops : (up : Gav → Built (List Dependency)) (raw : RawModel) (fault : BuildFault) → Fails (lineage world given raw) fault → Fails (managed_of (whole world given up raw)) fault
  managed_stops up raw fault fails = stop_fails (whole world given up raw) _ fault (whole_stops up raw fault fails)
