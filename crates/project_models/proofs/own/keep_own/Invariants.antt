use Rattle.std.proofs.Common.{◌≡◌, [], Ok}
use Rattle.mvn_shared.specs.Files.{Files}
use Rattle.pom_source.specs.declared.found.Given.{Given}
use Rattle.lineage.specs.Stores.{Holds}
use Rattle.model_resolver.specs.Finding.{world_of}
use Rattle.project_models.specs.Found.{project_poms}
use Rattle.project_models.proofs.Leading.{Searched}
use Rattle.project_models.proofs.own.keep_own.Given as goal

abbrev pub invariant-loop-pom : goal.invariant-loop-pom
invariant-loop-pom l = record {
  holds : (tree local remote : Files) (given : Given) → Holds (world_of l.poms tree local remote) given l.initial.store
      → project_poms (world_of [] tree local remote) given ≡ Ok l.poms → Holds (world_of l.poms tree local remote) given l.store;
  searched : Searched l.store l.poms l.pom-index;
}
