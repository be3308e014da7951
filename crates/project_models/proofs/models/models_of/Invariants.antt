use Rattle.std.proofs.Common.{◌≡◌, drop, length}
use Rattle.std.specs.List.{AllByRecursion}
use Rattle.mvn_base.specs.declared.refusal.PomId.TheVariants as ids
use Rattle.profiles.specs.Judging.{TellsOn}
use Rattle.pom_source.specs.Worlds.{World}
use Rattle.effective.specs.Effective.{effective}
use Rattle.effective.specs.Kept.{HoldsAll}
use Rattle.effective.specs.Lawful.{IsLawful}
use Rattle.model_resolver.specs.declared.resolver.ProjectPom.{ProjectPom}
use Rattle.project_models.specs.Found.{models_of}
use Rattle.project_models.proofs.Each.{with_rest}
use Rattle.project_models.proofs.models.models_of.Given as goal

abbrev pub invariant-loop-pom : goal.invariant-loop-pom
invariant-loop-pom g l = record {
  fit : (world : World) → g.P.PomSource.fits_poms l.initial.source world → g.P.PomSource.fits_poms l.source world;
  same : TellsOn g.P.Files.tells_same l.initial.source l.source;
  faults : g.P.Files.faults l.source ≡ g.P.Files.faults l.initial.source;
  count : length l.models ≡ l.pom-index;
  lawful : AllByRecursion IsLawful l.models;
  holds : (world : World) → g.P.PomSource.fits_poms l.initial.source world → HoldsAll world l.given l.initial.store → HoldsAll world l.given l.store;
  way : (world : World) → g.P.PomSource.fits_poms l.initial.source world → HoldsAll world l.given l.initial.store
      → with_rest (λ (p : ProjectPom). effective world l.given (ids.Path p.path)) l.models (drop l.pom-index l.poms) ≡ models_of world l.given l.poms;
}
