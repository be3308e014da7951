use Rattle.std.proofs.Common.{◌≡◌, ◌||◌, List, drop}
use Rattle.mvn_base.specs.declared.refusal.PomId.{PomId}
use Rattle.lineage.specs.Stores.{meets}
use Rattle.effective.proofs.below.united.Given as goal

abbrev pub invariant-loop-pom : goal.invariant-loop-pom
invariant-loop-pom l = (seen : List PomId) → (meets l.all seen || meets (drop l.pom-index l.pom-items) seen) ≡ (meets l.initial.all seen || meets l.pom-items seen)
