-- Whom an import that is kept serves. Project rule.
use Rattle.std.specs.Prelude.{ℕ, nat_le, Bool, not, ◌&&◌, List}
use Rattle.mvn_base.specs.declared.refusal.PomId.{PomId}
use Rattle.lineage.specs.Stores.{meets}
use Rattle.effective.specs.declared.below.Below.{Below}

-- so many POMs more may be built as are built below, and none of those below is being built
abbrev pub serves : ℕ → List PomId → Below → Bool
serves left building below = nat_le below.depth left && not (meets below.poms building)
