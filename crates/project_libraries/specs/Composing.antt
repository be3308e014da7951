-- What calls of a look-up come to, all together.
use Rattle.std.proofs.Common.{ℕ, Option, refl, ◌∙◌}
use Rattle.mvn_shared.specs.Files.{Files}
use Rattle.mvn_outside.specs.declared.shelf.ShelfTold.{ShelfTold}
use Rattle.mediation.specs.Telling.{TellsOn}
use Rattle.mediation.specs.Telling.TellsOn.{here, onward}
use Rattle.model_resolver.specs.Composing.{same_none, same_twice}
use Rattle.project_libraries.specs.Holding.{AlikeRun}
use Rattle.project_libraries.specs.declared.run_lookup.RunLookup.{RunLookup}

module _ {T S R : Type 0} (tree_told : T → Option Files) (tree_faults : T → ℕ) (shelf_told : S → Option ShelfTold) (shelf_faults : S → ℕ)
    (remote_told : R → Option Files) (remote_faults : R → ℕ) where
  abbrev Alike : RunLookup T S R → RunLookup T S R → Type 0
  Alike = AlikeRun tree_told tree_faults shelf_told shelf_faults remote_told remote_faults

  alike_none : (l : RunLookup T S R) → Alike l l
  alike_none l = record {
    source = same_none tree_told tree_faults shelf_told shelf_faults remote_told remote_faults l.source;
    given = refl;
    own = refl;
  }

  alike_twice : (a b c : RunLookup T S R) → Alike a b → Alike b c → Alike a c
  alike_twice a b c one two = record {
    source = same_twice tree_told tree_faults shelf_told shelf_faults remote_told remote_faults a.source b.source c.source one.source two.source;
    given = two.given ∙ one.given;
    own = two.own ∙ one.own;
  }

  -- what a chain of calls leaves, one call leaves
  pub alike_whole : {a b : RunLookup T S R} → TellsOn Alike a b → Alike a b
  alike_whole (here a) = alike_none a
  alike_whole (onward a b c is further) = alike_twice a b c is (alike_whole further)
