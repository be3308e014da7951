-- What calls of a source come to, all together.
use Rattle.std.proofs.Common.{◌≡◌, ℕ, Bool, Option, Some, None, refl, sym, subst, ◌∙◌}
use Rattle.mvn_shared.specs.Cause.{HasCause}
use Rattle.mvn_shared.specs.Files.{Files}
use Rattle.mvn_outside.specs.declared.shelf.ShelfTold.{ShelfTold}
use Rattle.profiles.specs.Judging.{TellsOn}
use Rattle.profiles.specs.Judging.TellsOn.{here, onward}
use Rattle.model_resolver.specs.Devices.{Counted, Counts, Keeps, Standing, is_remote, is_shelf, is_tree}
use Rattle.model_resolver.specs.Resolving.{TellsSame, standing}
use Rattle.model_resolver.specs.declared.failures.PomDevice.{PomDevice}
use Rattle.model_resolver.specs.declared.resolver.ModelResolver.{ModelResolver}

-- no call
counted_none : (first : Option PomDevice) (counts : Counts) → Counted first first counts counts
counted_none None counts = (refl, refl, refl)
counted_none (Some device) counts = (refl, refl)

cause_then : (failed : Bool) (a b c : ℕ) → b ≡ a → HasCause b c failed → HasCause a c failed
cause_then failed a b c same cause = subst (λ n. HasCause n c failed) same cause

first_quiet : (now : Option PomDevice) (a b c : Counts) → Counted None None a b → Counted None now b c → Counted None now a c
first_quiet now a b c one two = (cause_then (is_tree now) a.tree b.tree c.tree one.0 two.0, cause_then (is_shelf now) a.shelf b.shelf c.shelf one.1 two.1, cause_then (is_remote now) a.remote b.remote c.remote one.2 two.2)

-- some calls after others
counted_twice : (first mid now : Option PomDevice) (a b c : Counts) → Counted first mid a b → Counted mid now b c → Counted first now a c
counted_twice None None now a b c one two = first_quiet now a b c one two
counted_twice None (Some d) now a b c one two = subst (λ f. Counted None f a c) (sym two.0) (subst (λ n. Counted None (Some d) a n) (sym two.1) one)
counted_twice (Some d) mid now a b c one two =
    let second = subst (λ f. Counted f now b c) one.0 two in
    (second.0, second.1 ∙ one.1)

-- no call of a resolver, and some calls after others
keeps_none : (s : Standing) → Keeps s s
keeps_none s = record { told = refl; project = refl; counted = counted_none s.failures.first s.counts; noted = λ counted. counted }

keeps_twice : (a b c : Standing) → Keeps a b → Keeps b c → Keeps a c
keeps_twice a b c one two = record {
  told = two.told ∙ one.told;
  project = two.project ∙ one.project;
  counted = counted_twice a.failures.first b.failures.first c.failures.first a.counts b.counts c.counts one.counted two.counted;
  noted = λ counted. two.noted (one.noted counted);
}

module _ {T S R : Type 0} (tree_told : T → Option Files) (tree_faults : T → ℕ) (shelf_told : S → Option ShelfTold) (shelf_faults : S → ℕ)
    (remote_told : R → Option Files) (remote_faults : R → ℕ) where
  abbrev Same : ModelResolver T S R → ModelResolver T S R → Type 0
  Same = TellsSame tree_told tree_faults shelf_told shelf_faults remote_told remote_faults

  abbrev stands : ModelResolver T S R → Standing
  stands = standing tree_told tree_faults shelf_told shelf_faults remote_told remote_faults

  -- no call leaves all as it was, and two leave what one does
  pub same_none : (r : ModelResolver T S R) → Same r r
  same_none r = record { tree = refl; shelf = refl; remote = refl; keeps = keeps_none (stands r) }

  pub same_twice : (a b c : ModelResolver T S R) → Same a b → Same b c → Same a c
  same_twice a b c one two = record {
    tree = two.tree ∙ one.tree;
    shelf = two.shelf ∙ one.shelf;
    remote = two.remote ∙ one.remote;
    keeps = keeps_twice (stands a) (stands b) (stands c) one.keeps two.keeps;
  }

  -- what a chain of calls leaves, one call leaves
  pub told_whole : {a b : ModelResolver T S R} → TellsOn Same a b → Same a b
  told_whole (here a) = same_none a
  told_whole (onward a b c is further) = same_twice a b c is (told_whole further)
