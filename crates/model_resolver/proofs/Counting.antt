-- The counts of the devices, call by call.
use Rattle.std.proofs.Common.{◌≡◌, ℕ, Bool, true, false, Option, Some, None, refl, sym, ap, ◌∙◌, subst, arith}
use Rattle.std.specs.Prelude.{nat_lt, is_some}
use Rattle.mvn_shared.specs.Cause.{HasCause, HasRisen}
use Rattle.model_resolver.specs.Devices.{Counted, Counts, IsCounted, Keeps, Standing, is_tree, is_shelf, is_remote}
use Rattle.mvn_shared.specs.Files.{Files}
use Rattle.mvn_outside.specs.declared.shelf.ShelfTold.{ShelfTold}
use Rattle.model_resolver.specs.Resolving.{TellsSame, standing}
use Rattle.model_resolver.specs.declared.resolver.ModelResolver.{ModelResolver}
use Rattle.model_resolver.specs.Noting.{first_after, first_noted}
use Rattle.model_resolver.specs.declared.failures.Failures.{Failures}
use Rattle.model_resolver.specs.declared.failures.PomDevice.{PomDevice}
use Rattle.model_resolver.specs.declared.failures.PomDevice.TheVariants.{Tree, Shelf, Remote}

by_tree : (failed : Bool) (a b s r : ℕ) → HasCause a b failed
    → Counted None (first_after Tree failed None) (record { tree = a; shelf = s; remote = r }) (record { tree = b; shelf = s; remote = r })
by_tree true a b s r cause = (cause, refl, refl)
by_tree false a b s r cause = (cause, refl, refl)

-- the tree was asked, and none failed before
pub counted_tree : (old now : Option PomDevice) (failed : Bool) (a b s r : ℕ) → old ≡ None → now ≡ first_after Tree failed old → HasCause a b failed
    → Counted old now (record { tree = a; shelf = s; remote = r }) (record { tree = b; shelf = s; remote = r })
counted_tree None now failed a b s r none is cause = subst (λ f. Counted None f (record { tree = a; shelf = s; remote = r }) (record { tree = b; shelf = s; remote = r })) (sym is) (by_tree failed a b s r cause)
counted_tree (Some d) now failed a b s r none is cause = cc

by_shelf : (failed : Bool) (t a b r : ℕ) → HasCause a b failed
    → Counted None (first_after Shelf failed None) (record { tree = t; shelf = a; remote = r }) (record { tree = t; shelf = b; remote = r })
by_shelf true t a b r cause = (refl, cause, refl)
by_shelf false t a b r cause = (refl, cause, refl)

pub counted_shelf : (old now : Option PomDevice) (failed : Bool) (t a b r : ℕ) → old ≡ None → now ≡ first_after Shelf failed old → HasCause a b failed
    → Counted old now (record { tree = t; shelf = a; remote = r }) (record { tree = t; shelf = b; remote = r })
counted_shelf None now failed t a b r none is cause = subst (λ f. Counted None f (record { tree = t; shelf = a; remote = r }) (record { tree = t; shelf = b; remote = r })) (sym is) (by_shelf failed t a b r cause)
counted_shelf (Some d) now failed t a b r none is cause = cc

by_remote : (failed : Bool) (t s a b : ℕ) → HasCause a b failed
    → Counted None (first_after Remote failed None) (record { tree = t; shelf = s; remote = a }) (record { tree = t; shelf = s; remote = b })
by_remote true t s a b cause = (refl, refl, cause)
by_remote false t s a b cause = (refl, refl, cause)

pub counted_remote : (old now : Option PomDevice) (failed : Bool) (t s a b : ℕ) → old ≡ None → now ≡ first_after Remote failed old → HasCause a b failed
    → Counted old now (record { tree = t; shelf = s; remote = a }) (record { tree = t; shelf = s; remote = b })
counted_remote None now failed t s a b none is cause = subst (λ f. Counted None f (record { tree = t; shelf = s; remote = a }) (record { tree = t; shelf = s; remote = b })) (sym is) (by_remote failed t s a b cause)
counted_remote (Some d) now failed t s a b none is cause = cc

-- no device was asked, since one failed before
pub counted_still : (old now : Option PomDevice) (device : PomDevice) (counts : Counts) → is_some old ≡ true → now ≡ first_noted device old → Counted old now counts counts
counted_still (Some first) now device counts some is = (is, refl)
counted_still None now device counts some is = cc

risen_some : (device : PomDevice) (first : Option PomDevice) (a b : ℕ) → HasRisen a b → is_some (first_noted device first) ≡ nat_lt 0 b
risen_some device None a b risen = grind arith
risen_some device (Some first) a b risen = grind arith

by_call : (device : PomDevice) (failed : Bool) (old now : Failures) → now.first ≡ first_after device failed old.first → HasCause old.count now.count failed → IsCounted old → IsCounted now
by_call device false old now is cause counted = ap is_some is ∙ counted ∙ ap (nat_lt 0) (sym cause)
by_call device true old now is cause counted = ap is_some is ∙ risen_some device old.first old.count now.count cause

-- a call that failed is counted, and no other
pub counts_on : (device : PomDevice) (failed : Bool) (old now : Failures) → now.first ≡ first_after device failed old.first → HasCause old.count now.count failed → IsCounted old → IsCounted now
counts_on device failed old now is cause counted = by_call device failed old now is cause counted

-- and the same where none is asked any more
pub counts_still : (device : PomDevice) (old now : Failures) → now.first ≡ first_noted device old.first → HasRisen old.count now.count → IsCounted old → IsCounted now
counts_still device old now is risen counted = by_call device true old now is risen counted

-- no call
pub counted_none : (first : Option PomDevice) (counts : Counts) → Counted first first counts counts
counted_none None counts = (refl, refl, refl)
counted_none (Some device) counts = (refl, refl)

cause_then : (failed : Bool) (a b c : ℕ) → b ≡ a → HasCause b c failed → HasCause a c failed
cause_then failed a b c same cause = subst (λ n. HasCause n c failed) same cause

first_quiet : (now : Option PomDevice) (a b c : Counts) → Counted None None a b → Counted None now b c → Counted None now a c
first_quiet now a b c one two = (cause_then (is_tree now) a.tree b.tree c.tree one.0 two.0, cause_then (is_shelf now) a.shelf b.shelf c.shelf one.1 two.1, cause_then (is_remote now) a.remote b.remote c.remote one.2 two.2)

-- some calls after others
pub counted_twice : (first mid now : Option PomDevice) (a b c : Counts) → Counted first mid a b → Counted mid now b c → Counted first now a c
counted_twice None None now a b c one two = first_quiet now a b c one two
counted_twice None (Some d) now a b c one two = subst (λ f. Counted None f a c) (sym two.0) (subst (λ n. Counted None (Some d) a n) (sym two.1) one)
counted_twice (Some d) mid now a b c one two =
    let second = subst (λ f. Counted f now b c) one.0 two in
    (second.0, second.1 ∙ one.1)

-- no call of a resolver, and some calls after others
pub keeps_none : (s : Standing) → Keeps s s
keeps_none s = record { told = refl; project = refl; counted = counted_none s.failures.first s.counts; noted = λ counted. counted }

pub keeps_twice : (a b c : Standing) → Keeps a b → Keeps b c → Keeps a c
keeps_twice a b c one two = record {
  told = two.told ∙ one.told;
  project = two.project ∙ one.project;
  counted = counted_twice a.failures.first b.failures.first c.failures.first a.counts b.counts c.counts one.counted two.counted;
  noted = λ counted. two.noted (one.noted counted);
}

module _ {T S R : Type 0} (tree_told : T → Option Files) (tree_faults : T → ℕ) (shelf_told : S → Option ShelfTold) (shelf_faults : S → ℕ)
    (remote_told : R → Option Files) (remote_faults : R → ℕ) where
  abbrev Same : ModelResolver T S R → ModelResolver T S R → Type 0
  Same = TellsSame tree_told tree_faults shelf_told shelf_faults remote_told remote_faults

  abbrev stands : ModelResolver T S R → Standing
  stands = standing tree_told tree_faults shelf_told shelf_faults remote_told remote_faults

  pub same_none : (r : ModelResolver T S R) → Same r r
  same_none r = record { tree = refl; shelf = refl; remote = refl; keeps = keeps_none (stands r) }

  pub same_twice : (a b c : ModelResolver T S R) → Same a b → Same b c → Same a c
  same_twice a b c one two = record {
    tree = two.tree ∙ one.tree;
    shelf = two.shelf ∙ one.shelf;
    remote = two.remote ∙ one.remote;
    keeps = keeps_twice (stands a) (stands b) (stands c) one.keeps two.keeps;
  }
