-- Plans that have too many events, and those that don't.
use Rattle.std.proofs.Common.{◌≡◌, ℕ, ◌≤◌, Bool, true, false, nat_lt, List, Option, Some, None, Result, Ok, Err, IfOk, IfSome, refl, sym, ap, subst, arith, if◌then◌else◌}
use Rattle.mvn_shared.specs.Files.{Files}
use Rattle.mvn_base.specs.declared.phase.Phase.{Phase}
use Rattle.pom_source.specs.Answers.{Built, Says}
use Rattle.pom_source.specs.declared.fault.BuildFault.{BuildFault}
use Rattle.module_plan.specs.Plans.{IsNumbered, all_events, most_events, numbered, plan_modules, plan_with, planned_with, present_in}
use Rattle.plan_numbers.specs.Whole.{numbered_if, numbered_of}
use Rattle.module_plan.specs.declared.selected.Planned.{Planned}
use Rattle.module_plan.specs.declared.selected.SelectedModule.{SelectedModule}
use Rattle.plan_numbers.specs.declared.whole.Numbered.{Numbered}
use Rattle.plan_numbers.specs.Stages.{IsAssembled, assembled, too_many}

-- whichever plan it is, it was given since it hasn't too many events
some_is : (b : Bool) (all n : Numbered) → Some n ≡ (if b then None else Some all) → (b ≡ false) × (n ≡ all)
some_is false all n is = (refl, same is)
  where
    same : Some n ≡ Some all → n ≡ all
    same p = cc
some_is true all n is = cc

none_is : (b : Bool) (all : Numbered) → None ≡ (if b then None else Some all) → b ≡ true
none_is true all is = refl
none_is false all is = cc

within : (n : ℕ) → nat_lt most_events n ≡ false → n ≤ most_events
within n e = grind arith

said_of : (phase : Phase) (workers : ℕ) (local : Files) (modules : List SelectedModule) (r : Result Planned BuildFault)
    → nat_lt most_events (all_events (plan_modules phase modules)) ≡ false
    → Says (Ok (assembled (numbered_of phase modules) workers (present_in local (numbered_of phase modules).files))) r → Says (numbered phase workers local modules) r
unfolding plan_with
said_of phase workers local modules r few said =
    let plan = assembled (numbered_of phase modules) workers (present_in local (numbered_of phase modules).files) in
    let allowed : numbered phase workers local modules ≡ Ok plan = ap (λ b. if b then too_many else Ok plan) few in
    subst (λ (s : Built Planned). Says s r) (sym allowed) said

-- what is said of the parts is said of the plan
pub said : (phase : Phase) (workers : ℕ) (local : Files) (modules : List SelectedModule) (n : Numbered) (r : Result Planned BuildFault)
    → Some n ≡ numbered_if phase modules → Says (Ok (assembled n workers (present_in local n.files))) r → Says (numbered phase workers local modules) r
said phase workers local modules n r given says =
    let few = some_is (nat_lt most_events (all_events (plan_modules phase modules))) (numbered_of phase modules) n given in
    said_of phase workers local modules r few.0 (subst (λ (m : Numbered). Says (Ok (assembled m workers (present_in local m.files))) r) few.1 says)

-- and so is the refusal
pub said_none : (phase : Phase) (workers : ℕ) (local : Files) (modules : List SelectedModule) (r : Result Planned BuildFault)
    → None ≡ numbered_if phase modules → Says too_many r → Says (numbered phase workers local modules) r
said_none phase workers local modules r none refused =
    let many = none_is (nat_lt most_events (all_events (plan_modules phase modules))) (numbered_of phase modules) none in
    let stops : numbered phase workers local modules ≡ too_many =
    ap (λ b. if b then too_many else Ok (planned_with phase workers (present_in local (numbered_of phase modules).files) modules)) many in
    subst (λ (s : Built Planned). Says s r) (sym stops) refused

made_of : (phase : Phase) (workers : ℕ) (modules : List SelectedModule) (p : Planned)
    → nat_lt most_events (all_events (plan_modules phase modules)) ≡ false → IsAssembled (numbered_of phase modules) workers p → IsNumbered phase workers modules p
unfolding plan_with
made_of phase workers modules p few made =
    record {
      present = made.present;
      each = made.each;
      is = made.is;
      few = subst (λ (q : Planned). q.plan.events ≤ most_events) (sym made.is) (within (all_events (plan_modules phase modules)) few);
    }

-- the plan is made of all modules
pub made : (phase : Phase) (workers : ℕ) (modules : List SelectedModule) (n : Numbered) (p : Planned)
    → Some n ≡ numbered_if phase modules → IsAssembled n workers p → IsNumbered phase workers modules p
made phase workers modules n p given is =
    let few = some_is (nat_lt most_events (all_events (plan_modules phase modules))) (numbered_of phase modules) n given in
    made_of phase workers modules p few.0 (subst (λ (m : Numbered). IsAssembled m workers p) few.1 is)

-- what is said where something is told
pub if_some_both : {A : Type 0} (P R Q : A → Type 0) (o : Option A) → ((a : A) → P a → R a → Q a) → IfSome o P → IfSome o R → IfSome o Q
if_some_both P R Q None h p r = tt
if_some_both P R Q (Some a) h p r = h a p r

-- what a result gives where something is told
pub swapped : {A B E : Type 0} (P : B → A → Type 0) (told : Option B) (r : Result A E) → IfOk r (λ x. IfSome told (λ t. P t x)) → IfSome told (λ t. IfOk r (λ x. P t x))
swapped P None r h = tt
swapped P (Some t) r h = h

-- what a result gives, weaker
pub ok_then : {A E : Type 0} (P Q : A → Type 0) (r : Result A E) → ((a : A) → P a → Q a) → IfOk r P → IfOk r Q
ok_then P Q (Ok a) f h = f a h
ok_then P Q (Err e) f h = tt
