-- Where nothing is built.
use Rattle.std.proofs.Common.{◌≡◌, inl, inr, ◌<◌, ℕ, List, [], ◌++◌, map, Option, Some, None, Result, Ok, Err, IfOk, refl, sym, ap, subst, arith}
use Rattle.std.proofs.lemmas.List.{append-nil}
use Rattle.mvn_shared.specs.declared.memory.OutOfMemory.{OutOfMemory}
use Rattle.mvn_outside.specs.declared.shelf.Published.{Published}
use Rattle.mvn_outside.specs.declared.shelf.ShelfTold.{ShelfTold}
use Rattle.build_core.specs.declared.event.Answered.{Answered}
use Rattle.build_core.specs.declared.event.Event.{Event}
use Rattle.build_core.specs.declared.plan.Plan.{Plan}
use Rattle.report.specs.declared.details.Details.{Details}
use Rattle.crew.specs.declared.build.BuildError.TheVariants.{Memory}
use Rattle.crew_turns.specs.Hands.{HandState}
use Rattle.build_outcome.specs.Finished.{AreSwept}
use Rattle.build_outcome.specs.Left.{AreaFailed, IsIdle, Outside, TellAsBefore, outside_by}
use Rattle.build_outcome.specs.Once.{PublishesOnce}
use Rattle.build_outcome.specs.Outcomes.{area_fault}
use Rattle.build_outcome.specs.Reports.{Reports}
use Rattle.build_outcome.specs.declared.build.Call.{Call}
use Rattle.build_outcome.specs.declared.outcome.Outcome.{Outcome}
use Rattle.build_outcome.proofs.Endings.{not_low, of_three}

-- nothing is published
same_once : (told : Option ShelfTold) → PublishesOnce told told
same_once None = refl
same_once (Some told) = ([], told.settled, ap (λ (ps : List Published). Some (record { opening = told.opening; publishes = ps; settled = told.settled })) (sym (append-nil told.publishes)), tt, omega arith)

module _ (plan : Plan) (details : List Details) (before now : Outside) (trace : List Event) (answers : List Answered) (idle : IsIdle before now trace answers) (tells : TellAsBefore before.hands now.hands) where
  once : PublishesOnce before.shelf now.shelf
  once = subst (λ told. PublishesOnce before.shelf told) (sym idle.2) (same_once before.shelf)

  -- memory ran out
  pub without_memory : (outcome : Result Outcome OutOfMemory) (e : OutOfMemory) → outcome ≡ Err e → Reports plan details before now trace answers outcome
  without_memory outcome e is = subst (λ o. Reports plan details before now trace answers o) (sym is)
      (record { as_one = tt; settled = tt; areas = tt; quiet = tt; fault = tt; bound = tt; comes = tt; history = inl idle; tells = tells; once = once })

  -- so where there is no answer
  pub no_answer : (outcome : Result Outcome OutOfMemory) → IfOk outcome (λ answer. ⊥) → Reports plan details before now trace answers outcome
  no_answer (Ok answer) none = absurd none
  no_answer (Err e) none = without_memory (Err e) e refl

  -- an area couldn't be swept
  pub area_told : (outcome : Result Outcome OutOfMemory) → IfOk outcome (λ answer. answer ≡ area_fault) → IfOk outcome (λ answer. answer.status ≡ 3) → AreaFailed before.hands now.hands → Reports plan details before now trace answers outcome
  area_told (Err e) is three failed = without_memory (Err e) e refl
  area_told (Ok answer) is three failed = record {
    as_one = λ low. absurd (not_low answer.status three low);
    settled = λ low. absurd (not_low answer.status three low);
    areas = λ low. absurd (not_low answer.status three low);
    quiet = λ low. absurd (not_low answer.status three low);
    fault = λ at. inl (failed.0, failed.1, inr (inl failed.2));
    bound = of_three answer.status three;
    comes = inl (idle, is, failed);
    history = inl idle;
    tells = tells;
    once = once;
  }

-- swept hands tell what they told
pub swept_tell : (before now : List HandState) → AreSwept before now → TellAsBefore before now
swept_tell before now is = record { many = is.many; each = λ w low. ap (λ (h : HandState). h.told) (is.each w low) }

-- the repository that comes back is the one that was given
pub memory_is : {S : Type 0} (x y : S) → Memory x ≡ Memory y → x ≡ y
memory_is x y e = cc

-- there was no memory to begin: the repository comes back, and the hands are as they were swept
pub nothing_built : {S H : Type 0} (told : S → Option ShelfTold) (faults : S → ℕ) (state : H → HandState) (plan : Plan) (details : List Details) (opening : S) (old new : List H) (before : List HandState) (call : Call S)
    → AreSwept before (map state old) → new ≡ old → call.devices ≡ opening → call.trace ≡ [] → call.answers ≡ [] → IfOk call.outcome (λ answer. ⊥)
    → Reports plan details (record { shelf = told opening; faults = faults opening; hands = before }) (outside_by told faults state call.devices new) call.trace call.answers call.outcome
nothing_built told faults state plan details opening old new before call swept same shelf trace answers none =
    no_answer plan details (record { shelf = told opening; faults = faults opening; hands = before }) (outside_by told faults state call.devices new) call.trace call.answers (trace, answers, ap told shelf)
    (subst (λ hands. TellAsBefore before (map state hands)) (sym same) (swept_tell before (map state old) swept)) call.outcome none
