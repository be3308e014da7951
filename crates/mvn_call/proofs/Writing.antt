-- A call from what was answered and what was written.
use Rattle.std.proofs.Common.{◌≡◌, ℕ, ◌<◌, ◌⊎◌, inl, inr, List, [], Option, Some, None, Result, Ok, Err, IfOk, IfSome, refl, sym, ap, subst, ◌∙◌, arith}
use Rattle.std.proofs.lemmas.List.{append-nil}
use Rattle.mvn_shared.specs.declared.memory.OutOfMemory.{OutOfMemory}
use Rattle.mvn_shared.specs.Files.{Files}
use Rattle.mvn_shared.specs.Cause.{HasRisen}
use Rattle.mvn_shared.specs.Told.{gains}
use Rattle.mvn_base.specs.declared.machine.Machine.{Machine}
use Rattle.mvn_outside.specs.Shelf.{IsSettled}
use Rattle.mvn_outside.specs.declared.shelf.ShelfTold.{ShelfTold}
use Rattle.cli_words.specs.declared.command_line.CommandLine.{CommandLine}
use Rattle.build_core.specs.declared.event.Answered.{Answered}
use Rattle.build_core.specs.declared.event.Event.{Event}
use Rattle.build_outcome.specs.declared.outcome.Outcome.{Outcome}
use Rattle.build_outcome.specs.Left.{AreEmpty}
use Rattle.mvn_call.specs.Calls.{Calls}
use Rattle.call_plan.specs.Ending.{IsWhole, Ends, IsFault, IsLow, HasNone, without_memory}
use Rattle.call_plan.specs.Headline.{Comes, IsCall, IsOutcome, IsUnchanged, IsWanted, NoneFailed, OneFailed}
use Rattle.call_plan.specs.Seen.{After, IfAllTell, LeavesSo, Seen, used}
use Rattle.call_laws.specs.Reruns.{IsCallAgain}
use Rattle.call_laws.proofs.Recalling.{call_again}
use Rattle.mvn_call.proofs.Telling.{all_map}

leaves_more : (told : ShelfTold) (now : Option ShelfTold) (R Q : Files → Files → Type 0) → ((a b : Files) → R a b → Q a b) → LeavesSo told now R → LeavesSo told now Q
leaves_more told now R Q h left = (left.0, left.1, h _ _ left.2)

call_is : (asked : Result CommandLine Outcome) (files there : Files) (machine : Machine) (answers : List Answered) (wanted : Outcome) (status : ℕ) (written now : Option (List ℕ)) (before after : Files) → IsWhole wanted status written now → IsOutcome asked files there machine answers wanted before after → IsCall asked files there machine answers status written now before after
call_is asked files there machine answers wanted status written now before after whole (found, is, all) =
    (found, is, λ world agrees. let so = all world agrees in (subst (λ (o : Outcome). IsWhole o status written now) so.0 whole, so.1))

call_low : (asked : Result CommandLine Outcome) (files there : Files) (machine : Machine) (answers : List Answered) (out : Result Outcome OutOfMemory) (status : ℕ) (written now : Option (List ℕ)) (told : ShelfTold) (after : Option ShelfTold)
    → IfOk out (λ wanted. status < 3 → IsWhole wanted status written now) → (status < 3 → IsLow out) → IfOk out (λ wanted. wanted.status < 3 → LeavesSo told after (IsOutcome asked files there machine answers wanted))
    → status < 3 → LeavesSo told after (IsCall asked files there machine answers status written now)
call_low asked files there machine answers (Ok wanted) status written now told after whole low h = λ l.
    leaves_more told after (IsOutcome asked files there machine answers wanted) (IsCall asked files there machine answers status written now)
    (λ a b r. call_is asked files there machine answers wanted status written now a b (whole l) r) (h (low l))
call_low asked files there machine answers (Err x) status written now told after whole low h = λ l. absurd (low l)

pub call_of : (asked : Result CommandLine Outcome) (seen : Seen) (after : After) (trace : List Event) (answers : List Answered) (out : Result Outcome OutOfMemory) (status : ℕ) (written now : Option (List ℕ)) → Calls asked seen after trace answers out
    → IfOk out (λ wanted. status < 3 → IsWhole wanted status written now) → (status < 3 → IsLow out)
    → IfAllTell asked seen (λ files told there. status < 3 → LeavesSo told after.outside.shelf (IsCall asked files there seen.machine answers status written now))
call_of asked seen after trace answers out status written now is whole low =
    all_map seen.tree seen.outside.shelf (used asked seen.outside).hands (λ files told there. IfOk out (λ wanted. wanted.status < 3 → LeavesSo told after.outside.shelf (IsOutcome asked files there seen.machine answers wanted)))
    (λ files told there. status < 3 → LeavesSo told after.outside.shelf (IsCall asked files there seen.machine answers status written now))
    (λ files told there p. call_low asked files there seen.machine answers out status written now told after.outside.shelf whole low p) is.outcome

-- so it is one that is made again
pub again_of : (asked : Result CommandLine Outcome) (seen : Seen) (after : After) (trace : List Event) (answers : List Answered) (out : Result Outcome OutOfMemory) (status : ℕ) (written now : Option (List ℕ)) → Calls asked seen after trace answers out
    → IfOk out (λ wanted. status < 3 → IsWhole wanted status written now) → (status < 3 → IsLow out)
    → IfAllTell asked seen (λ files told there. status < 3 → LeavesSo told after.outside.shelf (IsCallAgain asked files there seen.machine answers status written now))
again_of asked seen after trace answers out status written now is whole low =
    all_map seen.tree seen.outside.shelf (used asked seen.outside).hands (λ files told there. status < 3 → LeavesSo told after.outside.shelf (IsCall asked files there seen.machine answers status written now))
    (λ files told there. status < 3 → LeavesSo told after.outside.shelf (IsCallAgain asked files there seen.machine answers status written now))
    (λ files told there call l. leaves_more told after.outside.shelf (IsCall asked files there seen.machine answers status written now) (IsCallAgain asked files there seen.machine answers status written now)
    (λ before left. call_again asked files there before seen.machine answers status written now left) (call l))
    (call_of asked seen after trace answers out status written now is whole low)

-- ---- what is written

gains_nothing : (told : Option (List ℕ)) → told ≡ gains told []
gains_nothing None = refl
gains_nothing (Some told) = ap (λ (x : List ℕ). Some x) (sym (append-nil told))

four_is_high : (n : ℕ) → n ≡ 4 → n < 3 → ⊥
four_is_high n e lt = omega (arith, e, lt)

four_is_not_three : (n : ℕ) → n ≡ 4 → n ≡ 3 → ⊥
four_is_not_three n e f = omega (arith, e, f)

pub none_ends : (wanted : Outcome) (status : ℕ) (written now : Option (List ℕ)) (sink_before sink_now : ℕ) → status ≡ 4 → now ≡ written → Ends wanted status written now sink_before sink_now
none_ends wanted status written now sink_before sink_now four same = record {
  cut = (0, same ∙ gains_nothing written);
  whole = λ l. absurd (four_is_high status four l);
  complete = λ d q l. absurd (d four);
  fault = λ three d. absurd (four_is_not_three status four three);
  memory = λ f. four;
}

ends_by : (asked : Result CommandLine Outcome) (seen : Seen) (after : After) (trace : List Event) (answers : List Answered) (out : Result Outcome OutOfMemory) (status : ℕ) (written now : Option (List ℕ)) (sink_before sink_now : ℕ)
    → IfOk out (Comes asked seen after trace answers) → IfOk out (λ wanted. Ends wanted status written now sink_before sink_now) → HasNone out status written now
    → (wanted : Outcome) × IsWanted asked seen after trace answers wanted × Ends wanted status written now sink_before sink_now
ends_by asked seen after trace answers (Ok wanted) status written now sink_before sink_now comes ends none = (wanted, inl comes, ends)
ends_by asked seen after trace answers (Err x) status written now sink_before sink_now comes ends none =
    (without_memory, inr refl, none_ends without_memory status written now sink_before sink_now none.0 none.1)

pub call_ends : (asked : Result CommandLine Outcome) (seen : Seen) (after : After) (trace : List Event) (answers : List Answered) (out : Result Outcome OutOfMemory) (status : ℕ) (written now : Option (List ℕ)) (sink_before sink_now : ℕ) → Calls asked seen after trace answers out
    → IfOk out (λ wanted. Ends wanted status written now sink_before sink_now) → HasNone out status written now
    → (wanted : Outcome) × IsWanted asked seen after trace answers wanted × Ends wanted status written now sink_before sink_now
call_ends asked seen after trace answers out status written now sink_before sink_now is ends none = ends_by asked seen after trace answers out status written now sink_before sink_now is.comes ends none

-- ---- by the status

status_of : (out : Result Outcome OutOfMemory) (status : ℕ) (written now : Option (List ℕ)) (P : Outcome → Type 0) (Q : Type 0) → status < 3 → IfOk out (λ wanted. status < 3 → IsWhole wanted status written now) → (status < 3 → IsLow out)
    → IfOk out P → ((wanted : Outcome) → status ≡ wanted.status → P wanted → Q) → Q
status_of (Ok wanted) status written now P Q l whole low p h = h wanted (whole l).same_status p
status_of (Err x) status written now P Q l whole low p h = absurd (low l)

two_is_low : (n : ℕ) → n ≡ 2 → n < 3
two_is_low n e = omega (arith, e)

lower_is_low : (n : ℕ) → n < 2 → n < 3
lower_is_low n lt = omega (arith, lt)

low_again : (n m : ℕ) → n ≡ m → n < 2 → m < 2
low_again n m e lt = omega (arith, e, lt)

low_still : (n m : ℕ) → n ≡ m → n < 3 → m < 3
low_still n m e lt = omega (arith, e, lt)

module _ (asked : Result CommandLine Outcome) (seen : Seen) (after : After) (trace : List Event) (answers : List Answered) (out : Result Outcome OutOfMemory) (status : ℕ) (written now : Option (List ℕ)) (is : Calls asked seen after trace answers out)
    (whole : IfOk out (λ wanted. status < 3 → IsWhole wanted status written now)) (low : status < 3 → IsLow out) where
  pub call_refused : status ≡ 2 → IsUnchanged seen after trace answers
  call_refused two = status_of out status written now (λ wanted. wanted.status ≡ 2 → IsUnchanged seen after trace answers) _ (two_is_low status two) whole low is.refused (λ wanted same refused. refused (sym same ∙ two))

  pub call_settled : status < 2 → IfSome after.outside.shelf IsSettled
  call_settled l = status_of out status written now (λ wanted. wanted.status < 2 → IfSome after.outside.shelf IsSettled) _ (lower_is_low status l) whole low is.settled (λ wanted same settled. settled (low_again status wanted.status same l))

  pub call_areas : status < 2 → AreEmpty (used asked after.outside).hands
  call_areas l = status_of out status written now (λ wanted. wanted.status < 2 → AreEmpty (used asked after.outside).hands) _ (lower_is_low status l) whole low is.areas (λ wanted same areas. areas (low_again status wanted.status same l))

  pub call_quiet : status < 3 → NoneFailed asked seen after
  call_quiet l = status_of out status written now (λ wanted. wanted.status < 3 → NoneFailed asked seen after) _ l whole low is.quiet (λ wanted same quiet. quiet (low_still status wanted.status same l))

fault_by : (out : Result Outcome OutOfMemory) (A : Type 0) (sink_before sink_now : ℕ) → IfOk out (λ answer. answer.status ≡ 3 → A) → IsFault out ⊎ HasRisen sink_before sink_now → HasRisen sink_before sink_now ⊎ A
fault_by out A sink_before sink_now fault (inr sink) = inl sink
fault_by (Ok wanted) A sink_before sink_now fault (inl three) = inr (fault three)
fault_by (Err x) A sink_before sink_now fault (inl three) = absurd three

pub call_fault : (asked : Result CommandLine Outcome) (seen : Seen) (after : After) (trace : List Event) (answers : List Answered) (out : Result Outcome OutOfMemory) (status sink_before sink_now : ℕ) → Calls asked seen after trace answers out → (status ≡ 3 → IsFault out ⊎ HasRisen sink_before sink_now)
    → status ≡ 3 → HasRisen sink_before sink_now ⊎ OneFailed asked seen after
call_fault asked seen after trace answers out status sink_before sink_now is fault three = fault_by out (OneFailed asked seen after) sink_before sink_now is.fault (fault three)
