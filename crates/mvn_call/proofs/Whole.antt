-- All that `mvn` promises, of what was answered and is written.
use Rattle.std.proofs.Common.{◌≡◌, ◌≤◌, ℕ, List, [], Result, Ok, Err, IfOk, IfErr, refl, sym, ap, subst}
use Rattle.mvn_shared.specs.declared.memory.OutOfMemory.{OutOfMemory}
use Rattle.cli_words.specs.Options.{options}
use Rattle.cli_words.specs.declared.command_line.CommandLine.{CommandLine}
use Rattle.build_core.specs.declared.event.Answered.{Answered}
use Rattle.build_core.specs.declared.event.Event.{Event}
use Rattle.build_outcome.specs.Left.{Outside, TellAsBefore}
use Rattle.build_outcome.specs.declared.build.Call.{Call}
use Rattle.build_outcome.specs.declared.outcome.Outcome.{Outcome}
use Rattle.call_laws.proofs.Leaving.{left_behind}
use Rattle.call_laws.proofs.Numbering.{of_the_trace}
use Rattle.call_plan.specs.Commands.{asked}
use Rattle.call_plan.specs.Seen.{After, OthersStay, Seen}
use Rattle.mvn_call.specs.Calls.{Calls}
use Rattle.mvn_call.specs.Promises.{IsMvn, Says, Writes, Written}
use Rattle.mvn_call.specs.declared.ending.Ended.{Ended}
use Rattle.mvn_call.proofs.Calling.{calls_none, calls_words}
use Rattle.mvn_call.proofs.First.{same_tells}
use Rattle.mvn_call.proofs.Statuses.{words_status}
use Rattle.mvn_call.proofs.Stops.{stops_between}
use Rattle.mvn_call.proofs.Writing.{again_of, call_areas, call_ends, call_fault, call_of, call_quiet, call_refused, call_settled}

pub is_mvn : (said : Result CommandLine Outcome) (seen : Seen) (after : After) (trace : List Event) (answers : List Answered) (answer : Result Outcome OutOfMemory) (out : Written)
    → Calls said seen after trace answers answer → Writes answer out → IsMvn said seen after trace answers out
is_mvn said seen after trace answers answer out is wrote = record {
  outcome = call_of said seen after trace answers answer out.status out.before out.now is wrote.whole wrote.low;
  again = again_of said seen after trace answers answer out.status out.before out.now is wrote.whole wrote.low;
  remains = left_behind said seen after trace answers is.history;
  history = is.history;
  kept = of_the_trace said seen after trace answers is.history;
  causes = call_ends said seen after trace answers answer out.status out.before out.now out.faults out.count is wrote.ends wrote.none;
  refused = call_refused said seen after trace answers answer out.status out.before out.now is wrote.whole wrote.low;
  once = is.once;
  whole_files = stops_between seen.outside.shelf after.outside.shelf is.once;
  settled = call_settled said seen after trace answers answer out.status out.before out.now is wrote.whole wrote.low;
  areas = call_areas said seen after trace answers answer out.status out.before out.now is wrote.whole wrote.low;
  quiet = λ low. (wrote.quiet low, call_quiet said seen after trace answers answer out.status out.before out.now is wrote.whole wrote.low low);
  fault = call_fault said seen after trace answers answer out.status out.faults out.count is wrote.fault;
  bound = wrote.bound;
  tells = is.tells;
}

-- of what comes back
pub ended_mvn : {D : Type 0} (call : Call D) (ended : Ended D) (after : D → After) (said : Result CommandLine Outcome) (seen : Seen) (out : Written) → ended.devices ≡ call.devices → ended.trace ≡ call.trace → ended.answers ≡ call.answers
    → Calls said seen (after call.devices) call.trace call.answers call.outcome → Writes call.outcome out → IsMvn said seen (after ended.devices) ended.trace ended.answers out
ended_mvn call ended after said seen out devices trace answers is wrote =
    subst (λ d. IsMvn said seen (after d) ended.trace ended.answers out) (sym devices)
    (subst (λ (t : List Event). IsMvn said seen (after call.devices) t ended.answers out) (sym trace)
    (subst (λ (a : List Answered). IsMvn said seen (after call.devices) call.trace a out) (sym answers)
    (is_mvn said seen (after call.devices) call.trace call.answers call.outcome out is wrote)))

-- ---- what was asked

abbrev Answer : Type 0
Answer = Result (Result CommandLine Outcome) OutOfMemory

-- something is said by each answer, and one thing by one that is there
pub some_said : (answer : Answer) → (said : Result CommandLine Outcome) × Says answer said
some_said (Ok said) = (said, refl)
some_said (Err e) = (Err (record { text = []; status = 4 }), tt)

pub said_is : (answer : Answer) (a said : Result CommandLine Outcome) → answer ≡ Ok a → Says answer said → a ≡ said
said_is answer a said is says = subst (λ (r : Answer). IfOk r (λ b. b ≡ said)) is says

-- the words ask for it of so many hands
pub said_at : (answer : Answer) (words : List (List ℕ)) (hands many : ℕ) → hands ≡ many → IfOk answer (λ a. a ≡ asked words hands) → Says answer (asked words many)
said_at answer words hands many e says = subst (λ n. Says answer (asked words n)) e says

-- words that are refused are answered with status 2
pub words_two : (answer : Answer) (words : List (List ℕ)) (hands : ℕ) → IfOk answer (λ a. a ≡ asked words hands) → IfOk answer (λ said. IfErr said (λ outcome. outcome.status ≡ 2))
words_two (Ok (Ok line)) words hands says = tt
words_two (Ok (Err outcome)) words hands says = words_status (options words hands) outcome (sym says)
words_two (Err e) words hands says = tt

-- ---- nothing was done

-- what comes back is what was given
pub of_same : {D : Type 0} (now before : D) (after : D → After) (said : Result CommandLine Outcome) (seen : Seen) (trace : List Event) (answers : List Answered) (out : Result Outcome OutOfMemory)
    → now ≡ before → Calls said seen (after before) trace answers out → Calls said seen (after now) trace answers out
of_same now before after said seen trace answers out e is = subst (λ d. Calls said seen (after d) trace answers out) (sym e) is

pub all_stay : {D H : Type 0} (now before : D) (hands : D → List H) (said : Result CommandLine Outcome) → now ≡ before → OthersStay said (hands before) (hands now)
all_stay now before hands said e = subst (λ d. OthersStay said (hands before) (hands d)) (sym e) (record { many = refl; same = refl })

pub stay_of : {D H : Type 0} (now before : D) (hands : D → List H) (said : Result CommandLine Outcome) (old : List H) → now ≡ before → OthersStay said old (hands before) → OthersStay said old (hands now)
stay_of now before hands said old e stay = subst (λ d. OthersStay said old (hands d)) (sym e) stay

module _ {D : Type 0} (call : Call D) (devices : D) (after : D → After) (said : Result CommandLine Outcome) (seen : Seen) (tree : (after devices).faults ≡ seen.faults) (rest : (after devices).outside ≡ seen.outside)
    (same : call.devices ≡ devices) (trace : call.trace ≡ []) (answers : call.answers ≡ []) where
  -- memory ran out
  pub none_done : (e : OutOfMemory) → call.outcome ≡ Err e → Calls said seen (after call.devices) call.trace call.answers call.outcome
  none_done e outcome = of_same call.devices devices after said seen call.trace call.answers call.outcome same
      (calls_none said seen (after devices) call.trace call.answers call.outcome e outcome (trace, answers, ap (λ (o : Outside). o.shelf) rest)
      (subst (λ (o : Outside). TellAsBefore seen.outside.hands o.hands) (sym rest) (same_tells seen.outside.hands)))

  -- the words are refused
  pub refused_done : (answer : Outcome) → call.outcome ≡ Ok answer → said ≡ Err answer → answer.status ≡ 2 → Calls said seen (after call.devices) call.trace call.answers call.outcome
  refused_done answer outcome words two = of_same call.devices devices after said seen call.trace call.answers call.outcome same
      (calls_words said seen (after devices) call.trace call.answers call.outcome answer outcome words two trace answers tree rest)
