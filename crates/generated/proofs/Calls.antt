-- A whole call, by what was answered and what was written.
use Rattle.std.proofs.Common.{◌≡◌, ◌∙◌, ◌⊎◌, inl, inr, ◌<◌, ◌≤◌, ℕ, List, [], Option, Some, None, Result, Ok, Err, IfOk, refl, sym, ap, subst, arith}
use Rattle.mvn_shared.specs.declared.memory.OutOfMemory.{OutOfMemory}
use Rattle.mvn_shared.specs.Cause.{HasRisen}
use Rattle.mvn_base.specs.declared.machine.Machine.{Machine}
use Rattle.build_core.specs.declared.event.Answered.{Answered}
use Rattle.build_core.specs.declared.event.Event.{Event}
use Rattle.cli_words.specs.declared.command_line.CommandLine.{CommandLine}
use Rattle.build_outcome.specs.declared.outcome.Outcome.{Outcome}
use Rattle.build_outcome.specs.Left.{IsIdle, Outside, TellAsBefore}
use Rattle.call_plan.specs.Commands.{asked}
use Rattle.call_plan.specs.Ending.{Ends, HasNone, IsFault, IsLow, IsWhole, without_memory}
use Rattle.call_plan.specs.Seen.{After, Seen}
use Rattle.mvn_call.proofs.Calling.{calls_none}
use Rattle.mvn_call.proofs.First.{same_tells}
use Rattle.mvn_call.proofs.Writing.{none_ends}
use Rattle.generated.specs.Generated.{Generates}
use Rattle.mvn_call.specs.Promises.{IsMvn, Written}
use Rattle.mvn_call.proofs.Whole.{is_mvn}
use Rattle.generated.specs.Whole.{IsGeneratedCall, IsLineCall, IsWordsCall}

-- ---- of the generated project

four_not_three : (n : ℕ) → n ≡ 4 → n ≡ 3 → ⊥
four_not_three n e f = omega (arith, e, f)

four_not_two : (n : ℕ) → n ≡ 4 → n ≡ 2 → ⊥
four_not_two n e f = omega (arith, e, f)

below_three : (n : ℕ) → n < 2 → n < 3
below_three n low = omega (arith, low)

one_low : (n m : ℕ) → n < 2 → n ≡ m → m < 2
one_low n m low e = omega (arith, low, e)

three_not_low : (n : ℕ) → n ≤ 2 → n ≡ 3 → ⊥
three_not_low n low three = omega (arith, low, three)

module _ (poms : ℕ) (line : CommandLine) (seen : Seen) (after : After) (trace : List Event) (answers : List Answered) (out : Written) (tree : after.faults ≡ seen.faults) (outside : after.outside ≡ seen.outside)
    (quiet : out.status < 3 → out.count ≡ out.faults) (bound : out.status ≤ 4) where
  risen : (wanted : Outcome) → wanted.status ≤ 2 → (wanted.status ≡ 3) ⊎ HasRisen out.faults out.count → HasRisen out.faults out.count
  risen wanted low (inl three) = absurd (three_not_low wanted.status low three)
  risen wanted low (inr rose) = rose

  pub generated_call : (said : Result Outcome OutOfMemory) → Generates poms line seen.machine trace answers said → IfOk said (λ wanted. out.status < 3 → IsWhole wanted out.status out.before out.now)
      → (out.status < 3 → IsLow said) → IfOk said (λ wanted. Ends wanted out.status out.before out.now out.faults out.count) → HasNone said out.status out.before out.now
      → (out.status ≡ 3 → IsFault said ⊎ HasRisen out.faults out.count) → IsGeneratedCall poms line seen after trace answers out
  generated_call (Ok wanted) is whole low ends none fault = record {
    outcome = λ l. (wanted, is.answer, whole l);
    history = is.history;
    ran = λ l. is.ran (one_low out.status wanted.status l (whole (below_three out.status l)).same_status);
    causes = (wanted, inl (is.answer, is.ran), ends);
    refused = λ two. is.refused (sym (whole (omega (arith, two))).same_status ∙ two);
    tree = tree;
    outside = outside;
    quiet = quiet;
    fault = λ three. risen wanted is.bound (fault three);
    bound = bound;
  }
  generated_call (Err e) is whole low ends none fault = record {
    outcome = λ l. absurd (low l);
    history = is.history;
    ran = λ l. absurd (low (below_three out.status l));
    causes = (without_memory, inr refl, none_ends without_memory out.status out.before out.now out.faults out.count none.0 none.1);
    refused = λ two. absurd (four_not_two out.status none.0 two);
    tree = tree;
    outside = outside;
    quiet = quiet;
    fault = λ three. absurd (four_not_three out.status none.0 three);
    bound = bound;
  }

-- a status of at most 2 is one of at most 3
pub bounded : (said : Result Outcome OutOfMemory) → IfOk said (λ answer. answer.status ≤ 2) → IfOk said (λ wanted. wanted.status ≤ 3)
bounded (Ok answer) low = omega (arith, low)
bounded (Err e) low = tt

-- ---- memory ran out before the words were read

four_not_low : (n : ℕ) → n ≡ 4 → n < 3 → ⊥
four_not_low n e low = omega (arith, e, low)

module _ (seen : Seen) (after : After) (trace : List Event) (answers : List Answered) (out : Written) (none : trace ≡ []) (nothing : answers ≡ []) (tree : after.faults ≡ seen.faults) (outside : after.outside ≡ seen.outside)
    (four : out.status ≡ 4) (same : out.now ≡ out.before) (e : OutOfMemory) where
  abbrev failed : Result Outcome OutOfMemory
  failed = Err e

  idle : IsIdle seen.outside after.outside trace answers
  idle = (none, nothing, ap (λ (o : Outside). o.shelf) outside)

  tells : TellAsBefore seen.outside.hands after.outside.hands
  tells = subst (λ (o : Outside). TellAsBefore seen.outside.hands o.hands) (sym outside) (same_tells seen.outside.hands)

  mvn_none : (asked : Result CommandLine Outcome) → IsMvn asked seen after trace answers out
  mvn_none asked =
      is_mvn asked seen after trace answers failed out (calls_none asked seen after trace answers failed e refl idle tells) (record {
        whole = tt;
        low = λ l. four_not_low out.status four l;
        ends = tt;
        none = (four, same);
        fault = λ three. absurd (four_not_three out.status four three);
        quiet = λ l. absurd (four_not_low out.status four l);
        bound = omega (arith, four);
      })

  generated_none : (poms : ℕ) (line : CommandLine) → IsGeneratedCall poms line seen after trace answers out
  generated_none poms line = record {
    outcome = λ l. absurd (four_not_low out.status four l);
    history = inl (none, nothing);
    ran = λ l. absurd (four_not_low out.status four (below_three out.status l));
    causes = (without_memory, inr refl, none_ends without_memory out.status out.before out.now out.faults out.count four same);
    refused = λ two. (none, nothing);
    tree = tree;
    outside = outside;
    quiet = λ l. absurd (four_not_low out.status four l);
    fault = λ three. absurd (four_not_three out.status four three);
    bound = omega (arith, four);
  }

  line_none : (generated : Option ℕ) (line : CommandLine) → IsLineCall generated line seen after trace answers out
  line_none None line = mvn_none (Ok line)
  line_none (Some poms) line = generated_none poms line

  pub words_none : (asked : Result CommandLine Outcome) → IsWordsCall asked seen after trace answers out
  words_none (Err answer) = mvn_none (Err answer)
  words_none (Ok line) = line_none line.generated line

-- ---- by what the words ask for

-- it is asked for with so many hands
pub asked_of : (said : Result CommandLine Outcome) (words : List (List ℕ)) (hands many : ℕ) → hands ≡ many → said ≡ asked words hands → said ≡ asked words many
asked_of said words hands many e is = subst (λ n. said ≡ asked words n) e is

pub line_mvn : (line : CommandLine) (seen : Seen) (after : After) (trace : List Event) (answers : List Answered) (out : Written) → line.generated ≡ None → IsMvn (Ok line) seen after trace answers out → IsLineCall line.generated line seen after trace answers out
line_mvn line seen after trace answers out none is = subst (λ (g : Option ℕ). IsLineCall g line seen after trace answers out) (sym none) is

-- all that was given came back
pub line_generated : {D : Type 0} (now before : D) (after : D → After) (line : CommandLine) (poms : ℕ) (seen : Seen) (trace : List Event) (answers : List Answered) (out : Written) → line.generated ≡ Some poms → now ≡ before
    → IsGeneratedCall poms line seen (after before) trace answers out → IsLineCall line.generated line seen (after now) trace answers out
line_generated now before after line poms seen trace answers out some same is =
    subst (λ (g : Option ℕ). IsLineCall g line seen (after now) trace answers out) (sym some)
    (subst (λ d. IsGeneratedCall poms line seen (after d) trace answers out) (sym same) is)
