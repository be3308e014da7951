-- What an output and a status answer, case by case.
use Rattle.std.proofs.Common.{◌≡◌, ℕ, ◌<◌, ℤ, Bool, true, false, nat_lt, List, length, Option, None, Some, IfSome, Result, Ok, Err, IfOk, unwrap_or, if◌then◌else◌, refl, sym, ap, ◌∙◌, arith}
use Rattle.std.specs.Str.{IsUtf8, is_utf8}
use Rattle.std.proofs.lemmas.Str.{IsUtf8-from_is_utf8}
use Rattle.std.proofs.lemmas.Str as text
use Rattle.std.proofs.lemmas.Bool.Decides.{nat_tests}
use Rattle.children.specs.declared.spawner.ChildRecord.{ChildRecord}
use Rattle.goal_types.specs.declared.goal.GoalAnswer.{GoalAnswer}
use Rattle.goal_types.specs.Answers.{answer_in}
use Rattle.goal_types.specs.Lines.{line_of}
use Rattle.gates.specs.Answering.{child_answer, ended_with, is_zero, most_answer, no_answer, spoken}

-- an output that is too long is no answer
pub long_answer : (output : List ℕ) (status : ℤ) → most_answer < length output → child_answer output status ≡ no_answer
unfolding child_answer
long_answer output status long =
    let test : nat_lt most_answer (length output) ≡ true = grind (arith, nat_tests, long) in
    ap (λ b. if b then no_answer else if is_zero status then unwrap_or (spoken output) no_answer else ended_with status) test

-- the same of what was said, for any status
pub long_said : {E : Type 0} (output : List ℕ) (r : Result GoalAnswer E) → most_answer < length output → IfOk r (λ said. said ≡ no_answer) → IfOk r (λ said. (status : ℤ) → said ≡ child_answer output status)
long_said output (Ok said) long e = λ status. e ∙ sym (long_answer output status long)
long_said output (Err x) long e = tt

-- and so for the status of a record
pub any_status : (output : List ℕ) (said : GoalAnswer) (o : Option ChildRecord) → ((status : ℤ) → said ≡ child_answer output status) → IfSome o (λ known. said ≡ child_answer output known.status)
any_status output said None all = tt
any_status output said (Some known) all = all known.status

-- an answer is read only where its line is a text
pub spoken_is : (output : List ℕ) (found : Option GoalAnswer) → (IsUtf8 (line_of output) → found ≡ answer_in output) → ((IsUtf8 (line_of output) → ⊥) → found ≡ None) → found ≡ spoken output
spoken_is output found is not = by (is_utf8 (line_of output)) refl
  where
    by : (b : Bool) → is_utf8 (line_of output) ≡ b → found ≡ spoken output
    by true e = is (IsUtf8-from_is_utf8 (line_of output) e) ∙ sym (ap (λ b. if b then answer_in output else None) e)
    by false e = not (λ u. none (sym (text.is_utf8-from_IsUtf8 (line_of output) u) ∙ e)) ∙ sym (ap (λ b. if b then answer_in output else None) e)
      where
        none : true ≡ false → ⊥
        none e = cc

-- what was read is what the output speaks, and where nothing was read it speaks nothing
pub spoken_some : (output : List ℕ) (found : Option GoalAnswer) (answer : GoalAnswer) → (IsUtf8 (line_of output) → found ≡ answer_in output) → ((IsUtf8 (line_of output) → ⊥) → found ≡ None) → found ≡ Some answer → answer ≡ unwrap_or (spoken output) no_answer
spoken_some output found answer is not e = ap (λ o. unwrap_or o no_answer) (sym e ∙ spoken_is output found is not)

pub spoken_none : {E : Type 0} (output : List ℕ) (found : Option GoalAnswer) (r : Result GoalAnswer E) → (IsUtf8 (line_of output) → found ≡ answer_in output) → ((IsUtf8 (line_of output) → ⊥) → found ≡ None) → found ≡ None
    → IfOk r (λ said. said ≡ no_answer) → IfOk r (λ said. said ≡ unwrap_or (spoken output) no_answer)
spoken_none output found (Ok said) is not e f = f ∙ ap (λ o. unwrap_or o no_answer) (sym e ∙ spoken_is output found is not)
spoken_none output found (Err x) is not e f = tt
