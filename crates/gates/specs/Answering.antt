-- What a goal in a child answers: by all that the child wrote, and by its status. Own rule.
use Rattle.std.specs.Prelude.{ℕ, ◌+◌, ℤ, pos, negsuc, Bool, false, ◌==◌, nat_lt, List, length, codes, ◌++◌, Option, Some, None, unwrap_or, if◌then◌else◌}
use Rattle.std.specs.Fmt.{signed_decimal}
use Rattle.std.specs.Str.{is_utf8}
use Rattle.mvn_base.specs.Limits.{most_output}
use Rattle.goal_types.specs.declared.goal.GoalAnswer.{GoalAnswer}
use Rattle.goal_types.specs.declared.goal.GoalAnswer.TheVariants.{Failed}
use Rattle.goal_types.specs.Answers.{answer_in, most_line}
use Rattle.goal_types.specs.Lines.{line_of}

-- the most bytes of an answer: its line, a line feed, and an output
abbrev pub most_answer : ℕ
most_answer = 67174401

-- the answer of a child whose output is none
abbrev pub no_answer : GoalAnswer
no_answer = Failed (codes "child gave no answer")

-- the answer of a child that ended with another status than 0
abbrev pub ended_with : ℤ → GoalAnswer
ended_with status = Failed (codes "child ended with " ++ signed_decimal status)

-- the answer that an output is: its line has to be a text
abbrev pub spoken : List ℕ → Option GoalAnswer
spoken output = if is_utf8 (line_of output) then answer_in output else None

abbrev pub is_zero : ℤ → Bool
is_zero (pos n) = n == 0
is_zero (negsuc n) = false

-- what an output and a status answer: an output that is too long is judged first, then the status, then the output
unfoldable pub child_answer : List ℕ → ℤ → GoalAnswer
child_answer output status =
    if nat_lt most_answer (length output) then no_answer
    else if is_zero status then unwrap_or (spoken output) no_answer
    else ended_with status
