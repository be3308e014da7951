-- What a goal answers, as bytes: one line of JSON, and behind it an output's bytes. Own format.
use Rattle.std.specs.Prelude.{◌≡◌, ℕ, Bool, true, false, ◌&&◌, ◌==◌, nat_eq, nat_le, List, [], ◌∷◌, ◌++◌, length, codes, Option, Some, None, option_map, option_and_then, unwrap_or, if◌then◌else◌}
use Rattle.std.specs.Cmp.Lexicographic.{pointwise}
use Rattle.serde_json.specs.Data.{Data, object, string, number, unsigned, member, no_members}
use Rattle.serde_json.specs.Find.{get, as_str, as_number, as_u64, as_object}
use Rattle.serde_json.specs.Events.{members_len}
use Rattle.serde_json.specs.Read.{read}
use Rattle.serde_json.specs.Written.{compact_text}
use Rattle.mvn_base.specs.Limits.{most_output}
use Rattle.goal_types.specs.declared.goal.GoalAnswer.{GoalAnswer}
use Rattle.goal_types.specs.declared.goal.GoalAnswer.TheVariants.{Done, Produced, Failed}
use Rattle.goal_types.specs.Lines.{line_of, after_line, has_line}

-- the most bytes of an answer's line
abbrev pub most_line : ℕ
most_line = 65536

-- an answer's line, as a JSON value
abbrev pub answer_data : GoalAnswer → Data
answer_data Done = object (member (codes "answer") (string (codes "done")) no_members)
answer_data (Produced bytes) = object (member (codes "answer") (string (codes "produced")) (member (codes "length") (number (unsigned (length bytes))) no_members))
answer_data (Failed text) = object (member (codes "answer") (string (codes "failed")) (member (codes "text") (string text) no_members))

-- what stands behind the line
abbrev pub output_of : GoalAnswer → List ℕ
output_of Done = []
output_of (Produced bytes) = bytes
output_of (Failed text) = []

-- an answer's bytes
abbrev pub answer_text : GoalAnswer → List ℕ
answer_text answer = compact_text (answer_data answer) ++ 10 ∷ output_of answer

-- how many members an object has; nothing else has any
abbrev pub keys_of : Data → ℕ
keys_of value = unwrap_or (option_map members_len (as_object value)) 0

-- the value has this text under this key
abbrev pub says : List ℕ → List ℕ → Data → Bool
says key text value = unwrap_or (option_map (pointwise nat_eq text) (option_and_then as_str (get key value))) false

-- the number under a key
abbrev pub number_at : List ℕ → Data → Option ℕ
number_at key value = option_and_then as_u64 (option_and_then as_number (get key value))

-- the value is the line of a produced output of so many bytes
abbrev is_produced : Data → ℕ → Bool
is_produced value count = (keys_of value == 2) && says (codes "answer") (codes "produced") value && unwrap_or (option_map (λ n. n == count) (number_at (codes "length") value)) false && nat_le count most_output

-- the answer of a line's value, with what stands behind the line: exactly the keys of one of the three forms
unfoldable pub answer_of : Data → List ℕ → Option GoalAnswer
answer_of value rest =
    if (keys_of value == 1) && says (codes "answer") (codes "done") value && (length rest == 0) then Some Done
    else if is_produced value (length rest) then Some (Produced rest)
    else if (keys_of value == 2) && says (codes "answer") (codes "failed") value && (length rest == 0) then option_map Failed (option_and_then as_str (get (codes "text") value))
    else None

-- the answer that bytes are: a line, not too long, that is JSON; nothing where they are none
unfoldable pub answer_in : List ℕ → Option GoalAnswer
answer_in bytes =
    if has_line bytes && nat_le (length (line_of bytes)) most_line then option_and_then (λ value. answer_of value (after_line bytes)) (read (line_of bytes)) else None
