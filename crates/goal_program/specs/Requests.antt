-- A goal's request, read from its bytes: a line that is JSON with exactly the keys of a request, and behind it exactly the bytes that its
-- lists count. Own format.
use Rattle.std.specs.Prelude.{ℕ, ◌==◌, nat_le, List, length, codes, Option, Some, None, option_and_then, ◌&&◌, if◌then◌else◌}
use Rattle.std.specs.Str.{is_utf8}
use Rattle.serde_json.specs.Data.{Data}
use Rattle.serde_json.specs.Read.{read}
use Rattle.mvn_base.specs.declared.gav.Gav.{Gav}
use Rattle.goal_types.specs.declared.goal.GoalCall.{GoalCall}
use Rattle.goal_types.specs.declared.goal.GoalRequest.{GoalRequest}
use Rattle.goal_types.specs.Answers.{keys_of}
use Rattle.goal_types.specs.Lines.{line_of, after_line, has_line}
use Rattle.goal_program.specs.Calls.{call_in, gav_in}
use Rattle.goal_program.specs.Lists.{listed, source_in, own_in, entry_in}

-- the most bytes of a request
abbrev pub most_request : ℕ
most_request = 536870912

-- a request of these, with its lists from the bytes behind the line, which they use up
abbrev pub lists_of : Gav → GoalCall → Data → List ℕ → Option GoalRequest
lists_of gav call value bytes =
    option_and_then (λ s. option_and_then (λ o. option_and_then (λ c.
    if length c.1 == 0 then Some (record { «module» = gav; call = call; sources = s.0; own = o.0; classpath = c.0 }) else None)
    (listed entry_in (codes "classpath") value o.1)) (listed own_in (codes "own") value s.1)) (listed source_in (codes "sources") value bytes)

-- the request of a line's value: exactly the eleven keys
abbrev pub request_of : Data → List ℕ → Option GoalRequest
request_of value bytes =
    if keys_of value == 11 then option_and_then (λ gav. option_and_then (λ call. lists_of gav call value bytes) (call_in value)) (gav_in value) else None

-- the request that bytes are, where their line is a text
unfoldable pub request_in : List ℕ → Option GoalRequest
request_in bytes = if has_line bytes then option_and_then (λ value. request_of value (after_line bytes)) (read (line_of bytes)) else None

-- the request that a stream is: bytes that aren't too many, whose line is a text
abbrev pub request_from : List ℕ → Option GoalRequest
request_from bytes = if nat_le (length bytes) most_request && is_utf8 (line_of bytes) then request_in bytes else None
