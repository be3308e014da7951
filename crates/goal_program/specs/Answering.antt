-- What the goal program writes for bytes. Own rule.
use Rattle.std.specs.Prelude.{ℕ, List, Option, None, option_map, if◌then◌else◌}
use Rattle.std.specs.Str.{is_utf8}
use Rattle.gates.specs.Builtin.{builtin}
use Rattle.goal_types.specs.Answers.{answer_text}
use Rattle.goal_types.specs.Lines.{line_of}
use Rattle.goal_program.specs.Requests.{request_in, request_from}

-- the bytes of the built-in goals' answer to the request that bytes are
unfoldable pub reply_to : List ℕ → Option (List ℕ)
reply_to bytes = option_map (λ request. answer_text (builtin request)) (if is_utf8 (line_of bytes) then request_in bytes else None)

-- the same of a stream, which may be too long for a request
unfoldable pub reply_from : List ℕ → Option (List ℕ)
reply_from text = option_map (λ request. answer_text (builtin request)) (request_from text)
