-- What the built-in goals answer, as a function of the request. Own rule.
use Rattle.std.specs.Prelude.{◌≡◌, ℕ, Bool, true, false, not, ◌&&◌, ◌||◌, ◌==◌, nat_eq, nat_le, List, [], ◌∷◌, ◌++◌, length, codes, find, Option, Some, None, unwrap_or, if◌then◌else◌}
use Rattle.std.specs.Cmp.Lexicographic.{pointwise}
use Rattle.std.specs.List.{list_any, ends_with}
use Rattle.std.specs.Str.{is_utf8}
use Rattle.hex.specs.Hex.{encode_lower}
use Rattle.sha2.specs.Sha256.{sha256}
use Rattle.goal_types.specs.declared.goal.GoalAnswer.{GoalAnswer}
use Rattle.goal_types.specs.declared.goal.GoalAnswer.TheVariants.{Done, Produced, Failed}
use Rattle.goal_types.specs.declared.goal.GoalRequest.{GoalRequest}
use Rattle.goal_types.specs.declared.goal.SourceFile.{SourceFile}
use Rattle.goal_types.specs.declared.goal.Slot.{Slot}
use Rattle.goal_types.specs.declared.goal.Slot.TheVariants as slot
use Rattle.goal_types.specs.Lines.{line_of}
use Rattle.goal_types.specs.Requests.{request_text}

-- the last step of a path is this name
unfoldable pub is_named : List ℕ → List ℕ → Bool
is_named name path = not (list_any (λ b. b == 47) name) && (pointwise nat_eq path name || ends_with nat_eq path (47 ∷ name))

-- a source that makes a goal fail: it is named `fail-` and the goal
abbrev pub failure_name : List ℕ → List ℕ
failure_name goal = codes "fail-" ++ goal

-- the most bytes of a failure's text
abbrev pub most_text : ℕ
most_text = 8192

-- bytes that are a text
abbrev pub text_of : List ℕ → Option (List ℕ)
text_of bytes = if is_utf8 bytes then Some bytes else None

-- the text of such a source: its first line, or `failed` where that is too long or no text
unfoldable pub failure_text : List ℕ → List ℕ
failure_text bytes = if nat_le (length (line_of bytes)) most_text then unwrap_or (text_of (line_of bytes)) (codes "failed") else codes "failed"

-- the first source that makes the goal fail
abbrev pub failure_in : List ℕ → List SourceFile → Option SourceFile
failure_in goal sources = find (λ s. is_named (failure_name goal) s.path) sources

-- an output: the digest of the request's bytes, in hexadecimal digits and with a line feed
unfoldable pub digest_text : GoalRequest → List ℕ
digest_text request = encode_lower (sha256 (request_text request)) ++ 10 ∷ []

-- an output where the goal has a slot for one
abbrev pub output_for : Slot → List ℕ → GoalAnswer
output_for slot.Nowhere bytes = Done
output_for slot.Pom bytes = Produced bytes
output_for slot.Classes bytes = Produced bytes
output_for slot.TestClasses bytes = Produced bytes
output_for slot.Main bytes = Produced bytes
output_for slot.Tests bytes = Produced bytes
output_for slot.Sources bytes = Produced bytes
output_for slot.Javadoc bytes = Produced bytes

-- the one answer to a request
unfoldable pub builtin : GoalRequest → GoalAnswer
builtin request = elim (failure_in request.call.goal request.sources) [ Some source ↦ Failed (failure_text source.bytes) | None ↦ output_for request.call.slot (digest_text request) ]

-- two answers are the same
abbrev pub same_answer : GoalAnswer → GoalAnswer → Bool
same_answer Done Done = true
same_answer (Produced a) (Produced b) = pointwise nat_eq a b
same_answer (Failed a) (Failed b) = pointwise nat_eq a b
same_answer a b = false
