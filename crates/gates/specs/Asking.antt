-- What asking a child does to what is told of it. Own rule.
use Rattle.std.specs.Prelude.{◌≡◌, ◌⊎◌, ℕ, ◌+◌, ◌<◌, ◌≤◌, min, Bool, true, false, List, [], ◌∷◌, ◌++◌, length, take, Option, Some, None, IfSome, Result, Ok, Err}
use Rattle.mvn_outside.specs.declared.fault.DeviceFault.{DeviceFault}
use Rattle.goal_types.specs.declared.goal.GoalAnswer.{GoalAnswer}
use Rattle.goal_types.specs.declared.goal.GoalRequest.{GoalRequest}
use Rattle.goal_types.specs.Requests.{request_text}
use Rattle.children.specs.declared.spawner.ChildRecord.{ChildRecord}
use Rattle.children.specs.Children.{given_more, input_closed, read_on, unread, changed, record_of}
use Rattle.gates.specs.Answering.{child_answer}

-- the most bytes that are read of an output: one more than an answer may have
abbrev pub most_taken : ℕ
most_taken = 67174402

-- at most this child's record was changed
abbrev pub Touches : ℕ → Option (List ChildRecord) → Option (List ChildRecord) → Type 0
Touches child before now = (f : ChildRecord → ChildRecord) × (now ≡ changed f child before)

-- a child that was given these bytes, and whose input was closed then
abbrev pub handed : List ℕ → ChildRecord → ChildRecord
handed bytes child = input_closed (given_more bytes child)

-- one read: so many bytes of the child's output came behind those that were there; where none came, the output has ended
pub record ReadsMore (child : ℕ) (before now : Option (List ChildRecord)) (room : ℕ) (old new : List ℕ) (ended : Bool) : Type 0 where
  pub count : ℕ
  pub within : count ≤ room
  pub len : length new ≡ length old + count
  pub told : now ≡ changed (read_on count) child before
  pub bytes : IfSome (record_of child before) (λ known. new ≡ old ++ take count (unread known))
  pub none : ended ≡ true → count ≡ 0
  pub some : ended ≡ false → 0 < count
  pub last : ended ≡ true → IfSome (record_of child before) (λ known. unread known ≡ [])

-- a child was given these bytes and its input was closed; then this was read of its output, which is all or too much
pub record Exchanges (child : ℕ) (before now : Option (List ChildRecord)) (bytes output : List ℕ) : Type 0 where
  pub told : now ≡ changed (λ known. read_on (length output) (handed bytes known)) child before
  pub read : IfSome (record_of child before) (λ known. output ≡ take most_taken (unread known))

-- a child was asked: it was given these bytes, its input was closed, and so many bytes of its output were read. Where nothing was read
-- before, these are all or too much, and the output and the status answer this
pub record Asked (child : ℕ) (before now : Option (List ChildRecord)) (bytes : List ℕ) (said : GoalAnswer) : Type 0 where
  pub count : ℕ
  pub told : now ≡ changed (λ known. read_on count (handed bytes known)) child before
  pub all : IfSome (record_of child before) (λ known. known.taken ≡ 0 → count ≡ min most_taken (length known.output))
  pub answer : IfSome (record_of child before) (λ known. known.taken ≡ 0 → said ≡ child_answer known.output known.status)

-- the record of a child that was asked: it was given these bytes, its input is closed, its output was read to the end or as far
-- as an answer may go, and its output and status answer this
pub record Answers (bytes : List ℕ) (said : GoalAnswer) (child : ChildRecord) : Type 0 where
  pub given : child.given ≡ bytes
  pub closed : child.closed ≡ true
  pub taken : child.taken ≡ min most_taken (length child.output)
  pub answer : said ≡ child_answer child.output child.status

-- a call of the gate: an answer means one record more, of a child that was asked exactly the request; after a fault there is one more
-- at most; what tells nothing goes on so
abbrev pub Asks : Option (List ChildRecord) → Option (List ChildRecord) → GoalRequest → Result GoalAnswer DeviceFault → Type 0
Asks None now request result = now ≡ None
Asks (Some records) now request (Ok said) = (child : ChildRecord) × (now ≡ Some (records ++ child ∷ [])) × Answers (request_text request) said child
Asks (Some records) now request (Err fault) = (now ≡ Some records) ⊎ ((child : ChildRecord) × (now ≡ Some (records ++ child ∷ [])))
