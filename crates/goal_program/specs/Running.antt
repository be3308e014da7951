-- How the goal program ends. Own rule.
use Rattle.std.specs.Prelude.{◌≡◌, ◌⊎◌, ℕ, Bool, true, false, List, Option, None, IsSomeAnd, MatchOption}
use Rattle.mvn_shared.specs.Cause.{HasRisen}
use Rattle.mvn_shared.specs.Told.{gains, IsCut}
use Rattle.gates.specs.Builtin.{builtin}
use Rattle.goal_types.specs.Answers.{answer_text}
use Rattle.goal_program.specs.Requests.{request_from}

-- answered, no request, a fault, or want of memory
abbrev pub IsStatus : ℕ → Type 0
IsStatus status = (status ≡ 0) ⊎ ((status ≡ 2) ⊎ ((status ≡ 3) ⊎ (status ≡ 4)))

-- the text is a request, and the bytes of its answer were written
abbrev pub Answered : (text : List ℕ) (before now : Option (List ℕ)) → Type 0
Answered text before now = IsSomeAnd (request_from text) (λ request. now ≡ gains before (answer_text (builtin request)))

-- the text is no request, or too long for one
abbrev pub Refused : List ℕ → Type 0
Refused text = request_from text ≡ None

-- nothing but a part of the answer was written, from its front: for a text that is no request nothing
abbrev pub WritesPart : (text : List ℕ) (before now : Option (List ℕ)) → Type 0
WritesPart text before now = MatchOption (request_from text) (now ≡ before) (λ request. IsCut (answer_text (builtin request)) before now)

-- a fault comes only where the count of one of the two rose; the other's stays, and without a fault both do
abbrev pub HasOneCause : (input input_now output output_now : ℕ) (failed : Bool) → Type 0
HasOneCause input input_now output output_now true =
    (HasRisen input input_now × (output_now ≡ output)) ⊎ ((input_now ≡ input) × HasRisen output output_now)
HasOneCause input input_now output output_now false = (input_now ≡ input) × (output_now ≡ output)
