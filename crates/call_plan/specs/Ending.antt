-- How a call ends: its status, and what is written, against the outcome that is wanted.
use Rattle.std.specs.Prelude.{◌≡◌, ◌≢◌, ℕ, ◌<◌, List, [], Option, Result, Ok, Err}
use Rattle.mvn_shared.specs.declared.memory.OutOfMemory.{OutOfMemory}
use Rattle.mvn_shared.specs.Cause.{last_count, HasRisen}
use Rattle.mvn_shared.specs.Told.{gains, IsCut}
use Rattle.build_outcome.specs.declared.outcome.Outcome.{Outcome}

-- memory ran out before there was a text
abbrev pub without_memory : Outcome
without_memory = record { text = []; status = 4 }

-- the status is the outcome's, and its whole text was added
pub record IsWhole (wanted : Outcome) (status : ℕ) (before now : Option (List ℕ)) : Type 0 where
  pub same_status : status ≡ wanted.status
  pub whole_text : now ≡ gains before wanted.text

-- An outcome, and what a call left of it: always a part of the text from its front. It is whole below 3, and also
-- where memory is there and the sink, whose count stands below its end, didn't fail. Where memory ran out before, the status says so.
pub record Ends (wanted : Outcome) (status : ℕ) (before now : Option (List ℕ)) (sink_before sink_now : ℕ) : Type 0 where
  pub cut : IsCut wanted.text before now
  pub whole : status < 3 → IsWhole wanted status before now
  pub complete : status ≢ 4 → sink_now ≡ sink_before → sink_now < last_count → IsWhole wanted status before now
  pub fault : status ≡ 3 → status ≢ wanted.status → HasRisen sink_before sink_now
  pub memory : wanted.status ≡ 4 → status ≡ 4

-- the answer's status is below 3, is 3
abbrev pub IsLow : Result Outcome OutOfMemory → Type 0
IsLow (Ok wanted) = wanted.status < 3
IsLow (Err e) = ⊥

abbrev pub IsFault : Result Outcome OutOfMemory → Type 0
IsFault (Ok wanted) = wanted.status ≡ 3
IsFault (Err e) = ⊥

-- where memory ran out before there was an answer, nothing is written
abbrev pub HasNone : Result Outcome OutOfMemory → (status : ℕ) → (before now : Option (List ℕ)) → Type 0
HasNone (Ok wanted) status before now = Unit {0}
HasNone (Err e) status before now = (status ≡ 4) × (now ≡ before)
