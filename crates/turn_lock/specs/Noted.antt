-- What workers note under a turn lock. Own.
use Rattle.std.specs.Prelude.{◌≡◌, ℕ, zero, suc, ◌+◌, ◌<◌, ◌≤◌, nat_eq, ◌&&◌, List, [], ◌∷◌, ◌++◌, filter, fold, if◌then◌else◌}
use Rattle.atomic_table.specs.Seated.{TableId}
use Rattle.turn_lock.specs.declared.tally.Note.{Note}
use Rattle.turn_lock.specs.declared.view.View.{View}
use Rattle.turn_lock.specs.Passes.{view_of}
use Rattle.turn_lock.specs.Turns.{Begins}

-- the notes of a worker
abbrev pub notes_of : ℕ → List Note → List Note
notes_of k notes = filter (λ (n : Note). nat_eq n.worker k) notes

-- a worker's numbers below one
abbrev pub noted : ℕ → ℕ → List Note
noted k zero = []
noted k (suc n) = noted k n ++ (record { worker = k; number = n }) ∷ []

-- how many of a worker's numbers stand in their order, from 0 on
abbrev pub with_next : ℕ → ℕ → Note → ℕ
with_next k next n = if nat_eq n.worker k && nat_eq n.number next then next + 1 else next

abbrev pub in_order : ℕ → List Note → ℕ
in_order k notes = fold (with_next k) 0 notes

-- what a pass of a tally is to contracts
abbrev TallyPass : Type 0
TallyPass = TableId × ℕ × View (Unit {0}) Note

-- of none of the workers from a first one on has the pass seen a note
abbrev pub NoneNoted : ℕ → ℕ → TallyPass → Type 0
NoneNoted first reach pass = (k : ℕ) → first ≤ k → k < reach → notes_of k (view_of pass).seen ≡ []

-- of each it has seen its numbers below a count, in their order and before any others
abbrev pub AllNoted : ℕ → ℕ → ℕ → TallyPass → Type 0
AllNoted first reach count pass = (k : ℕ) → first ≤ k → k < reach → Begins (noted k count) (notes_of k (view_of pass).seen)

-- a pass has seen one note of a worker more
abbrev pub AddsNote : ℕ → ℕ → TallyPass → TallyPass → Type 0
AddsNote worker number before pass =
    notes_of worker (view_of pass).seen ≡ notes_of worker (view_of before).seen ++ (record { worker = worker; number = number }) ∷ []

-- it has seen no more notes of a worker than before
abbrev pub SameNotes : ℕ → TallyPass → TallyPass → Type 0
SameNotes worker before pass = notes_of worker (view_of pass).seen ≡ notes_of worker (view_of before).seen

-- of each worker the notes begin with its numbers below a count
abbrev pub AllBegin : ℕ → ℕ → List Note → Type 0
AllBegin workers count notes = (k : ℕ) → k < workers → Begins (noted k count) (notes_of k notes)
