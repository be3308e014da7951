-- What is said of a pass that a worker brings back. Own.
use Rattle.std.specs.Prelude.{◌≡◌, ℕ, ◌+◌, ◌-◌, None}
use Rattle.atomic_table.specs.Seated.{TableId}
use Rattle.turn_lock.specs.declared.view.View.{View}
use Rattle.turn_lock.specs.Passes.{lock_of, view_of}

-- it owes nothing and has no turn out, and its number and weight are these
pub record IsAtRest {F E : Type 0} (lock : TableId) (first reach weight workers : ℕ) (pass : TableId × ℕ × View F E) : Type 0 where
  pub own : lock_of pass ≡ lock
  pub quiet : (view_of pass).turn ≡ None
  pub clear : (view_of pass).owed ≡ None
  pub number : (view_of pass).number ≡ first
  pub to : (view_of pass).reach ≡ reach
  pub heavy : (view_of pass).weight ≡ weight
  pub among : (view_of pass).workers ≡ workers

module _ {F E : Type 0} where
  -- a worker's pass is at rest
  abbrev pub Rests : TableId → ℕ → (TableId × ℕ × View F E) → Type 0
  Rests lock worker pass = IsAtRest lock worker (view_of pass).reach (view_of pass).weight (view_of pass).workers pass

  -- and later again, as wide and heavy as it was
  abbrev pub RestsAgain : TableId → ℕ → (TableId × ℕ × View F E) → (TableId × ℕ × View F E) → Type 0
  RestsAgain lock worker before pass = IsAtRest lock worker (view_of before).reach (view_of before).weight (view_of before).workers pass

  -- a pass is for the workers from a first one on, each with one weight
  abbrev pub IsFor : TableId → ℕ → ℕ → (TableId × ℕ × View F E) → Type 0
  IsFor lock first reach pass = IsAtRest lock first reach (reach - first) (view_of pass).workers pass

  -- and later the same, when the passes that were cut off are joined to it
  abbrev pub IsBack : TableId → ℕ → ℕ → (TableId × ℕ × View F E) → (TableId × ℕ × View F E) → Type 0
  IsBack lock first reach before pass = IsAtRest lock first (first + 1) (reach - first) (view_of before).workers pass
