-- The program's own words: which names a worker holds at a place of its script.
use Rattle.std.specs.Prelude.{◌≡◌, ℕ, ◌<◌, ◌≤◌, ◌⊎◌, true, false, List, [], ◌∷◌, ◌++◌, length, take}
use Rattle.scripts.specs.declared.outline.ModuleOutline.{ModuleOutline}
use Rattle.scripts.specs.declared.deed.Deed.{Deed}
use Rattle.scripts.specs.declared.deed.Deed.TheVariants as deed
use Rattle.scripts.specs.declared.script_place.ScriptPlace.{ScriptPlace}
use Rattle.scripts.specs.declared.script_place.ScriptPlace.TheVariants as place
use Rattle.scripts.specs.declared.rest.Rest.{Rest}
use Rattle.scripts.specs.declared.rest.Rest.TheVariants.{From, Nothing}
use Rattle.scripts.specs.Climbing.{but}
use Rattle.scripts.specs.Outlines.{is_empty, is_listed}

-- at a place that wants an event
abbrev pub HoldsAt : ModuleOutline → ScriptPlace → List ℕ → Type 0
HoldsAt m (place.Sharing i) held = (i < length m.batch) × (held ≡ take i m.batch)
HoldsAt m place.Unsharing held = is_empty held ≡ false
HoldsAt m (place.Locking i) held = (i < length m.batch) × (held ≡ take i m.batch)
HoldsAt m (place.Fetching i) held = (i < length m.fetch) × (held ≡ m.batch)
HoldsAt m (place.Reading i) held = (i < length m.reads) × (held ≡ m.batch)
HoldsAt m place.Releasing held = is_empty held ≡ false
HoldsAt m (place.Answering i) held = (i < m.goals) × (held ≡ [])
HoldsAt m place.Securing held = (m.installs ≡ true) × (held ≡ [])
HoldsAt m (place.Installing i) held = held ≡ m.own_name ∷ []
HoldsAt m place.Whole held = held ≡ []

-- and directly behind a deed
abbrev pub HoldsBehind : ModuleOutline → ScriptPlace → List ℕ → Type 0
HoldsBehind m (place.Sharing i) held = held ≡ take i m.batch
HoldsBehind m place.Unsharing held = Unit {0}
HoldsBehind m (place.Locking i) held = held ≡ take i m.batch
HoldsBehind m (place.Fetching i) held = held ≡ m.batch
HoldsBehind m (place.Reading i) held = held ≡ m.batch
HoldsBehind m place.Releasing held = Unit {0}
HoldsBehind m (place.Answering i) held = held ≡ []
HoldsBehind m place.Securing held = held ≡ []
HoldsBehind m (place.Installing i) held = (held ≡ m.own_name ∷ []) ⊎ ((held ≡ []) × (length m.own ≤ i))
HoldsBehind m place.Whole held = held ≡ []

-- where this is left of its script, settled and directly behind a deed
abbrev pub RestHolds : Rest → List ℕ → Type 0
RestHolds Nothing held = Unit {0}
RestHolds (From m p) held = HoldsAt m.now p held

abbrev pub RestHoldsBehind : Rest → List ℕ → Type 0
RestHoldsBehind Nothing held = Unit {0}
RestHoldsBehind (From m p) held = HoldsBehind m.now p held

-- what holds of the names that are held behind a deed: one more, any one less, or the same
abbrev pub HoldsThen : Deed → List ℕ → (List ℕ → Type 0) → Type 0
HoldsThen (deed.Take mode name) held P = P (held ++ name ∷ [])
HoldsThen deed.Free held P = (n : ℕ) → is_listed n held ≡ true → P (but n held)
HoldsThen (deed.Read file) held P = P held
HoldsThen (deed.Publish file) held P = P held
HoldsThen (deed.Answer goal) held P = P held
