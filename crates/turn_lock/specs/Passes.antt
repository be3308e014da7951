-- What contracts see of a pass: its lock, the number of its view, and the view. Own.
use Rattle.std.specs.Prelude.{◌≡◌, ℕ, List, [], ◌∷◌, Option, None, Some}
use Rattle.atomic_table.specs.Seated.{TableId}

abbrev pub lock_of : {W : Type 0} → TableId × ℕ × W → TableId
lock_of pass = pass.0

abbrev pub view_of : {W : Type 0} → TableId × ℕ × W → W
view_of pass = pass.2

abbrev pub with_view : {W : Type 0} → TableId × ℕ × W → W → TableId × ℕ × W
with_view pass view = (pass.0, pass.1, view)

-- a pass carries the slot exactly while it has a turn out, and nothing is in it then
abbrev pub Carries : {V E : Type 0} → Option (List E) → List (ℕ × Option V) → Type 0
Carries None slots = slots ≡ []
Carries (Some log) slots = slots ≡ (0, None) ∷ []
