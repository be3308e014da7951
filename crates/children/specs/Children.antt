-- What is told of children: which are there, and a record of each that was started. Own model.
use Rattle.std.specs.Prelude.{◌≡◌, ℕ, zero, suc, ◌+◌, ℤ, Bool, true, false, List, [], ◌∷◌, ◌++◌, drop, slice_get, Option, Some, None, is_some, option_map, option_and_then}
use Rattle.std.specs.Ordering.{nat_cmp}
use Rattle.std.specs.FinMap as map
use Rattle.children.specs.declared.spawner.ChildRecord.{ChildRecord}

-- the children that are there: a finite map with nothing but their numbers
abbrev pub Children : Type 0
Children = map.FinMap nat_cmp (Unit {0})

-- a child is there
abbrev pub is_there : Children → ℕ → Bool
is_there children child = is_some (map.get children child)

-- one child more, and one less
abbrev pub with_child : Children → ℕ → Children
with_child children child = map.insert children child tt

abbrev pub without_child : Children → ℕ → Children
without_child children child = map.remove children child

-- a child that was just started: it was given nothing, its input is open, and nothing of its output was read
abbrev pub fresh_child : List ℕ → ℤ → ChildRecord
fresh_child output status = record { given = []; closed = false; output = output; taken = 0; status = status }

-- a start: one record more, of some output and some status; what tells nothing goes on so
abbrev pub Starts : Option (List ChildRecord) → Option (List ChildRecord) → Type 0
Starts None now = now ≡ None
Starts (Some records) now = (output : List ℕ) × (status : ℤ) × (now ≡ Some (records ++ fresh_child output status ∷ []))

-- a child that was given more bytes
abbrev pub given_more : List ℕ → ChildRecord → ChildRecord
given_more bytes child = record child { given = child.given ++ bytes }

-- a child whose input was closed
abbrev pub input_closed : ChildRecord → ChildRecord
input_closed child = record child { closed = true }

-- a child of whose output so many bytes more were read
abbrev pub read_on : ℕ → ChildRecord → ChildRecord
read_on count child = record child { taken = child.taken + count }

-- what of a child's output is left to read
abbrev pub unread : ChildRecord → List ℕ
unread child = drop child.taken child.output

-- the item at a place, changed; the others stay
abbrev pub change_at : {A : Type 0} → (A → A) → ℕ → List A → List A
change_at f n [] = []
change_at f zero (x ∷ xs) = f x ∷ xs
change_at f (suc n) (x ∷ xs) = x ∷ change_at f n xs

-- what is told after one child's record was changed
abbrev pub changed : (ChildRecord → ChildRecord) → ℕ → Option (List ChildRecord) → Option (List ChildRecord)
changed f child told = option_map (change_at f child) told

-- a child's record, where it is told
abbrev pub record_of : ℕ → Option (List ChildRecord) → Option ChildRecord
record_of child told = option_and_then (λ records. slice_get records child) told
