-- What an object outside tells of itself: something, or nothing.
use Rattle.std.specs.Prelude.{◌≡◌, ℕ, List, ◌++◌, take, Option, Some, None}

-- what is told after more has been added; what tells nothing goes on telling nothing
abbrev pub gains : Option (List ℕ) → List ℕ → Option (List ℕ)
gains None more = None
gains (Some told) more = Some (told ++ more)

-- of a text, a part from its front was added: nothing, all or some of it
abbrev pub IsCut : (text : List ℕ) (before now : Option (List ℕ)) → Type 0
IsCut text before now = (count : ℕ) × (now ≡ gains before (take count text))
