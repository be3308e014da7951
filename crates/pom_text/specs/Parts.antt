-- What a piece of a text says. The bytes of characters, and of lines: in text a carriage return with or without a line feed is a line feed. XML 1.0,
-- section 2.11.
use Rattle.std.specs.Prelude.{ℕ, Bool, true, false, ◌&&◌, ◌==◌, List, [], ◌∷◌, ◌++◌, if◌then◌else◌}

-- what a character gives, where the one before it is a carriage return or not
unfoldable pub line_part : Bool → ℕ → List ℕ
line_part returned c = if c == 13 then 10 ∷ [] else if returned && c == 10 then [] else c ∷ []

-- what characters give together
abbrev pub lines : Bool → List ℕ → List ℕ
lines returned [] = []
lines returned (c ∷ text) = line_part returned c ++ lines (c == 13) text

-- a start tag or an empty tag: its name and the names of its attributes, in UTF-8
pub record Tag : Type 0 where
  pub name : List ℕ
  pub attributes : List (List ℕ)

-- a comment or an instruction, which are skipped; a character that stands for itself; a CDATA part, its line ends as line feeds;
-- a reference to a character; and tags, an end tag by its name
pub data Part : Type 0 where
  Passed : Part
  Character : ℕ → Part
  Section : List ℕ → Part
  Reference : ℕ → Part
  Start : Tag → Part
  Empty : Tag → Part
  End : List ℕ → Part

abbrev pub is_empty : {A : Type 0} → List A → Bool
is_empty [] = true
is_empty (x ∷ xs) = false
