-- A text as plain pieces and the expressions between them. POM Reference, "Properties".
use Rattle.std.specs.Prelude.{ℕ, zero, suc, nat_eq, List, [], ◌∷◌, ◌++◌, codes, length, Option, Some, None, option_map, if◌then◌else◌}
use Rattle.interpolation.specs.declared.part.Part.{Part}
use Rattle.interpolation.specs.declared.part.Part.TheVariants.{Plain, Name}

-- what stands before the first such byte, and behind it
abbrev pub cut : ℕ → List ℕ → Option (List ℕ × List ℕ)
cut c [] = None
cut c (b ∷ text) = if nat_eq b c then Some ([], text) else option_map (λ e. (b ∷ e.0, e.1)) (cut c text)

-- what a text goes on with: nothing more to find, a `$` alone, or an expression, from `${` to the next `}`
pub data Next : Type 0 where
  Last : Next
  Dollar : (before further : List ℕ) → Next
  Named : (before name further : List ℕ) → Next

abbrev pub closed : List ℕ → Option (List ℕ × List ℕ) → Next
closed before None = Last
closed before (Some e) = Named before e.0 e.1

abbrev pub opened : List ℕ → List ℕ → Option (List ℕ) → Next
opened before after None = Dollar before after
opened before after (Some inside) = closed before (cut 125 inside)

-- what stands behind an opening brace
abbrev pub inside_of : List ℕ → Option (List ℕ)
inside_of [] = None
inside_of (b ∷ text) = if nat_eq b 123 then Some text else None

abbrev pub found : Option (List ℕ × List ℕ) → Next
found None = Last
found (Some e) = opened e.0 e.1 (inside_of e.1)

abbrev pub next_of : List ℕ → Next
next_of text = found (cut 36 text)

abbrev pub split : (List ℕ → List Part) → List ℕ → Next → List Part
split further text Last = Plain text ∷ []
split further text (Dollar before rest) = Plain before ∷ Plain (codes "$") ∷ further rest
split further text (Named before name rest) = Plain before ∷ Name name ∷ further rest

-- the parts of a text, as long as one can be found: the number is the text's length at first
abbrev pub parts_within : ℕ → List ℕ → List Part
parts_within zero text = Plain text ∷ []
parts_within (suc n) text = split (parts_within n) text (next_of text)

unfoldable pub parts : List ℕ → List Part
parts text = parts_within (length text) text

-- how parts are written
abbrev pub spelled : Part → List ℕ
spelled (Plain text) = text
spelled (Name name) = codes "${" ++ name ++ codes "}"
