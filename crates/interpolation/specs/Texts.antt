-- The texts of elements, with values in the place of their expressions; in some no expression may be left (a project rule).
use Rattle.std.specs.Prelude.{ℕ, List, [], ◌∷◌, Option, None, Some, Ok, Err}
use Rattle.std.specs.Option.{option_map_or}
use Rattle.mvn_base.specs.declared.machine.Pair.{Pair}
use Rattle.mvn_base.specs.declared.rule.Rule.TheVariants.{Unresolved}
use Rattle.interpolation.specs.declared.part.Part.{Part}
use Rattle.interpolation.specs.declared.part.Part.TheVariants.{Plain, Name}
use Rattle.interpolation.specs.Parts.{parts}
use Rattle.interpolation.specs.KnownValues.{Filled, ◌>>=◌, filled, value}

-- the first expression that stands in a text
abbrev pub first_name : List Part → Option (List ℕ)
first_name [] = None
first_name (Plain text ∷ ps) = first_name ps
first_name (Name name ∷ ps) = Some name

abbrev pub unresolved : List ℕ → Filled (List ℕ)
unresolved name = Err (Unresolved, name)

-- a text in which no expression may be left
abbrev pub resolved : List ℕ → Filled (List ℕ)
resolved text = option_map_or unresolved (first_name (parts text)) (Ok text)

module _ (known : List Pair) where
  -- the text of an element of this name
  unfoldable pub text_of : List ℕ → List ℕ → Filled (List ℕ)
  text_of element text = filled element (value known []) text

  -- and of one that says which artifact is meant, or its version or scope
  unfoldable pub name_of : List ℕ → List ℕ → Filled (List ℕ)
  name_of element text = text_of element text >>= resolved
