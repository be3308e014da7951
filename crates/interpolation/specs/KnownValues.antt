-- The value of a name, and texts filled with values. POM Reference, "Properties"; limits, and which refusal comes first, are own rules.
use Rattle.std.specs.Prelude.{ℕ, zero, suc, Bool, not, nat_lt, ◌==◌, ◌&&◌, List, [], ◌∷◌, ◌++◌, length, filter, Result, Ok, Err, if◌then◌else◌}
use Rattle.std.specs.List.{list_any}
use Rattle.std.specs.Option.{option_map_or}
use Rattle.std.specs.Str.{bytes_eq}
use Rattle.mvn_base.specs.declared.machine.Pair.{Pair}
use Rattle.mvn_base.specs.declared.rule.Rule.{Rule}
use Rattle.mvn_base.specs.declared.rule.Rule.TheVariants.{ExpressionCycle, TooLarge}
use Rattle.interpolation.specs.declared.part.Part.{Part}
use Rattle.interpolation.specs.declared.part.Part.TheVariants.{Plain, Name}
use Rattle.interpolation.specs.Expressions.{last_named}
use Rattle.interpolation.specs.Parts.{parts, spelled}

-- what is filled, or the first refusal: its rule, and the name or the element that it is about
abbrev pub Filled : Type 0 → Type 0
Filled A = Result A (Rule × List ℕ)

infixl 10 ◌>>=◌
abbrev pub ◌>>=◌ : {A B : Type 0} → Filled A → (A → Filled B) → Filled B
Ok x >>= f = f x
Err e >>= f = Err e

-- bytes of a text in which expressions are filled
abbrev pub longest : ℕ
longest = 65536

-- a text that is no longer than a filled one may be
abbrev pub limited : List ℕ → List ℕ → Filled (List ℕ)
limited place text = if nat_lt longest (length text) then Err (TooLarge, place) else Ok text

abbrev pub part_value : (List ℕ → Filled (List ℕ)) → Part → Filled (List ℕ)
part_value value (Plain text) = Ok text
part_value value (Name name) = value name

-- a part, behind what those before it came to
abbrev pub with_part : List ℕ → (List ℕ → Filled (List ℕ)) → List ℕ → Part → Filled (List ℕ)
with_part place value done part = part_value value part >>= (λ text. limited place (done ++ text))

-- parts, from the left
abbrev pub filled_from : List ℕ → (List ℕ → Filled (List ℕ)) → List ℕ → List Part → Filled (List ℕ)
filled_from place value done [] = Ok done
filled_from place value done (p ∷ ps) = with_part place value done p >>= (λ more. filled_from place value more ps)

-- a text, with values in the place of its expressions
abbrev pub filled : List ℕ → (List ℕ → Filled (List ℕ)) → List ℕ → Filled (List ℕ)
filled place value text = filled_from place value [] (parts text)

-- a text that stands as it is written: no `$` is in it, and it isn't too long
abbrev pub stands : List ℕ → Bool
stands text = not (list_any (λ c. c == 36) text) && not (nat_lt longest (length text))

-- a name that is met again on its own way
abbrev pub again : List ℕ → Filled (List ℕ)
again name = Err (ExpressionCycle, name)

abbrev pub is_on : List ℕ → List (List ℕ) → Bool
is_on name seen = list_any (λ s. bytes_eq s name) seen

module _ (known : List Pair) where
  -- how many can be met that aren't on the way
  abbrev pub left : List (List ℕ) → ℕ
  left seen = length (filter (λ (p : Pair). not (is_on p.name seen)) known)

  -- a name that is met: again on its own way; unknown, which stays as written; or with a text, which this fills
  abbrev pub met : List (List ℕ) → List ℕ → (List ℕ → Filled (List ℕ)) → Filled (List ℕ)
  met seen name fills = if is_on name seen then again name else option_map_or fills (last_named known name) (Ok (spelled (Name name)))

  -- the value of a name, where these names are on its way; the number is how many others can be met, so that at none no text is met
  abbrev pub value_within : ℕ → List (List ℕ) → List ℕ → Filled (List ℕ)
  value_within zero seen name = met seen name (λ text. again name)
  value_within (suc n) seen name = met seen name (filled name (value_within n (name ∷ seen)))

  abbrev pub value : List (List ℕ) → List ℕ → Filled (List ℕ)
  value seen name = value_within (left seen) seen name
