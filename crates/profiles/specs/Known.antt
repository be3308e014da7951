-- The program's own words for what it keeps of properties.
use Rattle.std.specs.Prelude.{ℕ, List, codes, Option}
use Rattle.std.specs.Option.{option_and_then}
use Rattle.interpolation.specs.Expressions.{value_of}
use Rattle.profiles.specs.Lookups.{behind, chosen}
use Rattle.profiles.specs.declared.lookup.Known.{Known}

abbrev pub variable : List (List ℕ × List ℕ) → List ℕ → Option (List ℕ)
variable env name = option_and_then (value_of env) (behind (codes "env.") name)

abbrev pub known_value : Known → List ℕ → Option (List ℕ)
known_value known = chosen (value_of known.defines) (value_of known.system) (value_of known.env)
