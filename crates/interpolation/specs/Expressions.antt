-- Values by name. Own rule: of equal names the last counts.
use Rattle.std.specs.Prelude.{ℕ, List, [], ◌∷◌, Option, Some, None, if◌then◌else◌}
use Rattle.std.specs.Map.{lookup}
use Rattle.std.specs.Option.{option_or}
use Rattle.std.specs.Str.{bytes_eq}
use Rattle.mvn_base.specs.declared.machine.Pair.{Pair}

-- the value of a name, of equal names the last
abbrev pub last_named : List Pair → List ℕ → Option (List ℕ)
last_named [] name = None
last_named (p ∷ pairs) name = option_or (last_named pairs name) (if bytes_eq p.name name then Some p.value else None)

-- the value that is kept for a name
abbrev pub value_of : List (List ℕ × List ℕ) → List ℕ → Option (List ℕ)
value_of values name = lookup (λ k. bytes_eq name k) values
