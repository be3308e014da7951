-- The properties that a profile's criteria ask for. Introduction to Build Profiles, "Profile activation".
use Rattle.std.specs.Prelude.{ℕ, List, codes, length, take, drop, Option, Some, None, if◌then◌else◌}
use Rattle.std.specs.Option.{option_and_then, option_or}
use Rattle.std.specs.Str.{bytes_eq}
use Rattle.mvn_base.specs.declared.machine.Pair.{Pair}
use Rattle.interpolation.specs.Expressions.{last_named}

-- the value of a name, where it has one
abbrev pub Lookup : Type 0
Lookup = List ℕ → Option (List ℕ)

-- what stands behind the beginning of a text, where it has it
abbrev pub behind : List ℕ → List ℕ → Option (List ℕ)
behind front text =
    if bytes_eq (take (length front) text) front then Some (drop (length front) text) else None

-- a value of the command line, else of the system, else of the environment by its name behind `env.`
abbrev pub chosen : Lookup → Lookup → Lookup → Lookup
chosen defines system env name =
    option_or (defines name)
    (option_or (system name) (option_and_then env (behind (codes "env.") name)))

abbrev pub property_of : List Pair → List Pair → List Pair → Lookup
property_of defines system env name =
    chosen (last_named defines) (last_named system) (last_named env) name
