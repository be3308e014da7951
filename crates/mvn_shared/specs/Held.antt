-- The bytes of a text, whether it alone has them or shares them with its copies.
use Rattle.std.specs.Prelude.{List, ℕ}
use Rattle.std.specs.String.{string_bytes}
use Rattle.mvn_shared.specs.declared.held.Held.{Held}
use Rattle.mvn_shared.specs.declared.held.Held.TheVariants.{Own, Within}

abbrev pub held_bytes : Held → List ℕ
held_bytes (Own text) = string_bytes text
held_bytes (Within part) = part
