-- Which POMs of a project were met: what a set of paths is to answer.
use Rattle.std.specs.Prelude.{ℕ, Bool, List}
use Rattle.std.specs.List.{list_any}
use Rattle.std.specs.Str.{bytes_eq}
use Rattle.discovery.specs.declared.pom.ModulePom.{ModulePom}

-- the POM at a path is one of these
abbrev pub is_met : List ModulePom → List ℕ → Bool
is_met found path = list_any (λ (pom : ModulePom). bytes_eq pom.path path) found
