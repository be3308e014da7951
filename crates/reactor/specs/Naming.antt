-- Which modules a model names. Guide to Working with Multiple Modules, "Reactor Sorting"; that a plugin without a version names every
-- module of its group and artifact is what Maven does, and the rest project rules.
use Rattle.std.specs.Prelude.{ℕ, Bool, true, false, ◌&&◌, List, [], ◌∷◌, Option, None, Some, Result, Ok, Err}
use Rattle.std.specs.Str.{bytes_eq}
use Rattle.versions.specs.Requirements.{admits, requirement}
use Rattle.versions.specs.declared.requirement.Requirement.{Requirement}
use Rattle.versions.specs.declared.requirement.Requirement.TheVariants.{Soft, Hard}
use Rattle.mvn_base.specs.declared.gav.Gav.{Gav}
use Rattle.model_types.specs.declared.model.Model.{Model}
use Rattle.reactor.specs.Numbers.{numbers_where}

-- a requirement asks for this version, or for one in its ranges; a text that is none asks for no version
abbrev pub asks_for : List ℕ → Result Requirement ℕ → Bool
asks_for version (Ok (Soft text)) = bytes_eq text version
asks_for version (Ok (Hard intervals)) = admits (Hard intervals) version
asks_for version (Err place) = false

-- a version that is stated is asked for; if none is, any is
abbrev pub is_asked : Option (List ℕ) → List ℕ → Bool
is_asked None version = true
is_asked (Some text) version = asks_for version (requirement text)

-- coordinates are those that a group, an artifact and a stated version name
abbrev pub is_named : (group artifact : List ℕ) → Option (List ℕ) → Gav → Bool
is_named group artifact version gav =
    bytes_eq gav.artifact artifact && (bytes_eq gav.group group && is_asked version gav.version)

-- the modules that are named so
unfoldable pub named : List Model → (group artifact : List ℕ) → Option (List ℕ) → List ℕ
named modules group artifact version = numbers_where (is_named group artifact version) modules

-- a version that may be left out, as it is in an extension
abbrev pub stated : List ℕ → Option (List ℕ)
stated [] = None
stated (b ∷ version) = Some (b ∷ version)
