-- Which file a criterion names. Introduction to Build Profiles, "Profile activation"; that a text is filled
-- once, and what an absolute one names, are own rules.
use Rattle.std.specs.Prelude.{ℕ, List, [], ◌∷◌, ◌++◌, codes, flat_map, Option, Some, option_map, unwrap_or, if◌then◌else◌}
use Rattle.std.specs.Option.{is_some}
use Rattle.std.specs.Str.{bytes_eq}
use Rattle.interpolation.specs.declared.part.Part.{Part}
use Rattle.interpolation.specs.declared.part.Part.TheVariants.{Plain, Name}
use Rattle.interpolation.specs.Parts.{parts}
use Rattle.mvn_base.specs.Paths.{joined}
use Rattle.profiles.specs.Lookups.{Lookup, behind}

-- an expression's value, or the expression as it is written
abbrev pub filled_part : List ℕ → Lookup → Part → List ℕ
filled_part basedir value (Plain text) = text
filled_part basedir value (Name name) =
    if bytes_eq name (codes "basedir") then basedir
    else unwrap_or (value name) (codes "${" ++ name ++ codes "}")

-- a text, with `${basedir}/` at its front taken off, and filled once
abbrev pub filled : List ℕ → Lookup → List ℕ → List ℕ
filled basedir value text =
    flat_map (filled_part basedir value)
    (parts (unwrap_or (behind (codes "${basedir}/") text) text))

-- the project's folder that a POM's folder is
abbrev pub basedir_of : List ℕ → List ℕ → List ℕ
basedir_of root [] = root
basedir_of root (b ∷ folder) = root ++ 47 ∷ b ∷ folder

-- an absolute path in the project, from its root on
abbrev pub below_root : List ℕ → List ℕ → Option (List ℕ)
below_root root text =
    if bytes_eq text root then Some []
    else option_map (joined []) (behind (root ++ codes "/") text)

-- the path that a filled text names, from the project's root on
abbrev pub path_of : List ℕ → List ℕ → List ℕ → Option (List ℕ)
path_of root folder text =
    if is_some (behind (codes "/") text) then below_root root text else Some (joined folder text)
