-- The POMs of the generated project and of its libraries, without white space between elements. Project rules; POM Reference, for the elements.
use Rattle.std.specs.Prelude.{ℕ, zero, suc, ◌-◌, ◌/◌, nat_lt, List, [], ◌∷◌, ◌++◌, length, flat_map, codes, if◌then◌else◌}
use Rattle.std.specs.Fmt.{decimal}
use Rattle.std.specs.Int.Digits.{digits_of}

-- an element with this content
unfoldable pub element : (name content : List ℕ) → List ℕ
element name content = codes "<" ++ name ++ codes ">" ++ content ++ codes "</" ++ name ++ codes ">"

-- the coordinates of version 1.0, and a dependency on them
abbrev pub coordinates : (group artifact : List ℕ) → List ℕ
coordinates group artifact = element (codes "groupId") group ++ element (codes "artifactId") artifact ++ element (codes "version") (codes "1.0")

abbrev pub dependency : (group artifact : List ℕ) → List ℕ
dependency group artifact = element (codes "dependency") (coordinates group artifact)

-- a POM with this content behind the version of the model
abbrev pub pom : List ℕ → List ℕ
pom content = element (codes "project") (element (codes "modelVersion") (codes "4.0.0") ++ content)

-- ---- the root

-- the modules of a project of so many POMs: one less, from 1 on
abbrev pub numbers : (poms : ℕ) → List ℕ
numbers zero = []
numbers (suc zero) = []
numbers (suc (suc n)) = numbers (suc n) ++ suc n ∷ []

-- a module's artifact, which is its folder too
abbrev pub module_name : ℕ → List ℕ
module_name number = codes "m" ++ decimal number

abbrev pub module_element : ℕ → List ℕ
module_element number = element (codes "module") (module_name number)

abbrev pub modules_part : (poms : ℕ) → List ℕ
modules_part poms = if nat_lt poms 2 then [] else element (codes "modules") (flat_map module_element (numbers poms))

unfoldable pub root_pom : (poms : ℕ) → List ℕ
root_pom poms = pom (coordinates (codes "gen") (codes "root") ++ element (codes "packaging") (codes "pom") ++ modules_part poms)

-- ---- the modules

-- how many modules stand below one, down to the first: it has one binary digit more
abbrev pub depth : ℕ → ℕ
depth number = length (digits_of 2 number) - 1

abbrev pub library : ℕ → List ℕ
library number = codes "lib" ++ decimal number

-- the module of half the number, rounded down; the first stands on none
abbrev pub upstream : ℕ → List ℕ
upstream number = if nat_lt number 2 then [] else dependency (codes "gen") (module_name (number / 2))

abbrev pub module_part : ℕ → List ℕ
module_part number = upstream number ++ dependency (codes "ext") (library (depth number))

-- the root is the parent, in the folder above
abbrev pub parent : List ℕ
parent = element (codes "parent") (coordinates (codes "gen") (codes "root"))

unfoldable pub module_pom : ℕ → List ℕ
module_pom number = pom (parent ++ element (codes "artifactId") (module_name number) ++ element (codes "dependencies") (module_part number))

-- ---- the libraries: each stands on the base

unfoldable pub library_pom : (artifact : List ℕ) → List ℕ
library_pom artifact = pom (coordinates (codes "ext") artifact ++ element (codes "dependencies") (dependency (codes "ext") (codes "base")))

unfoldable pub base_pom : List ℕ
base_pom = pom (coordinates (codes "ext") (codes "base"))
