-- The files that a module may be installed as. Maven's repository layout; that each module has all of them is a project rule.
use Rattle.std.specs.Prelude.{ℕ, Bool, not, ◌&&◌, List, [], ◌∷◌, codes, if◌then◌else◌}
use Rattle.std.specs.Str.{bytes_eq}
use Rattle.mvn_base.specs.FileName.{file_name}
use Rattle.mvn_base.specs.Names.{is_name}
use Rattle.mvn_base.specs.Types.{type_rule}
use Rattle.mvn_base.specs.declared.gav.Gav.{Gav}
use Rattle.goal_types.specs.declared.goal.Slot.{Slot}
use Rattle.goal_types.specs.declared.goal.Slot.TheVariants as slots
use Rattle.model_types.specs.declared.model.Model.{Model}
use Rattle.classpaths.specs.Classpaths.{pom_file}
use Rattle.module_plan.specs.declared.selected.Output.{Output}

abbrev pub is_pom : Model → Bool
is_pom m = bytes_eq m.packaging (codes "pom")

-- the extension of the file that the packaging makes; that of each known packaging is a name
abbrev pub main_extension : Model → List ℕ
main_extension m = (type_rule m.packaging).extension

-- a POM alone has no main file
abbrev pub has_main : Model → Bool
has_main m = not (is_pom m) && is_name (main_extension m)

abbrev pub output : Slot → List ℕ → Output
output slot name = record { slot = slot; name = name }

abbrev pub main_output : Model → Output
main_output m = output slots.Main (file_name m.gav [] (main_extension m))

-- what may be attached to it
abbrev pub attached : Gav → List Output
attached gav =
    output slots.Tests (file_name gav (codes "tests") (codes "jar"))
    ∷ output slots.Sources (file_name gav (codes "sources") (codes "jar"))
    ∷ output slots.Javadoc (file_name gav (codes "javadoc") (codes "jar")) ∷ []

-- the POM, the main file, and what may be attached
unfoldable pub outputs : Model → List Output
outputs m =
    output slots.Pom (pom_file m.gav)
    ∷ (if has_main m then main_output m ∷ attached m.gav else attached m.gav)
