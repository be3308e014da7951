-- The lines of the table under each kind of element: where they stand in it. That they are all of them is proved beside it.
use Rattle.std.specs.Prelude.{ℕ, Bool, true, not, ◌&&◌, ◌||◌, ◌==◌, List, codes, Some, is_some}
use Rattle.std.specs.List.{filter}
use Rattle.std.specs.Str.{bytes_eq}
use Rattle.pom_text.specs.declared.node.Node.{Node}
use Rattle.pom_model.specs.declared.table.Kind.{Kind}
use Rattle.pom_model.specs.declared.table.Kind.TheVariants as kind
use Rattle.pom_model.specs.Elements.{text_of}
use Rattle.pom_model.specs.Faults.{is_required}
use Rattle.pom_model.specs.Table.{Row, kind_number, table}

abbrev pub is_under : Kind → Row → Bool
is_under kind r = kind_number r.under == kind_number kind

abbrev pub rows_under : Kind → List Row
rows_under kind = filter (is_under kind) table

-- an element has to be there, and is not, or is empty
abbrev pub is_lacking : List Node → Node → Bool → Row → Bool
is_lacking nodes node alone r = is_required alone r.times && not (is_some (text_of nodes r.name (Some node)))

-- the lines of elements that may have to be there
abbrev pub may_lack : Row → Bool
may_lack r = is_required true r.times

abbrev pub required_under : Kind → List Row
required_under kind = filter may_lack (rows_under kind)

-- `*` is any name
abbrev pub is_named : List ℕ → Row → Bool
is_named name r = bytes_eq r.name (codes "*") || bytes_eq r.name name

abbrev pub span : Kind → ℕ × ℕ
span kind.Project = (0, 12)
span kind.Parent = (12, 16)
span kind.Modules = (16, 17)
span kind.Properties = (17, 18)
span kind.DependencyManagement = (18, 19)
span kind.Dependencies = (19, 20)
span kind.Dependency = (20, 28)
span kind.Exclusions = (28, 29)
span kind.Exclusion = (29, 31)
span kind.Build = (31, 42)
span kind.Resources = (42, 43)
span kind.TestResources = (43, 44)
span kind.Resource = (44, 45)
span kind.PluginManagement = (45, 46)
span kind.Plugins = (46, 47)
span kind.Plugin = (47, 54)
span kind.Executions = (54, 55)
span kind.Execution = (55, 60)
span kind.Goals = (60, 61)
span kind.Extensions = (61, 62)
span kind.Extension = (62, 65)
span kind.Configuration = (65, 66)
span kind.Profiles = (66, 67)
span kind.Profile = (67, 74)
span kind.ProfileBuild = (74, 76)
span kind.Activation = (76, 81)
span kind.ActivationProperty = (81, 83)
span kind.ActivationFile = (83, 85)
span kind.ActivationOs = (85, 89)
span kind.Leaf = (89, 89)

-- where those stand that may have to be there
abbrev pub required_span : Kind → ℕ × ℕ
required_span kind.Project = (2, 5)
required_span kind.Parent = (12, 15)
required_span kind.Modules = (0, 0)
required_span kind.Properties = (0, 0)
required_span kind.DependencyManagement = (0, 0)
required_span kind.Dependencies = (0, 0)
required_span kind.Dependency = (20, 22)
required_span kind.Exclusions = (0, 0)
required_span kind.Exclusion = (0, 0)
required_span kind.Build = (0, 0)
required_span kind.Resources = (0, 0)
required_span kind.TestResources = (0, 0)
required_span kind.Resource = (0, 0)
required_span kind.PluginManagement = (0, 0)
required_span kind.Plugins = (0, 0)
required_span kind.Plugin = (48, 49)
required_span kind.Executions = (0, 0)
required_span kind.Execution = (0, 0)
required_span kind.Goals = (0, 0)
required_span kind.Extensions = (0, 0)
required_span kind.Extension = (62, 65)
required_span kind.Configuration = (0, 0)
required_span kind.Profiles = (0, 0)
required_span kind.Profile = (0, 0)
required_span kind.ProfileBuild = (0, 0)
required_span kind.Activation = (0, 0)
required_span kind.ActivationProperty = (0, 0)
required_span kind.ActivationFile = (0, 0)
required_span kind.ActivationOs = (0, 0)
required_span kind.Leaf = (0, 0)
