-- The read table: which elements of a POM are read, as what, and how often each may stand. POM Reference.
use Rattle.std.specs.Prelude.{ℕ, Bool, ◌&&◌, ◌||◌, ◌==◌, List, [], ◌∷◌, codes, Option, option_map, find}
use Rattle.std.specs.Str.{bytes_eq}
use Rattle.pom_model.specs.declared.table.Kind.{Kind}
use Rattle.pom_model.specs.declared.table.Kind.TheVariants as kind
use Rattle.pom_model.specs.declared.table.Times.{Times}
use Rattle.pom_model.specs.declared.table.Times.TheVariants.{Optional, Required, RequiredAlone, Repeated}
use denote.Ref.{Bor}

unfoldable pub kind_number : Kind → ℕ
kind_number kind.Project = 0
kind_number kind.Parent = 1
kind_number kind.Modules = 2
kind_number kind.Properties = 3
kind_number kind.DependencyManagement = 4
kind_number kind.Dependencies = 5
kind_number kind.Dependency = 6
kind_number kind.Exclusions = 7
kind_number kind.Exclusion = 8
kind_number kind.Build = 9
kind_number kind.Resources = 10
kind_number kind.TestResources = 11
kind_number kind.Resource = 12
kind_number kind.PluginManagement = 13
kind_number kind.Plugins = 14
kind_number kind.Plugin = 15
kind_number kind.Executions = 16
kind_number kind.Execution = 17
kind_number kind.Goals = 18
kind_number kind.Extensions = 19
kind_number kind.Extension = 20
kind_number kind.Configuration = 21
kind_number kind.Profiles = 22
kind_number kind.Profile = 23
kind_number kind.ProfileBuild = 24
kind_number kind.Activation = 25
kind_number kind.ActivationProperty = 26
kind_number kind.ActivationFile = 27
kind_number kind.ActivationOs = 28
kind_number kind.Leaf = 29

-- a line of the table: under what an element stands, its name, what it is read as, and how often it may stand
pub record Row : Type 0 where
  pub under : Kind
  pub name : List ℕ
  pub inner : Kind
  pub times : Times

abbrev row : Kind → List ℕ → Kind → Times → Row
row under name inner times = record { under = under; name = name; inner = inner; times = times }

-- a row of the program as a line of the table
abbrev pub row_view : (Kind × Bor (List ℕ) × Kind × Times) → Row
row_view r = row r.0 r.1.now r.2 r.3

-- `*` is any name
unfoldable pub table : List Row
table =
    row kind.Project (codes "modelVersion") kind.Leaf Optional
    ∷ row kind.Project (codes "parent") kind.Parent Optional
    ∷ row kind.Project (codes "groupId") kind.Leaf RequiredAlone
    ∷ row kind.Project (codes "version") kind.Leaf RequiredAlone
    ∷ row kind.Project (codes "artifactId") kind.Leaf Required
    ∷ row kind.Project (codes "packaging") kind.Leaf Optional
    ∷ row kind.Project (codes "modules") kind.Modules Optional
    ∷ row kind.Project (codes "properties") kind.Properties Optional
    ∷ row kind.Project (codes "dependencyManagement") kind.DependencyManagement Optional
    ∷ row kind.Project (codes "dependencies") kind.Dependencies Optional
    ∷ row kind.Project (codes "build") kind.Build Optional
    ∷ row kind.Project (codes "profiles") kind.Profiles Optional
    ∷ row kind.Parent (codes "groupId") kind.Leaf Required
    ∷ row kind.Parent (codes "artifactId") kind.Leaf Required
    ∷ row kind.Parent (codes "version") kind.Leaf Required
    ∷ row kind.Parent (codes "relativePath") kind.Leaf Optional
    ∷ row kind.Modules (codes "module") kind.Leaf Repeated
    ∷ row kind.Properties (codes "*") kind.Leaf Repeated
    ∷ row kind.DependencyManagement (codes "dependencies") kind.Dependencies Optional
    ∷ row kind.Dependencies (codes "dependency") kind.Dependency Repeated
    ∷ row kind.Dependency (codes "groupId") kind.Leaf Required
    ∷ row kind.Dependency (codes "artifactId") kind.Leaf Required
    ∷ row kind.Dependency (codes "version") kind.Leaf Optional
    ∷ row kind.Dependency (codes "type") kind.Leaf Optional
    ∷ row kind.Dependency (codes "classifier") kind.Leaf Optional
    ∷ row kind.Dependency (codes "scope") kind.Leaf Optional
    ∷ row kind.Dependency (codes "optional") kind.Leaf Optional
    ∷ row kind.Dependency (codes "exclusions") kind.Exclusions Optional
    ∷ row kind.Exclusions (codes "exclusion") kind.Exclusion Repeated
    ∷ row kind.Exclusion (codes "groupId") kind.Leaf Optional
    ∷ row kind.Exclusion (codes "artifactId") kind.Leaf Optional
    ∷ row kind.Build (codes "directory") kind.Leaf Optional
    ∷ row kind.Build (codes "outputDirectory") kind.Leaf Optional
    ∷ row kind.Build (codes "testOutputDirectory") kind.Leaf Optional
    ∷ row kind.Build (codes "finalName") kind.Leaf Optional
    ∷ row kind.Build (codes "sourceDirectory") kind.Leaf Optional
    ∷ row kind.Build (codes "testSourceDirectory") kind.Leaf Optional
    ∷ row kind.Build (codes "resources") kind.Resources Optional
    ∷ row kind.Build (codes "testResources") kind.TestResources Optional
    ∷ row kind.Build (codes "plugins") kind.Plugins Optional
    ∷ row kind.Build (codes "pluginManagement") kind.PluginManagement Optional
    ∷ row kind.Build (codes "extensions") kind.Extensions Optional
    ∷ row kind.Resources (codes "resource") kind.Resource Repeated
    ∷ row kind.TestResources (codes "testResource") kind.Resource Repeated
    ∷ row kind.Resource (codes "directory") kind.Leaf Optional
    ∷ row kind.PluginManagement (codes "plugins") kind.Plugins Optional
    ∷ row kind.Plugins (codes "plugin") kind.Plugin Repeated
    ∷ row kind.Plugin (codes "groupId") kind.Leaf Optional
    ∷ row kind.Plugin (codes "artifactId") kind.Leaf Required
    ∷ row kind.Plugin (codes "version") kind.Leaf Optional
    ∷ row kind.Plugin (codes "inherited") kind.Leaf Optional
    ∷ row kind.Plugin (codes "dependencies") kind.Dependencies Optional
    ∷ row kind.Plugin (codes "executions") kind.Executions Optional
    ∷ row kind.Plugin (codes "configuration") kind.Configuration Optional
    ∷ row kind.Executions (codes "execution") kind.Execution Repeated
    ∷ row kind.Execution (codes "id") kind.Leaf Optional
    ∷ row kind.Execution (codes "phase") kind.Leaf Optional
    ∷ row kind.Execution (codes "goals") kind.Goals Optional
    ∷ row kind.Execution (codes "inherited") kind.Leaf Optional
    ∷ row kind.Execution (codes "configuration") kind.Configuration Optional
    ∷ row kind.Goals (codes "goal") kind.Leaf Repeated
    ∷ row kind.Extensions (codes "extension") kind.Extension Repeated
    ∷ row kind.Extension (codes "groupId") kind.Leaf Required
    ∷ row kind.Extension (codes "artifactId") kind.Leaf Required
    ∷ row kind.Extension (codes "version") kind.Leaf Required
    ∷ row kind.Configuration (codes "*") kind.Configuration Repeated
    ∷ row kind.Profiles (codes "profile") kind.Profile Repeated
    ∷ row kind.Profile (codes "id") kind.Leaf Optional
    ∷ row kind.Profile (codes "activation") kind.Activation Optional
    ∷ row kind.Profile (codes "modules") kind.Modules Optional
    ∷ row kind.Profile (codes "properties") kind.Properties Optional
    ∷ row kind.Profile (codes "dependencyManagement") kind.DependencyManagement Optional
    ∷ row kind.Profile (codes "dependencies") kind.Dependencies Optional
    ∷ row kind.Profile (codes "build") kind.ProfileBuild Optional
    ∷ row kind.ProfileBuild (codes "plugins") kind.Plugins Optional
    ∷ row kind.ProfileBuild (codes "pluginManagement") kind.PluginManagement Optional
    ∷ row kind.Activation (codes "activeByDefault") kind.Leaf Optional
    ∷ row kind.Activation (codes "property") kind.ActivationProperty Optional
    ∷ row kind.Activation (codes "file") kind.ActivationFile Optional
    ∷ row kind.Activation (codes "jdk") kind.Leaf Optional
    ∷ row kind.Activation (codes "os") kind.ActivationOs Optional
    ∷ row kind.ActivationProperty (codes "name") kind.Leaf Optional
    ∷ row kind.ActivationProperty (codes "value") kind.Leaf Optional
    ∷ row kind.ActivationFile (codes "exists") kind.Leaf Optional
    ∷ row kind.ActivationFile (codes "missing") kind.Leaf Optional
    ∷ row kind.ActivationOs (codes "name") kind.Leaf Optional
    ∷ row kind.ActivationOs (codes "family") kind.Leaf Optional
    ∷ row kind.ActivationOs (codes "arch") kind.Leaf Optional
    ∷ row kind.ActivationOs (codes "version") kind.Leaf Optional
    ∷ []

abbrev pub is_row : Kind → List ℕ → Row → Bool
is_row under name r = kind_number r.under == kind_number under && (bytes_eq r.name (codes "*") || bytes_eq r.name name)

-- what the table says of an element: what it is read as, and how often it may stand
unfoldable pub found : Kind → List ℕ → Option (Kind × Times)
found under name = option_map (λ r. (r.inner, r.times)) (find (is_row under name) table)
