-- A model with its texts filled, in order; the first refusal counts. Project rule for the order: the properties, the coordinates and
-- packaging, the build's folders and final name, what is managed, the dependencies, managed plugins, plugins and extensions, and in each
-- item the order of its fields.
use Rattle.std.specs.Prelude.{ℕ, List, [], ◌∷◌, codes, map, Option, None, Some, Result, Ok, Err}
use Rattle.mvn_base.specs.declared.gav.Gav.{Gav}
use Rattle.mvn_base.specs.declared.machine.Machine.{Machine}
use Rattle.mvn_base.specs.declared.machine.Pair.{Pair}
use Rattle.mvn_base.specs.declared.refusal.Place.TheVariants as places
use Rattle.mvn_base.specs.declared.refusal.PomId.{PomId}
use Rattle.mvn_base.specs.declared.refusal.Refusal.{Refusal}
use Rattle.mvn_base.specs.declared.setting.Setting.{Setting}
use Rattle.mvn_base.specs.declared.setting.Setting.TheOpen.{Setting-F}
use Rattle.mvn_base.specs.declared.setting.Setting.TheViews.{roll-Setting}
use Rattle.mvn_base.specs.declared.setting.Setting.TheFolds.{fold-Setting}
use Rattle.model_types.specs.declared.build.Build.{Build}
use Rattle.model_types.specs.declared.build.BuildBase.{BuildBase}
use Rattle.model_types.specs.declared.build.Outputs.{Outputs}
use Rattle.model_types.specs.declared.build.Sources.{Sources}
use Rattle.model_types.specs.declared.dependency.Dependency.{Dependency}
use Rattle.model_types.specs.declared.dependency.Exclusion.{Exclusion}
use Rattle.model_types.specs.declared.model.Coordinates.{Coordinates}
use Rattle.model_types.specs.declared.model.ModelBase.{ModelBase}
use Rattle.model_types.specs.declared.model.RawModel.{RawModel}
use Rattle.model_types.specs.declared.plugin.Execution.{Execution}
use Rattle.model_types.specs.declared.plugin.Plugin.{Plugin}
use Rattle.interpolation.specs.Named.{named}
use Rattle.interpolation.specs.declared.item_parts.ItemKey.{ItemKey}
use Rattle.interpolation.specs.declared.item_parts.Usage.{Usage}
use Rattle.interpolation.specs.Texts.{name_of, text_of}
use Rattle.interpolation.specs.KnownValues.{Filled, ◌>>=◌}

abbrev pub if_there : {A B : Type 0} → (A → Filled B) → Option A → Filled (Option B)
if_there f None = Ok None
if_there f (Some x) = f x >>= (λ y. Ok (Some y))

-- all of them, the first refusal counting
abbrev pub in_turn : {A : Type 0} → List (Filled A) → Filled (List A)
in_turn [] = Ok []
in_turn (x ∷ xs) = x >>= (λ y. in_turn xs >>= (λ ys. Ok (y ∷ ys)))

abbrev pub each : {A B : Type 0} → (A → Filled B) → List A → Filled (List B)
each f xs = in_turn (map f xs)

-- a base with these in the place of its own; its modules stay as they are
abbrev pub with_items : ModelBase → List Pair → List Dependency → List Dependency → ModelBase
with_items b properties managed dependencies = record { modules = b.modules; properties = properties; managed = managed; dependencies = dependencies }

-- a model with these groups in the place of its own; its POM, parent and profiles stay as they are
abbrev pub with_groups : RawModel → Coordinates → ModelBase → Build → RawModel
with_groups raw coordinates base build = record { pom = raw.pom; parent = raw.parent; coordinates = coordinates; base = base; build = build; profiles = raw.profiles }

-- a dependency of these parts
abbrev pub dependency_of : ItemKey → Usage → List Exclusion → Dependency
dependency_of key usage exclusions = record { group = key.group; artifact = key.artifact; version = key.version; kind = usage.kind; classifier = usage.classifier; scope = usage.scope; optional = usage.optional; exclusions = exclusions }

module _ (known : List Pair) where
  unfoldable pub fill_property : Pair → Filled Pair
  fill_property p = text_of known p.name p.value >>= (λ value. Ok (record { name = p.name; value = value }))

  unfoldable pub fill_exclusion : Exclusion → Filled Exclusion
  fill_exclusion e =
      name_of known (codes "groupId") e.group >>= (λ group.
      name_of known (codes "artifactId") e.artifact >>= (λ artifact.
      Ok (record { group = group; artifact = artifact })))

  unfoldable pub fill_extension : Gav → Filled Gav
  fill_extension g =
      name_of known (codes "groupId") g.group >>= (λ group.
      name_of known (codes "artifactId") g.artifact >>= (λ artifact.
      name_of known (codes "version") g.version >>= (λ version.
      Ok (record { group = group; artifact = artifact; version = version }))))

  -- the texts that say which artifact an item means
  unfoldable pub fill_key : List ℕ → List ℕ → Option (List ℕ) → Filled ItemKey
  fill_key g a v =
      name_of known (codes "groupId") g >>= (λ group.
      name_of known (codes "artifactId") a >>= (λ artifact.
      if_there (name_of known (codes "version")) v >>= (λ version.
      Ok (record { group = group; artifact = artifact; version = version }))))

  -- the texts that say how a dependency is used
  unfoldable pub fill_usage : Dependency → Filled Usage
  fill_usage d =
      name_of known (codes "type") d.kind >>= (λ kind.
      name_of known (codes "classifier") d.classifier >>= (λ classifier.
      if_there (name_of known (codes "scope")) d.scope >>= (λ scope.
      text_of known (codes "optional") d.optional >>= (λ optional.
      Ok (record { kind = kind; classifier = classifier; scope = scope; optional = optional })))))

  unfoldable pub fill_dependency : Dependency → Filled Dependency
  fill_dependency d =
      fill_key d.group d.artifact d.version >>= (λ key.
      fill_usage d >>= (λ usage.
      each fill_exclusion d.exclusions >>= (λ exclusions.
      Ok (dependency_of key usage exclusions))))

  -- a setting's name stays as it is
  abbrev pub setting_step : Setting-F (Filled Setting) → Filled Setting
  setting_step c =
      text_of known c.name c.text >>= (λ text.
      in_turn c.children >>= (λ children.
      Ok (roll-Setting (record { name = c.name; text = text; children = children }))))

  abbrev pub fill_setting : Setting → Filled Setting
  fill_setting = fold-Setting (Filled Setting) setting_step

  unfoldable pub fill_execution : Execution → Filled Execution
  fill_execution e =
      text_of known (codes "id") e.id >>= (λ id.
      if_there (text_of known (codes "phase")) e.phase >>= (λ phase.
      each (text_of known (codes "goal")) e.goals >>= (λ goals.
      each fill_setting e.configuration >>= (λ configuration.
      Ok (record { id = id; phase = phase; goals = goals; inherited = e.inherited; configuration = configuration })))))

  unfoldable pub fill_plugin : Plugin → Filled Plugin
  fill_plugin p =
      fill_key p.group p.artifact p.version >>= (λ key.
      each fill_dependency p.dependencies >>= (λ dependencies.
      each fill_execution p.executions >>= (λ executions.
      each fill_setting p.configuration >>= (λ configuration.
      Ok (record { group = key.group; artifact = key.artifact; version = key.version; inherited = p.inherited; dependencies = dependencies; executions = executions; configuration = configuration })))))

  unfoldable pub fill_coordinates : Coordinates → Filled Coordinates
  fill_coordinates c =
      if_there (name_of known (codes "groupId")) c.group >>= (λ group.
      name_of known (codes "artifactId") c.artifact >>= (λ artifact.
      if_there (name_of known (codes "version")) c.version >>= (λ version.
      text_of known (codes "packaging") c.packaging >>= (λ packaging.
      Ok (record { group = group; artifact = artifact; version = version; packaging = packaging })))))

  unfoldable pub fill_outputs : Outputs → Filled Outputs
  fill_outputs o =
      if_there (text_of known (codes "directory")) o.directory >>= (λ directory.
      if_there (text_of known (codes "outputDirectory")) o.output >>= (λ output.
      if_there (text_of known (codes "testOutputDirectory")) o.test_output >>= (λ test_output.
      if_there (text_of known (codes "finalName")) o.final_name >>= (λ final_name.
      Ok (record { directory = directory; output = output; test_output = test_output; final_name = final_name })))))

  unfoldable pub fill_sources : Sources → Filled Sources
  fill_sources s =
      if_there (text_of known (codes "sourceDirectory")) s.source >>= (λ source.
      if_there (text_of known (codes "testSourceDirectory")) s.test_source >>= (λ test_source.
      each (text_of known (codes "directory")) s.resources >>= (λ resources.
      each (text_of known (codes "directory")) s.test_resources >>= (λ test_resources.
      Ok (record { source = source; test_source = test_source; resources = resources; test_resources = test_resources })))))

  -- what is managed, and the dependencies; the properties are filled before
  unfoldable pub fill_base : ModelBase → List Pair → Filled ModelBase
  fill_base b properties =
      each fill_dependency b.managed >>= (λ managed.
      each fill_dependency b.dependencies >>= (λ dependencies.
      Ok (with_items b properties managed dependencies)))

  unfoldable pub fill_build_base : BuildBase → Filled BuildBase
  fill_build_base b =
      each fill_plugin b.managed_plugins >>= (λ managed_plugins.
      each fill_plugin b.plugins >>= (λ plugins.
      Ok (record { plugins = plugins; managed_plugins = managed_plugins })))

  -- the plugins and the extensions; the folders and the final name are filled before
  unfoldable pub fill_build : Build → Outputs → Sources → Filled Build
  fill_build b outputs sources =
      fill_build_base b.base >>= (λ base.
      each fill_extension b.extensions >>= (λ extensions.
      Ok (record { outputs = outputs; sources = sources; base = base; extensions = extensions })))

  -- a model of this base and build
  unfoldable pub fill_groups : RawModel → ModelBase → Build → Filled RawModel
  fill_groups raw base build =
      each fill_property base.properties >>= (λ properties.
      fill_coordinates raw.coordinates >>= (λ coordinates.
      fill_outputs build.outputs >>= (λ outputs.
      fill_sources build.sources >>= (λ sources.
      fill_base base properties >>= (λ filled_base.
      fill_build build outputs sources >>= (λ filled_build.
      Ok (with_groups raw coordinates filled_base filled_build)))))))

  abbrev pub fill_model : RawModel → Filled RawModel
  fill_model raw = fill_groups raw raw.base raw.build

-- a refusal names the POM
abbrev pub refused_in : PomId → Filled RawModel → Result RawModel Refusal
refused_in pom (Ok model) = Ok model
refused_in pom (Err e) = Err (record { pom = pom; rule = e.0; place = places.Name e.1 })

-- a model with its texts filled, or the first refusal
unfoldable pub fill : RawModel → Option (List ℕ) → Machine → List Pair → Result RawModel Refusal
fill raw basedir machine defines = refused_in raw.pom (fill_model (named raw basedir machine defines) raw)
