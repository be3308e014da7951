-- No number in a model's JSON is a float.
use Rattle.std.proofs.Common.{◌≡◌, ℕ, Bool, true, false, ◌||◌, List, [], ◌∷◌, fold, Option, Some, None, Ordering, Less, Equal, Greater, refl}
use Rattle.std.specs.Ordering.{nat_cmp, match_ordering}
use Rattle.std.specs.Cmp.Lexicographic.{slice_cmp}
use Rattle.std.specs.Prelude.{codes}
use Rattle.std.specs.Str.{bytes_eq}
use Rattle.serde_json.specs.Data.{Data, Members, boolean, member, no_members, put, string}
use Rattle.serde_json.specs.Written.{has_float, members_have_float}
use Rattle.mvn_base.specs.declared.gav.Gav.{Gav}
use Rattle.mvn_base.specs.declared.machine.Pair.{Pair}
use Rattle.mvn_base.specs.declared.setting.Setting.{Setting}
use Rattle.model_types.specs.declared.build.Build.{Build}
use Rattle.model_types.specs.declared.build.Outputs.{Outputs}
use Rattle.model_types.specs.declared.build.Sources.{Sources}
use Rattle.model_types.specs.declared.dependency.Dependency.{Dependency}
use Rattle.model_types.specs.declared.model.Model.{Model}
use Rattle.model_types.specs.declared.plugin.Execution.{Execution}
use Rattle.model_types.specs.declared.plugin.Plugin.{Plugin}
use Rattle.goal_types.specs.Requests.{list_data, setting_data}
use Rattle.goal_types.proofs.Requests.{setting_no_float}
use Rattle.model_json.specs.ModelJson.{base_members, build_data, build_members, configuration_at, coordinate_members, dependency_data, dependency_members, exclusion_data, execution_data, execution_members, gav_data, key_members, maybe_at, model_data, output_members, parent_at, plugin_data, plugin_members, properties_data, property_at, source_members}

abbrev HasNoFloat : Data → Type 0
HasNoFloat d = has_float d ≡ false

abbrev HaveNoFloat : Members → Type 0
HaveNoFloat ms = members_have_float ms ≡ false

or_false : (a b : Bool) → a ≡ false → b ≡ false → (a || b) ≡ false
or_false true b p q = p
or_false false b p q = q

or_left : (a b : Bool) → (a || b) ≡ false → a ≡ false
or_left true b e = e
or_left false b e = refl

or_right : (a b : Bool) → (a || b) ≡ false → b ≡ false
or_right true b e = cc
or_right false b e = e

-- none in items of which none has one
list_plain : {A : Type 0} (f : A → Data) → ((a : A) → HasNoFloat (f a)) → (items : List A) → HasNoFloat (list_data f items)
list_plain f h [] = refl
list_plain f h (a ∷ items) = or_false (has_float (f a)) _ (h a) (list_plain f h items)

-- none in members with one more that has none
put_plain : (k : List ℕ) (d : Data) (ms : Members) → HasNoFloat d → HaveNoFloat ms → HaveNoFloat (put k d ms)
put_plain k d no_members h hs = or_false (has_float d) false h refl
put_plain k d (member l e ms) h hs = by (slice_cmp nat_cmp k l) (or_left (has_float e) _ hs) (or_right (has_float e) _ hs) (put_plain k d ms h (or_right (has_float e) _ hs))
  where
    by : (o : Ordering) → HasNoFloat e → HaveNoFloat ms → HaveNoFloat (put k d ms) → HaveNoFloat (match_ordering o (member k d (member l e ms)) (member l d ms) (member l e (put k d ms)))
    by Less here there more = or_false (has_float d) _ h (or_false (has_float e) _ here there)
    by Equal here there more = or_false (has_float d) _ h there
    by Greater here there more = or_false (has_float e) _ here more

maybe_plain : (k : List ℕ) (text : Option (List ℕ)) (ms : Members) → HaveNoFloat ms → HaveNoFloat (maybe_at k text ms)
maybe_plain k None ms hs = hs
maybe_plain k (Some text) ms hs = put_plain k (string text) ms refl hs

configuration_plain : (ss : List Setting) (ms : Members) → HaveNoFloat ms → HaveNoFloat (configuration_at ss ms)
configuration_plain [] ms hs = hs
configuration_plain (s ∷ ss) ms hs = put_plain (codes "configuration") (list_data setting_data (s ∷ ss)) ms (list_plain setting_data setting_no_float (s ∷ ss)) hs

-- members without one
abbrev Plain : Type 0
Plain = (ms : Members) × HaveNoFloat ms

abbrev put_in : (k : List ℕ) (d : Data) → HasNoFloat d → Plain → Plain
put_in k d h p = (put k d p.0, put_plain k d p.0 h p.1)

abbrev text_in : List ℕ → List ℕ → Plain → Plain
text_in k text p = put_in k (string text) refl p

abbrev list_in : {A : Type 0} (k : List ℕ) (f : A → Data) → ((a : A) → HasNoFloat (f a)) → List A → Plain → Plain
list_in k f h items p = put_in k (list_data f items) (list_plain f h items) p

abbrev maybe_in : List ℕ → Option (List ℕ) → Plain → Plain
maybe_in k text p = (maybe_at k text p.0, maybe_plain k text p.0 p.1)

abbrev configuration_in : List Setting → Plain → Plain
configuration_in ss p = (configuration_at ss p.0, configuration_plain ss p.0 p.1)

abbrev start : Plain
start = (no_members, refl)

key_plain : (d : Dependency) (ms : Members) → HaveNoFloat ms → HaveNoFloat (key_members d ms)
unfolding key_members
key_plain d ms hs = (text_in (codes "type") d.kind (text_in (codes "groupId") d.group (text_in (codes "classifier") d.classifier (text_in (codes "artifactId") d.artifact (ms, hs))))).1

dependency_plain : (d : Dependency) → HasNoFloat (dependency_data d)
unfolding dependency_members
dependency_plain d =
    (maybe_in (codes "version") d.version (maybe_in (codes "scope") d.scope
    (put_in (codes "optional") (boolean (bytes_eq d.optional (codes "true"))) refl
    (list_in (codes "exclusions") exclusion_data (λ e. refl) d.exclusions (key_members d no_members, key_plain d no_members refl))))).1

execution_plain : (e : Execution) → HasNoFloat (execution_data e)
unfolding execution_members
execution_plain e =
    (maybe_in (codes "phase") e.phase (text_in (codes "id") e.id
    (list_in (codes "goals") string (λ t. refl) e.goals (configuration_in e.configuration start)))).1

plugin_plain : (p : Plugin) → HasNoFloat (plugin_data p)
unfolding plugin_members
plugin_plain p =
    (maybe_in (codes "version") p.version (text_in (codes "groupId") p.group
    (list_in (codes "executions") execution_data execution_plain p.executions
    (list_in (codes "dependencies") dependency_data dependency_plain p.dependencies
    (configuration_in p.configuration (text_in (codes "artifactId") p.artifact start)))))).1

outputs_plain : (o : Outputs) (ms : Members) → HaveNoFloat ms → HaveNoFloat (output_members o ms)
unfolding output_members
outputs_plain o ms hs =
    (maybe_in (codes "testOutputDirectory") o.test_output (maybe_in (codes "outputDirectory") o.output
    (maybe_in (codes "finalName") o.final_name (maybe_in (codes "directory") o.directory (ms, hs))))).1

sources_plain : (s : Sources) (ms : Members) → HaveNoFloat ms → HaveNoFloat (source_members s ms)
unfolding source_members
sources_plain s ms hs =
    (maybe_in (codes "testSourceDirectory") s.test_source
    (list_in (codes "testResources") string (λ t. refl) s.test_resources
    (maybe_in (codes "sourceDirectory") s.source (list_in (codes "resources") string (λ t. refl) s.resources (ms, hs))))).1

build_data_plain : (b : Build) → HasNoFloat (build_data b)
build_data_plain b = sources_plain b.sources (output_members b.outputs no_members) (outputs_plain b.outputs no_members refl)

properties_plain : (pairs : List Pair) (ms : Members) → HaveNoFloat ms → HaveNoFloat (fold property_at ms pairs)
properties_plain [] ms hs = hs
properties_plain (p ∷ pairs) ms hs = properties_plain pairs (property_at ms p) (put_plain p.name (string p.value) ms refl hs)

parent_plain : (parent : Option Gav) (ms : Members) → HaveNoFloat ms → HaveNoFloat (parent_at parent ms)
parent_plain None ms hs = hs
parent_plain (Some gav) ms hs = put_plain (codes "parent") (gav_data gav) ms refl hs

coordinates_plain : (m : Model) (ms : Members) → HaveNoFloat ms → HaveNoFloat (coordinate_members m ms)
unfolding coordinate_members
coordinates_plain m ms hs =
    (text_in (codes "version") m.gav.version (text_in (codes "packaging") m.packaging (text_in (codes "groupId") m.gav.group
    (text_in (codes "artifactId") m.gav.artifact (parent_at m.parent ms, parent_plain m.parent ms hs))))).1

base_plain : (m : Model) (ms : Members) → HaveNoFloat ms → HaveNoFloat (base_members m ms)
unfolding base_members
base_plain m ms hs =
    (put_in (codes "properties") (properties_data m.base.properties) (properties_plain m.base.properties no_members refl)
    (list_in (codes "modules") string (λ t. refl) m.base.modules
    (list_in (codes "managed") dependency_data dependency_plain m.base.managed
    (list_in (codes "dependencies") dependency_data dependency_plain m.base.dependencies (ms, hs))))).1

build_plain : (m : Model) (ms : Members) → HaveNoFloat ms → HaveNoFloat (build_members m ms)
unfolding build_members
build_plain m ms hs =
    (list_in (codes "plugins") plugin_data plugin_plain m.build.base.plugins
    (list_in (codes "pluginManagement") plugin_data plugin_plain m.build.base.managed_plugins
    (list_in (codes "extensions") gav_data (λ g. refl) m.build.extensions
    (put_in (codes "build") (build_data m.build) (build_data_plain m.build) (ms, hs))))).1

pub model_plain : (m : Model) → HasNoFloat (model_data m)
model_plain m =
    build_plain m (base_members m (coordinate_members m no_members)) (base_plain m (coordinate_members m no_members) (coordinates_plain m no_members refl))
