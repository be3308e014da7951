-- What a goal is asked, as bytes: one line of JSON, and behind it the bytes that its lists count. Own format.
use Rattle.std.specs.Prelude.{ℕ, List, [], ◌∷◌, ◌++◌, length, map, flat_map, codes, Option, Some, None}
use Rattle.serde_json.specs.Data.{Data, object, string, number, unsigned, null, array, item, no_items, member, no_members}
use Rattle.serde_json.specs.View.{items_of}
use Rattle.serde_json.specs.Written.{compact_text}
use Rattle.mvn_base.specs.declared.setting.Setting.{Setting, fold-Setting}
use Rattle.mvn_base.specs.declared.setting.Setting.TheOpen.{Setting-F}
use Rattle.mvn_base.specs.Phase.{phase_name}
use Rattle.goal_types.specs.declared.goal.Slot.{Slot}
use Rattle.goal_types.specs.declared.goal.Slot.TheVariants.{Nowhere, Pom, Classes, TestClasses, Main, Tests, Sources, Javadoc}
use Rattle.goal_types.specs.declared.goal.GoalCall.{GoalCall}
use Rattle.goal_types.specs.declared.goal.SourceFile.{SourceFile}
use Rattle.goal_types.specs.declared.goal.OwnBytes.{OwnBytes}
use Rattle.goal_types.specs.declared.goal.PathEntry.{PathEntry}
use Rattle.goal_types.specs.declared.goal.GoalRequest.{GoalRequest}

-- a setting by its name, its text and its children
abbrev pub setting_object : List ℕ → List ℕ → Data → Data
setting_object name text children = object (member (codes "children") children (member (codes "name") (string name) (member (codes "text") (string text) no_members)))

-- a setting, its children seen as their data
abbrev pub setting_step : Setting-F Data → Data
setting_step s = setting_object s.name s.text (array (items_of s.children))

abbrev pub setting_data : Setting → Data
setting_data = fold-Setting Data setting_step

-- the word for a slot
abbrev pub slot_name : Slot → List ℕ
slot_name Nowhere = codes "nowhere"
slot_name Pom = codes "pom"
slot_name Classes = codes "classes"
slot_name TestClasses = codes "test-classes"
slot_name Main = codes "main"
slot_name Tests = codes "tests"
slot_name Sources = codes "sources"
slot_name Javadoc = codes "javadoc"

-- a name, and how many bytes stand for it
abbrev pub counted : List ℕ → Data → Data
counted name count = array (item (string name) (item count no_items))

abbrev pub source_data : SourceFile → Data
source_data source = counted source.path (number (unsigned (length source.bytes)))

abbrev pub own_data : OwnBytes → Data
own_data own = counted (slot_name own.slot) (number (unsigned (length own.bytes)))

abbrev pub count_data : Option (List ℕ) → Data
count_data None = null
count_data (Some bytes) = number (unsigned (length bytes))

abbrev pub entry_data : PathEntry → Data
entry_data entry = counted entry.name (count_data entry.bytes)

abbrev pub list_data : {A : Type 0} → (A → Data) → List A → Data
list_data f items = array (items_of (map f items))

-- the plugin: group, artifact and version, the version empty where none is declared
abbrev pub plugin_text : GoalCall → List ℕ
plugin_text call = call.group ++ 58 ∷ call.artifact ++ 58 ∷ call.version

-- the line of a request, its keys in the order of their bytes
unfoldable pub request_object : GoalRequest → (plugin : List ℕ) → (sources own classpath configuration : Data) → Data
request_object request plugin sources own classpath configuration = object (
    member (codes "artifactId") (string request.module.artifact) (
    member (codes "classpath") classpath (
    member (codes "configuration") configuration (
    member (codes "execution") (string request.call.execution) (
    member (codes "goal") (string request.call.goal) (
    member (codes "groupId") (string request.module.group) (
    member (codes "own") own (
    member (codes "phase") (string (phase_name request.call.phase)) (
    member (codes "plugin") (string plugin) (
    member (codes "sources") sources (
    member (codes "version") (string request.module.version) no_members)))))))))))

-- the line of a request
abbrev pub request_data : GoalRequest → Data
request_data request = request_object request (plugin_text request.call) (list_data source_data request.sources) (list_data own_data request.own) (list_data entry_data request.classpath) (list_data setting_data request.call.configuration)

abbrev pub entry_bytes : Option (List ℕ) → List ℕ
entry_bytes None = []
entry_bytes (Some bytes) = bytes

-- the bytes behind the line: those of the sources, of the own outputs and of the classpath, each in its list's order
abbrev pub request_payload : GoalRequest → List ℕ
request_payload request = flat_map (λ s. s.bytes) request.sources ++ flat_map (λ o. o.bytes) request.own ++ flat_map (λ e. entry_bytes e.bytes) request.classpath

-- the line of a request, with a line feed
abbrev pub request_line : GoalRequest → List ℕ
request_line request = compact_text (request_data request) ++ 10 ∷ []

-- a request's bytes
abbrev pub request_text : GoalRequest → List ℕ
request_text request = request_line request ++ request_payload request
