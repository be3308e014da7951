-- What is refused in a POM, in document order: at each element that is read, that it stands again, that it would change how
-- configurations merge, or that its list is too long; then what is refused in it; and where it ends, what it lacks. Own order.
use Rattle.std.specs.Prelude.{ℕ, zero, suc, ◌+◌, Bool, true, false, not, ◌&&◌, ◌||◌, ◌==◌, List, [], ◌∷◌, ◌++◌, length, codes, count_by, find, Option, Some, None, is_some, option_map, option_and_then, slice_get, if◌then◌else◌}
use Rattle.std.specs.Fmt.{decimal}
use Rattle.std.specs.List.{list_any}
use Rattle.std.specs.Str.{bytes_eq}
use Rattle.mvn_base.specs.declared.rule.Rule.{Rule}
use Rattle.mvn_base.specs.declared.rule.Rule.TheVariants.{TooLarge, RootNotProject, RepeatedElement, ModelVersion, MissingField, CombineAttribute}
use Rattle.pom_text.specs.declared.node.Node.{Node}
use Rattle.pom_model.specs.declared.fault.Fault.{Fault}
use Rattle.pom_model.specs.declared.fault.Spot.{Spot}
use Rattle.pom_model.specs.declared.fault.Spot.TheVariants as spot
use Rattle.pom_model.specs.declared.table.Kind.{Kind}
use Rattle.pom_model.specs.declared.table.Kind.TheVariants as kinds
use Rattle.pom_model.specs.declared.table.Times.{Times}
use Rattle.pom_model.specs.declared.table.Times.TheVariants.{Optional, Required, RequiredAlone, Repeated}
use Rattle.pom_model.specs.Elements.{child, named, text_of, text_or}
use Rattle.pom_model.specs.Table.{Row, found, kind_number, table}

-- a path goes on from one element to another
abbrev pub joined : List ℕ → List ℕ → List ℕ
joined step path = if length path == 0 then step else step ++ codes "/" ++ path

abbrev pub spot_under : List ℕ → Spot → Spot
spot_under step (spot.Path path) = spot.Path (joined step path)
spot_under step (spot.Own text) = spot.Own text

unfoldable pub under : List ℕ → Fault → Fault
under step fault = record { rule = fault.rule; spot = spot_under step fault.spot }

abbrev pub at_path : Rule → List ℕ → Fault
at_path rule path = record { rule = rule; spot = spot.Path path }

abbrev pub is_repeated : Times → Bool
is_repeated Optional = false
is_repeated Required = false
is_repeated RequiredAlone = false
is_repeated Repeated = true

-- one step of a path: a name, or that of an item with its number from 1, behind so many others
unfoldable pub step : Times → ℕ → List ℕ → List ℕ
step times read name = if is_repeated times then name ++ codes "[" ++ decimal (read + 1) ++ codes "]" else name

-- an element that is read, by its number
abbrev pub as_read : Kind → Node → Option ((Kind × Times) × Node)
as_read kind node = option_map (λ r. (r, node)) (found kind node.name)

unfoldable pub read_child : List Node → Kind → ℕ → Option ((Kind × Times) × Node)
read_child nodes kind k = option_and_then (as_read kind) (slice_get nodes k)

abbrev pub count_read : List Node → Kind → List ℕ → ℕ
count_read nodes kind ks = count_by (λ k. is_some (read_child nodes kind k)) ks

abbrev pub has_name : List Node → List ℕ → List ℕ → Bool
has_name nodes name ks = list_any (λ k. is_some (named nodes name k)) ks

-- an attribute that says how configurations merge
abbrev pub is_combine : List ℕ → Bool
is_combine name = bytes_eq name (codes "combine.children") || bytes_eq name (codes "combine.self")

abbrev pub combines : Node → Bool
combines node = list_any is_combine node.attributes

abbrev pub is_kind : Kind → Kind → Bool
is_kind one other = kind_number one == kind_number other

-- items of one list
abbrev pub most_items : ℕ
most_items = 1024

-- what is refused where an element begins, behind some, so many of which are read
unfoldable pub begun : List Node → List ℕ → ℕ → Kind × Times → Node → Option Fault
begun nodes before read r node =
    if not (is_repeated r.1) && has_name nodes node.name before then Some (at_path RepeatedElement node.name)
    else if is_kind r.0 kinds.Configuration && combines node then Some (at_path CombineAttribute (step r.1 read node.name))
    else if is_repeated r.1 && read == most_items then Some (at_path TooLarge [])
    else None

-- the first of two that is there
abbrev pub or : {A : Type 0} → Option A → Option A → Option A
or (Some x) other = Some x
or None other = other

-- what is refused of a child, and of the children of an element, behind some
abbrev pub child_fault : (Kind → Node → Option Fault) → List Node → List ℕ → ℕ → Option ((Kind × Times) × Node) → Option Fault
child_fault further nodes before read None = None
child_fault further nodes before read (Some e) = or (begun nodes before read e.0 e.1) (option_map (under (step e.0.1 read e.1.name)) (further e.0.0 e.1))

abbrev pub among : (Kind → Node → Option Fault) → List Node → Kind → List ℕ → List ℕ → Option Fault
among further nodes kind before [] = None
among further nodes kind before (k ∷ ks) = or (child_fault further nodes before (count_read nodes kind before) (read_child nodes kind k)) (among further nodes kind (before ++ k ∷ []) ks)

-- what an element lacks, first in the table's order
abbrev pub is_required : Bool → Times → Bool
is_required alone Optional = false
is_required alone Required = true
is_required alone RequiredAlone = alone
is_required alone Repeated = false

abbrev pub is_alone : List Node → Node → Bool
is_alone nodes node = not (is_some (child nodes (codes "parent") (Some node)))

abbrev pub is_missing : List Node → Kind → Node → Bool → Row → Bool
is_missing nodes kind node alone r = (is_kind r.under kind && is_required alone r.times) && not (is_some (text_of nodes r.name (Some node)))

abbrev pub missing_name : List Row → List Node → Kind → Node → Bool → Option (List ℕ)
missing_name rows nodes kind node alone = option_map (λ r. r.name) (find (is_missing nodes kind node alone) rows)

unfoldable pub missing : List Node → Kind → Node → Option Fault
missing nodes kind node = option_map (at_path MissingField) (missing_name table nodes kind node (is_alone nodes node))

-- the version of the POM's own form
abbrev pub model_version : List Node → Node → List ℕ
model_version nodes node = text_or nodes (codes "modelVersion") [] (Some node)

unfoldable pub version_fault : List Node → Kind → Node → Option Fault
version_fault nodes kind node =
    if is_kind kind kinds.Project && not (bytes_eq (model_version nodes node) (codes "4.0.0")) then Some (record { rule = ModelVersion; spot = spot.Own (model_version nodes node) })
    else None

unfoldable pub ended : List Node → Kind → Node → Option Fault
ended nodes kind node = or (version_fault nodes kind node) (missing nodes kind node)

-- the first refusal in an element, as far as its text nests
unfoldable pub fault_within : ℕ → List Node → Kind → Node → Option Fault
fault_within zero nodes kind node = None
fault_within (suc depth) nodes kind node = or (among (fault_within depth nodes) nodes kind [] node.children) (ended nodes kind node)

-- the first refusal of a POM
abbrev pub root_fault : List Node → Option Node → Option Fault
root_fault nodes (Some root) = if bytes_eq root.name (codes "project") then option_map (under (codes "project")) (fault_within 64 nodes kinds.Project root) else Some (record { rule = RootNotProject; spot = spot.Own root.name })
root_fault nodes None = Some (record { rule = RootNotProject; spot = spot.Own [] })

unfoldable pub first_fault : List Node → Option Fault
first_fault nodes = root_fault nodes (slice_get nodes 0)
