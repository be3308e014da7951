-- What is wrong in a POM: each thing with its place, its turn among those at that place, and what is told of it. A POM is refused for the first
-- of them. A place is the numbers that lead to an element from the root on, each counted from 0 among the elements directly in one: there the
-- element begins. Where it ends is told by one number more, that of the elements in it. So places stand in the text in the order of lists:
-- the root begins at [], its first element at [0], the first in that at [0, 0], and a root with two elements ends at [2]. POM Reference; the order is
-- a project rule.
use Rattle.std.specs.Prelude.{◌≡◌, ◌⊎◌, ℕ, suc, ◌<◌, ◌≤◌, ◌++◌, ◌==◌, false, true, List, [], ◌∷◌, length, take, codes, Option, Some, None, option_and_then, option_map, slice_get, if◌then◌else◌}
use Rattle.std.specs.Cmp.Lexicographic.{slice_cmp}
use Rattle.std.specs.Ordering.{nat_cmp}
use Rattle.std.specs.declared.cmp.Ordering.TheVariants.{Less}
use Rattle.mvn_base.specs.declared.rule.Rule.{Rule}
use Rattle.mvn_base.specs.declared.rule.Rule.TheVariants.{TooLarge, RootNotProject, RepeatedElement, ModelVersion, MissingField, CombineAttribute}
use Rattle.pom_text.specs.declared.node.Node.{Node}
use Rattle.pom_model.specs.Elements.{text_of, text_or}
use Rattle.pom_model.specs.Faults.{count_read, is_alone, is_repeated, is_required, most_items, read_child, step}
use Rattle.pom_model.specs.Table.{Row, kind_number, table}

-- what a function takes. The types of the table's columns have no name outside their crate
abbrev pub DomainOf : {A B : Type 0} → (A → B) → Type 0
DomainOf {A} {B} f = A

-- what an element is read as, and how often it may stand
abbrev pub Kind : Type 0
Kind = DomainOf kind_number

abbrev pub Times : Type 0
Times = DomainOf is_repeated

-- what is told: a rule with the path of an element, or with a text that the POM has
pub data Told : Type 0 where
  on_element : Rule → List ℕ → Told
  of_text : Rule → List ℕ → Told

-- the same, told from an element further out
abbrev pub outward : List ℕ → Told → Told
outward name (on_element rule path) = on_element rule (if length path == 0 then name else name ++ codes "/" ++ path)
outward name (of_text rule text) = of_text rule text

-- the element of a number directly in another, if it is read: as what, how often it may stand, and itself
abbrev pub element_at : List Node → Kind → Node → ℕ → Option ((Kind × Times) × Node)
element_at nodes kind node i = option_and_then (read_child nodes kind) (slice_get node.children i)

-- how many of those before it are read
abbrev pub read_before : List Node → Kind → Node → ℕ → ℕ
read_before nodes kind node i = count_read nodes kind (take i node.children)

-- the step of a path that leads to it
abbrev pub step_to : List Node → Kind → Node → ℕ → Times → Node → List ℕ
step_to nodes kind node i times inner = step times (read_before nodes kind node i) inner.name

-- another of its name stands before it
pub record StandsBefore (nodes : List Node) (node : Node) (i : ℕ) (name : List ℕ) : Type 0 where
  pub j : ℕ
  pub k : ℕ
  pub other : Node
  pub before : j < i
  pub among : slice_get node.children j ≡ Some k
  pub there : slice_get nodes k ≡ Some other
  pub same : other.name ≡ name

-- an attribute that says how configurations merge
pub record Combines (node : Node) : Type 0 where
  pub n : ℕ
  pub name : List ℕ
  pub there : slice_get node.attributes n ≡ Some name
  pub says : (name ≡ codes "combine.children") ⊎ (name ≡ codes "combine.self")

-- a line of the table asks for an element that is not there, or has no text; some ask for one only in a POM without a parent
pub record Lacks (nodes : List Node) (kind : Kind) (node : Node) (line : Row) : Type 0 where
  pub under : kind_number line.under ≡ kind_number kind
  pub asked : is_required (is_alone nodes node) line.times ≡ true
  pub lacking : text_of nodes line.name (Some node) ≡ None

-- the numbers of two kinds, in the order of the table
abbrev pub project_number : ℕ
project_number = 0

abbrev pub configuration_number : ℕ
configuration_number = 21

-- what is wrong in an element, at places and with paths from it on. Where an element begins: that it stands again, that it says how
-- configurations merge, that it is the 1,025th of its list (where items of a list are read, nothing else is). Where one ends: the version of the POM's form, and what it lacks by the lines of the table
pub data Breaks (nodes : List Node) : Kind → Node → (place : List ℕ) → (turn : ℕ) → Told → Type 0 where
  again : (kind : Kind) (node : Node) (i : ℕ) (e : (Kind × Times) × Node) → element_at nodes kind node i ≡ Some e
      → is_repeated e.0.1 ≡ false → StandsBefore nodes node i e.1.name → Breaks nodes kind node (i ∷ []) 0 (on_element RepeatedElement e.1.name)
  combines : (kind : Kind) (node : Node) (i : ℕ) (e : (Kind × Times) × Node) → element_at nodes kind node i ≡ Some e
      → kind_number e.0.0 ≡ configuration_number → Combines e.1 → Breaks nodes kind node (i ∷ []) 1 (on_element CombineAttribute (step_to nodes kind node i e.0.1 e.1))
  too_many : (kind : Kind) (node : Node) (i : ℕ) (e : (Kind × Times) × Node) → element_at nodes kind node i ≡ Some e
      → is_repeated e.0.1 ≡ true → read_before nodes kind node i ≡ most_items → Breaks nodes kind node (i ∷ []) 2 (on_element TooLarge [])
  inside : (kind : Kind) (node : Node) (i : ℕ) (e : (Kind × Times) × Node) (place : List ℕ) (turn : ℕ) (told : Told) → element_at nodes kind node i ≡ Some e
      → Breaks nodes e.0.0 e.1 place turn told → Breaks nodes kind node (i ∷ place) turn (outward (step_to nodes kind node i e.0.1 e.1) told)
  version : (kind : Kind) (node : Node) → kind_number kind ≡ project_number → (text_or nodes (codes "modelVersion") [] (Some node) ≡ codes "4.0.0" → ⊥)
      → Breaks nodes kind node (length node.children ∷ []) 0 (of_text ModelVersion (text_or nodes (codes "modelVersion") [] (Some node)))
  lacks : (kind : Kind) (node : Node) (n : ℕ) (line : Row) → slice_get table n ≡ Some line
      → Lacks nodes kind node line → Breaks nodes kind node (length node.children ∷ []) (suc n) (on_element MissingField line.name)

-- what `project` is read as: the first line of the table stands in it
abbrev pub first_kind : Option Kind
first_kind = option_map (λ (r : Row). r.under) (slice_get table 0)

-- what is wrong in a POM: another root, or something in its project
pub data IsWrong (nodes : List Node) : (place : List ℕ) → (turn : ℕ) → Told → Type 0 where
  no_root : slice_get nodes 0 ≡ None → IsWrong nodes [] 0 (of_text RootNotProject [])
  other_root : (root : Node) → slice_get nodes 0 ≡ Some root → (root.name ≡ codes "project" → ⊥) → IsWrong nodes [] 0 (of_text RootNotProject root.name)
  in_project : (root : Node) (kind : Kind) (place : List ℕ) (turn : ℕ) (told : Told) → slice_get nodes 0 ≡ Some root → root.name ≡ codes "project"
      → first_kind ≡ Some kind → Breaks nodes kind root place turn told → IsWrong nodes place turn (outward (codes "project") told)

-- and stands in the first 64 levels, which are all that a POM text has
abbrev pub IsWrongAbove : List Node → List ℕ → ℕ → Told → Type 0
IsWrongAbove nodes place turn told = IsWrong nodes place turn told × (length place ≤ 64)

-- of two things that are wrong the first isn't after the second
abbrev pub IsNotAfter : List ℕ → ℕ → List ℕ → ℕ → Type 0
IsNotAfter place turn at other = (slice_cmp nat_cmp place at ≡ Less) ⊎ ((place ≡ at) × (turn ≤ other))

-- this one is among them, and none of them is before it
pub record IsFirst (Has : List ℕ → ℕ → Told → Type 0) (told : Told) : Type 0 where
  pub place : List ℕ
  pub turn : ℕ
  pub has : Has place turn told
  pub first : (at : List ℕ) (later : ℕ) (other : Told) → Has at later other → IsNotAfter place turn at later

-- there are none
abbrev pub HasNone : (List ℕ → ℕ → Told → Type 0) → Type 0
HasNone Has = (place : List ℕ) (turn : ℕ) (told : Told) → Has place turn told → ⊥
