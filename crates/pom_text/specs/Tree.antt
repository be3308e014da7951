-- How elements stand in one another. An element's text and its children are what stands directly in it; outside the root
-- there are comments, instructions and white space alone. XML 1.0, sections 2.1, 2.8 and 3.1; own: elements are numbered in
-- the order in which they begin.
use Rattle.std.specs.Prelude.{ℕ, ◌-◌, Bool, false, ◌||◌, not, ◌==◌, List, [], ◌∷◌, ◌++◌, length, map, take, zero, suc, Option, Some, None, option_and_then, slice_get, if◌then◌else◌}
use Rattle.std.specs.Str.{bytes_eq, encode_utf8_all}
use Rattle.pom_text.specs.declared.node.Node.{Node}
use Rattle.pom_text.specs.Characters.{is_space}
use Rattle.pom_text.specs.Grammar.{Attribute, Piece, comment, instruction, section, reference, start_tag, empty_tag, end_tag, character}
use Rattle.pom_text.specs.Parts.{is_empty, line_part, lines}
use Rattle.pom_text.specs.References.{referred}

-- the elements that have begun, the numbers of those that have not ended, and whether a carriage return in text stands
-- directly before
pub record Standing : Type 0 where
  pub nodes : List Node
  pub path : List ℕ
  pub returned : Bool

abbrev pub nothing_yet : Standing
nothing_yet = record { nodes = []; path = []; returned = false }

-- the element of a number is changed
abbrev pub changed : (Node → Node) → ℕ → List Node → List Node
changed f k [] = []
changed f zero (node ∷ nodes) = f node ∷ nodes
changed f (suc k) (node ∷ nodes) = node ∷ changed f k nodes

abbrev pub add_text : List ℕ → Node → Node
add_text text node = record { name = node.name; attributes = node.attributes; text = node.text ++ text; children = node.children }

abbrev pub add_child : ℕ → Node → Node
add_child child node = record { name = node.name; attributes = node.attributes; text = node.text; children = node.children ++ child ∷ [] }

-- the open element that began last
abbrev pub innermost : List ℕ → Option ℕ
innermost path = slice_get path (length path - 1)

-- what stands nowhere in the tree
abbrev pub passed : Standing → Standing
passed s = record { nodes = s.nodes; path = s.path; returned = false }

-- characters in the innermost open element, if there is one
abbrev pub in_innermost : List ℕ → Bool → Standing → Option ℕ → Option Standing → Option Standing
in_innermost text returned s (Some k) outside = Some (record { nodes = changed (add_text (encode_utf8_all text)) k s.nodes; path = s.path; returned = returned })
in_innermost text returned s None outside = outside

unfoldable pub with_text : List ℕ → Bool → Standing → Option Standing → Option Standing
with_text text returned s outside = in_innermost text returned s (innermost s.path) outside

-- an element may begin within another, and as the first of all
abbrev pub may_begin : Standing → Bool
may_begin s = is_empty s.nodes || not (is_empty s.path)

abbrev pub with_child : ℕ → Option ℕ → List Node → List Node
with_child child (Some k) nodes = changed (add_child child) k nodes
with_child child None nodes = nodes

-- an element begins
unfoldable pub begun : List ℕ → List (List ℕ) → Standing → Standing
begun name attributes s = record {
  nodes = with_child (length s.nodes) (innermost s.path) s.nodes ++ (record { name = name; attributes = attributes; text = []; children = [] }) ∷ [];
  path = s.path ++ length s.nodes ∷ [];
  returned = false;
}

-- the innermost one ends
unfoldable pub ended : Standing → Standing
ended s = record { nodes = s.nodes; path = take (length s.path - 1) s.path; returned = false }

abbrev pub is_named : List ℕ → Option Node → Bool
is_named name (Some node) = bytes_eq node.name name
is_named name None = false

-- the innermost open element has this name
unfoldable pub closes : List ℕ → Standing → Bool
closes name s = is_named name (option_and_then (slice_get s.nodes) (innermost s.path))

abbrev pub attribute_names : List Attribute → List (List ℕ)
attribute_names attributes = map (λ a. encode_utf8_all a.name) attributes

abbrev pub character_list : Option ℕ → List ℕ
character_list (Some c) = c ∷ []
character_list None = []

-- one piece more, where it may stand
unfoldable pub grow : Standing → Piece → Option Standing
grow s (comment inside) = Some (passed s)
grow s (instruction inside) = Some (passed s)
grow s (section inside) = with_text (lines false inside) false s None
grow s (reference name) = with_text (character_list (referred name)) false s None
grow s (start_tag name attributes space) = if may_begin s then Some (begun (encode_utf8_all name) (attribute_names attributes) s) else None
grow s (empty_tag name attributes space) = if may_begin s then Some (ended (begun (encode_utf8_all name) (attribute_names attributes) s)) else None
grow s (end_tag name space) = if closes (encode_utf8_all name) s then Some (ended s) else None
grow s (character c) = with_text (line_part s.returned c) (c == 13) s (if is_space c then Some (passed s) else None)
