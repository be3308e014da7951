-- Which characters spell the elements of a POM, and where they stop to do so. XML 1.0, section 2.1; own: an end of the
-- reading is told by the longest front that is a list of whole pieces each of which may stand.
use Rattle.std.specs.Prelude.{◌≡◌, ℕ, ◌≤◌, Bool, true, false, not, ◌&&◌, ◌==◌, nat_eq, List, [], ◌∷◌, ◌++◌, length, flat_map, codes, Option, Some, None, is_some, option_and_then}
use Rattle.std.specs.List.{list_all, starts_with}
use Rattle.mvn_base.specs.declared.rule.Rule.{Rule}
use Rattle.mvn_base.specs.declared.rule.Rule.TheVariants.{TooLarge, NotPomText, Doctype}
use Rattle.pom_text.specs.declared.node.Node.{Node}
use Rattle.pom_text.specs.Grammar.{Piece, is_piece, spelled, comment, instruction, section, reference, start_tag, empty_tag, end_tag, character}
use Rattle.pom_text.specs.Tree.{Standing, grow}
use Rattle.pom_text.specs.Parts.{is_empty}

-- pieces, each of which may stand behind those before it
abbrev pub grown : Standing → List Piece → Option Standing
grown s [] = Some s
grown s (piece ∷ pieces) = option_and_then (λ t. grown t pieces) (grow s piece)

-- a text begins with whole pieces that may stand from here on, and a rest follows
pub record Begins (from : Standing) (text : List ℕ) (pieces : List Piece) (end : Standing) (rest : List ℕ) : Type 0 where
  pub splits : text ≡ flat_map spelled pieces ++ rest
  pub whole : list_all is_piece pieces ≡ true
  pub stand : grown from pieces ≡ Some end

-- and with no longer list of such pieces
pub record BeginsLongest (from : Standing) (text : List ℕ) (pieces : List Piece) (end : Standing) (rest : List ℕ) : Type 0 where
  pub begins : Begins from text pieces end rest
  pub longest : (others : List Piece) (at : Standing) (behind : List ℕ) → Begins from text others at behind → length (flat_map spelled others) ≤ length (flat_map spelled pieces)

-- a start tag and an empty tag begin an element
abbrev pub is_element : Piece → Bool
is_element (comment inside) = false
is_element (instruction inside) = false
is_element (section inside) = false
is_element (reference name) = false
is_element (start_tag name attributes space) = true
is_element (empty_tag name attributes space) = true
is_element (end_tag name space) = false
is_element (character c) = false

-- an element would stand in 64 others
abbrev pub nests : Standing → Piece → Bool
nests s piece = length s.path == 64 && is_element piece

abbrev pub from_there : (Standing → Bool) → Option Standing → Bool
from_there test (Some s) = test s
from_there test None = true

-- no element of these stands in 64 others
abbrev pub is_shallow : Standing → List Piece → Bool
is_shallow s [] = true
is_shallow s (piece ∷ pieces) = not (nests s piece) && from_there (λ t. is_shallow t pieces) (grow s piece)

-- the root has begun, and nothing is open
abbrev pub is_done : Standing → Bool
is_done s = not (is_empty s.nodes) && is_empty s.path

abbrev pub is_doctype : Standing → List ℕ → Bool
is_doctype s rest = is_empty s.nodes && starts_with nat_eq rest (codes "<!DOCTYPE")

-- a text is whole pieces to its end, and these elements are closed
pub record Spells (from : Standing) (text : List ℕ) (nodes : List Node) : Type 0 where
  pub pieces : List Piece
  pub end : Standing
  pub begins : Begins from text pieces end []
  pub done : is_done end ≡ true
  pub same : nodes ≡ end.nodes

-- where a text stops, and by which rule: at an element in 64 others, at a `<!DOCTYPE` before the root, or at the end of the
-- longest list of pieces where it is none of these and the text isn't spelled
pub data Stops (from : Standing) (text : List ℕ) : Rule → (rest : List ℕ) → Type 0 where
  too_deep : (pieces : List Piece) (end : Standing) (piece : Piece) (behind rest : List ℕ) → Begins from text pieces end rest → is_shallow from pieces ≡ true
      → rest ≡ spelled piece ++ behind → is_piece piece ≡ true → is_some (grow end piece) ≡ true → nests end piece ≡ true → Stops from text TooLarge rest
  doctype : (pieces : List Piece) (end : Standing) (rest : List ℕ) → Begins from text pieces end rest → is_shallow from pieces ≡ true → is_doctype end rest ≡ true → Stops from text Doctype rest
  not_text : (pieces : List Piece) (end : Standing) (rest : List ℕ) → BeginsLongest from text pieces end rest → is_shallow from pieces ≡ true → is_doctype end rest ≡ false
      → (is_empty rest && is_done end) ≡ false → Stops from text NotPomText rest
