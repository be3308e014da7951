-- What a part does to a tree, part by part. That it is what its piece does is proved beside it.
use Rattle.std.specs.Prelude.{◌≡◌, ℕ, Bool, true, false, ◌==◌, List, [], ◌∷◌, Option, Some, None, Result, IfOk, OnOk, if◌then◌else◌}
use Rattle.pom_text.specs.declared.node.Node.{Node}
use Rattle.pom_text.specs.declared.tree.Tree.{Tree}
use Rattle.pom_text.specs.Parts.{Part, Passed, Character, Section, Reference, Start, Empty, End, line_part, lines}
use Rattle.pom_text.specs.Characters.{is_space}
use Rattle.std.specs.Str.{encode_utf8_all}
use Rattle.pom_text.specs.Grammar.{Piece, comment, instruction, section, reference, start_tag, empty_tag, end_tag, character}
use Rattle.pom_text.specs.References.{referred}
use Rattle.pom_text.specs.Tree.{Standing, add_text, attribute_names, begun, changed, closes, ended, innermost, may_begin, passed, with_child, with_text}

abbrev pub standing_of : Tree → Standing
standing_of tree = record { nodes = tree.nodes.items; path = tree.path.items; returned = tree.returned }

-- characters in UTF-8 in the innermost open element, if there is one
abbrev pub bytes_in : List ℕ → Bool → Standing → Option ℕ → Option Standing → Option Standing
bytes_in bytes returned s (Some k) outside = Some (record { nodes = changed (add_text bytes) k s.nodes; path = s.path; returned = returned })
bytes_in bytes returned s None outside = outside

unfoldable pub with_bytes : List ℕ → Bool → Standing → Option Standing → Option Standing
with_bytes bytes returned s outside = bytes_in bytes returned s (innermost s.path) outside

unfoldable pub take_part : Standing → Part → Option Standing
take_part s Passed = Some (passed s)
take_part s (Character c) = with_text (line_part s.returned c) (c == 13) s (if is_space c then Some (passed s) else None)
take_part s (Section bytes) = with_bytes bytes false s None
take_part s (Reference c) = with_text (c ∷ []) false s None
take_part s (Start tag) = if may_begin s then Some (begun tag.name tag.attributes s) else None
take_part s (Empty tag) = if may_begin s then Some (ended (begun tag.name tag.attributes s)) else None
take_part s (End name) = if closes name s then Some (ended s) else None

-- what is answered where a part may stand, and where it may not
abbrev pub fitting : Bool → Standing → Option Standing
fitting true s = Some s
fitting false s = None

-- what is answered of a part: whether it may stand, and then what it did
abbrev pub Takes : {E : Type 0} → Result Bool E → Tree → Tree → Part → Type 0
Takes result old new part = IfOk result (λ fits. fitting fits (standing_of new) ≡ take_part (standing_of old) part)

-- the element of a number has changed so, and the innermost open element has got a child
abbrev pub HasChanged : {A E : Type 0} → Result A E → (Node → Node) → ℕ → Tree → Tree → Type 0
HasChanged result f at old new = OnOk result (new.nodes.items ≡ changed f at old.nodes.items)

abbrev pub HasGotChild : {A E : Type 0} → Result A E → ℕ → Tree → Tree → Type 0
HasGotChild result child old new = OnOk result (new.nodes.items ≡ with_child child (innermost old.path.items) old.nodes.items)

abbrev pub code_of : Option ℕ → ℕ
code_of (Some c) = c
code_of None = 0

-- what the reader keeps of a piece
unfoldable pub part_of : Piece → Part
part_of (comment inside) = Passed
part_of (instruction inside) = Passed
part_of (section inside) = Section (encode_utf8_all (lines false inside))
part_of (reference name) = Reference (code_of (referred name))
part_of (start_tag name attributes space) = Start (record { name = encode_utf8_all name; attributes = attribute_names attributes })
part_of (empty_tag name attributes space) = Empty (record { name = encode_utf8_all name; attributes = attribute_names attributes })
part_of (end_tag name space) = End (encode_utf8_all name)
part_of (character c) = Character c
