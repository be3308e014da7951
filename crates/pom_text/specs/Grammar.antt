-- The grammar of a POM text: how each piece is written, and which are whole. XML 1.0, sections 2.3 to 2.8, 3.1 and 4.1, in a
-- profile of our own.
use Rattle.std.specs.Prelude.{ℕ, Bool, true, false, not, ◌&&◌, ◌||◌, ◌==◌, nat_eq, List, [], ◌∷◌, ◌++◌, flat_map, codes, is_some}
use Rattle.std.specs.List.{list_all, starts_with}
use Rattle.pom_text.specs.Characters.{is_space, is_allowed, is_name_start, is_name_char}
use Rattle.pom_text.specs.References.{referred}

-- an attribute: white space, its name, `=` with white space round it, and its value in quotes
pub record Attribute : Type 0 where
  pub space : List ℕ
  pub name : List ℕ
  pub before : List ℕ
  pub after : List ℕ
  pub quote : ℕ
  pub value : List ℕ

pub data Piece : Type 0 where
  comment : (inside : List ℕ) → Piece
  instruction : (inside : List ℕ) → Piece
  section : (inside : List ℕ) → Piece
  reference : (name : List ℕ) → Piece
  start_tag : (name : List ℕ) → (attributes : List Attribute) → (space : List ℕ) → Piece
  empty_tag : (name : List ℕ) → (attributes : List Attribute) → (space : List ℕ) → Piece
  end_tag : (name space : List ℕ) → Piece
  character : ℕ → Piece

-- how they are written
unfoldable pub written : Attribute → List ℕ
written a = a.space ++ a.name ++ a.before ++ codes "=" ++ a.after ++ a.quote ∷ a.value ++ a.quote ∷ []

abbrev pub tag_text : List ℕ → List Attribute → List ℕ → List ℕ
tag_text name attributes space = name ++ flat_map written attributes ++ space

unfoldable pub spelled : Piece → List ℕ
spelled (comment inside) = codes "<!--" ++ inside ++ codes "-->"
spelled (instruction inside) = codes "<?" ++ inside ++ codes "?>"
spelled (section inside) = codes "<![CDATA[" ++ inside ++ codes "]]>"
spelled (reference name) = codes "&" ++ name ++ codes ";"
spelled (start_tag name attributes space) = codes "<" ++ tag_text name attributes space ++ codes ">"
spelled (empty_tag name attributes space) = codes "<" ++ tag_text name attributes space ++ codes "/>"
spelled (end_tag name space) = codes "</" ++ name ++ space ++ codes ">"
spelled (character c) = c ∷ []

-- the declaration, which may stand at the very front alone
abbrev pub declaration : List Attribute → List ℕ → List ℕ
declaration attributes space = codes "<?xml" ++ flat_map written attributes ++ space ++ codes "?>"

-- a name: a first character and further ones
unfoldable pub is_name : List ℕ → Bool
is_name [] = false
is_name (c ∷ name) = is_name_start c && list_all is_name_char name

-- a quote, single or double
abbrev pub is_quote : ℕ → Bool
is_quote c = c == 34 || c == 39

abbrev pub is_filled : List ℕ → Bool
is_filled [] = false
is_filled (c ∷ text) = true

-- white space stands before it, its value has no `<` and not its quote
unfoldable pub is_attribute : Attribute → Bool
is_attribute a = is_filled a.space && list_all is_space a.space && is_name a.name && list_all is_space a.before && list_all is_space a.after && is_quote a.quote
    && list_all (λ c. not (c == a.quote) && not (c == 60)) a.value

-- no mark stands before the one at the end
abbrev pub ends_first : List ℕ → List ℕ → Bool
ends_first mark [] = true
ends_first mark (c ∷ inside) = not (starts_with nat_eq (c ∷ inside ++ mark) mark) && ends_first mark inside

abbrev pub is_tag : List ℕ → List Attribute → List ℕ → Bool
is_tag name attributes space = is_name name && list_all is_attribute attributes && list_all is_space space

-- the form of each piece
unfoldable pub is_formed : Piece → Bool
is_formed (comment inside) = ends_first (codes "-->") inside
is_formed (instruction inside) = ends_first (codes "?>") inside
is_formed (section inside) = ends_first (codes "]]>") inside
is_formed (reference name) = ends_first (codes ";") name && is_some (referred name)
is_formed (start_tag name attributes space) = is_tag name attributes space
is_formed (empty_tag name attributes space) = is_tag name attributes space
is_formed (end_tag name space) = is_name name && list_all is_space space
is_formed (character c) = not (c == 60) && not (c == 38)

-- a whole piece: it has its form, and each of its characters may stand in a text
abbrev pub is_piece : Piece → Bool
is_piece piece = is_formed piece && list_all is_allowed (spelled piece)
