-- How the reader goes from the left. That it reads the grammar is proved beside it.
use Rattle.std.specs.Prelude.{ℕ, zero, suc, Bool, false, ◌||◌, ◌&&◌, not, ◌==◌, nat_eq, List, [], ◌∷◌, length, map, take, drop, codes, Option, Some, None, option_map, option_and_then, if◌then◌else◌}
use Rattle.std.specs.List.{starts_with, prefix_len}
use Rattle.std.specs.Str.{encode_utf8_all}
use Rattle.pom_text.specs.Characters.{is_space, is_name_start, is_name_char}
use Rattle.pom_text.specs.References.{referred}
use Rattle.pom_text.specs.Parts.{lines, Tag, Part, Passed, Character, Section, Reference, Start, Empty, End}

infixl 10 ◌>>=◌
abbrev pub ◌>>=◌ : {A B : Type 0} → Option A → (A → Option B) → Option B
o >>= f = option_and_then f o

-- what follows a mark, where a text begins with it
unfoldable pub after : List ℕ → List ℕ → Option (List ℕ)
after mark text = if starts_with nat_eq text mark then Some (drop (length mark) text) else None

unfoldable pub skip_space : List ℕ → List ℕ
skip_space text = drop (prefix_len is_space text) text

abbrev pub begins : (ℕ → Bool) → List ℕ → Bool
begins p [] = false
begins p (c ∷ text) = p c

-- a name, and what follows it
unfoldable pub name_of : List ℕ → Option (List ℕ × List ℕ)
name_of text = if begins is_name_start text then Some (take (prefix_len is_name_char text) text, drop (prefix_len is_name_char text) text) else None

-- what stands before a mark, and what follows the mark
abbrev pub longer : ℕ → List ℕ × List ℕ → List ℕ × List ℕ
longer c e = (c ∷ e.0, e.1)

abbrev pub first_of : Option (List ℕ) → Option (List ℕ × List ℕ) → Option (List ℕ × List ℕ)
first_of (Some rest) other = Some ([], rest)
first_of None other = other

abbrev pub up_to : List ℕ → List ℕ → Option (List ℕ × List ℕ)
up_to mark [] = None
up_to mark (c ∷ text) = first_of (after mark (c ∷ text)) (option_map (longer c) (up_to mark text))

-- a character of an attribute's value
unfoldable pub is_value : ℕ → ℕ → Bool
is_value quote c = not (c == quote) && not (c == 60)

unfoldable pub value_of : ℕ → List ℕ → Option (List ℕ × List ℕ)
value_of quote text = after (quote ∷ []) (drop (prefix_len (is_value quote) text) text) >>= λ rest. Some (take (prefix_len (is_value quote) text) text, rest)

unfoldable pub quoted : List ℕ → Option (List ℕ × List ℕ)
quoted [] = None
quoted (quote ∷ text) = if quote == 34 || quote == 39 then value_of quote text else None

-- an attribute: its name, its value, and what follows
abbrev pub with_value : List ℕ → List ℕ × List ℕ → Option ((List ℕ × List ℕ) × List ℕ)
with_value name value = Some ((name, value.0), value.1)

abbrev pub with_equals : List ℕ → List ℕ → Option ((List ℕ × List ℕ) × List ℕ)
with_equals name text = quoted (skip_space text) >>= with_value name

abbrev pub with_name : List ℕ × List ℕ → Option ((List ℕ × List ℕ) × List ℕ)
with_name name = after (codes "=") (skip_space name.1) >>= with_equals name.0

unfoldable pub attribute_of : List ℕ → Option ((List ℕ × List ℕ) × List ℕ)
attribute_of text = if prefix_len is_space text == 0 then None else (name_of (skip_space text) >>= with_name)

-- a reference behind its `&`: the character, and what follows
abbrev pub meant : List ℕ × List ℕ → Option (ℕ × List ℕ)
meant name = option_map (λ c. (c, name.1)) (referred name.0)

unfoldable pub reference_of : List ℕ → Option (ℕ × List ℕ)
reference_of text = up_to (codes ";") text >>= meant

-- all attributes that stand next, by name and value, and what follows
abbrev pub gathered : (List ℕ → List (List ℕ × List ℕ) × List ℕ) → List ℕ → Option ((List ℕ × List ℕ) × List ℕ) → List (List ℕ × List ℕ) × List ℕ
gathered further text None = ([], text)
gathered further text (Some e) = (e.0 ∷ (further e.1).0, (further e.1).1)

abbrev pub attributes_within : ℕ → List ℕ → List (List ℕ × List ℕ) × List ℕ
attributes_within zero text = ([], text)
attributes_within (suc fuel) text = gathered (attributes_within fuel) text (attribute_of text)

unfoldable pub attributes_of : List ℕ → List (List ℕ × List ℕ) × List ℕ
attributes_of text = attributes_within (length text) text

-- their names, in UTF-8
abbrev pub names_of : List (List ℕ × List ℕ) → List (List ℕ)
names_of attributes = map (λ a. encode_utf8_all a.0) attributes

abbrev pub tag : List ℕ → List (List ℕ × List ℕ) → Tag
tag name attributes = record { name = encode_utf8_all name; attributes = names_of attributes }

-- the first of two that is there
abbrev pub or : {A : Type 0} → Option A → Option A → Option A
or (Some x) other = Some x
or None other = other

unfoldable pub tag_end : Tag → List ℕ → Option (Part × List ℕ)
tag_end tag text = or (option_map (λ rest. (Start tag, rest)) (after (codes ">") text)) (option_map (λ rest. (Empty tag, rest)) (after (codes "/>") text))

-- a start tag or an empty tag behind its `<`
abbrev pub tag_named : List ℕ × List ℕ → Option (Part × List ℕ)
tag_named name = tag_end (tag name.0 (attributes_of name.1).0) (skip_space (attributes_of name.1).1)

unfoldable pub tag_of : List ℕ → Option (Part × List ℕ)
tag_of text = name_of text >>= tag_named

-- an end tag behind its `</`
abbrev pub end_named : List ℕ × List ℕ → Option (Part × List ℕ)
end_named name = option_map (λ rest. (End (encode_utf8_all name.0), rest)) (after (codes ">") (skip_space name.1))

unfoldable pub end_of : List ℕ → Option (Part × List ℕ)
end_of text = name_of text >>= end_named

-- a comment or an instruction behind its opening
unfoldable pub passed_of : List ℕ → List ℕ → Option (Part × List ℕ)
passed_of mark text = option_map (λ e. (Passed, e.1)) (up_to mark text)

-- a CDATA part behind its opening
unfoldable pub section_of : List ℕ → Option (Part × List ℕ)
section_of text = option_map (λ e. (Section (encode_utf8_all (lines false e.0)), e.1)) (up_to (codes "]]>") text)

abbrev pub behind : {A : Type 0} → Option (List ℕ) → (List ℕ → A) → A → A
behind (Some rest) f other = f rest
behind None f other = other

-- what stands behind a `<`
unfoldable pub marked_of : List ℕ → Option (Part × List ℕ)
marked_of text =
    behind (after (codes "!--") text) (passed_of (codes "-->"))
    (behind (after (codes "![CDATA[") text) section_of
    (behind (after (codes "?") text) (passed_of (codes "?>"))
    (behind (after (codes "/") text) end_of
    (tag_of text))))

-- the piece at the front of a text, and what follows
unfoldable pub piece_of : List ℕ → Option (Part × List ℕ)
piece_of [] = None
piece_of (c ∷ text) =
    if c == 60 then marked_of text
    else if c == 38 then option_map (λ e. (Reference e.0, e.1)) (reference_of text)
    else Some (Character c, text)
