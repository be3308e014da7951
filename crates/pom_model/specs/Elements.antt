-- How what stands in an element is found. POM Reference; white space round texts is no part of them.
use Rattle.std.specs.Prelude.{ℕ, Bool, ◌-◌, ◌==◌, List, [], ◌∷◌, length, take, drop, flat_map, Option, Some, None, option_and_then, slice_get, unwrap_or, if◌then◌else◌}
use Rattle.std.specs.Char.{is_ascii_whitespace}
use Rattle.std.specs.List.{prefix_len, suffix_len}
use Rattle.std.specs.Str.{bytes_eq}
use Rattle.pom_text.specs.declared.node.Node.{Node}

-- a text without the white space round it
abbrev pub without_end : List ℕ → List ℕ
without_end text = take (length text - suffix_len is_ascii_whitespace text) text

unfoldable pub trimmed : List ℕ → List ℕ
trimmed text = without_end (drop (prefix_len is_ascii_whitespace text) text)

-- the elements directly in one, or in none
abbrev pub children : Option Node → List ℕ
children (Some node) = node.children
children None = []

-- the element of a number, where it has this name
abbrev pub if_named : List ℕ → Node → Option Node
if_named name node = if bytes_eq node.name name then Some node else None

unfoldable pub named : List Node → List ℕ → ℕ → Option Node
named nodes name k = option_and_then (if_named name) (slice_get nodes k)

abbrev pub listed : {A : Type 0} → Option A → List A
listed (Some x) = x ∷ []
listed None = []

-- those of a name among some, and in an element
abbrev pub named_among : List Node → List ℕ → List ℕ → List Node
named_among nodes name ks = flat_map (λ k. listed (named nodes name k)) ks

abbrev pub items : List Node → List ℕ → Option Node → List Node
items nodes name node = named_among nodes name (children node)

abbrev pub first : {A : Type 0} → List A → Option A
first [] = None
first (x ∷ xs) = Some x

-- the first of a name in an element
unfoldable pub child : List Node → List ℕ → Option Node → Option Node
child nodes name node = first (items nodes name node)

-- a text that is not empty
abbrev pub non_empty : List ℕ → Option (List ℕ)
non_empty text = if length text == 0 then None else Some text

abbrev pub own_text : Node → List ℕ
own_text node = trimmed node.text

-- the text of an element, where there is one and it isn't empty
abbrev pub text_in : Option Node → Option (List ℕ)
text_in node = option_and_then (λ n. non_empty (own_text n)) node

-- the text of the first of a name, where it isn't empty
unfoldable pub text_of : List Node → List ℕ → Option Node → Option (List ℕ)
text_of nodes name node = option_and_then (λ n. non_empty (own_text n)) (child nodes name node)

-- or a default
abbrev pub text_or : List Node → List ℕ → List ℕ → Option Node → List ℕ
text_or nodes name default node = unwrap_or (text_of nodes name node) default

-- whether a text is this one; an absent text is empty
abbrev pub text_is : List Node → List ℕ → List ℕ → Option Node → Bool
text_is nodes name value node = bytes_eq (text_or nodes name [] node) value
