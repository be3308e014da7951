-- How the reader goes over a declaration. That it reads the grammar is proved beside it.
use Rattle.std.specs.Prelude.{ℕ, zero, suc, ◌+◌, ◌-◌, List, length, codes, Option, Some, None, option_and_then, if◌then◌else◌}
use Rattle.std.specs.Str.{bytes_eq}
use Rattle.pom_text.specs.Encodings.{announces, begins_space}
use Rattle.pom_text.specs.Reads.{after, attribute_of, attributes_of, skip_space}

-- what stands behind a declaration, by what stands behind its `<?xml`
abbrev pub closed : List ℕ → Option (List ℕ)
closed text = if begins_space text then after (codes "?>") (skip_space (attributes_of text).1) else None

unfoldable pub behind_declaration : List ℕ → Option (List ℕ)
behind_declaration text = option_and_then closed (after (codes "<?xml") text)

-- the first attribute `encoding`, of a text of so many characters: where its value begins, and its value
abbrev pub encoding_or : (List ℕ → Option (ℕ × List ℕ)) → ℕ → Option ((List ℕ × List ℕ) × List ℕ) → Option (ℕ × List ℕ)
encoding_or further total (Some e) = if bytes_eq e.0.0 (codes "encoding") then Some (total - (length e.1 + 1 + length e.0.1), e.0.1) else further e.1
encoding_or further total None = None

abbrev pub encoding_within : ℕ → ℕ → List ℕ → Option (ℕ × List ℕ)
encoding_within zero total text = None
encoding_within (suc fuel) total text = encoding_or (encoding_within fuel total) total (attribute_of text)

unfoldable pub encoding_from : ℕ → List ℕ → Option (ℕ × List ℕ)
encoding_from total text = encoding_within (length text) total text

abbrev pub if_there : {A B : Type 0} → Option A → Option B → Option B
if_there (Some x) other = other
if_there None other = None

-- the encoding that a declaration names
abbrev pub named_behind : ℕ → List ℕ → Option (ℕ × List ℕ)
named_behind total text = if_there (closed text) (encoding_from total text)

unfoldable pub named_encoding : List ℕ → Option (ℕ × List ℕ)
named_encoding text = option_and_then (named_behind (length text)) (after (codes "<?xml") text)

-- what stands behind a declaration or none
unfoldable pub opening : List ℕ → Option (List ℕ)
opening text = if announces text then behind_declaration text else Some text
