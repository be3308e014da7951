-- The encodings that a POM may have, and the declaration that names one. XML 1.0, sections 2.8 and 4.3.3; own: these three.
use Rattle.std.specs.Prelude.{◌≡◌, ℕ, ◌+◌, Bool, true, false, ◌&&◌, ◌==◌, nat_eq, nat_lt, List, [], ◌∷◌, ◌++◌, length, drop, codes, Option, Some, None, Result, Ok, Err, if◌then◌else◌}
use Rattle.std.specs.List.{list_all, prefix_len, starts_with}
use Rattle.std.specs.Str.{bytes_eq, chars, encode_utf8_all, str_to_ascii_lowercase}
use Rattle.std.specs.Str.Lossy.{utf8_valid_len}
use Rattle.pom_text.specs.declared.encoding.Encoding.{Encoding}
use Rattle.pom_text.specs.declared.encoding.Encoding.TheVariants.{Utf8, UsAscii, Iso88591}
use Rattle.pom_text.specs.Characters.{is_space, is_allowed}
use Rattle.pom_text.specs.Grammar.{Attribute, declaration, is_attribute, is_filled, written}

-- the UTF-8 mark, which may stand at the front
abbrev pub mark_len : List ℕ → ℕ
mark_len bytes = if starts_with nat_eq bytes (239 ∷ 187 ∷ 191 ∷ []) then 3 else 0

abbrev pub behind_mark : List ℕ → List ℕ
behind_mark bytes = drop (mark_len bytes) bytes

-- an encoding by its name, without case
unfoldable pub named : List ℕ → Option Encoding
named name = if bytes_eq (str_to_ascii_lowercase name) (codes "utf-8") then Some Utf8
    else if bytes_eq (str_to_ascii_lowercase name) (codes "us-ascii") then Some UsAscii
    else if bytes_eq (str_to_ascii_lowercase name) (codes "iso-8859-1") then Some Iso88591
    else None

abbrev pub is_ascii : ℕ → Bool
is_ascii b = nat_lt b 128

-- the characters of bytes; or how long their longest front is that the encoding allows, which is the first byte that it doesn't
unfoldable pub decoded : Encoding → List ℕ → Result (List ℕ) ℕ
decoded Utf8 bytes = if utf8_valid_len bytes == length bytes then Ok (chars bytes) else Err (utf8_valid_len bytes)
decoded UsAscii bytes = if prefix_len is_ascii bytes == length bytes then Ok bytes else Err (prefix_len is_ascii bytes)
decoded Iso88591 bytes = Ok bytes

-- the bytes of characters
unfoldable pub encoded : Encoding → List ℕ → List ℕ
encoded Utf8 text = encode_utf8_all text
encoded UsAscii text = text
encoded Iso88591 text = text

-- a declaration: attributes, and white space behind its `<?xml`
abbrev pub first_space : List Attribute → List ℕ → List ℕ
first_space [] space = space
first_space (a ∷ attributes) space = a.space

unfoldable pub is_declaration : List Attribute → List ℕ → Bool
is_declaration attributes space = list_all is_attribute attributes && list_all is_space space && is_filled (first_space attributes space)

-- where an attribute's value begins
abbrev pub value_place : Attribute → ℕ
value_place a = length a.space + length a.name + length a.before + 1 + length a.after + 1

-- the first attribute `encoding`: where its value begins, and its value
abbrev pub encoding_in : ℕ → List Attribute → Option (ℕ × List ℕ)
encoding_in at [] = None
encoding_in at (a ∷ attributes) = if bytes_eq a.name (codes "encoding") then Some (at + value_place a, a.value) else encoding_in (at + length (written a)) attributes

-- the encoding that bytes name, if they begin with a declaration; each byte past ASCII counts as a character of a name there
pub data Names (bytes : List ℕ) : Option (ℕ × List ℕ) → Type 0 where
  declared : (attributes : List Attribute) (space rest : List ℕ) → is_declaration attributes space ≡ true → bytes ≡ declaration attributes space ++ rest → Names bytes (encoding_in 5 attributes)
  undeclared : ((attributes : List Attribute) (space rest : List ℕ) → is_declaration attributes space ≡ true → bytes ≡ declaration attributes space ++ rest → ⊥) → Names bytes None

-- UTF-8 where none is named
abbrev pub or_bad : ℕ → Option Encoding → Result Encoding ℕ
or_bad place (Some encoding) = Ok encoding
or_bad place None = Err place

abbrev pub chosen : Option (ℕ × List ℕ) → Result Encoding ℕ
chosen None = Ok Utf8
chosen (Some e) = or_bad e.0 (named e.1)

-- what begins with `<?xml` and white space is a declaration and no instruction
abbrev pub begins_space : List ℕ → Bool
begins_space [] = false
begins_space (c ∷ text) = is_space c

unfoldable pub announces : List ℕ → Bool
announces text = starts_with nat_eq text (codes "<?xml") && begins_space (drop 5 text)

-- what stands behind a declaration, whose characters may all stand in a text, or behind none
pub data Opens (text : List ℕ) : (body : List ℕ) → Type 0 where
  declared : (attributes : List Attribute) (space body : List ℕ) → is_declaration attributes space ≡ true → list_all is_allowed (declaration attributes space) ≡ true → text ≡ declaration attributes space ++ body → Opens text body
  undeclared : announces text ≡ false → Opens text text
