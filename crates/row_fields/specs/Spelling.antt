-- How the fields of rows are spelled, and how answers are. Project rule.
use Rattle.std.specs.Prelude.{ℕ, Bool, ◌+◌, ◌-◌, ◌*◌, ◌/◌, ◌%◌, ◌==◌, ◌&&◌, not, min, nat_eq, nat_lt, List, [], ◌∷◌, ◌++◌, length, map, fold, flat_map, if◌then◌else◌}
use Rattle.std.specs.List.{slice_split, repeat, before_first, after_first}

-- the value of a hexadecimal digit: 0 to 9, then a to f
abbrev pub digit : ℕ → ℕ
digit b = if nat_lt b 97 then b - 48 else b - 87

-- the byte that two hexadecimal digits spell
abbrev pub byte_of : ℕ → ℕ → ℕ
byte_of high low = (digit high * 16 + digit low) % 256

-- the number that decimal digits spell, or 2 ^ 32 - 1 where it is higher
abbrev pub number : List ℕ → ℕ
number digits = fold (λ n b. min (n * 10 + (b - 48)) 4294967295) 0 digits

-- `N)TEXT`: the text N times
abbrev pub repeated : List ℕ → List ℕ
repeated piece = repeat (number (before_first (λ b. nat_eq b 41) piece)) (after_first (λ b. nat_eq b 41) piece)

-- two hexadecimal digits and a text: their byte and the text; fewer bytes are themselves
abbrev pub with_byte : List ℕ → List ℕ
with_byte [] = []
with_byte (b ∷ []) = b ∷ []
with_byte (high ∷ low ∷ rest) = byte_of high low ∷ rest

-- an `x` with digits and a text, or another mark and a text, for which the text stands
abbrev pub marked : List ℕ → List ℕ
marked [] = []
marked (mark ∷ rest) = if nat_eq mark 120 then with_byte rest else rest

-- what stands behind a backslash, up to the next one: `xNN` with a text, `(N)TEXT`, or a mark and a text
abbrev pub spelled : List ℕ → List ℕ
spelled [] = []
spelled (mark ∷ rest) = if nat_eq mark 40 then repeated rest else marked (mark ∷ rest)

-- what stands in front of the first backslash, and what stands behind each
abbrev pub bytes_of : List (List ℕ) → List ℕ
bytes_of [] = []
bytes_of (plain ∷ pieces) = plain ++ flat_map spelled pieces

-- the bytes of a field
unfoldable pub unescaped : List ℕ → List ℕ
unescaped field = bytes_of (slice_split (λ b. nat_eq b 92) field)

-- the fields of a row, with a space between two of them; an empty row has none
unfoldable pub fields : List ℕ → List (List ℕ)
fields row = if length row == 0 then [] else map unescaped (slice_split (λ b. nat_eq b 32) row)

-- the hexadecimal digit of a value below 16
abbrev pub hex : ℕ → ℕ
hex value = if nat_lt value 10 then 48 + value else 87 + value

-- whether a byte stands for itself in an answer: the printed ones of ASCII do, but for the backslash
abbrev pub is_plain : ℕ → Bool
is_plain b = nat_lt 31 b && nat_lt b 127 && not (nat_eq b 92)

-- a byte in an answer: itself or `\xNN`
abbrev pub escaped_byte : ℕ → List ℕ
escaped_byte b = if is_plain b then b ∷ [] else 92 ∷ 120 ∷ hex (b / 16) ∷ hex (b % 16) ∷ []

-- an answer in printed bytes of ASCII
unfoldable pub escaped : List ℕ → List ℕ
escaped answer = flat_map escaped_byte answer
