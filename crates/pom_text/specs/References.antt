-- What a reference stands for. XML 1.0, sections 4.1 and 4.6.
use Rattle.std.specs.Prelude.{ℕ, ◌+◌, ◌*◌, ◌==◌, List, [], ◌∷◌, fold, codes, Option, Some, None, if◌then◌else◌}
use Rattle.std.specs.List.{list_all}
use Rattle.std.specs.Str.{bytes_eq}
use Rattle.std.specs.Char.{is_digit, digit_value}
use Rattle.pom_text.specs.Characters.{is_allowed}

-- the number that digits write
abbrev pub number : ℕ → List ℕ → ℕ
number radix digits = fold (λ value digit. value * radix + digit_value digit) 0 digits

-- the character of a code that may stand in a text
abbrev pub allowed : ℕ → Option ℕ
allowed code = if is_allowed code then Some code else None

-- the character that one digit or more write
unfoldable pub numbered : ℕ → List ℕ → Option ℕ
numbered radix [] = None
numbered radix (digit ∷ digits) = if list_all (λ d. is_digit d radix) (digit ∷ digits) then allowed (number radix (digit ∷ digits)) else None

-- between `&#` and `;`: decimal digits, or an `x` and hexadecimal digits
unfoldable pub numeral : List ℕ → Option ℕ
numeral [] = None
numeral (c ∷ digits) = if c == 120 then numbered 16 digits else numbered 10 (c ∷ digits)

-- the five entities that need no declaration
unfoldable pub entity : List ℕ → Option ℕ
entity name = if bytes_eq name (codes "lt") then Some 60
    else if bytes_eq name (codes "gt") then Some 62
    else if bytes_eq name (codes "amp") then Some 38
    else if bytes_eq name (codes "quot") then Some 34
    else if bytes_eq name (codes "apos") then Some 39
    else None

-- what stands between `&` and `;`, and the character that it means
unfoldable pub referred : List ℕ → Option ℕ
referred [] = None
referred (c ∷ name) = if c == 35 then numeral name else entity (c ∷ name)
