-- What the reader lends from a text in UTF-8, and where it cuts it. That it comes to what it says of the characters is proved beside it.
use Rattle.std.specs.Prelude.{◌≡◌, ℕ, ◌*◌, ◌≤◌, Bool, true, false, ◌||◌, ◌&&◌, not, ◌==◌, nat_lt, List, [], ◌∷◌, ◌++◌, length, take, drop, Result, IfOk, if◌then◌else◌}
use Rattle.std.specs.List.{list_all, prefix_len}
use Rattle.std.specs.Result.{result_map_both}
use Rattle.std.specs.Str.{IsCharBoundary, chars}
use Rattle.std.specs.String.{string_bytes}
use denote.Ref.{Bor}
use Rattle.pom_text.specs.declared.declaration.Attribute as declaration
use Rattle.pom_text.specs.declared.decoded.Decoded.{Decoded}
use Rattle.pom_text.specs.declared.decoded.Decoded.TheVariants.{Lent, Made}
use Rattle.pom_text.specs.Characters.{is_allowed}
use Rattle.pom_text.specs.Reads.{begins}

-- neither `<`, `&` nor a carriage return
unfoldable pub is_run : ℕ → Bool
is_run c = not (c == 60) && not (c == 38) && not (c == 13)

-- a text is cut behind the run at its front
pub record IsRunOf (text run rest : List ℕ) : Type 0 where
  pub splits : text ≡ run ++ rest
  pub all : list_all is_run run ≡ true
  pub stops : begins is_run rest ≡ false

-- a text without the line feed at its front, where a carriage return stands before it
abbrev pub unfed : Bool → List ℕ → List ℕ
unfed false text = text
unfed true [] = []
unfed true (c ∷ text) = if c == 10 then text else c ∷ text

-- a byte of a character that may not stand in a text: a control character, or the first byte of U+FFFE and U+FFFF
unfoldable pub is_suspect : ℕ → Bool
is_suspect b = nat_lt b 32 && not (b == 9) && not (b == 10) && not (b == 13) || b == 239

-- a text's characters are those at its front that may stand in one, and what follows
pub record IsAllowedOf (text front back : List ℕ) : Type 0 where
  pub front_is : chars front ≡ take (prefix_len is_allowed (chars text)) (chars text)
  pub back_is : chars back ≡ drop (prefix_len is_allowed (chars text)) (chars text)

-- and a text is cut between these two
pub record IsAllowedCut (text : List ℕ) (at : ℕ) : Type 0 where
  pub boundary : IsCharBoundary text at
  pub parts : IsAllowedOf text (take at text) (drop at text)

-- two texts by their characters, and a name, a value and what follows
abbrev pub both_chars : Bor (List ℕ) × Bor (List ℕ) → List ℕ × List ℕ
both_chars e = (chars e.0.now, chars e.1.now)

abbrev pub attribute_chars : (Bor (List ℕ) × Bor (List ℕ)) × Bor (List ℕ) → (List ℕ × List ℕ) × List ℕ
attribute_chars e = (both_chars e.0, chars e.1.now)

-- the same of a declaration's bytes
abbrev pub attribute_bytes : declaration.Attribute × Bor (List ℕ) → (List ℕ × List ℕ) × List ℕ
attribute_bytes e = ((e.0.name.now, e.0.value.now), e.1.now)

-- the bytes of a text, lent or made
abbrev pub decoded_bytes : Decoded → List ℕ
decoded_bytes (Lent text) = text.now
decoded_bytes (Made text) = string_bytes text

-- the characters of what was decoded
abbrev pub decoded_chars : Result Decoded ℕ → Result (List ℕ) ℕ
decoded_chars r = result_map_both (λ d. chars (decoded_bytes d)) (λ e. e) r

-- no character takes more than four bytes
abbrev pub IsShort : List ℕ → Result Decoded ℕ → Type 0
IsShort bytes r = IfOk r (λ d. length (decoded_bytes d) ≤ 4 * length bytes)
