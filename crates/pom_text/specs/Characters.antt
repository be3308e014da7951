-- The characters of a POM text, by their codes. XML 1.0, sections 2.2 and 2.3; own profile: any character past ASCII may
-- stand in a name.
use Rattle.std.specs.Prelude.{ℕ, Bool, ◌||◌, ◌==◌, nat_lt}
use Rattle.std.specs.Int.{is_in_range}
use Rattle.std.specs.Char.{is_ascii_alphabetic, is_ascii_digit}

-- white space: a space, a tab, a line feed, a carriage return
unfoldable pub is_space : ℕ → Bool
is_space c = c == 32 || c == 9 || c == 10 || c == 13

-- what may stand in a text at all
unfoldable pub is_allowed : ℕ → Bool
is_allowed c = c == 9 || c == 10 || c == 13 || is_in_range 0x20 0xD7FF c || is_in_range 0xE000 0xFFFD c || is_in_range 0x10000 0x10FFFF c

-- the first character of a name: a letter, `_`, or one past ASCII
unfoldable pub is_name_start : ℕ → Bool
is_name_start c = is_ascii_alphabetic c || c == 95 || nat_lt 127 c

-- a further one: these, digits, `-`, `.`, `:`
unfoldable pub is_name_char : ℕ → Bool
is_name_char c = is_name_start c || is_ascii_digit c || c == 45 || c == 46 || c == 58
