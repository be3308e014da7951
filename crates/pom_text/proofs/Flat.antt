-- The tests that are the same for all characters past ASCII.
use Rattle.std.proofs.Common.{◌≡◌, ℕ, ◌≤◌, ◌<◌, Bool, true, false, ◌||◌, ◌==◌, sym, ap, ◌∙◌, arith}
use Rattle.std.proofs.lemmas.Bool.Decides.{nat_tests}
use Rattle.std.specs.Char.{is_ascii_digit, is_ascii_lowercase}
use Rattle.pom_text.specs.Characters.{is_space, is_name_start, is_name_char}
use Rattle.pom_text.specs.Encodings.{is_ascii}
use Rattle.pom_text.specs.Reads.{is_value}
use Rattle.pom_text.specs.Lent.{is_run}

-- all characters past ASCII pass alike
abbrev pub IsFlat : (ℕ → Bool) → Type 0
IsFlat p = (c d : ℕ) → 128 ≤ c → 128 ≤ d → p c ≡ p d

run_high : (c : ℕ) → 128 ≤ c → is_run c ≡ true
unfolding is_run
run_high c a = grind (arith, nat_tests, a)

pub run_flat : IsFlat is_run
run_flat c d a b = run_high c a ∙ sym (run_high d b)

space_high : (c : ℕ) → 128 ≤ c → is_space c ≡ false
unfolding is_space
space_high c a = grind (arith, nat_tests, a)

pub space_flat : IsFlat is_space
space_flat c d a b = space_high c a ∙ sym (space_high d b)

start_high : (c : ℕ) → 128 ≤ c → is_name_start c ≡ true
unfolding is_name_start
start_high c a = grind (arith, nat_tests, a)

name_high : (c : ℕ) → 128 ≤ c → is_name_char c ≡ true
unfolding is_name_char
name_high c a = ap (λ b. b || is_ascii_digit c || c == 45 || c == 46 || c == 58) (start_high c a)

pub name_flat : IsFlat is_name_char
name_flat c d a b = name_high c a ∙ sym (name_high d b)

pub start_flat : IsFlat is_name_start
start_flat c d a b = start_high c a ∙ sym (start_high d b)

-- a small letter may stand in a name
pub small_letter : (c : ℕ) → is_ascii_lowercase c ≡ true → true ≡ is_name_char c
unfolding is_name_char is_name_start
small_letter c is = grind (arith, nat_tests, is)

-- `>` and `=` may not
pub name_end : (c : ℕ) → (c == 62 || c == 61) ≡ true → false ≡ is_name_char c
unfolding is_name_char is_name_start
name_end c is = grind (arith, nat_tests, is)

value_high : (quote c : ℕ) → quote < 128 → 128 ≤ c → is_value quote c ≡ true
unfolding is_value
value_high quote c low a = grind (arith, nat_tests, low, a)

pub value_flat : (quote : ℕ) → quote < 128 → IsFlat (is_value quote)
value_flat quote low c d a b = value_high quote c low a ∙ sym (value_high quote d low b)

ascii_high : (c : ℕ) → 128 ≤ c → is_ascii c ≡ false
ascii_high c a = grind (arith, nat_tests, a)

pub ascii_flat : IsFlat is_ascii
ascii_flat c d a b = ascii_high c a ∙ sym (ascii_high d b)
