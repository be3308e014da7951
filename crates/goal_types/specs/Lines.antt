-- The first line of bytes. Own rule.
use Rattle.std.specs.Prelude.{ℕ, ◌+◌, Bool, not, ◌==◌, nat_lt, List, length, take, drop, Option, Some, None, if◌then◌else◌}
use Rattle.std.specs.List.{prefix_len}
use denote.Ref.{Bor}

-- any byte but a line feed
abbrev pub is_in_line : ℕ → Bool
is_in_line b = not (b == 10)

-- the bytes before the first line feed, all where there is none
abbrev pub line_of : List ℕ → List ℕ
line_of bytes = take (prefix_len is_in_line bytes) bytes

-- the bytes behind the first line feed
abbrev pub after_line : List ℕ → List ℕ
after_line bytes = drop (prefix_len is_in_line bytes + 1) bytes

-- there is a line feed
abbrev pub has_line : List ℕ → Bool
has_line bytes = nat_lt (prefix_len is_in_line bytes) (length bytes)

-- the first line and what stands behind it, where there is a line feed
abbrev pub split_line : List ℕ → Option (List ℕ × List ℕ)
split_line bytes = if has_line bytes then Some (line_of bytes, after_line bytes) else None

-- two slices, without where they lie in memory
abbrev pub parts : Bor (List ℕ) × Bor (List ℕ) → List ℕ × List ℕ
parts p = (p.0.now, p.1.now)
