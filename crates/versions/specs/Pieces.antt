-- Where a version splits. POM Reference, "Version Order Specification"; that `_` is an ordinary byte is an own rule.
use Rattle.std.specs.Prelude.{◌≡◌, ℕ, suc, ◌<◌, ◌≤◌, length, take, drop, Option, Some, None, is_some, Bool, true, false, not, ◌&&◌, ◌||◌, ◌==◌, List, [], ◌∷◌, if◌then◌else◌}
use Rattle.std.specs.Char.{is_ascii_digit}
use Rattle.versions.specs.declared.piece.Mark.{Mark}
use Rattle.versions.specs.declared.piece.First.{First}
use Rattle.versions.specs.declared.piece.Mark.TheVariants.{Dot, Hyphen, Change}

-- a part of a version that doesn't split, and what stands before it
pub record Piece : Type 0 where
  pub mark : Mark
  pub bytes : List ℕ

-- a dot or a hyphen
abbrev pub is_mark : ℕ → Bool
is_mark b = b == 46 || b == 45

-- a digit beside another byte
abbrev pub is_change : ℕ → ℕ → Bool
is_change a b = if is_ascii_digit a then not (is_ascii_digit b) else is_ascii_digit b

-- the byte is followed by one that it splits from, neither a dot nor a hyphen
abbrev pub changes_after : ℕ → List ℕ → Bool
changes_after b [] = false
changes_after b (c ∷ text) = not (is_mark c) && is_change b c

-- a byte at the front of the first piece
abbrev pub onto : ℕ → List Piece → List Piece
onto b [] = []
onto b (piece ∷ pieces) = (record { mark = piece.mark; bytes = b ∷ piece.bytes }) ∷ pieces

-- the pieces of a text that has this before it, one at least: it splits at each dot and hyphen, and between a digit
-- and another byte
unfoldable pub pieces : Mark → List ℕ → List Piece
pieces mark [] = (record { mark = mark; bytes = [] }) ∷ []
pieces mark (b ∷ text) =
    if b == 46 then (record { mark = mark; bytes = [] }) ∷ pieces Dot text
    else (if b == 45 then (record { mark = mark; bytes = [] }) ∷ pieces Hyphen text
    else (if changes_after b text then (record { mark = mark; bytes = b ∷ [] }) ∷ pieces Change text
    else onto b (pieces mark text)))

abbrev pub is_change_mark : Mark → Bool
is_change_mark Dot = false
is_change_mark Hyphen = false
is_change_mark Change = true

-- a change stands there
abbrev pub changes : Option Mark → Bool
changes None = false
changes (Some mark) = is_change_mark mark

-- how long the first piece of a text is
abbrev pub front : List ℕ → ℕ
front [] = 0
front (b ∷ text) = if is_mark b then 0 else (if changes_after b text then 1 else suc (front text))

-- the pieces behind the first one, where there are more
abbrev pub further : Option Mark → List ℕ → List Piece
further None text = []
further (Some mark) text = pieces mark text

-- what stands before the next piece, where a piece ends before this text
abbrev pub next_mark : List ℕ → Option Mark
next_mark [] = None
next_mark (b ∷ text) = if b == 46 then Some Dot else (if b == 45 then Some Hyphen else Some Change)

abbrev pub width : Option Mark → ℕ
width None = 0
width (Some Dot) = 1
width (Some Hyphen) = 1
width (Some Change) = 0

-- what the first piece of a text is, and where the next begins
pub record Leads (text : List ℕ) (first : First) : Type 0 where
  pub split : (mark : Mark) → pieces mark text ≡ (record { mark = mark; bytes = take first.len text }) ∷ further first.next (drop first.to text)
  pub within : first.len ≤ length text
  pub on : first.to ≤ length text
  pub further_on : is_some first.next ≡ true → 0 < first.to
