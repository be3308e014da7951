-- The normal form of a version. POM Reference, "Version Order Specification"; what the first token has before it, and
-- how null tokens are trimmed, are own rules.
use Rattle.std.specs.Prelude.{ℕ, suc, Bool, true, false, ◌&&◌, ◌||◌, ◌==◌, nat_eq, List, [], ◌∷◌, map, codes, length, if◌then◌else◌}
use Rattle.std.specs.Char.{is_ascii_digit, to_ascii_lowercase}
use Rattle.std.specs.Cmp.Lexicographic.{pointwise}
use Rattle.versions.specs.declared.piece.Mark.{Mark}
use Rattle.versions.specs.declared.piece.Mark.TheVariants.{Dot, Hyphen, Change}
use Rattle.versions.specs.declared.kind.Kind.{Kind}
use Rattle.versions.specs.declared.kind.Kind.TheVariants.{Alpha, Beta, Milestone, ReleaseCandidate, Snapshot, Release, ServicePack, Qualifier, HyphenNumber, DotNumber}
use Rattle.versions.specs.Pieces.{Piece, is_change_mark, pieces}

-- what kind of token it is, and its bytes where they count: a number's digits without leading zeros, another qualifier
pub record Token : Type 0 where
  pub kind : Kind
  pub content : List ℕ

abbrev pub is_word : List ℕ → List ℕ → Bool
is_word word name = pointwise nat_eq word name

-- the kind of a qualifier; `a`, `b` and `m` are short for one where a digit follows directly
unfoldable pub qualifier_kind : Bool → List ℕ → Kind
qualifier_kind before_digit word =
    if is_word word (codes "alpha") || (before_digit && is_word word (codes "a")) then Alpha
    else (if is_word word (codes "beta") || (before_digit && is_word word (codes "b")) then Beta
    else (if is_word word (codes "milestone") || (before_digit && is_word word (codes "m")) then Milestone
    else (if is_word word (codes "rc") || is_word word (codes "cr") then ReleaseCandidate
    else (if is_word word (codes "snapshot") then Snapshot
    else (if is_word word (codes "final") || is_word word (codes "ga") || is_word word (codes "release") then Release
    else (if is_word word (codes "sp") then ServicePack
    else Qualifier))))))

-- the kind of a number: a change counts as a hyphen
abbrev pub number_kind : Mark → Kind
number_kind Dot = DotNumber
number_kind Hyphen = HyphenNumber
number_kind Change = HyphenNumber

-- a piece with nothing in it is the number zero
abbrev pub is_number : List ℕ → Bool
is_number [] = true
is_number (b ∷ bytes) = is_ascii_digit b

abbrev pub without_zeros : List ℕ → List ℕ
without_zeros [] = []
without_zeros (b ∷ digits) = if b == 48 then without_zeros digits else b ∷ digits

-- how many zeros lead a number
abbrev pub zero_count : List ℕ → ℕ
zero_count [] = 0
zero_count (b ∷ digits) = if b == 48 then suc (zero_count digits) else 0

-- a qualifier of a kind of its own has no other content
abbrev pub qualifier_content : Kind → List ℕ → List ℕ
qualifier_content Qualifier word = word
qualifier_content kind word = []

unfoldable pub token : Bool → Piece → Token
token before_digit piece =
    if is_number piece.bytes
    then record { kind = number_kind piece.mark; content = without_zeros piece.bytes }
    else record { kind = qualifier_kind before_digit piece.bytes; content = qualifier_content (qualifier_kind before_digit piece.bytes) piece.bytes }

-- the next piece begins at a change
abbrev pub begins_at_change : List Piece → Bool
begins_at_change [] = false
begins_at_change (piece ∷ more) = is_change_mark piece.mark

abbrev pub tokens : List Piece → List Token
tokens [] = []
tokens (piece ∷ more) = token (begins_at_change more) piece ∷ tokens more

-- the number zero, or the empty qualifier
abbrev pub is_null : Token → Bool
is_null t = by t.kind t.content
  where
    by : Kind → List ℕ → Bool
    by Release content = true
    by HyphenNumber content = length content == 0
    by DotNumber content = length content == 0
    by kind content = false

-- nothing follows, or a token with a hyphen before it
abbrev pub ends_part : List Token → Bool
ends_part [] = true
ends_part (t ∷ ts) = by t.kind
  where
    by : Kind → Bool
    by DotNumber = false
    by kind = true

-- without each null token that stands, or comes to stand, before a hyphen or at the end
abbrev pub trimmed : List Token → List Token
trimmed [] = []
trimmed (t ∷ ts) = if is_null t && ends_part (trimmed ts) then trimmed ts else t ∷ trimmed ts

-- the tokens of a version, ASCII letters in lower case
unfoldable pub normal : List ℕ → List Token
normal text = trimmed (tokens (pieces Dot (map to_ascii_lowercase text)))
