-- Tokens as ranges of a text, and how they are gathered from the left. Own rules.
use Rattle.std.specs.Prelude.{ℕ, List, [], ◌∷◌, ◌++◌, take, drop, if◌then◌else◌}
use Rattle.versions.specs.declared.cut.Cut.{Cut}
use Rattle.versions.specs.Tokens.{Token, is_null, ends_part}

-- the token that a cut of a text stands for
abbrev pub cut_token : List ℕ → Cut → Token
cut_token text cut = record { kind = cut.kind; content = take cut.len (drop cut.start text) }

-- a token at the front of a list that has no null token at its end
abbrev pub kept_before : Token → List Token → List Token
kept_before t [] = if is_null t then [] else t ∷ []
kept_before t (u ∷ us) = t ∷ u ∷ us

-- without the null tokens at the end
abbrev pub stripped : List Token → List Token
stripped [] = []
stripped (t ∷ ts) = kept_before t (stripped ts)

-- one token more: a hyphen before it ends what stood before
abbrev pub added : List Token → Token → List Token
added ts t = (if ends_part (t ∷ []) then stripped ts else ts) ++ t ∷ []
