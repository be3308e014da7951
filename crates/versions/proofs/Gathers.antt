-- The tokens of a text, gathered piece by piece from the left.
use Rattle.std.proofs.Common.{◌≡◌, ℕ, ◌+◌, ◌&&◌, List, [], ◌∷◌, if◌then◌else◌, take, drop, Option, Some, refl, sym, ap, ◌∙◌, drop-drop, arith}
use Rattle.versions.specs.declared.piece.Mark.{Mark}
use Rattle.versions.specs.declared.piece.First.{First}
use Rattle.versions.specs.Pieces.{further, changes, Leads}
use Rattle.versions.specs.Tokens.{Token, token, tokens, trimmed, is_null, ends_part}
use Rattle.versions.specs.Cuts.{added}
use Rattle.versions.proofs.Splits.{begins_further}
use Rattle.versions.proofs.Trims.{glued, glued-more}

-- gathered so far, with what the rest of the text adds
abbrev pub gathered : List Token → Option Mark → List ℕ → List Token
gathered ts before rest = glued ts (trimmed (tokens (further before rest)))

pub begin : (before : Option Mark) (text : List ℕ) → gathered [] before text ≡ trimmed (tokens (further before text))
begin before text = by (trimmed (tokens (further before text)))
  where
    by : (ts : List Token) → glued [] ts ≡ ts
    by [] = refl
    by (t ∷ ts) = grind arith

pub step : (ts : List Token) (mark : Mark) (text : List ℕ) (start : ℕ) (first : First) (t : Token) → Leads (drop start text) first
    → t ≡ token (changes first.next) (record { mark = mark; bytes = take first.len (drop start text) })
    → gathered (added ts t) first.next (drop (start + first.to) text) ≡ gathered ts (Some mark) (drop start text)
step ts mark text start first t leads is =
    glued-more ts t (trimmed (tokens (further first.next (drop (start + first.to) text))))
    ∙ ap (glued ts) (sym (ap (λ p. trimmed (tokens p)) (leads.split mark) ∙ ap (λ r. trimmed (tokens ((record { mark = mark; bytes = take first.len (drop start text) }) ∷ further first.next r))) (drop-drop first.to start text)
    ∙ ap (λ x. if is_null x && ends_part (rest) then rest else x ∷ rest) (ap (λ c. token c (record { mark = mark; bytes = take first.len (drop start text) })) (begins_further first.next (drop (start + first.to) text)) ∙ sym is)))
  where
    rest : List Token
    rest = trimmed (tokens (further first.next (drop (start + first.to) text)))
