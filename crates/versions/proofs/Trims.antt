-- Null tokens are taken away from the left as from the right.
use Rattle.std.proofs.Common.{◌≡◌, Bool, true, false, ◌&&◌, List, [], ◌∷◌, ◌++◌, if◌then◌else◌, refl, ap, ◌∙◌, append_assoc, append-nil, arith}
use Rattle.versions.specs.Tokens.{Token, is_null, ends_part}
use Rattle.versions.specs.Cuts.{kept_before, stripped, added}

pub stripped-null : (ts : List Token) (t : Token) → is_null t ≡ true → stripped (ts ++ t ∷ []) ≡ stripped ts
stripped-null [] t null = grind (arith, null)
stripped-null (u ∷ ts) t null = ap (kept_before u) (stripped-null ts t null)

kept_filled : (u : Token) (ts : List Token) (t : Token) → kept_before u (ts ++ t ∷ []) ≡ u ∷ ts ++ t ∷ []
kept_filled u [] t = refl
kept_filled u (v ∷ ts) t = refl

pub stripped-full : (ts : List Token) (t : Token) → is_null t ≡ false → stripped (ts ++ t ∷ []) ≡ ts ++ t ∷ []
stripped-full [] t full = grind (arith, full)
stripped-full (u ∷ ts) t full = ap (kept_before u) (stripped-full ts t full) ∙ kept_filled u ts t

kept_again : (t : Token) (us : List Token) → stripped us ≡ us → stripped (kept_before t us) ≡ kept_before t us
kept_again t [] e = by (is_null t) refl
  where
    by : (null : Bool) → is_null t ≡ null → stripped (kept_before t []) ≡ kept_before t []
    by true null = grind (arith, null)
    by false null = grind (arith, null)
kept_again t (u ∷ us) e = ap (kept_before t) e

pub stripped_again : (ts : List Token) → stripped (stripped ts) ≡ stripped ts
stripped_again [] = refl
stripped_again (t ∷ ts) = kept_again t (stripped ts) (stripped_again ts)

-- gathered tokens before the trimmed tokens of the rest
abbrev pub glued : List Token → List Token → List Token
glued ts rest = (if ends_part rest then stripped ts else ts) ++ rest

added_part : List Token → Token → List Token
added_part ts t = if ends_part (t ∷ []) then stripped ts else ts

-- a null token goes where the part ends
null_goes : (ts : List Token) (t : Token) (rest : List Token) (h : Bool) → ends_part (t ∷ []) ≡ h → is_null t ≡ true → stripped (added ts t) ++ rest ≡ stripped ts ++ rest
null_goes ts t rest true h null = ap (λ x. stripped ((if x then stripped ts else ts) ++ t ∷ []) ++ rest) h ∙ ap (λ x. x ++ rest) (stripped-null (stripped ts) t null ∙ stripped_again ts)
null_goes ts t rest false h null = ap (λ x. stripped ((if x then stripped ts else ts) ++ t ∷ []) ++ rest) h ∙ ap (λ x. x ++ rest) (stripped-null ts t null)

-- a full one stays
full_stays : (ts : List Token) (t : Token) (rest : List Token) → is_null t ≡ false → stripped (added ts t) ++ rest ≡ glued ts (t ∷ rest)
full_stays ts t rest full = ap (λ x. x ++ rest) (stripped-full (if ends_part (t ∷ []) then stripped ts else ts) t full) ∙ append_assoc (if ends_part (t ∷ []) then stripped ts else ts) (t ∷ []) rest

-- one token more
pub glued-more : (ts : List Token) (t : Token) (rest : List Token) → glued (added ts t) rest ≡ glued ts (if is_null t && ends_part rest then rest else t ∷ rest)
glued-more ts t rest = by (is_null t) (ends_part rest) refl refl
  where
    by : (n e : Bool) → is_null t ≡ n → ends_part rest ≡ e → glued (added ts t) rest ≡ glued ts (if is_null t && ends_part rest then rest else t ∷ rest)
    by true true n e = rw (n, e) (rw e (null_goes ts t rest (ends_part (t ∷ [])) refl n))
    by false true n e = rw (n, e) (full_stays ts t rest n)
    by true false n e = rw (n, e) (append_assoc (if ends_part (t ∷ []) then stripped ts else ts) (t ∷ []) rest)
    by false false n e = rw (n, e) (append_assoc (if ends_part (t ∷ []) then stripped ts else ts) (t ∷ []) rest)

pub glued-none : (ts : List Token) → glued ts [] ≡ stripped ts
glued-none ts = append-nil (stripped ts)
