-- The encoding that the attributes of a declaration name.
use Rattle.std.proofs.Common.{◌≡◌, ℕ, zero, suc, ◌+◌, ◌-◌, ◌≤◌, true, false, List, [], ◌∷◌, ◌++◌, codes, length, Option, Some, None, refl, sym, ap, ◌∙◌, arith, length-append, if◌then◌else◌}
use Rattle.std.specs.Str.{bytes_eq}
use Rattle.pom_text.specs.Encodings.{value_place}
use Rattle.pom_text.specs.Grammar.{Attribute, declaration}
use Rattle.pom_text.specs.Openings.{encoding_from, encoding_or, encoding_within}
use Rattle.pom_text.specs.Reads.{after, attribute_of}
use Rattle.pom_text.proofs.Attributes.{attribute_splits, chain, shorter}
use Rattle.pom_text.proofs.Fronts.{none_some}

-- the parts of an attribute, by their lengths
pub chain_length : (a : Attribute) (rest : List ℕ) → length (chain a rest) ≡ value_place a + (length a.value + (1 + length rest))
unfolding chain
chain_length a rest =
    let value = a.quote ∷ (a.value ++ (a.quote ∷ rest)) in
    let third = 61 ∷ (a.after ++ value) in
    omega (arith, length-append a.space (a.name ++ (a.before ++ third)), length-append a.name (a.before ++ third), length-append a.before third, length-append a.after value, length-append a.value (a.quote ∷ rest))

pub value_within : (text : List ℕ) (e : (List ℕ × List ℕ) × List ℕ) → attribute_of text ≡ Some e → length e.1 + 1 + length e.0.1 ≤ length text
value_within text e so =
    let r = attribute_splits text e so in
    omega (arith, ap length r.splits, chain_length r.a e.1, ap length r.valued)

none_here : attribute_of [] ≡ None
unfolding attribute_of
none_here = refl

settled : (j k total : ℕ) (text : List ℕ) → length text ≤ j → length text ≤ k → encoding_within j total text ≡ encoding_within k total text
settled zero zero total text a b = refl
settled zero (suc k) total [] a b = sym (ap (encoding_or (encoding_within k total) total) none_here)
settled zero (suc k) total (c ∷ text) a b = absurd (omega (arith, a))
settled (suc j) zero total [] a b = ap (encoding_or (encoding_within j total) total) none_here
settled (suc j) zero total (c ∷ text) a b = absurd (omega (arith, b))
settled (suc j) (suc k) total text a b = by (settled j k total) (attribute_of text) refl
  where
    by : ((t : List ℕ) → length t ≤ j → length t ≤ k → encoding_within j total t ≡ encoding_within k total t) → (o : Option ((List ℕ × List ℕ) × List ℕ)) → attribute_of text ≡ o
        → encoding_or (encoding_within j total) total (attribute_of text) ≡ encoding_or (encoding_within k total) total (attribute_of text)
    by further None e = ap (encoding_or (encoding_within j total) total) e ∙ sym (ap (encoding_or (encoding_within k total) total) e)
    by further (Some x) e =
        let low = shorter text x e in
        ap (encoding_or (encoding_within j total) total) e
        ∙ ap (λ o. if bytes_eq x.0.0 (codes "encoding") then Some (total - (length x.1 + 1 + length x.0.1), x.0.1) else o) (further x.1 (omega (arith, low, a)) (omega (arith, low, b)))
        ∙ sym (ap (encoding_or (encoding_within k total) total) e)

turned : (total : ℕ) (text : List ℕ) (e : (List ℕ × List ℕ) × List ℕ) → attribute_of text ≡ Some e
    → encoding_from total text ≡ (if bytes_eq e.0.0 (codes "encoding") then Some (total - (length e.1 + 1 + length e.0.1), e.0.1) else encoding_from total e.1)
unfolding encoding_from
turned total [] e so = absurd (none_some e (sym none_here ∙ so))
turned total (c ∷ text) e so =
    let low = shorter (c ∷ text) e so in
    ap (encoding_or (encoding_within (length text) total) total) so
    ∙ ap (λ o. if bytes_eq e.0.0 (codes "encoding") then Some (total - (length e.1 + 1 + length e.0.1), e.0.1) else o) (settled (length text) (length e.1) total e.1 (omega (arith, low)) (omega arith))

pub encoding_found : (total : ℕ) (text : List ℕ) (e : (List ℕ × List ℕ) × List ℕ) → attribute_of text ≡ Some e → bytes_eq e.0.0 (codes "encoding") ≡ true → encoding_from total text ≡ Some (total - (length e.1 + 1 + length e.0.1), e.0.1)
encoding_found total text e so is = turned total text e so ∙ ap (λ b. if b then Some (total - (length e.1 + 1 + length e.0.1), e.0.1) else encoding_from total e.1) is

pub encoding_more : (total : ℕ) (text : List ℕ) (e : (List ℕ × List ℕ) × List ℕ) → attribute_of text ≡ Some e → bytes_eq e.0.0 (codes "encoding") ≡ false → encoding_from total text ≡ encoding_from total e.1
encoding_more total text e so is = turned total text e so ∙ ap (λ b. if b then Some (total - (length e.1 + 1 + length e.0.1), e.0.1) else encoding_from total e.1) is

pub encoding_end : (total : ℕ) (text : List ℕ) → attribute_of text ≡ None → encoding_from total text ≡ None
unfolding encoding_from
encoding_end total [] none = refl
encoding_end total (c ∷ text) none = ap (encoding_or (encoding_within (length text) total) total) none
