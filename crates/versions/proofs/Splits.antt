-- How a text splits into its first piece and the rest.
use Rattle.std.proofs.Common.{◌≡◌, ℕ, ◌+◌, ◌<◌, ◌≤◌, Bool, true, false, ◌==◌, List, [], ◌∷◌, length, take, drop, Option, Some, None, is_some, refl, sym, ap, ◌∙◌, drop-drop, subst, length-drop, arith}
use Rattle.std.proofs.lemmas.Bool.Decides.{nat_tests}
use Rattle.versions.specs.declared.piece.Mark.{Mark}
use Rattle.versions.specs.declared.piece.Mark.TheVariants.{Dot, Hyphen, Change}
use Rattle.versions.specs.Tokens.{begins_at_change}
use Rattle.versions.specs.Pieces.{Piece, is_change_mark, changes, pieces, front, further, next_mark, width, Leads}

-- what stands behind the first piece
abbrev pub behind : List ℕ → List Piece
behind [] = []
behind (b ∷ text) = by (b == 46) (b == 45)
  where
    by : Bool → Bool → List Piece
    by true hyphen = pieces Dot text
    by false true = pieces Hyphen text
    by false false = pieces Change (b ∷ text)

pub front_within : (text : List ℕ) → front text ≤ length text
front_within [] = omega arith
front_within (b ∷ text) = grind (arith, front_within text)

pub pieces_split : (mark : Mark) (text : List ℕ) → pieces mark text ≡ (record { mark = mark; bytes = take (front text) text }) ∷ behind (drop (front text) text)
unfolding pieces
pieces_split mark [] = refl
pieces_split mark (b ∷ text) = grind (arith, nat_tests, pieces_split mark text)

behind_is : (text : List ℕ) → behind text ≡ further (next_mark text) (drop (width (next_mark text)) text)
behind_is [] = refl
behind_is (b ∷ text) = by (b == 46) (b == 45) refl refl
  where
    by : (dot hyphen : Bool) → (b == 46) ≡ dot → (b == 45) ≡ hyphen → behind (b ∷ text) ≡ further (next_mark (b ∷ text)) (drop (width (next_mark (b ∷ text))) (b ∷ text))
    by true hyphen d h = rw d refl
    by false true d h = rw (d, h) refl
    by false false d h = rw (d, h) refl

width_within : (text : List ℕ) → width (next_mark text) ≤ length text
width_within [] = omega arith
width_within (b ∷ text) = grind (arith, nat_tests)

-- a piece that changes has a byte
front_of_change : (text : List ℕ) → is_some (next_mark (drop (front text) text)) ≡ true → 0 < front text + width (next_mark (drop (front text) text))
front_of_change [] some = cc
front_of_change (b ∷ text) some = grind (arith, nat_tests)

on_within : (text : List ℕ) (n : ℕ) → n ≤ length text → n + width (next_mark (drop n text)) ≤ length text
on_within text n low = grind (arith, length-drop n text, low, width_within (drop n text))

leads_front : (text : List ℕ) → Leads text (record { len = front text; to = front text + width (next_mark (drop (front text) text)); next = next_mark (drop (front text) text) })
leads_front text = record {
  split = λ mark. pieces_split mark text ∙ ap (λ x. (record { mark = mark; bytes = take (front text) text }) ∷ x) (behind_is (drop (front text) text) ∙ ap (further (next_mark (drop (front text) text))) (drop-drop (width (next_mark (drop (front text) text))) (front text) text));
  within = front_within text;
  on = on_within text (front text) (front_within text);
  further_on = front_of_change text;
}

pub leads : (text : List ℕ) (len skip : ℕ) (next : Option Mark) → len ≡ front text → next ≡ next_mark (drop len text) → skip ≡ width next → Leads text (record { len = len; to = len + skip; next = next })
leads text len skip next l n s =
    let n' : next ≡ next_mark (drop (front text) text) = n ∙ ap (λ k. next_mark (drop k text)) l in
    let s' : skip ≡ width (next_mark (drop (front text) text)) = s ∙ ap width n' in
    subst (Leads text) (sym (λ i. record { len = l i; to = l i + s' i; next = n' i })) (leads_front text)

-- the first piece of a text has its mark
begins : (mark : Mark) (text : List ℕ) → begins_at_change (pieces mark text) ≡ is_change_mark mark
begins mark text = ap begins_at_change (pieces_split mark text)

pub begins_further : (next : Option Mark) (text : List ℕ) → begins_at_change (further next text) ≡ changes next
begins_further None text = refl
begins_further (Some mark) text = begins mark text
