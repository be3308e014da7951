-- A text cut at its carriage returns.
use Rattle.std.proofs.Common.{◌≡◌, ℕ, ◌<◌, Bool, true, not, ◌&&◌, ◌==◌, nat_eq, List, [], ◌∷◌, ◌++◌, length, Some, None, refl, sym, ap, ◌∙◌, arith, append-nil, append_assoc, length-append}
use Rattle.std.proofs.lemmas.Bool.Decides.{nat_tests}
use Rattle.std.proofs.lemmas.Bool.{false≢true}
use Rattle.std.proofs.lemmas.Str.{encode_ascii, encodes-append}
use Rattle.std.specs.Char.{encode_utf8}
use Rattle.std.specs.List.{starts_with}
use Rattle.std.specs.Str.{encode_utf8_all}
use Rattle.pom_text.specs.Grammar.{ends_first}
use Rattle.pom_text.specs.Parts.{line_part, lines}
use Rattle.pom_text.specs.Reads.{up_to}
use Rattle.pom_text.specs.Lent.{unfed}
use Rattle.pom_text.proofs.Firsts.{not_here}
use Rattle.pom_text.proofs.Fronts.{and_first, and_second, not_false, starts_front}
use Rattle.pom_text.proofs.Needles.{no_true}
use Rattle.pom_text.proofs.Plain.{has_no_return, is_returned, lines_unfed}
use Rattle.pom_text.proofs.Ups.{nowhere_more, up_to_splits}

-- what stands before a carriage return, and what follows it
record IsBroken (text line rest : List ℕ) : Type 0 where
  pub splits : text ≡ line ++ 13 ∷ rest
  pub free : has_no_return line ≡ true

free_before : (line : List ℕ) → ends_first (13 ∷ []) line ≡ true → has_no_return line ≡ true
free_before [] first = refl
free_before (c ∷ line) first =
    let starts = starts_with nat_eq (c ∷ line ++ 13 ∷ []) (13 ∷ []) in
    let away = not_false starts (and_first (not starts) (ends_first (13 ∷ []) line) first) in
    let here = no_true (c == 13) (λ yes.
    let same : c ≡ 13 = grind (arith, nat_tests, yes) in
    false≢true (sym away ∙ ap (λ x. starts_with nat_eq (x ∷ line ++ 13 ∷ []) (13 ∷ [])) same ∙ starts_front (13 ∷ []) (line ++ 13 ∷ []))) in
    ap (λ b. not b && has_no_return line) here ∙ free_before line (and_second (not starts) (ends_first (13 ∷ []) line) first)

broken : (text line rest : List ℕ) → Some (line, rest) ≡ up_to (13 ∷ []) text → IsBroken text line rest
broken text line rest e =
    let u = up_to_splits (13 ∷ []) text (line, rest) (sym e) in
    record { splits = u.splits; free = free_before line u.first }

free_all : (text : List ℕ) → None ≡ up_to (13 ∷ []) text → has_no_return text ≡ true
free_all [] none = refl
free_all (c ∷ text) none =
    let n = nowhere_more (13 ∷ []) c text (sym none) in
    ap (λ b. not b && has_no_return text) (not_here 13 c text (sym n.here)) ∙ free_all text (sym n.further)

lines_joined : (returned : Bool) (xs ys : List ℕ) → lines returned (xs ++ ys) ≡ lines returned xs ++ lines (is_returned returned xs) ys
lines_joined returned [] ys = refl
lines_joined returned (c ∷ xs) ys = ap (λ l. line_part returned c ++ l) (lines_joined (c == 13) xs ys) ∙ sym (append_assoc (line_part returned c) (lines (c == 13) xs) (lines (is_returned (c == 13) xs) ys))

at_return : (returned : Bool) (rest : List ℕ) → lines returned (13 ∷ rest) ≡ 10 ∷ lines true rest
unfolding line_part
at_return returned rest = refl

lines_broken : (returned : Bool) (text line rest : List ℕ) → IsBroken text line rest → lines returned text ≡ unfed returned line ++ 10 ∷ lines true rest
lines_broken returned text line rest b =
    ap (lines returned) b.splits ∙ lines_joined returned line (13 ∷ rest) ∙ ap (λ l. l ++ lines (is_returned returned line) (13 ∷ rest)) (lines_unfed returned line b.free)
    ∙ ap (λ l. unfed returned line ++ l) (at_return (is_returned returned line) rest)

pub line_shorter : (text line rest : List ℕ) → Some (line, rest) ≡ up_to (13 ∷ []) text → length rest < length text
line_shorter text line rest e = omega (arith, ap length (broken text line rest e).splits, length-append line (13 ∷ rest))

-- a line more
pub line_more : (returned : Bool) (text line rest old feed now later whole : List ℕ) → Some (line, rest) ≡ up_to (13 ∷ []) text → feed ≡ encode_utf8_all (unfed returned line) → now ≡ old ++ feed → later ≡ now ++ 10 ∷ []
    → old ++ encode_utf8_all (lines returned text) ≡ whole → later ++ encode_utf8_all (lines true rest) ≡ whole
line_more returned text line rest old feed now later whole e fed one two so =
    let tail = encode_utf8_all (lines true rest) in
    let more : encode_utf8_all (lines returned text) ≡ feed ++ 10 ∷ tail =
    ap encode_utf8_all (lines_broken returned text line rest (broken text line rest e)) ∙ encodes-append (unfed returned line) (10 ∷ lines true rest)
    ∙ ap (λ l. l ++ (encode_utf8 10 ++ tail)) (sym fed) ∙ ap (λ l. feed ++ (l ++ tail)) (encode_ascii 10 (omega arith)) in
    ap (λ l. l ++ tail) (two ∙ ap (λ l. l ++ 10 ∷ []) one) ∙ append_assoc (old ++ feed) (10 ∷ []) tail ∙ append_assoc old feed (10 ∷ tail)
    ∙ ap (λ l. old ++ l) (sym more) ∙ so

-- and the last
pub line_last : (returned : Bool) (text old feed now whole : List ℕ) → None ≡ up_to (13 ∷ []) text → feed ≡ encode_utf8_all (unfed returned text) → now ≡ old ++ feed
    → old ++ encode_utf8_all (lines returned text) ≡ whole → now ≡ whole
line_last returned text old feed now whole none fed one so =
    one ∙ ap (λ l. old ++ l) (fed ∙ ap encode_utf8_all (sym (lines_unfed returned text (free_all text none)))) ∙ so

-- a carriage return is a line feed
pub return_bytes : (returned : Bool) → 10 ∷ [] ≡ encode_utf8_all (line_part returned 13)
unfolding line_part
return_bytes returned = ap (λ l. l ++ []) (sym (encode_ascii 10 (omega arith)))

-- the bytes of one character are those of the list of it
pub one_character : (c : ℕ) → encode_utf8 c ≡ encode_utf8_all (c ∷ [])
one_character c = sym (append-nil (encode_utf8 c))
