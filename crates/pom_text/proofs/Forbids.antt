-- The characters that may stand in a text, by its bytes.
use Rattle.std.proofs.Common.{◌≡◌, ℕ, ◌+◌, ◌<◌, ◌≤◌, true, false, ◌&&◌, ◌==◌, List, [], ◌∷◌, ◌++◌, length, take, drop, refl, sym, ap, subst, ◌∙◌, arith, append_assoc, append-nil, length-append, length-drop, length-take-le, take-append-drop, take_all, ⊎_elim}
use Rattle.std.proofs.lemmas.Bool.{and_parts, cases_lt, false≢true, or_parts}
use Rattle.std.proofs.lemmas.Bool.Decides.{nat_tests}
use Rattle.std.proofs.lemmas.List.{drop_all}
use Rattle.std.proofs.lemmas.List.Folds.{list_any-append}
use Rattle.std.proofs.lemmas.Str.{IsCharBoundary-from_drop, IsUtf8-take, IsUtf8-past_char, chars-append, chars-encodes, chars-nil, chars_past_char, drop_past_char, encode_ascii, encodes-chars, length-encode, scalars-chars}
use Rattle.std.specs.Char.{encode_utf8, len_utf8}
use Rattle.std.specs.List.{list_all, list_any, prefix_len}
use lib.Utf8.{encode}
use Rattle.std.specs.Str.{IsUtf8, all_scalars, chars, encode_utf8_all}
use Rattle.pom_text.specs.Characters.{is_allowed}
use Rattle.pom_text.specs.Reads.{begins}
use Rattle.pom_text.specs.Lent.{IsAllowedCut, is_suspect}
use Rattle.pom_text.proofs.Fronts.{run_front, run_len, run_rest, take_front}
use Rattle.pom_text.proofs.Needles.{no_true}

-- where the characters so far may stand, and the next may not
pub cut_here : (text : List ℕ) (at : ℕ) → IsUtf8 text → at ≤ length text → IsUtf8 (drop at text) → list_all is_allowed (chars (take at text)) ≡ true → begins is_allowed (chars (drop at text)) ≡ false → IsAllowedCut text at
cut_here text at u low v all stop =
    let boundary = IsCharBoundary-from_drop text at low v in
    let front = chars (take at text) in
    let back = chars (drop at text) in
    let parted : chars text ≡ front ++ back = ap chars (sym (take-append-drop at text)) ∙ chars-append (take at text) (drop at text) (IsUtf8-take text at u boundary) in
    record {
      boundary = boundary;
      parts = record {
        front_is = sym (ap (λ t. take (prefix_len is_allowed t) t) parted ∙ run_front is_allowed front back all stop);
        back_is = sym (ap (λ t. drop (prefix_len is_allowed t) t) parted ∙ run_rest is_allowed front back all stop);
      };
    }

-- one character more
pub record StandsAt (text rest : List ℕ) (at : ℕ) : Type 0 where
  pub rest_is : rest ≡ drop at text
  pub low : at ≤ length text
  pub utf8 : IsUtf8 (drop at text)
  pub all : list_all is_allowed (chars (take at text)) ≡ true

all_joined : (xs ys : List ℕ) → list_all is_allowed xs ≡ true → list_all is_allowed ys ≡ true → list_all is_allowed (xs ++ ys) ≡ true
all_joined [] ys a b = b
all_joined (x ∷ xs) ys a b =
    let parts = and_parts (is_allowed x) (list_all is_allowed xs) a in
    ap (λ c. c && list_all is_allowed (xs ++ ys)) parts.0 ∙ all_joined xs ys parts.1 b

pub starts_here : (text : List ℕ) → IsUtf8 text → StandsAt text text 0
starts_here text u = record { rest_is = refl; low = omega arith; utf8 = u; all = ap (list_all is_allowed) chars-nil }

taken_more : (at : ℕ) (text one rest : List ℕ) → at ≤ length text → drop at text ≡ one ++ rest → take (at + length one) text ≡ take at text ++ one
taken_more at text one rest low here =
    let front = take at text ++ one in
    let whole : text ≡ front ++ rest = sym (take-append-drop at text) ∙ ap (λ l. take at text ++ l) here ∙ sym (append_assoc (take at text) one rest) in
    let n : at + length one ≡ length front = omega (arith, length-append (take at text) one, length-take-le at text low) in
    ap (λ k. take k text) n ∙ ap (take (length front)) whole ∙ take_front front rest

pub stands_more : (text rest behind : List ℕ) (at c next : ℕ) → IsUtf8 text → StandsAt text rest at → rest ≡ encode_utf8 c ++ behind → is_allowed c ≡ true → next ≡ at + len_utf8 c → StandsAt text behind next
stands_more text rest behind at c next u s here is more =
    let boundary = IsCharBoundary-from_drop text at s.low s.utf8 in
    let cut : drop at text ≡ encode_utf8 c ++ behind = sym s.rest_is ∙ here in
    let n : next ≡ at + length (encode_utf8 c) = omega (arith, more, length-encode c) in
    let there : behind ≡ drop next text = sym (ap (λ k. drop k text) more ∙ drop_past_char text behind at c cut) in
    let scalars : all_scalars (c ∷ chars behind) ≡ true = ap all_scalars (sym (chars_past_char (drop at text) behind c s.utf8 cut)) ∙ scalars-chars (drop at text) s.utf8 in
    let first = and_parts _ (all_scalars (chars behind)) scalars in
    let one : chars (encode_utf8 c) ≡ c ∷ [] = ap chars (sym (append-nil (encode_utf8 c))) ∙ chars-encodes (c ∷ []) (ap (λ b. b && true) first.0) in
    let taken : chars (take next text) ≡ chars (take at text) ++ c ∷ [] =
    ap (λ k. chars (take k text)) n ∙ ap chars (taken_more at text (encode_utf8 c) behind s.low cut) ∙ chars-append (take at text) (encode_utf8 c) (IsUtf8-take text at u boundary) ∙ ap (λ l. chars (take at text) ++ l) one in
    record {
      rest_is = there;
      low = omega (arith, n, s.low, ap length cut, length-drop at text, length-append (encode_utf8 c) behind);
      utf8 = subst IsUtf8 there (IsUtf8-past_char (drop at text) behind c s.utf8 cut);
      all = ap (list_all is_allowed) taken ∙ all_joined (chars (take at text)) (c ∷ []) s.all (ap (λ b. b && true) is);
    }

-- no character is forbidden where no byte is of one
low_allowed : (c : ℕ) → c < 128 → is_suspect c ≡ false → is_allowed c ≡ true
unfolding is_allowed is_suspect
low_allowed c low is = grind (arith, nat_tests, low, is)

high_allowed : (c : ℕ) → 128 ≤ c → all_scalars (c ∷ []) ≡ true → (c == 65534) ≡ false → (c == 65535) ≡ false → is_allowed c ≡ true
unfolding is_allowed
high_allowed c high scalar a b = grind (arith, nat_tests, high, scalar, a, b)

first_forbidden : list_any is_suspect (encode_utf8 65534) ≡ true
unfolding encode is_suspect
first_forbidden = refl

last_forbidden : list_any is_suspect (encode_utf8 65535) ≡ true
unfolding encode is_suspect
last_forbidden = refl

not_this : (c d : ℕ) → list_any is_suspect (encode_utf8 d) ≡ true → list_any is_suspect (encode_utf8 c) ≡ false → (c == d) ≡ false
not_this c d bad fine = no_true (c == d) (λ yes.
    let same : c ≡ d = grind (arith, nat_tests, yes) in
    false≢true (sym fine ∙ ap (λ x. list_any is_suspect (encode_utf8 x)) same ∙ bad))

one_allowed : (c : ℕ) → all_scalars (c ∷ []) ≡ true → list_any is_suspect (encode_utf8 c) ≡ false → is_allowed c ≡ true
one_allowed c scalar fine = ⊎_elim
    (λ low. low_allowed c low (or_parts (is_suspect c) false (ap (list_any is_suspect) (sym (encode_ascii c low)) ∙ fine)).0)
    (λ high. high_allowed c high scalar (not_this c 65534 first_forbidden fine) (not_this c 65535 last_forbidden fine))
    (cases_lt c 128)

all_fine : (cs : List ℕ) → all_scalars cs ≡ true → list_any is_suspect (encode_utf8_all cs) ≡ false → list_all is_allowed cs ≡ true
all_fine [] scalars fine = refl
all_fine (c ∷ cs) scalars fine =
    let parts = or_parts (list_any is_suspect (encode_utf8 c)) (list_any is_suspect (encode_utf8_all cs)) (sym (list_any-append is_suspect (encode_utf8 c) (encode_utf8_all cs)) ∙ fine) in
    let both = and_parts _ (all_scalars cs) scalars in
    ap (λ b. b && list_all is_allowed cs) (one_allowed c (ap (λ b. b && true) both.0) parts.0) ∙ all_fine cs both.1 parts.1

all_allowed : (text : List ℕ) → IsUtf8 text → list_any is_suspect text ≡ false → prefix_len is_allowed (chars text) ≡ length (chars text)
all_allowed text u fine =
    let all = all_fine (chars text) (scalars-chars text u) (ap (list_any is_suspect) (encodes-chars text u) ∙ fine) in
    ap (prefix_len is_allowed) (sym (append-nil (chars text))) ∙ run_len is_allowed (chars text) [] all refl

pub whole_front : (text : List ℕ) → IsUtf8 text → list_any is_suspect text ≡ false → chars text ≡ take (prefix_len is_allowed (chars text)) (chars text)
whole_front text u fine = sym (take_all (prefix_len is_allowed (chars text)) (chars text) (omega (arith, all_allowed text u fine)))

pub whole_back : (text : List ℕ) → IsUtf8 text → list_any is_suspect text ≡ false → chars [] ≡ drop (prefix_len is_allowed (chars text)) (chars text)
whole_back text u fine = chars-nil ∙ sym (drop_all (prefix_len is_allowed (chars text)) (chars text) (omega (arith, all_allowed text u fine)))
