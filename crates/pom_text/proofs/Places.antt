-- Where a text is cut in characters, it is cut in bytes.
use Rattle.std.proofs.Common.{◌≡◌, ℕ, ◌+◌, ◌-◌, ◌≤◌, true, List, ◌++◌, length, take, drop, sym, ap, subst, ◌∙◌, arith, length-append, take-append-drop}
use Rattle.std.proofs.lemmas.Str.{IsCharBoundary-at_seam, IsUtf8-append, chars-encodes, encodes-append, encodes-chars, length-le-encodes, scalars-chars}
use Rattle.std.specs.Str.{IsUtf8, IsCharBoundary, all_scalars, chars, encode_utf8_all}
use Rattle.pom_text.specs.Runs.{HasFront}
use Rattle.pom_text.proofs.Bytes.{scalars_parts, whole_len}
use Rattle.pom_text.proofs.Fronts.{take_front}

-- the bytes that are read, of a text whose rest and what is behind it are not
pub record IsPlace (text rest more : List ℕ) (read : ℕ) : Type 0 where
  pub boundary : IsCharBoundary text read
  pub front : chars (take read text) ≡ take (length (chars text) - length (chars more) - length (chars rest)) (chars text)

front_bytes : (text rest more front : List ℕ) → IsUtf8 text → IsUtf8 rest → IsUtf8 more → chars text ≡ front ++ (chars rest ++ chars more) → text ≡ encode_utf8_all front ++ (rest ++ more)
front_bytes text rest more front u v w here =
    sym (encodes-chars text u) ∙ ap encode_utf8_all here ∙ encodes-append front (chars rest ++ chars more)
    ∙ ap (λ l. encode_utf8_all front ++ l) (encodes-append (chars rest) (chars more) ∙ ap (λ l. l ++ encode_utf8_all (chars more)) (encodes-chars rest v) ∙ ap (λ l. rest ++ l) (encodes-chars more w))

pub unread_within : (text rest more : List ℕ) → IsUtf8 text → IsUtf8 rest → IsUtf8 more → HasFront (chars text) (chars rest ++ chars more) → length rest + length more ≤ length text
unread_within text rest more u v w f =
    omega (arith, ap length (front_bytes text rest more f.front u v w f.here), length-append (encode_utf8_all f.front) (rest ++ more), length-append rest more)

pub place_of : (text rest more : List ℕ) (unread : ℕ) → IsUtf8 text → IsUtf8 rest → IsUtf8 more → HasFront (chars text) (chars rest ++ chars more) → unread ≡ length rest + length more → IsPlace text rest more (length text - unread)
place_of text rest more unread u v w f is =
    let bytes = encode_utf8_all f.front in
    let whole = front_bytes text rest more f.front u v w f.here in
    let n : length text - unread ≡ length bytes = omega (arith, is, ap length whole, length-append bytes (rest ++ more), length-append rest more) in
    let k : length (chars text) - length (chars more) - length (chars rest) ≡ length f.front = omega (arith, ap length f.here, length-append f.front (chars rest ++ chars more), length-append (chars rest) (chars more)) in
    let scalar = subst (λ l. all_scalars (take (length f.front) l) ≡ all_scalars f.front) (sym f.here) (ap all_scalars (take_front f.front (chars rest ++ chars more))) in
    let fine : all_scalars f.front ≡ true = sym scalar ∙ (scalars_parts (length f.front) (chars text) (scalars-chars text u)).0 in
    record {
      boundary = subst (IsCharBoundary text) (sym n) (IsCharBoundary-at_seam text bytes (rest ++ more) whole (IsUtf8-append rest more v w));
      front = ap (λ i. chars (take i text)) n ∙ ap chars (ap (take (length bytes)) whole ∙ take_front bytes (rest ++ more)) ∙ chars-encodes f.front fine
          ∙ sym (ap (λ i. take i (chars text)) k ∙ ap (take (length f.front)) f.here ∙ take_front f.front (chars rest ++ chars more));
    }

pub few_chars : (bs : List ℕ) → IsUtf8 bs → length (chars bs) ≤ length bs
few_chars bs u = omega (arith, length-le-encodes (chars bs), whole_len bs u)

pub taken_within : (k : ℕ) (text : List ℕ) → length (take k text) ≤ length text
taken_within k text = omega (arith, ap length (take-append-drop k text), length-append (take k text) (drop k text))

pub front_within : (k : ℕ) (bs front : List ℕ) → IsUtf8 bs → front ≡ take k (chars bs) → length front ≤ length bs
front_within k bs front u is = omega (arith, ap length is, taken_within k (chars bs), few_chars bs u)
