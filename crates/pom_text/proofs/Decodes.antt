-- Bytes and the characters that they are in an encoding.
use Rattle.std.proofs.Common.{◌≡◌, ℕ, suc, ◌+◌, ◌<◌, ◌≤◌, ◌*◌, true, false, ◌&&◌, ◌==◌, List, [], ◌∷◌, ◌++◌, length, get_or, take, take_all, Ok, Err, refl, sym, ap, ◌∙◌, arith, append-nil, length-append, if◌then◌else◌}
use Rattle.std.proofs.lemmas.Bool.Decides.{nat_tests}
use Rattle.std.proofs.lemmas.List.{take_more}
use Rattle.std.proofs.lemmas.Str.{chars-encodes, encodes-append, length-encode, len_utf8_bounds}
use Rattle.std.specs.Char.{encode_utf8}
use Rattle.std.specs.List.{list_all, prefix_len}
use Rattle.std.specs.Str.{IsUtf8, all_scalars, chars, encode_utf8_all}
use Rattle.std.specs.Str.Lossy.{utf8_valid_len}
use Rattle.pom_text.specs.Encodings.{decoded, is_ascii}
use Rattle.pom_text.specs.declared.encoding.Encoding.TheVariants.{Utf8, UsAscii}
use Rattle.pom_text.proofs.Fronts.{and_first, run_all}
use Rattle.pom_text.proofs.Needles.{ascii_chars, ascii_utf8}

-- a text that grows by one character
pub text_more : (characters : List ℕ) (at : ℕ) (bytes now : List ℕ) → at < length characters → bytes ≡ encode_utf8_all (take at characters) → now ≡ bytes ++ encode_utf8 (get_or characters at 0) → now ≡ encode_utf8_all (take (at + 1) characters)
text_more characters at bytes now low so more =
    let c = get_or characters at 0 in
    more ∙ ap (λ l. l ++ encode_utf8 c) so
    ∙ ap (λ l. encode_utf8_all (take at characters) ++ l) (sym (append-nil (encode_utf8 c)))
    ∙ sym (encodes-append (take at characters) (c ∷ []))
    ∙ ap encode_utf8_all (sym (take_more characters at 0 low))

-- bytes are scalar values
byte_scalar : (b : ℕ) → b < 256 → all_scalars (b ∷ []) ≡ true
byte_scalar b low = grind (arith, nat_tests, low)

bytes_scalar : (bytes : List ℕ) → ((k : ℕ) → get_or bytes k 0 < 256) → all_scalars bytes ≡ true
bytes_scalar [] low = refl
bytes_scalar (b ∷ bytes) low = ap (λ x. x && all_scalars bytes) (and_first _ true (byte_scalar b (low 0))) ∙ bytes_scalar bytes (λ k. low (suc k))

pub single_chars : (bytes : List ℕ) → ((k : ℕ) → get_or bytes k 0 < 256) → chars (encode_utf8_all bytes) ≡ bytes
single_chars bytes low = chars-encodes bytes (bytes_scalar bytes low)

pub all_valid : (bytes items : List ℕ) → utf8_valid_len bytes ≡ length bytes → items ≡ chars bytes → Ok items ≡ decoded Utf8 bytes
unfolding decoded
all_valid bytes items whole is =
    let test : (utf8_valid_len bytes == length bytes) ≡ true = grind (arith, nat_tests, whole) in
    ap Ok is ∙ sym (ap (λ b. if b then Ok (chars bytes) else Err (utf8_valid_len bytes)) test)

pub not_valid : (bytes : List ℕ) (n : ℕ) → n ≡ utf8_valid_len bytes → n < length bytes → Err n ≡ decoded Utf8 bytes
unfolding decoded
not_valid bytes n is low =
    let test : (utf8_valid_len bytes == length bytes) ≡ false = grind (arith, nat_tests, is, low) in
    ap Err is ∙ sym (ap (λ b. if b then Ok (chars bytes) else Err (utf8_valid_len bytes)) test)

-- ASCII
all_low : (bytes : List ℕ) → prefix_len is_ascii bytes ≡ length bytes → list_all is_ascii bytes ≡ true
all_low bytes whole = ap (list_all is_ascii) (sym (take_all (prefix_len is_ascii bytes) bytes (omega (arith, whole)))) ∙ run_all is_ascii bytes

pub ascii_is_utf8 : (bytes : List ℕ) → prefix_len is_ascii bytes ≡ length bytes → IsUtf8 bytes
ascii_is_utf8 bytes whole = ascii_utf8 bytes (all_low bytes whole)

pub all_ascii : (bytes text : List ℕ) → text ≡ bytes → prefix_len is_ascii bytes ≡ length bytes → Ok (chars text) ≡ decoded UsAscii bytes
unfolding decoded
all_ascii bytes text same whole =
    let test : (prefix_len is_ascii bytes == length bytes) ≡ true = grind (arith, nat_tests, whole) in
    ap Ok (ap chars same ∙ ascii_chars bytes (all_low bytes whole)) ∙ sym (ap (λ b. if b then Ok bytes else Err (prefix_len is_ascii bytes)) test)

pub not_ascii : (bytes : List ℕ) (n : ℕ) → n ≡ prefix_len is_ascii bytes → n < length bytes → Err n ≡ decoded UsAscii bytes
unfolding decoded
not_ascii bytes n is low =
    let test : (prefix_len is_ascii bytes == length bytes) ≡ false = grind (arith, nat_tests, is, low) in
    ap Err is ∙ sym (ap (λ b. if b then Ok bytes else Err (prefix_len is_ascii bytes)) test)

-- no character takes more than four bytes
pub bytes_within : (text : List ℕ) → length (encode_utf8_all text) ≤ 4 * length text
bytes_within [] = omega arith
bytes_within (c ∷ text) = omega (arith, bytes_within text, length-append (encode_utf8 c) (encode_utf8_all text), length-encode c, (len_utf8_bounds c).1)
