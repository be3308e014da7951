-- How long what is read can be, and where its places can lie.
use Rattle.std.proofs.Common.{◌≡◌, ℕ, zero, suc, ◌+◌, ◌-◌, ◌*◌, ◌≤◌, Bool, true, false, ◌==◌, List, codes, length, Option, Some, None, Result, Ok, Err, refl, sym, ap, ◌∙◌, arith, length-append, if◌then◌else◌}
use Rattle.std.proofs.lemmas.Bool.{false≢true}
use Rattle.std.proofs.lemmas.List.Sums.{prefix_len-le-length}
use Rattle.std.proofs.lemmas.Str.{utf8_valid_len_le}
use Rattle.std.specs.List.{prefix_len}
use Rattle.std.specs.Result.{result_map_both}
use Rattle.std.specs.Str.{bytes_eq, chars}
use Rattle.std.specs.Str.Lossy.{utf8_valid_len}
use Rattle.pom_text.specs.declared.decoded.Decoded.{Decoded}
use Rattle.pom_text.specs.declared.encoding.Encoding.{Encoding}
use Rattle.pom_text.specs.declared.encoding.Encoding.TheVariants.{Utf8, UsAscii, Iso88591}
use Rattle.pom_text.specs.Encodings.{announces, chosen, decoded, encoded, is_ascii, named, or_bad}
use Rattle.pom_text.specs.Grammar.{declaration}
use Rattle.pom_text.specs.Openings.{behind_declaration, encoding_from, encoding_or, encoding_within, if_there, closed, named_behind, named_encoding, opening}
use Rattle.pom_text.specs.Reads.{after, attribute_of}
use Rattle.pom_text.specs.Lent.{decoded_bytes}
use Rattle.pom_text.proofs.Declarations.{declaration_splits}
use Rattle.pom_text.proofs.Fronts.{none_some, same_some, unbound}
use Rattle.pom_text.proofs.Decodes.{bytes_within}

-- results
is_ok : {A B : Type 0} → Result A B → Bool
is_ok (Ok x) = true
is_ok (Err e) = false

err_in : {A B : Type 0} → B → Result A B → B
err_in other (Ok x) = other
err_in other (Err e) = e

ok_in : {A B : Type 0} → A → Result A B → A
ok_in other (Ok x) = x
ok_in other (Err e) = other

pub ok_err : {A B : Type 0} → (x : A) (e : B) → Ok x ≡ Err e → ⊥
unfolding is_ok
ok_err x e so = false≢true (sym (ap is_ok so))

pub same_err : {A B : Type 0} → (d e : B) → (let r : Result A B = Err d in r) ≡ Err e → d ≡ e
unfolding err_in
same_err d e so = ap (err_in d) so

pub same_ok : {A B : Type 0} → (x y : A) → (let r : Result A B = Ok x in r) ≡ Ok y → x ≡ y
unfolding ok_in
same_ok x y so = ap (ok_in x) so

pub encoded_within : (encoding : Encoding) (text : List ℕ) → length (encoded encoding text) ≤ 4 * length text
unfolding encoded
encoded_within Utf8 text = bytes_within text
encoded_within UsAscii text = omega arith
encoded_within Iso88591 text = omega arith

pub body_within : (text body : List ℕ) → opening text ≡ Some body → length body ≤ length text
unfolding opening
body_within text body so = by (announces text) refl
  where
    choose : Bool → Option (List ℕ)
    choose b = if b then behind_declaration text else Some text

    by : (b : Bool) → announces text ≡ b → length body ≤ length text
    by true e =
        let d = declaration_splits text body (sym (ap choose e) ∙ so) in
        omega (arith, ap length d.splits, length-append (declaration d.attributes d.space) body)
    by false e = omega (arith, ap length (same_some text body (sym (ap choose e) ∙ so)))

within_total : (fuel total : ℕ) (text : List ℕ) (e : ℕ × List ℕ) → encoding_within fuel total text ≡ Some e → e.0 ≤ total
within_total zero total text e so = absurd (none_some e so)
within_total (suc fuel) total text e so = by (within_total fuel total) (attribute_of text) so
  where
    on : ((t : List ℕ) (e : ℕ × List ℕ) → encoding_within fuel total t ≡ Some e → e.0 ≤ total) → (x : (List ℕ × List ℕ) × List ℕ) (b : Bool)
        → (if b then Some (total - (length x.1 + 1 + length x.0.1), x.0.1) else encoding_within fuel total x.1) ≡ Some e → e.0 ≤ total
    on further x true s = omega (arith, ap (λ (p : ℕ × List ℕ). p.0) (same_some (total - (length x.1 + 1 + length x.0.1), x.0.1) e s))
    on further x false s = further x.1 e s

    by : ((t : List ℕ) (e : ℕ × List ℕ) → encoding_within fuel total t ≡ Some e → e.0 ≤ total) → (o : Option ((List ℕ × List ℕ) × List ℕ)) → encoding_or (encoding_within fuel total) total o ≡ Some e → e.0 ≤ total
    by further (Some x) s = on further x (bytes_eq x.0.0 (codes "encoding")) s
    by further None s = absurd (none_some e s)

pub place_within : (total : ℕ) (text : List ℕ) (e : ℕ × List ℕ) → encoding_from total text ≡ Some e → e.0 ≤ total
unfolding encoding_from
place_within total text e so = within_total (length text) total text e so

-- a byte that an encoding doesn't allow is one of them
pub bad_within : (encoding : Encoding) (bytes : List ℕ) (place : ℕ) → decoded encoding bytes ≡ Err place → place ≤ length bytes
unfolding decoded
bad_within Utf8 bytes place so = by (utf8_valid_len bytes == length bytes) so
  where
    by : (b : Bool) → (if b then Ok (chars bytes) else Err (utf8_valid_len bytes)) ≡ Err place → place ≤ length bytes
    by true s = absurd (ok_err (chars bytes) place s)
    by false s = omega (arith, same_err (utf8_valid_len bytes) place s, utf8_valid_len_le bytes)
bad_within UsAscii bytes place so = by (prefix_len is_ascii bytes == length bytes) so
  where
    by : (b : Bool) → (if b then Ok bytes else Err (prefix_len is_ascii bytes)) ≡ Err place → place ≤ length bytes
    by true s = absurd (ok_err bytes place s)
    by false s = omega (arith, same_err (prefix_len is_ascii bytes) place s, prefix_len-le-length is_ascii bytes)
bad_within Iso88591 bytes place so = absurd (ok_err bytes place so)

-- a name of no encoding begins within the text
pub named_within : (text : List ℕ) (e : ℕ × List ℕ) → named_encoding text ≡ Some e → e.0 ≤ length text
unfolding named_encoding
named_within text e so =
    let b = unbound (named_behind (length text)) (after (codes "<?xml") text) e so in
    there (closed b.value) b.value b.gives
  where
    there : (o : Option (List ℕ)) (t : List ℕ) → if_there o (encoding_from (length text) t) ≡ Some e → e.0 ≤ length text
    there (Some x) t s = place_within (length text) t e s
    there None t s = absurd (none_some e s)

pub chosen_within : (text : List ℕ) (place : ℕ) → chosen (named_encoding text) ≡ Err place → place ≤ length text
chosen_within text place so = by (named_encoding text) refl so
  where
    on : (e : ℕ × List ℕ) (o : Option Encoding) → e.0 ≤ length text → or_bad e.0 o ≡ Err place → place ≤ length text
    on e (Some x) low s = absurd (ok_err x place s)
    on e None low s = omega (arith, low, same_err e.0 place s)

    by : (o : Option (ℕ × List ℕ)) → named_encoding text ≡ o → chosen o ≡ Err place → place ≤ length text
    by None n s = absurd (ok_err Utf8 place s)
    by (Some e) n s = on e (named e.1) (named_within text e n) s

pub bad_seen : (encoding : Encoding) (bytes : List ℕ) (r : Result Decoded ℕ) (place : ℕ) → r ≡ Err place → result_map_both (λ d. chars (decoded_bytes d)) (λ e. e) r ≡ decoded encoding bytes → place ≤ length bytes
bad_seen encoding bytes r place is so = bad_within encoding bytes place (sym so ∙ ap (result_map_both (λ (d : Decoded). chars (decoded_bytes d)) (λ (e : ℕ). e)) is)
