-- Where a test is the same for all characters past ASCII, a prefix that passes it ends at one place in the bytes and in
-- the characters.
use Rattle.std.proofs.Common.{◌≡◌, ℕ, suc, zero, ◌+◌, ◌<◌, ◌≤◌, Bool, true, false, cond, ◌&&◌, ◌==◌, List, [], ◌∷◌, ◌++◌, length, get_or, take, drop, refl, sym, ap, subst, ◌∙◌, arith, append-nil, length-append, ⊎_elim, take-append-drop, take_at, drop_at, one-add}
use Rattle.std.specs.Char.{encode_utf8}
use Rattle.std.specs.List.{list_all, prefix_len}
use Rattle.std.specs.Str.{IsUtf8, IsCharBoundary, chars, encode_utf8_all, all_scalars}
use Rattle.std.proofs.lemmas.Str.{inside_one, byte_from_char, length-encode, len_utf8_ascii, len_utf8_bounds, encodes-append, encodes-chars, scalars-chars, chars-encodes, chars-nil, IsCharBoundary-at_seam}
use Rattle.std.proofs.lemmas.Bool.{cases_lt, and_parts}
use Rattle.std.proofs.lemmas.Bool.Decides.{nat_tests}
use Rattle.pom_text.specs.Characters.{is_space, is_name_char, is_name_start}
use Rattle.pom_text.specs.Encodings.{is_ascii}
use Rattle.pom_text.specs.Grammar.{is_quote}
use Rattle.pom_text.specs.Reads.{begins, is_value}
use Rattle.pom_text.specs.Lent.{is_run}
use Rattle.pom_text.specs.Parts.{is_empty}
use Rattle.pom_text.proofs.Flat.{IsFlat, run_flat, space_flat, name_flat, start_flat, value_flat}

pub byte_alike : (p : ℕ → Bool) → IsFlat p → (c k : ℕ) → k < length (encode_utf8 c) → p (get_or (encode_utf8 c) k 0) ≡ p c
byte_alike p flat c k low = ⊎_elim
    (λ m. ap p (sym (inside_one c [] (encode_utf8 c) k (sym (append-nil (encode_utf8 c))) low m)))
    (λ m. ⊎_elim
    (λ a. absurd (omega (arith, m, a, one a)))
    (λ a. flat (get_or (encode_utf8 c) k 0) c m a)
    (cases_lt c 128))
    (cases_lt (get_or (encode_utf8 c) k 0) 128)
  where
    one : c < 128 → get_or (encode_utf8 c) k 0 ≡ c
    one a =
        let z : 0 ≡ k = omega (arith, low, length-encode c, len_utf8_ascii c a) in
        ap (λ j. get_or (encode_utf8 c) j 0) (sym z) ∙ byte_from_char (encode_utf8 c) [] c (sym (append-nil (encode_utf8 c))) a

all_pass : (p : ℕ → Bool) (l ys : List ℕ) → ((k : ℕ) → k < length l → p (get_or l k 0) ≡ true) → prefix_len p (l ++ ys) ≡ length l + prefix_len p ys
all_pass p [] ys h = omega arith
all_pass p (x ∷ l) ys h = ap (λ b. cond b (1 + prefix_len p (l ++ ys)) 0) (h 0 (omega arith)) ∙ omega (arith, all_pass p l ys (λ k low. h (suc k) (omega (arith, low))))

none_pass : (p : ℕ → Bool) (l ys : List ℕ) → 0 < length l → p (get_or l 0 0) ≡ false → prefix_len p (l ++ ys) ≡ 0
none_pass p [] ys a h = absurd (omega (arith, a))
none_pass p (x ∷ l) ys a h = ap (λ b. cond b (1 + prefix_len p (l ++ ys)) 0) h

pub some_byte : (c : ℕ) → 0 < length (encode_utf8 c)
some_byte c = omega (arith, length-encode c, (len_utf8_bounds c).0)

prefix_cut : (p : ℕ → Bool) → IsFlat p → (cs : List ℕ) → prefix_len p (encode_utf8_all cs) ≡ length (encode_utf8_all (take (prefix_len p cs) cs))
prefix_cut p flat [] = refl
prefix_cut p flat (c ∷ cs) = by (p c) refl (prefix_cut p flat cs)
  where
    by : (b : Bool) → p c ≡ b → prefix_len p (encode_utf8_all cs) ≡ length (encode_utf8_all (take (prefix_len p cs) cs)) → prefix_len p (encode_utf8_all (c ∷ cs)) ≡ length (encode_utf8_all (take (prefix_len p (c ∷ cs)) (c ∷ cs)))
    by true e further =
        all_pass p (encode_utf8 c) (encode_utf8_all cs) (λ k low. byte_alike p flat c k low ∙ e)
        ∙ ap (λ n. length (encode_utf8 c) + n) further
        ∙ sym (length-append (encode_utf8 c) (encode_utf8_all (take (prefix_len p cs) cs)))
        ∙ sym (ap (λ n. length (encode_utf8_all (take n (c ∷ cs)))) (ap (λ b. cond b (1 + prefix_len p cs) 0) e ∙ one-add (prefix_len p cs)))
    by false e further =
        none_pass p (encode_utf8 c) (encode_utf8_all cs) (some_byte c) (byte_alike p flat c 0 (some_byte c) ∙ e)
        ∙ sym (ap (λ b. length (encode_utf8_all (take (cond b (1 + prefix_len p cs) 0) (c ∷ cs)))) e)

pub scalars_parts : (k : ℕ) (cs : List ℕ) → all_scalars cs ≡ true → (all_scalars (take k cs) ≡ true) × (all_scalars (drop k cs) ≡ true)
scalars_parts zero cs h = (refl, h)
scalars_parts (suc k) [] h = (refl, refl)
scalars_parts (suc k) (c ∷ cs) h =
    let parts = and_parts _ (all_scalars cs) h in
    let further = scalars_parts k cs parts.1 in
    (ap (λ b. b && all_scalars (take k cs)) parts.0 ∙ further.0, further.1)

pub record Cut (p : ℕ → Bool) (bs : List ℕ) : Type 0 where
  pub boundary : IsCharBoundary bs (prefix_len p bs)
  pub front : chars (take (prefix_len p bs) bs) ≡ take (prefix_len p (chars bs)) (chars bs)
  pub back : chars (drop (prefix_len p bs) bs) ≡ drop (prefix_len p (chars bs)) (chars bs)

pub cut : (p : ℕ → Bool) (bs : List ℕ) → IsFlat p → IsUtf8 bs → Cut p bs
cut p bs flat u =
    let cs = chars bs in
    let k = prefix_len p cs in
    let front = encode_utf8_all (take k cs) in
    let back = encode_utf8_all (drop k cs) in
    let whole : bs ≡ front ++ back = sym (encodes-chars bs u) ∙ ap encode_utf8_all (sym (take-append-drop k cs)) ∙ encodes-append (take k cs) (drop k cs) in
    let n : prefix_len p bs ≡ length front = ap (prefix_len p) (sym (encodes-chars bs u)) ∙ prefix_cut p flat cs in
    let parts = scalars_parts k cs (scalars-chars bs u) in
    record {
      boundary = subst (IsCharBoundary bs) (sym n) (IsCharBoundary-at_seam bs front back whole (drop k cs, (parts.1, refl)));
      front = ap chars (ap (take (prefix_len p bs)) whole ∙ take_at front back (prefix_len p bs) (sym n)) ∙ chars-encodes (take k cs) parts.0;
      back = ap chars (ap (drop (prefix_len p bs)) whole ∙ drop_at front back (prefix_len p bs) (sym n)) ∙ chars-encodes (drop k cs) parts.1;
    }

-- the same, at the length that a function has answered
pub cut_boundary : (p : ℕ → Bool) (bs : List ℕ) (n : ℕ) → IsFlat p → IsUtf8 bs → n ≡ prefix_len p bs → IsCharBoundary bs n
cut_boundary p bs n flat u is = subst (IsCharBoundary bs) (sym is) (cut p bs flat u).boundary

pub cut_front : (p : ℕ → Bool) (bs xs : List ℕ) (n : ℕ) → IsFlat p → IsUtf8 bs → n ≡ prefix_len p bs → xs ≡ take n bs → chars xs ≡ take (prefix_len p (chars bs)) (chars bs)
cut_front p bs xs n flat u is here = ap chars here ∙ ap (λ k. chars (take k bs)) is ∙ (cut p bs flat u).front

pub cut_back : (p : ℕ → Bool) (bs xs : List ℕ) (n : ℕ) → IsFlat p → IsUtf8 bs → n ≡ prefix_len p bs → xs ≡ drop n bs → chars xs ≡ drop (prefix_len p (chars bs)) (chars bs)
cut_back p bs xs n flat u is here = ap chars here ∙ ap (λ k. chars (drop k bs)) is ∙ (cut p bs flat u).back

-- whether a first character passes is said by the first byte
pub begins_alike : (p : ℕ → Bool) (bs : List ℕ) → IsFlat p → IsUtf8 bs → begins p (chars bs) ≡ begins p bs
begins_alike p bs flat u = sym (by (chars bs)) ∙ ap (begins p) (encodes-chars bs u)
  where
    first : (l ys : List ℕ) → 0 < length l → begins p (l ++ ys) ≡ p (get_or l 0 0)
    first [] ys a = absurd (omega (arith, a))
    first (x ∷ l) ys a = refl

    by : (cs : List ℕ) → begins p (encode_utf8_all cs) ≡ begins p cs
    by [] = refl
    by (c ∷ cs) = first (encode_utf8 c) (encode_utf8_all cs) (some_byte c) ∙ byte_alike p flat c 0 (some_byte c)

-- white space
pub space_boundary : (bs : List ℕ) (n : ℕ) → IsUtf8 bs → n ≡ prefix_len is_space bs → IsCharBoundary bs n
space_boundary bs n u = cut_boundary is_space bs n space_flat u

pub space_back : (bs xs : List ℕ) (n : ℕ) → IsUtf8 bs → n ≡ prefix_len is_space bs → xs ≡ drop n bs → chars xs ≡ drop (prefix_len is_space (chars bs)) (chars bs)
space_back bs xs n u = cut_back is_space bs xs n space_flat u

-- runs
pub run_boundary : (bs : List ℕ) (n : ℕ) → IsUtf8 bs → n ≡ prefix_len is_run bs → IsCharBoundary bs n
run_boundary bs n u = cut_boundary is_run bs n run_flat u

-- names
pub name_boundary : (bs : List ℕ) (n : ℕ) → IsUtf8 bs → n ≡ prefix_len is_name_char bs → IsCharBoundary bs n
name_boundary bs n u = cut_boundary is_name_char bs n name_flat u

pub name_front : (bs xs : List ℕ) (n : ℕ) → IsUtf8 bs → n ≡ prefix_len is_name_char bs → xs ≡ take n bs → chars xs ≡ take (prefix_len is_name_char (chars bs)) (chars bs)
name_front bs xs n u = cut_front is_name_char bs xs n name_flat u

pub name_back : (bs xs : List ℕ) (n : ℕ) → IsUtf8 bs → n ≡ prefix_len is_name_char bs → xs ≡ drop n bs → chars xs ≡ drop (prefix_len is_name_char (chars bs)) (chars bs)
name_back bs xs n u = cut_back is_name_char bs xs n name_flat u

pub begins_name : (bs : List ℕ) → IsUtf8 bs → 1 ≤ length bs → is_name_start (get_or bs 0 0) ≡ begins is_name_start (chars bs)
begins_name [] u a = absurd (omega (arith, a))
begins_name (b ∷ bs) u a = sym (begins_alike is_name_start (b ∷ bs) start_flat u)

pub begins_no_name : (bs : List ℕ) → IsUtf8 bs → length bs < 1 → false ≡ begins is_name_start (chars bs)
begins_no_name [] u a = sym (begins_alike is_name_start [] start_flat u)
begins_no_name (b ∷ bs) u a = absurd (omega (arith, a))

-- values
pub quote_low : (quote : ℕ) → is_quote quote ≡ true → quote < 128
quote_low quote is = grind (arith, nat_tests, is)

pub value_boundary : (quote : ℕ) (bs : List ℕ) (n : ℕ) → is_quote quote ≡ true → IsUtf8 bs → n ≡ prefix_len (is_value quote) bs → IsCharBoundary bs n
value_boundary quote bs n is u = cut_boundary (is_value quote) bs n (value_flat quote (quote_low quote is)) u

pub value_front : (quote : ℕ) (bs xs : List ℕ) (n : ℕ) → is_quote quote ≡ true → IsUtf8 bs → n ≡ prefix_len (is_value quote) bs → xs ≡ take n bs → chars xs ≡ take (prefix_len (is_value quote) (chars bs)) (chars bs)
value_front quote bs xs n is u = cut_front (is_value quote) bs xs n (value_flat quote (quote_low quote is)) u

pub value_back : (quote : ℕ) (bs xs : List ℕ) (n : ℕ) → is_quote quote ≡ true → IsUtf8 bs → n ≡ prefix_len (is_value quote) bs → xs ≡ drop n bs → chars xs ≡ drop (prefix_len (is_value quote) (chars bs)) (chars bs)
value_back quote bs xs n is u = cut_back (is_value quote) bs xs n (value_flat quote (quote_low quote is)) u

pub quote_ascii : (quote : ℕ) → is_quote quote ≡ true → list_all is_ascii (quote ∷ []) ≡ true
quote_ascii quote is = grind (arith, nat_tests, quote_low quote is)

-- the characters of a text give its bytes again
pub whole_again : (bs : List ℕ) → IsUtf8 bs → bs ≡ encode_utf8_all (chars bs)
whole_again bs u = sym (encodes-chars bs u)

pub whole_len : (bs : List ℕ) → IsUtf8 bs → length bs ≡ length (encode_utf8_all (chars bs))
whole_len bs u = ap length (whole_again bs u)

-- a text has no characters where it has no bytes
pub no_chars : (bs : List ℕ) → length bs ≡ 0 → chars bs ≡ []
no_chars [] none = chars-nil
no_chars (b ∷ bs) none = absurd (omega (arith, none))

pub some_chars : (bs : List ℕ) → IsUtf8 bs → 0 < length bs → 0 < length (chars bs)
some_chars bs u some = by (chars bs) (encodes-chars bs u)
  where
    by : (cs : List ℕ) → encode_utf8_all cs ≡ bs → 0 < length cs
    by [] e = absurd (omega (arith, some, ap length e))
    by (c ∷ cs) e = omega arith

pub empty_chars : (bs : List ℕ) → IsUtf8 bs → is_empty (chars bs) ≡ (length bs == 0)
empty_chars [] u = ap is_empty chars-nil
empty_chars (b ∷ bs) u = by (chars (b ∷ bs)) (some_chars (b ∷ bs) u (omega arith)) ∙ sym none
  where
    none : (length (b ∷ bs) == 0) ≡ false
    none = grind (arith, nat_tests)

    by : (cs : List ℕ) → 0 < length cs → is_empty cs ≡ false
    by [] some = absurd (omega (arith, some))
    by (c ∷ cs) some = refl
