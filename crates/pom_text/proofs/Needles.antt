-- Marks in the bytes and in the characters of a text.
use Rattle.std.proofs.Common.{◌≡◌, ℕ, suc, zero, ◌+◌, ◌<◌, ◌≤◌, Bool, true, false, cond, not, ◌&&◌, ◌||◌, ◌==◌, nat_eq, List, [], ◌∷◌, ◌++◌, length, get_or, take, drop, Some, None, refl, sym, ap, ◌∙◌, arith, length-append, take-append-drop, drop_at, length-take-le, length-drop, get_or-take, get_or-drop, ext_get_or, append_assoc, get_or-append-add, option_map, if◌then◌else◌}
use Rattle.std.proofs.Math.ListN.{get_or-append}
use Rattle.std.specs.Bool.{Decides}
use Rattle.std.specs.List.{list_all, prefix_len, starts_with}
use Rattle.std.specs.Str.{IsUtf8, IsCharBoundary, chars, encode_utf8_all}
use Rattle.std.proofs.lemmas.Bool.{false≢true, eqb-true, eq-eqb}
use Rattle.std.proofs.lemmas.Bool.Decides.{nat_tests}
use Rattle.std.proofs.lemmas.List.Sums.{prefix_len_is}
use Rattle.std.proofs.lemmas.Slice.Eq.{starts_is}
use Rattle.std.proofs.lemmas.Str.{encodes-append, encodes-chars, scalars-chars, chars-append, length-le-encodes, IsUtf8-take, IsUtf8-drop, IsCharBoundary-start, IsCharBoundary-at_seam, IsUtf8-from_ascii, chars-IsAscii}
use Rattle.memchr.specs.Find.{IsFirstByte, OccursAt, FindsNeedle, is_byte2, is_byte3}
use Rattle.pom_text.specs.Encodings.{is_ascii}
use Rattle.pom_text.specs.Reads.{after, begins, first_of, is_value, longer, up_to}
use Rattle.pom_text.specs.Lent.{is_run}
use Rattle.pom_text.proofs.Bytes.{scalars_parts}
use Rattle.pom_text.proofs.Fronts.{and_first, and_second}

pub no_true : (b : Bool) → (b ≡ true → ⊥) → b ≡ false
no_true true h = absurd (h refl)
no_true false h = refl

neither : (a b : Bool) → (not a && not b) ≡ not (a || b)
neither true b = refl
neither false b = refl

neither3 : (a b c : Bool) → (not a && not b && not c) ≡ not (a || b || c)
neither3 true b c = refl
neither3 false true c = refl
neither3 false false c = refl

-- the first byte that passes a test stands behind those that pass its opposite
found_len : (p q : ℕ → Bool) (bs : List ℕ) (k : ℕ) → ((x : ℕ) → p x ≡ not (q x)) → IsFirstByte q bs (Some k) → k ≡ prefix_len p bs
found_len p q bs k is h = sym (prefix_len_is p bs k 0 (omega (arith, h.0.high)) (λ j low. is (get_or bs j 0) ∙ ap not (no_true (q (get_or bs j 0)) (h.0.before j (omega arith) low))) (λ _. is (get_or bs k 0) ∙ ap not h.1))

-- and if there is none, all bytes pass that
all_len : (p q : ℕ → Bool) (bs : List ℕ) → ((x : ℕ) → p x ≡ not (q x)) → IsFirstByte q bs None → length bs ≡ prefix_len p bs
all_len p q bs is h = sym (prefix_len_is p bs (length bs) 0 (omega arith) (λ j low. is (get_or bs j 0) ∙ ap not (no_true (q (get_or bs j 0)) (h j (omega arith) low))) (λ low. absurd (omega (arith, low))))

run_not : (x : ℕ) → is_run x ≡ not (is_byte3 60 38 13 x)
unfolding is_run
run_not x = neither3 (x == 60) (x == 38) (x == 13)

-- where no run begins it has no bytes
pub no_run : (bs : List ℕ) → begins is_run bs ≡ false → 0 ≡ prefix_len is_run bs
no_run [] e = refl
no_run (b ∷ bs) e = sym (ap (λ t. cond t (1 + prefix_len is_run bs) 0) e)

pub run_found : (bs : List ℕ) (k : ℕ) → IsFirstByte (is_byte3 60 38 13) bs (Some k) → k ≡ prefix_len is_run bs
run_found bs k h = found_len is_run (is_byte3 60 38 13) bs k run_not h

pub run_all : (bs : List ℕ) → IsFirstByte (is_byte3 60 38 13) bs None → length bs ≡ prefix_len is_run bs
run_all bs h = all_len is_run (is_byte3 60 38 13) bs run_not h

value_not : (quote x : ℕ) → is_value quote x ≡ not (is_byte2 quote 60 x)
unfolding is_value
value_not quote x = neither (x == quote) (x == 60)

pub value_found : (quote : ℕ) (bs : List ℕ) (k : ℕ) → IsFirstByte (is_byte2 quote 60) bs (Some k) → k ≡ prefix_len (is_value quote) bs
value_found quote bs k h = found_len (is_value quote) (is_byte2 quote 60) bs k (value_not quote) h

pub value_all : (quote : ℕ) (bs : List ℕ) → IsFirstByte (is_byte2 quote 60) bs None → length bs ≡ prefix_len (is_value quote) bs
value_all quote bs h = all_len (is_value quote) (is_byte2 quote 60) bs (value_not quote) h

decides : (a b : ℕ) → Decides (nat_eq a b) (a ≡ b)
decides a b = (eqb-true a b, eq-eqb a b)

-- a mark that stands in front of the bytes stands in front of the characters
same_front : (bs ms : List ℕ) → IsUtf8 ms → starts_with nat_eq bs ms ≡ true → chars bs ≡ chars ms ++ chars (drop (length ms) bs)
same_front bs ms ums so = ap chars ((starts_is decides bs ms (starts_with nat_eq bs ms) refl).0 so) ∙ chars-append ms (drop (length ms) bs) ums

front_chars : (bs ms : List ℕ) → IsUtf8 ms → starts_with nat_eq bs ms ≡ true → starts_with nat_eq (chars bs) (chars ms) ≡ true
front_chars bs ms ums so = (starts_is decides (chars bs) (chars ms) (starts_with nat_eq (chars bs) (chars ms)) refl).1 (chars (drop (length ms) bs)) (same_front bs ms ums so)

-- and the other way round
split_bytes : (bs ms : List ℕ) → IsUtf8 bs → IsUtf8 ms → starts_with nat_eq (chars bs) (chars ms) ≡ true → bs ≡ ms ++ encode_utf8_all (drop (length (chars ms)) (chars bs))
split_bytes bs ms u ums so =
    let rest = drop (length (chars ms)) (chars bs) in
    sym (encodes-chars bs u) ∙ ap encode_utf8_all ((starts_is decides (chars bs) (chars ms) (starts_with nat_eq (chars bs) (chars ms)) refl).0 so)
    ∙ encodes-append (chars ms) rest ∙ ap (λ l. l ++ encode_utf8_all rest) (encodes-chars ms ums)

pub mark_boundary : (bs ms : List ℕ) → IsUtf8 bs → IsUtf8 ms → starts_with nat_eq bs ms ≡ true → IsCharBoundary bs (length ms)
mark_boundary bs ms u ums so =
    let rest = drop (length (chars ms)) (chars bs) in
    IsCharBoundary-at_seam bs ms (encode_utf8_all rest) (split_bytes bs ms u ums (front_chars bs ms ums so))
    (rest, ((scalars_parts (length (chars ms)) (chars bs) (scalars-chars bs u)).1, refl))

pub after_mark : (bs ms xs : List ℕ) → IsUtf8 ms → starts_with nat_eq bs ms ≡ true → xs ≡ drop (length ms) bs → Some (chars xs) ≡ after (chars ms) (chars bs)
unfolding after
after_mark bs ms xs ums so here =
    ap (λ l. Some (chars l)) here
    ∙ ap Some (sym (ap (drop (length (chars ms))) (same_front bs ms ums so) ∙ drop_at (chars ms) (chars (drop (length ms) bs)) (length (chars ms)) refl))
    ∙ sym (ap (λ b. if b then Some (drop (length (chars ms)) (chars bs)) else None) (front_chars bs ms ums so))

pub after_none : (bs ms : List ℕ) → IsUtf8 bs → IsUtf8 ms → starts_with nat_eq bs ms ≡ false → None ≡ after (chars ms) (chars bs)
unfolding after
after_none bs ms u ums so =
    sym (ap (λ b. if b then Some (drop (length (chars ms)) (chars bs)) else None) (no_true (starts_with nat_eq (chars bs) (chars ms)) (λ yes.
    false≢true (sym so ∙ (starts_is decides bs ms (starts_with nat_eq bs ms) refl).1 (encode_utf8_all (drop (length (chars ms)) (chars bs))) (split_bytes bs ms u ums yes)))))

-- the first place of a mark, in the characters
pub up_to_here : (ms rest : List ℕ) → 0 < length rest → starts_with nat_eq rest ms ≡ true → up_to ms rest ≡ Some ([], drop (length ms) rest)
unfolding after
up_to_here ms [] some so = absurd (omega (arith, some))
up_to_here ms (c ∷ rest) some so = ap (λ b. first_of (if b then Some (drop (length ms) (c ∷ rest)) else None) (option_map (longer c) (up_to ms rest))) so

up_to_later : (ms : List ℕ) (c : ℕ) (text : List ℕ) → starts_with nat_eq (c ∷ text) ms ≡ false → up_to ms (c ∷ text) ≡ option_map (longer c) (up_to ms text)
unfolding after
up_to_later ms c text so = ap (λ b. first_of (if b then Some (drop (length ms) (c ∷ text)) else None) (option_map (longer c) (up_to ms text))) so

pub up_to_front : (ms fs rest : List ℕ) → 0 < length rest → ((xs ys : List ℕ) → fs ≡ xs ++ ys → 0 < length ys → starts_with nat_eq (ys ++ rest) ms ≡ false) → starts_with nat_eq rest ms ≡ true → up_to ms (fs ++ rest) ≡ Some (fs, drop (length ms) rest)
up_to_front ms [] rest some before so = up_to_here ms rest some so
up_to_front ms (c ∷ fs) rest some before so =
    up_to_later ms c (fs ++ rest) (before [] (c ∷ fs) refl (omega arith))
    ∙ ap (option_map (longer c)) (up_to_front ms fs rest some (λ xs ys e a. before (c ∷ xs) ys (ap (λ l. c ∷ l) e) a) so)

pub up_to_nowhere : (ms text : List ℕ) → ((xs ys : List ℕ) → text ≡ xs ++ ys → 0 < length ys → starts_with nat_eq ys ms ≡ false) → up_to ms text ≡ None
up_to_nowhere ms [] before = refl
up_to_nowhere ms (c ∷ text) before =
    up_to_later ms c text (before [] (c ∷ text) refl (omega arith))
    ∙ ap (option_map (longer c)) (up_to_nowhere ms text (λ xs ys e a. before (c ∷ xs) ys (ap (λ l. c ∷ l) e) a))

-- a mark stands in no characters of the rest, where it stands nowhere in the bytes before k
occurs : (bs xs ys ms : List ℕ) → bs ≡ xs ++ ys → starts_with nat_eq ys ms ≡ true → OccursAt bs ms (length xs)
occurs bs xs ys ms e so =
    let here = (starts_is decides ys ms (starts_with nat_eq ys ms) refl).0 so in
    let tail = drop (length ms) ys in
    record {
      fits = omega (arith, ap length e, length-append xs ys, ap length here, length-append ms tail);
      reads = λ j low. ap (λ l. get_or l (length xs + j) 0) e ∙ get_or-append-add xs ys j 0 ∙ ap (λ l. get_or l j 0) here ∙ get_or-append ms tail 0 j low;
    }

no_front : (bs ms xs ys : List ℕ) (k : ℕ) → IsUtf8 bs → IsUtf8 ms → ((j : ℕ) → 0 ≤ j → j < k → OccursAt bs ms j → ⊥) → chars bs ≡ xs ++ ys → length (encode_utf8_all xs) < k → starts_with nat_eq ys (chars ms) ≡ false
no_front bs ms xs ys k u ums before e low = no_true (starts_with nat_eq ys (chars ms)) (λ yes.
    let whole : bs ≡ encode_utf8_all xs ++ encode_utf8_all ys = sym (encodes-chars bs u) ∙ ap encode_utf8_all e ∙ encodes-append xs ys in
    let tail = drop (length (chars ms)) ys in
    let split : encode_utf8_all ys ≡ ms ++ encode_utf8_all tail = ap encode_utf8_all ((starts_is decides ys (chars ms) (starts_with nat_eq ys (chars ms)) refl).0 yes) ∙ encodes-append (chars ms) tail ∙ ap (λ l. l ++ encode_utf8_all tail) (encodes-chars ms ums) in
    let starts = (starts_is decides (encode_utf8_all ys) ms (starts_with nat_eq (encode_utf8_all ys) ms) refl).1 (encode_utf8_all tail) split in
    before (length (encode_utf8_all xs)) (omega arith) low (occurs bs (encode_utf8_all xs) (encode_utf8_all ys) ms whole starts))

-- where a place of the mark is a boundary, the characters are cut there
cut_chars : (bs : List ℕ) (k : ℕ) → IsUtf8 bs → IsCharBoundary bs k → chars bs ≡ chars (take k bs) ++ chars (drop k bs)
cut_chars bs k u b = ap chars (sym (take-append-drop k bs)) ∙ chars-append (take k bs) (drop k bs) (IsUtf8-take bs k u b)

prefix_shorter : (bs : List ℕ) (k : ℕ) (xs ys : List ℕ) → IsUtf8 bs → IsCharBoundary bs k → chars (take k bs) ≡ xs ++ ys → 0 < length ys → length (encode_utf8_all xs) < k
prefix_shorter bs k xs ys u b e some =
    let front : take k bs ≡ encode_utf8_all xs ++ encode_utf8_all ys = sym (encodes-chars (take k bs) (IsUtf8-take bs k u b)) ∙ ap encode_utf8_all e ∙ encodes-append xs ys in
    omega (arith, ap length front, length-append (encode_utf8_all xs) (encode_utf8_all ys), length-le-encodes ys, some, length-take-le k bs b.0)

pub found_mark : (bs ms : List ℕ) (k : ℕ) → IsUtf8 bs → IsUtf8 ms → 0 < length ms → IsCharBoundary bs k → FindsNeedle bs ms 0 (Some k)
    → starts_with nat_eq (drop k bs) ms ≡ true → up_to (chars ms) (chars bs) ≡ Some (chars (take k bs), drop (length (chars ms)) (chars (drop k bs)))
found_mark bs ms k u ums some b first so =
    let rest = chars (drop k bs) in
    let so_chars = front_chars (drop k bs) ms ums so in
    let len : 0 < length (drop k bs) = omega (arith, some, length-drop k bs, first.1.fits) in
    let long : 0 < length rest = some_chars (drop k bs) (IsUtf8-drop bs k u b) len in
    ap (up_to (chars ms)) (cut_chars bs k u b)
    ∙ up_to_front (chars ms) (chars (take k bs)) rest long
    (λ xs ys e a. no_front bs ms xs (ys ++ rest) k u ums first.0.before (cut_chars bs k u b ∙ ap (λ l. l ++ rest) e ∙ append_assoc xs ys rest) (prefix_shorter bs k xs ys u b e a))
    so_chars
  where
    some_chars : (xs : List ℕ) → IsUtf8 xs → 0 < length xs → 0 < length (chars xs)
    some_chars xs ux a = by (chars xs) (encodes-chars xs ux)
      where
        by : (cs : List ℕ) → encode_utf8_all cs ≡ xs → 0 < length cs
        by [] e = absurd (omega (arith, a, ap length e))
        by (c ∷ cs) e = omega arith

pub no_mark : (bs ms : List ℕ) → IsUtf8 bs → IsUtf8 ms → FindsNeedle bs ms 0 None → None ≡ up_to (chars ms) (chars bs)
no_mark bs ms u ums none = sym (up_to_nowhere (chars ms) (chars bs) (λ xs ys e a.
    no_front bs ms xs ys (length bs + 1) u ums none e (omega (arith, ap length (sym (encodes-chars bs u) ∙ ap encode_utf8_all e ∙ encodes-append xs ys), length-append (encode_utf8_all xs) (encode_utf8_all ys)))))

stands : (bs ms : List ℕ) (k : ℕ) → OccursAt bs ms k → drop k bs ≡ ms ++ drop (length ms) (drop k bs)
stands bs ms k o =
    let room : length ms ≤ length (drop k bs) = omega (arith, o.fits, length-drop k bs) in
    let len : length (take (length ms) (drop k bs)) ≡ length ms = length-take-le (length ms) (drop k bs) room in
    let same : take (length ms) (drop k bs) ≡ ms = ext_get_or 0 (take (length ms) (drop k bs)) ms len
    (λ i low. let below : i < length ms = omega (arith, low, len) in get_or-take (length ms) (drop k bs) i 0 below ∙ get_or-drop k bs i 0 ∙ o.reads i below) in
    sym (take-append-drop (length ms) (drop k bs)) ∙ ap (λ l. l ++ drop (length ms) (drop k bs)) same

begins_there : (bs ms : List ℕ) (k : ℕ) → OccursAt bs ms k → starts_with nat_eq (drop k bs) ms ≡ true
begins_there bs ms k o = (starts_is decides (drop k bs) ms (starts_with nat_eq (drop k bs) ms) refl).1 (drop (length ms) (drop k bs)) (stands bs ms k o)

pub found_boundary : (bs ms : List ℕ) (k : ℕ) → IsUtf8 ms → 0 < length ms → FindsNeedle bs ms 0 (Some k) → IsCharBoundary bs k
found_boundary bs ms k ums some f =
    let o = f.1 in
    let zero_more : k ≡ k + 0 = omega arith in
    let first : get_or bs (k + 0) 0 ≡ get_or ms 0 0 = o.reads 0 some in
    let here : get_or bs k 0 ≡ get_or ms 0 0 = ap (λ n. get_or bs n 0) zero_more ∙ first in
    (omega (arith, o.fits), λ l a. omega (arith, here, (IsCharBoundary-start ms ums).1 some (omega (arith, here, a))))

pub found_behind : (bs ms rest : List ℕ) (k : ℕ) → IsUtf8 ms → rest ≡ drop k bs → FindsNeedle bs ms 0 (Some k) → IsUtf8 rest → IsCharBoundary rest (length ms)
found_behind bs ms rest k ums here f u = mark_boundary rest ms u ums (ap (λ l. starts_with nat_eq l ms) here ∙ begins_there bs ms k f.1)

pub found_parts : (bs ms front rest behind : List ℕ) (k : ℕ) → IsUtf8 bs → IsUtf8 ms → 0 < length ms → FindsNeedle bs ms 0 (Some k)
    → front ≡ take k bs → rest ≡ drop k bs → behind ≡ drop (length ms) rest → Some (chars front, chars behind) ≡ up_to (chars ms) (chars bs)
found_parts bs ms front rest behind k u ums some f a b c =
    let so = begins_there bs ms k f.1 in
    let tail : drop (length (chars ms)) (chars (drop k bs)) ≡ chars behind =
    ap (drop (length (chars ms))) (same_front (drop k bs) ms ums so) ∙ drop_at (chars ms) (chars (drop (length ms) (drop k bs))) (length (chars ms)) refl
    ∙ ap (λ l. chars (drop (length ms) l)) (sym b) ∙ ap chars (sym c) in
    ap (λ l. Some (chars l, chars behind)) a ∙ ap (λ l. Some (chars (take k bs), l)) (sym tail)
    ∙ sym (found_mark bs ms k u ums some (found_boundary bs ms k ums some f) f so)

-- ASCII is UTF-8, and each byte its own character
ascii_below : (ms : List ℕ) → list_all is_ascii ms ≡ true → (i : ℕ) → get_or ms i 0 < 128
ascii_below [] e zero = omega arith
ascii_below [] e (suc i) = omega arith
ascii_below (c ∷ ms) e zero = grind (arith, nat_tests, and_first (is_ascii c) (list_all is_ascii ms) e)
ascii_below (c ∷ ms) e (suc i) = ascii_below ms (and_second (is_ascii c) (list_all is_ascii ms) e) i

pub ascii_utf8 : (ms : List ℕ) → list_all is_ascii ms ≡ true → IsUtf8 ms
ascii_utf8 ms e = IsUtf8-from_ascii ms (ascii_below ms e)

pub ascii_chars : (ms : List ℕ) → list_all is_ascii ms ≡ true → chars ms ≡ ms
ascii_chars ms e = chars-IsAscii ms (ascii_below ms e)

-- a mark of ASCII at the front
pub ascii_boundary : (bs ms : List ℕ) → IsUtf8 bs → list_all is_ascii ms ≡ true → starts_with nat_eq bs ms ≡ true → IsCharBoundary bs (length ms)
ascii_boundary bs ms u e so = mark_boundary bs ms u (ascii_utf8 ms e) so

pub ascii_after : (bs ms xs : List ℕ) → list_all is_ascii ms ≡ true → starts_with nat_eq bs ms ≡ true → xs ≡ drop (length ms) bs → Some (chars xs) ≡ after ms (chars bs)
ascii_after bs ms xs e so here = after_mark bs ms xs (ascii_utf8 ms e) so here ∙ ap (λ m. after m (chars bs)) (ascii_chars ms e)

pub ascii_not_after : (bs ms : List ℕ) → IsUtf8 bs → list_all is_ascii ms ≡ true → starts_with nat_eq bs ms ≡ false → None ≡ after ms (chars bs)
ascii_not_after bs ms u e so = after_none bs ms u (ascii_utf8 ms e) so ∙ ap (λ m. after m (chars bs)) (ascii_chars ms e)

-- and the first of all
pub ascii_found : (bs ms : List ℕ) (k : ℕ) → list_all is_ascii ms ≡ true → 0 < length ms → FindsNeedle bs ms 0 (Some k) → IsCharBoundary bs k
ascii_found bs ms k e some f = found_boundary bs ms k (ascii_utf8 ms e) some f

pub ascii_found_behind : (bs ms rest : List ℕ) (k : ℕ) → list_all is_ascii ms ≡ true → rest ≡ drop k bs → FindsNeedle bs ms 0 (Some k) → IsUtf8 rest → IsCharBoundary rest (length ms)
ascii_found_behind bs ms rest k e here f u = found_behind bs ms rest k (ascii_utf8 ms e) here f u

pub ascii_parts : (bs ms front rest behind : List ℕ) (k : ℕ) → IsUtf8 bs → list_all is_ascii ms ≡ true → 0 < length ms → FindsNeedle bs ms 0 (Some k)
    → front ≡ take k bs → rest ≡ drop k bs → behind ≡ drop (length ms) rest → Some (chars front, chars behind) ≡ up_to ms (chars bs)
ascii_parts bs ms front rest behind k u e some f a b c = found_parts bs ms front rest behind k u (ascii_utf8 ms e) some f a b c ∙ ap (λ m. up_to m (chars bs)) (ascii_chars ms e)

pub ascii_nowhere : (bs ms : List ℕ) → IsUtf8 bs → list_all is_ascii ms ≡ true → FindsNeedle bs ms 0 None → None ≡ up_to ms (chars bs)
ascii_nowhere bs ms u e none = no_mark bs ms u (ascii_utf8 ms e) none ∙ ap (λ m. up_to m (chars bs)) (ascii_chars ms e)
