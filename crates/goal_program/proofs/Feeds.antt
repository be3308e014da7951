-- JSON that is written has no line feed, so it is the line before the first one.
use Rattle.std.proofs.Common.{◌≡◌, ◌≢◌, ℕ, suc, ◌+◌, ◌/◌, ◌%◌, ◌<◌, ◌==◌, Bool, true, false, not, ◌&&◌, ◌||◌, cond, nat_lt, List, [], ◌∷◌, ◌++◌, length, take, drop, decimal, refl, ap, ◌∙◌, arith}
use Rattle.std.specs.Char.{digit_char, digit_value}
use Rattle.std.specs.List.{list_all, prefix_len}
use Rattle.std.specs.Str.Parse.{AllDigits}
use Rattle.std.proofs.lemmas.Bool.Decides.{nat_tests}
use Rattle.std.proofs.lemmas.Fmt.{decimal_is_IsNumeral}
use Rattle.json.specs.Print.{escape_letter, escape_byte, escape, quoted}
use Rattle.serde_json.specs.Data.{Num, unsigned, negative, float, Data, null, boolean, number, string, array, object, Items, no_items, item, Members, no_members, member}
use Rattle.serde_json.specs.Written.{comma_if, compact_text, items_text, members_text, number_text}
use Rattle.goal_types.specs.Lines.{is_in_line, line_of, after_line, has_line}
use Rattle.goal_program.proofs.Json.{IsCount, IsPlain, ArePlain, HasPlain}

-- a text without a line feed
abbrev pub IsLine : List ℕ → Type 0
IsLine text = list_all is_in_line text ≡ true

both : (a b : Bool) → a ≡ true → b ≡ true → (a && b) ≡ true
both true b p q = q
both false b p q = p

left : (a b : Bool) → (a && b) ≡ true → a ≡ true
left true b e = refl
left false b e = e

right : (a b : Bool) → (a && b) ≡ true → b ≡ true
right true b e = e
right false b e = absurd (clash e)
  where
    clash : false ≡ true → ⊥
    clash e = cc

line_both : (xs ys : List ℕ) → IsLine xs → IsLine ys → IsLine (xs ++ ys)
line_both [] ys p q = q
line_both (x ∷ xs) ys p q = both (is_in_line x) (list_all is_in_line (xs ++ ys)) (left (is_in_line x) (list_all is_in_line xs) p) (line_both xs ys (right (is_in_line x) (list_all is_in_line xs) p) q)

line_more : (x : ℕ) (xs : List ℕ) → is_in_line x ≡ true → IsLine xs → IsLine (x ∷ xs)
line_more x xs p q = both (is_in_line x) (list_all is_in_line xs) p q

in_line : (x : ℕ) → x ≢ 10 → is_in_line x ≡ true
in_line x apart = by (x == 10) refl
  where
    by : (t : Bool) → (x == 10) ≡ t → not t ≡ true
    by true t = let same : x ≡ 10 = grind (arith, nat_tests, t) in absurd (apart same)
    by false t = refl

-- one of two that are in a line is
one_of : (t : Bool) (a b : ℕ) → is_in_line a ≡ true → is_in_line b ≡ true → is_in_line (cond t a b) ≡ true
one_of true a b p q = p
one_of false a b p q = q

letter_in_line : (x : ℕ) → is_in_line (escape_letter x) ≡ true
letter_in_line x = by ((x == 34) || (x == 92)) refl
  where
    more : ℕ
    more = cond (x == 8) 98 (cond (x == 12) 102 (cond (x == 10) 110 (cond (x == 13) 114 (cond (x == 9) 116 0))))

    more_in_line : is_in_line more ≡ true
    more_in_line =
        one_of (x == 8) 98 (cond (x == 12) 102 (cond (x == 10) 110 (cond (x == 13) 114 (cond (x == 9) 116 0)))) refl
        (one_of (x == 12) 102 (cond (x == 10) 110 (cond (x == 13) 114 (cond (x == 9) 116 0))) refl
        (one_of (x == 10) 110 (cond (x == 13) 114 (cond (x == 9) 116 0)) refl (one_of (x == 13) 114 (cond (x == 9) 116 0) refl (one_of (x == 9) 116 0 refl refl))))

    by : (t : Bool) → ((x == 34) || (x == 92)) ≡ t → is_in_line (cond t x more) ≡ true
    by true t = in_line x apart
      where
        apart : x ≢ 10
        apart e = grind (arith, nat_tests, t, e)
    by false t = more_in_line

digit_in_line : (d : ℕ) → is_in_line (digit_char d) ≡ true
digit_in_line d = one_of (nat_lt d 10) (48 + d) (87 + d) (in_line (48 + d) low) (in_line (87 + d) high)
  where
    low : 48 + d ≢ 10
    low e = omega (arith, e)

    high : 87 + d ≢ 10
    high e = omega (arith, e)

byte_line : (x : ℕ) → IsLine (escape_byte x)
unfolding escape_byte
byte_line x = by (nat_lt 0 (escape_letter x)) (nat_lt x 32) refl
  where
    by : (a b : Bool) → nat_lt x 32 ≡ b → IsLine (cond a (92 ∷ escape_letter x ∷ []) (cond b (92 ∷ 117 ∷ 48 ∷ 48 ∷ digit_char (x / 16) ∷ digit_char (x % 16) ∷ []) (x ∷ [])))
    by true b e = line_more (escape_letter x) [] (letter_in_line x) refl
    by false true e = line_more (digit_char (x / 16)) (digit_char (x % 16) ∷ []) (digit_in_line (x / 16)) (line_more (digit_char (x % 16)) [] (digit_in_line (x % 16)) refl)
    by false false e = line_more x [] (in_line x apart) refl
      where
        apart : x ≢ 10
        apart f = grind (arith, nat_tests, e, f)

escape_line : (s : List ℕ) → IsLine (escape s)
escape_line [] = refl
escape_line (x ∷ s) = line_both (escape_byte x) (escape s) (byte_line x) (escape_line s)

quoted_line : (s : List ℕ) → IsLine (quoted s)
quoted_line s = line_both (escape s) (34 ∷ []) (escape_line s) refl

digits_line : (ds : List ℕ) → AllDigits 10 ds → IsLine ds
digits_line [] h = refl
digits_line (d ∷ ds) h = line_more d ds (in_line d apart) (digits_line ds h.1)
  where
    apart : d ≢ 10
    apart e = let digit : digit_value d < 10 = h.0 in let is : d ≡ 10 = e in grind arith

count_line : (n : Num) → IsCount n → IsLine (number_text n)
count_line (unsigned n) h = digits_line (decimal n) (decimal_is_IsNumeral n h).0.1
count_line (negative z) h = absurd h
count_line (float x) h = absurd h

boolean_line : (b : Bool) → IsLine (compact_text (boolean b))
boolean_line true = refl
boolean_line false = refl

comma_line : (later : Bool) → IsLine (comma_if later)
comma_line true = refl
comma_line false = refl

mutual
  pub text_line : (d : Data) → IsPlain d → IsLine (compact_text d)
  text_line null h = refl
  text_line (boolean b) h = boolean_line b
  text_line (number n) h = count_line n h
  text_line (string s) h = quoted_line s
  text_line (array ds) h = items_line false ds h
  text_line (object ms) h = members_line false ms h.1

  items_line : (later : Bool) (ds : Items) → ArePlain ds → IsLine (items_text later ds)
  items_line later no_items h = refl
  items_line later (item d ds) h = line_both (comma_if later) (compact_text d ++ items_text true ds) (comma_line later) (line_both (compact_text d) (items_text true ds) (text_line d h.0) (items_line true ds h.1))

  members_line : (later : Bool) (ms : Members) → HasPlain ms → IsLine (members_text later ms)
  members_line later no_members h = refl
  members_line later (member k d ms) h =
      line_both (comma_if later) (quoted k ++ 58 ∷ (compact_text d ++ members_text true ms)) (comma_line later)
      (line_both (quoted k) (58 ∷ (compact_text d ++ members_text true ms)) (quoted_line k)
      (line_both (compact_text d) (members_text true ms) (text_line d h.0) (members_line true ms h.1)))

-- ---- the line and what stands behind it

line_length : (line rest : List ℕ) → IsLine line → prefix_len is_in_line (line ++ 10 ∷ rest) ≡ length line
line_length [] rest h = refl
line_length (x ∷ line) rest h =
    let more : 1 + length line ≡ suc (length line) = omega arith in
    ap (λ c. cond c (1 + prefix_len is_in_line (line ++ 10 ∷ rest)) 0) (left (is_in_line x) (list_all is_in_line line) h)
    ∙ ap (λ n. 1 + n) (line_length line rest (right (is_in_line x) (list_all is_in_line line) h)) ∙ more

line_taken : (line rest : List ℕ) → take (length line) (line ++ rest) ≡ line
line_taken [] rest = refl
line_taken (x ∷ line) rest = ap (λ xs. x ∷ xs) (line_taken line rest)

line_dropped : (line rest : List ℕ) → drop (suc (length line)) (line ++ 10 ∷ rest) ≡ rest
line_dropped [] rest = refl
line_dropped (x ∷ line) rest = line_dropped line rest

pub line_is : (line rest : List ℕ) → IsLine line → line_of (line ++ 10 ∷ rest) ≡ line
line_is line rest h = ap (λ n. take n (line ++ 10 ∷ rest)) (line_length line rest h) ∙ line_taken line (10 ∷ rest)

pub after_is : (line rest : List ℕ) → IsLine line → after_line (line ++ 10 ∷ rest) ≡ rest
after_is line rest h =
    let place : prefix_len is_in_line (line ++ 10 ∷ rest) + 1 ≡ suc (length line) = omega (arith, line_length line rest h) in
    ap (λ n. drop n (line ++ 10 ∷ rest)) place ∙ line_dropped line rest

pub has_one : (line rest : List ℕ) → IsLine line → has_line (line ++ 10 ∷ rest) ≡ true
has_one line rest h =
    let sum = line_sum line rest in
    let place = line_length line rest h in
    grind (arith, nat_tests, sum, place)
  where
    line_sum : (line rest : List ℕ) → length line < length (line ++ 10 ∷ rest)
    line_sum [] rest = omega arith
    line_sum (x ∷ line) rest = omega (arith, line_sum line rest)
