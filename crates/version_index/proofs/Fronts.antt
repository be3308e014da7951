-- An index is what stands before its last line feed, cut at the others.
use Rattle.std.proofs.Common.{◌≡◌, ℕ, ◌≤◌, ◌+◌, ◌-◌, Bool, true, false, ◌&&◌, ◌==◌, nat_eq, nat_le, List, [], ◌∷◌, ◌++◌, drop, take, length, Some, None, refl, arith, sym, ap, ◌∙◌, append_assoc, if◌then◌else◌}
use Rattle.std.specs.List.{list_all, onto_first}
use Rattle.std.specs.Str.{IsUtf8, bytes_eq, is_utf8}
use Rattle.std.specs.declared.cmp.Ordering.{Ordering}
use Rattle.std.specs.declared.cmp.Ordering.TheVariants.{Less, Equal, Greater}
use Rattle.std.specs.Ordering.{is_lt, nat_cmp}
use Rattle.std.specs.Cmp.Lexicographic.{pointwise, slice_cmp}
use Rattle.std.proofs.lemmas.Bool.{eqb-true, false≢true, le-leb}
use Rattle.std.proofs.lemmas.List.{drop_at, length-append, take-append-drop}
use Rattle.std.proofs.lemmas.Str.{IsUtf8-from_is_utf8, is_utf8-from_IsUtf8}
use Rattle.std.proofs.lemmas.Slice.Eq.{bytes_eq-Decides}
use Rattle.mvn_base.proofs.Cuts.{and_left, and_right}
use Rattle.version_index.specs.Sets.{IsAscending, ascends}
use Rattle.version_index.specs.Texts.{but_last, index_text, is_index, is_listed, lines, most_index, of_lines, read_index, version_lines}
use Rattle.version_index.proofs.Lines.{at_feed, of_index, text_ascends}
use Rattle.version_index.proofs.Sets.{set_itself, under_less}

-- ---- bytes as a text

pub some_text : (bytes : List ℕ) → IsUtf8 bytes → Some bytes ≡ (if is_utf8 bytes then Some bytes else None)
some_text bytes utf8 = ap (λ b. if b then Some bytes else None) (sym (is_utf8-from_IsUtf8 bytes utf8))

pub no_text : (bytes : List ℕ) → (IsUtf8 bytes → ⊥) → None ≡ (if is_utf8 bytes then Some bytes else None)
no_text bytes other = by (is_utf8 bytes) refl
  where
    by : (b : Bool) → is_utf8 bytes ≡ b → None ≡ (if b then Some bytes else None)
    by false e = refl
    by true e = absurd (other (IsUtf8-from_is_utf8 bytes e))

-- ---- each below the next is each below all that follow

up_is : (xs : List (List ℕ)) → ascends xs ≡ true → IsAscending xs
up_is [] up = tt
up_is (x ∷ []) up = (tt, tt)
up_is (x ∷ y ∷ xs) up = more (up_is (y ∷ xs) (and_right (is_lt (slice_cmp nat_cmp x y)) (ascends (y ∷ xs)) up))
  where
    is_less : (o : Ordering) → is_lt o ≡ true → o ≡ Less
    is_less Less e = refl
    is_less Equal e = absurd (false≢true e)
    is_less Greater e = absurd (false≢true e)

    less : slice_cmp nat_cmp x y ≡ Less
    less = is_less (slice_cmp nat_cmp x y) (and_left (is_lt (slice_cmp nat_cmp x y)) (ascends (y ∷ xs)) up)

    more : IsAscending (y ∷ xs) → IsAscending (x ∷ y ∷ xs)
    more rest = ((less, under_less x y xs less rest.0), rest)

is_up : (xs : List (List ℕ)) → IsAscending xs → ascends xs ≡ true
is_up [] up = refl
is_up (x ∷ []) up = refl
is_up (x ∷ y ∷ xs) up = ap (λ o. is_lt o && ascends (y ∷ xs)) up.0.0 ∙ is_up (y ∷ xs) up.1

-- ---- a text that a line feed ends

but_end : (parts : List (List ℕ)) (x : List ℕ) → but_last (parts ++ x ∷ []) ≡ parts
but_end [] x = refl
but_end (p ∷ parts) x = by parts (but_end parts x)
  where
    by : (parts : List (List ℕ)) → but_last (parts ++ x ∷ []) ≡ parts → but_last (p ∷ (parts ++ x ∷ [])) ≡ p ∷ parts
    by [] again = refl
    by (r ∷ parts) again = ap (λ ps. p ∷ ps) again

-- a part more is a part more of what begins with one
abbrev IsSome : List (List ℕ) → Type 0
IsSome [] = ⊥
IsSome (p ∷ parts) = Unit {0}

some_onto : (b : ℕ) (parts : List (List ℕ)) → IsSome (onto_first b parts)
some_onto b [] = tt
some_onto b (p ∷ parts) = tt

some_parts : (bytes : List ℕ) → IsSome (at_feed bytes)
some_parts [] = tt
some_parts (b ∷ bytes) = by (b == 10)
  where
    by : (t : Bool) → IsSome (if t then [] ∷ at_feed bytes else onto_first b (at_feed bytes))
    by true = tt
    by false = some_onto b (at_feed bytes)

onto_more : (b : ℕ) (parts : List (List ℕ)) → IsSome parts → onto_first b (parts ++ [] ∷ []) ≡ onto_first b parts ++ [] ∷ []
onto_more b [] none = absurd none
onto_more b (p ∷ parts) some = refl

parts_end : (front : List ℕ) → at_feed (front ++ 10 ∷ []) ≡ at_feed front ++ [] ∷ []
parts_end [] = refl
parts_end (b ∷ front) = ap (λ ps. if b == 10 then [] ∷ ps else onto_first b ps) (parts_end front) ∙ by (b == 10)
  where
    by : (t : Bool) → (if t then [] ∷ (at_feed front ++ [] ∷ []) else onto_first b (at_feed front ++ [] ∷ [])) ≡ (if t then [] ∷ at_feed front else onto_first b (at_feed front)) ++ [] ∷ []
    by true = refl
    by false = onto_more b (at_feed front) (some_parts front)

lines_end : (front : List ℕ) → lines (front ++ 10 ∷ []) ≡ at_feed front
lines_end front = ap but_last (parts_end front) ∙ but_end (at_feed front) []

lines_onto : (b : ℕ) (parts : List (List ℕ)) → IsSome parts → version_lines (onto_first b parts) ≡ b ∷ version_lines parts
lines_onto b [] none = absurd none
lines_onto b (p ∷ parts) some = refl

-- its lines, written again, are the text
lines_text : (front : List ℕ) → version_lines (at_feed front) ≡ front ++ 10 ∷ []
lines_text [] = refl
lines_text (b ∷ front) = by (b == 10) refl (lines_text front)
  where
    by : (t : Bool) → (b == 10) ≡ t → version_lines (at_feed front) ≡ front ++ 10 ∷ [] → version_lines (if t then [] ∷ at_feed front else onto_first b (at_feed front)) ≡ b ∷ (front ++ 10 ∷ [])
    by true e again = ap (λ text. 10 ∷ text) again ∙ ap (λ c. c ∷ (front ++ 10 ∷ [])) (sym (eqb-true b 10 e))
    by false e again = lines_onto b (at_feed front) (some_parts front) ∙ ap (λ text. b ∷ text) again

-- ---- which texts are an index

-- of lines that may stand there, the text is that of their set where they ascend
same_test : (bytes : List ℕ) (xs : List (List ℕ)) → list_all is_listed xs ≡ true → bytes ≡ version_lines xs → bytes_eq bytes (index_text xs) ≡ ascends xs
same_test bytes xs fine text = by (ascends xs) refl (bytes_eq bytes (index_text xs)) refl
  where
    by : (a : Bool) → ascends xs ≡ a → (b : Bool) → bytes_eq bytes (index_text xs) ≡ b → b ≡ a
    by true up true e = refl
    by false up false e = refl
    by true up false e = absurd (false≢true (sym e ∙ (bytes_eq-Decides bytes (index_text xs)).1 (text ∙ ap version_lines (sym (set_itself xs (up_is xs up))))))
    by false up true e = absurd (false≢true (sym up ∙ is_up xs (text_ascends xs fine (sym text ∙ (bytes_eq-Decides bytes (index_text xs)).0 e))))

-- so an index is read off its lines
is_of_lines : (bytes : List ℕ) (xs : List (List ℕ)) → length bytes ≤ most_index → bytes ≡ version_lines xs → is_index bytes xs ≡ (ascends xs && list_all is_listed xs)
is_of_lines bytes xs short text = by (list_all is_listed xs) refl
  where
    last : (a : Bool) → a ≡ (a && true)
    last true = refl
    last false = refl

    none : (a : Bool) → false ≡ (a && false)
    none true = refl
    none false = refl

    by : (t : Bool) → list_all is_listed xs ≡ t → (t && (nat_le (length bytes) most_index && bytes_eq bytes (index_text xs))) ≡ (ascends xs && t)
    by false e = none (ascends xs)
    by true e = ap (λ b. b && bytes_eq bytes (index_text xs)) (le-leb (length bytes) most_index short) ∙ same_test bytes xs e text ∙ last (ascends xs)

pub some_front : (bytes front : List ℕ) → length bytes ≤ most_index → bytes ≡ front ++ 10 ∷ [] → of_lines (at_feed front) ≡ read_index bytes
some_front bytes front short ended = sym
    (ap (λ xs. if is_index bytes xs then Some xs else None) (ap lines ended ∙ lines_end front)
    ∙ ap (λ b. if b then Some (at_feed front) else None) (is_of_lines bytes (at_feed front) short (ended ∙ sym (lines_text front))))

-- what `strip_suffix` says of a line feed
pub ended : (bytes front : List ℕ) → (pointwise nat_eq (drop (length bytes - 1) bytes) (10 ∷ []) ≡ true) × (front ≡ take (length bytes - 1) bytes) × (length front + 1 ≡ length bytes) → bytes ≡ front ++ 10 ∷ []
ended bytes front cases = sym (take-append-drop (length bytes - 1) bytes) ∙ ap (λ end. take (length bytes - 1) bytes ++ end) ((bytes_eq-Decides (drop (length bytes - 1) bytes) (10 ∷ [])).0 cases.0) ∙ ap (λ f. f ++ 10 ∷ []) (sym cases.1)

not_ended : (bytes : List ℕ) → pointwise nat_eq (drop (length bytes - 1) bytes) (10 ∷ []) ≡ false → (front : List ℕ) → bytes ≡ front ++ 10 ∷ [] → ⊥
not_ended bytes none front is = false≢true (sym none ∙ ap (λ bs. pointwise nat_eq (drop (length bs - 1) bs) (10 ∷ [])) is ∙ (bytes_eq-Decides (drop (length (front ++ 10 ∷ []) - 1) (front ++ 10 ∷ [])) (10 ∷ [])).1 cut)
  where
    long : length (front ++ 10 ∷ []) - 1 ≡ length front
    long = let both = length-append front (10 ∷ []) in omega (arith, both)

    cut : drop (length (front ++ 10 ∷ []) - 1) (front ++ 10 ∷ []) ≡ 10 ∷ []
    cut = ap (λ n. drop n (front ++ 10 ∷ [])) long ∙ drop_at front (10 ∷ []) (length front) refl

-- the text of a version at least ends with a line feed
has_end : (v : List ℕ) (xs : List (List ℕ)) → (front : List ℕ) × (version_lines (v ∷ xs) ≡ front ++ 10 ∷ [])
has_end v [] = (v, refl)
has_end v (x ∷ xs) = let more = has_end x xs in (v ++ 10 ∷ more.0, ap (λ text. v ++ 10 ∷ text) more.1 ∙ sym (append_assoc v (10 ∷ more.0) (10 ∷ [])))

pub no_front : (bytes : List ℕ) → (bytes ≡ [] → ⊥) → pointwise nat_eq (drop (length bytes - 1) bytes) (10 ∷ []) ≡ false → None ≡ read_index bytes
no_front bytes filled other = by (is_index bytes (lines bytes)) refl
  where
    none : (xs : List (List ℕ)) → bytes ≡ version_lines xs → ⊥
    none [] text = filled text
    none (x ∷ xs) text = let end = has_end x xs in not_ended bytes other end.0 (text ∙ end.1)

    by : (b : Bool) → is_index bytes (lines bytes) ≡ b → None ≡ (if b then Some (lines bytes) else None)
    by false e = refl
    by true e = absurd (none (lines bytes) ((of_index bytes (lines bytes) refl e).text))
