-- The text of an index: its lines are its versions, and what is read was written so.
use Rattle.std.proofs.Common.{◌≡◌, ℕ, ◌≤◌, ◌+◌, Bool, true, false, ◌&&◌, ◌||◌, ◌==◌, nat_le, not, List, [], ◌∷◌, ◌++◌, fold, length, Some, None, is_some, unwrap_or, refl, arith, sym, ap, subst, ◌∙◌, if◌then◌else◌}
use Rattle.std.specs.List.{count_by, list_all, onto_first, slice_split}
use Rattle.std.specs.Str.{bytes_eq, is_utf8}
use Rattle.std.specs.declared.cmp.Ordering.{Ordering}
use Rattle.std.specs.declared.cmp.Ordering.TheVariants.{Less, Equal, Greater}
use Rattle.std.specs.Ordering.{eq_by_cmp, nat_cmp}
use Rattle.std.specs.Cmp.Lexicographic.{slice_cmp}
use Rattle.std.proofs.lemmas.Bool.{eqb-true, false≢true, le-leb}
use Rattle.std.proofs.lemmas.Bool.Decides.{nat_tests}
use Rattle.std.proofs.lemmas.List.{length-append}
use Rattle.std.proofs.lemmas.List.Splits.{length-slice_split}
use Rattle.std.proofs.lemmas.Slice.Eq.{bytes_eq-Decides}
use Rattle.mvn_base.specs.Names.{is_version, is_version_byte, is_filled, is_dots, has_expression}
use Rattle.mvn_base.proofs.Cuts.{Lacks, and_left, and_right, lacks_failing}
use Rattle.version_index.specs.Sets.{IsAscending, has_version, put_by, put_version, version_set}
use Rattle.version_index.specs.Texts.{IsIndexOf, but_last, index_text, is_index, is_listed, lines, most_index, read_index, version_lines}
use Rattle.version_index.proofs.Sets.{all_ascends, has_all, has_set, same_version, same_versions, set_ascends, set_itself, version_itself}

abbrev cmp : List ℕ → List ℕ → Ordering
cmp = slice_cmp nat_cmp

-- ---- how long a text is

-- a text grows with each version
pub lines_grow : (xs : List (List ℕ)) (v : List ℕ) → length (version_lines xs) ≤ length (version_lines (put_version xs v))
lines_grow [] v = omega arith
lines_grow (x ∷ xs) v = by (cmp v x) (lines_grow xs v)
  where
    by : (o : Ordering) → length (version_lines xs) ≤ length (version_lines (put_version xs v)) → length (version_lines (x ∷ xs)) ≤ length (version_lines (put_by o v x xs (put_version xs v)))
    by Less again = let long = length-append v (10 ∷ version_lines (x ∷ xs)) in omega (arith, long)
    by Equal again = omega arith
    by Greater again = let a = length-append x (10 ∷ version_lines xs) in let b = length-append x (10 ∷ version_lines (put_version xs v)) in omega (arith, again, a, b)

pub lines_grow_all : (more xs : List (List ℕ)) → length (version_lines xs) ≤ length (version_lines (fold put_version xs more))
lines_grow_all [] xs = omega arith
lines_grow_all (v ∷ more) xs = let a = lines_grow xs v in let b = lines_grow_all more (put_version xs v) in omega (arith, a, b)

-- so fewer versions have no longer a text
pub lines_fewer : (xs ys : List (List ℕ)) → IsAscending xs → IsAscending ys → ((q : List ℕ) → has_version q xs ≡ true → has_version q ys ≡ true) → length (version_lines xs) ≤ length (version_lines ys)
lines_fewer xs ys up up' less =
    let grown = lines_grow_all ys xs in
    let same : fold put_version xs ys ≡ ys = same_versions (fold put_version xs ys) ys (all_ascends ys xs up) up' (λ q. has_all q ys xs ∙ absorb (has_version q ys) (has_version q xs) (less q)) in
    let long = ap (λ t. length (version_lines t)) same in
    omega (arith, grown, long)
  where
    absorb : (a b : Bool) → (b ≡ true → a ≡ true) → (a || b) ≡ a
    absorb true b is = refl
    absorb false true is = absurd (false≢true (is refl))
    absorb false false is = refl

-- ---- its lines

abbrev pub at_feed : List ℕ → List (List ℕ)
at_feed bytes = slice_split (λ b. b == 10) bytes

-- what is split has a part
more_than_last : (v : List ℕ) (bytes : List ℕ) → but_last (v ∷ at_feed bytes) ≡ v ∷ but_last (at_feed bytes)
more_than_last v bytes = by (at_feed bytes) (length-slice_split (λ b. b == 10) bytes)
  where
    by : (parts : List (List ℕ)) → length parts ≡ count_by (λ b. b == 10) bytes + 1 → but_last (v ∷ parts) ≡ v ∷ but_last parts
    by [] long = absurd (none long)
      where
        none : length {A = List ℕ} [] ≡ count_by (λ b. b == 10) bytes + 1 → ⊥
        none e = omega (arith, e)
    by (p ∷ parts) long = refl

-- a version has no line feed
feed_is_no_version : is_version_byte 10 ≡ false
unfolding is_version_byte
feed_is_no_version = refl

version_lacks_feed : (v : List ℕ) → is_listed v ≡ true → Lacks 10 v
unfolding is_version
version_lacks_feed v fine = lacks_failing 10 is_version_byte feed_is_no_version v
    (and_right (is_filled v && not (is_dots v)) (list_all is_version_byte v)
    (and_left (is_filled v && not (is_dots v) && list_all is_version_byte v) (not (has_expression v)) (and_left (is_version v) (is_utf8 v) fine)))

-- a text up to the first line feed is the first part
first_line : (v rest : List ℕ) → Lacks 10 v → at_feed (v ++ 10 ∷ rest) ≡ v ∷ at_feed rest
first_line [] rest lacks = refl
first_line (b ∷ v) rest lacks = ap (λ t. if t then [] ∷ at_feed (v ++ 10 ∷ rest) else onto_first b (at_feed (v ++ 10 ∷ rest))) (other (b == 10) refl) ∙ ap (onto_first b) (first_line v rest lacks.1)
  where
    other : (t : Bool) → (b == 10) ≡ t → (b == 10) ≡ false
    other false e = e
    other true e = absurd (lacks.0 (eqb-true b 10 e))

-- so the lines of a text are the versions
pub lines_back : (xs : List (List ℕ)) → list_all is_listed xs ≡ true → lines (version_lines xs) ≡ xs
lines_back [] fine = refl
lines_back (v ∷ xs) fine =
    ap but_last (first_line v (version_lines xs) (version_lacks_feed v (and_left (is_listed v) (list_all is_listed xs) fine)))
    ∙ more_than_last v (version_lines xs) ∙ ap (λ ys. v ∷ ys) (lines_back xs (and_right (is_listed v) (list_all is_listed xs) fine))

-- ---- which bytes are an index

-- all of some pass, where all of more do
pub all_of : (test : List ℕ → Bool) (xs more : List (List ℕ)) → list_all test more ≡ true → ((q : List ℕ) → has_version q xs ≡ true → has_version q more ≡ true) → list_all test xs ≡ true
all_of test [] more all among = refl
all_of test (x ∷ xs) more all among = ap (λ b. b && list_all test xs) (one more all (among x (ap (λ b. b || has_version x xs) (version_itself x)))) ∙ all_of test xs more all (λ q is. among q (later q is))
  where
    one : (more : List (List ℕ)) → list_all test more ≡ true → has_version x more ≡ true → test x ≡ true
    one [] all is = absurd (false≢true is)
    one (y ∷ more) all is = by (eq_by_cmp cmp x y) refl (one more (and_right (test y) (list_all test more) all))
      where
        by : (b : Bool) → eq_by_cmp cmp x y ≡ b → (has_version x more ≡ true → test x ≡ true) → test x ≡ true
        by true e again = ap test (same_version x y e) ∙ and_left (test y) (list_all test more) all
        by false e again = again (sym (ap (λ b. b || has_version x more) e) ∙ is)

    later : (q : List ℕ) → has_version q xs ≡ true → (eq_by_cmp cmp q x || has_version q xs) ≡ true
    later q is = by (eq_by_cmp cmp q x)
      where
        by : (b : Bool) → (b || has_version q xs) ≡ true
        by true = refl
        by false = is

-- those of a set are those of its list
pub set_listed : (xs : List (List ℕ)) → list_all is_listed xs ≡ true → list_all is_listed (version_set xs) ≡ true
set_listed xs fine = all_of is_listed (version_set xs) xs fine (λ q is. sym (has_set q xs) ∙ is)

-- where the text of a set has all lines of a list of versions, the list is the set
pub text_ascends : (xs : List (List ℕ)) → list_all is_listed xs ≡ true → version_lines xs ≡ index_text xs → IsAscending xs
text_ascends xs fine e = subst IsAscending (sym (lines_back (version_set xs) (set_listed xs fine)) ∙ ap lines (sym e) ∙ lines_back xs fine) (set_ascends xs)

nothing_is : {A : Type 0} (x : A) → None ≡ Some x → ⊥
nothing_is x e = false≢true (ap is_some e)

le_is : (a b : ℕ) → nat_le a b ≡ true → a ≤ b
le_is a b e = grind (arith, nat_tests, e)

-- the text of valid versions, not too long, is read back
pub read_back : (xs : List (List ℕ)) → IsAscending xs → list_all is_listed xs ≡ true → length (version_lines xs) ≤ most_index → read_index (version_lines xs) ≡ Some xs
read_back xs up fine short =
    ap (λ vs. if is_index (version_lines xs) vs then Some vs else None) (lines_back xs fine)
    ∙ ap (λ b. if b then Some xs else None) (ap (λ b. b && (nat_le (length (version_lines xs)) most_index && bytes_eq (version_lines xs) (index_text xs))) fine
    ∙ ap (λ b. b && bytes_eq (version_lines xs) (index_text xs)) (le-leb (length (version_lines xs)) most_index short)
    ∙ ap (λ ys. bytes_eq (version_lines xs) (version_lines ys)) (set_itself xs up) ∙ (bytes_eq-Decides (version_lines xs) (version_lines xs)).1 refl)

-- of versions that an index has
pub of_index : (bytes : List ℕ) (xs : List (List ℕ)) → xs ≡ lines bytes → is_index bytes xs ≡ true → IsIndexOf xs bytes
of_index bytes xs are is = record { ascending = up; valid = fine; short = le_is (length bytes) most_index (and_left (nat_le (length bytes) most_index) (bytes_eq bytes (index_text xs)) rest); text = text ∙ ap version_lines (set_itself xs up) }
  where
    fine : list_all is_listed xs ≡ true
    fine = and_left (list_all is_listed xs) (nat_le (length bytes) most_index && bytes_eq bytes (index_text xs)) is

    rest : (nat_le (length bytes) most_index && bytes_eq bytes (index_text xs)) ≡ true
    rest = and_right (list_all is_listed xs) (nat_le (length bytes) most_index && bytes_eq bytes (index_text xs)) is

    text : bytes ≡ index_text xs
    text = (bytes_eq-Decides bytes (index_text xs)).0 (and_right (nat_le (length bytes) most_index) (bytes_eq bytes (index_text xs)) rest)

    up : IsAscending xs
    up = subst IsAscending (sym (lines_back (version_set xs) (set_listed xs fine)) ∙ ap lines (sym text) ∙ sym are) (set_ascends xs)

-- what is read was written so
pub read_is : (bytes : List ℕ) (xs : List (List ℕ)) → read_index bytes ≡ Some xs → IsIndexOf xs bytes
read_is bytes xs is = by (is_index bytes (lines bytes)) refl is
  where
    by : (b : Bool) → is_index bytes (lines bytes) ≡ b → (if b then Some (lines bytes) else None) ≡ Some xs → IsIndexOf xs bytes
    by true e is = let found : lines bytes ≡ xs = ap (λ o. unwrap_or o []) is in of_index bytes xs (sym found) (ap (is_index bytes) (sym found) ∙ e)
    by false e is = absurd (nothing_is xs is)

-- versions that were read: valid, with no long text, and a set
pub read_fine : (bytes : List ℕ) (xs : List (List ℕ)) → read_index bytes ≡ Some xs → (list_all is_listed xs ≡ true) × (length (version_lines xs) ≤ most_index) × (version_set xs ≡ xs)
read_fine bytes xs read = let is = read_is bytes xs read in (is.valid, subst (λ t. length t ≤ most_index) is.text is.short, set_itself xs is.ascending)

-- and an index is read
pub index_read : (bytes : List ℕ) (xs : List (List ℕ)) → IsIndexOf xs bytes → read_index bytes ≡ Some xs
index_read bytes xs is = ap read_index is.text ∙ read_back xs is.ascending is.valid (subst (λ t. length t ≤ most_index) is.text is.short)
