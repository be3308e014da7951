-- Where the exclusions of given texts stand in a fork, and what one more changes.
use Rattle.std.proofs.Common.{◌≡◌, ◌≢◌, ◌<◌, ℕ, Bool, true, false, not, ◌&&◌, ◌||◌, List, [], ◌∷◌, ◌++◌, filter, length, refl, sym, ap, ◌∙◌, arith, if◌then◌else◌}
use Rattle.std.specs.List.{list_any}
use Rattle.std.specs.Str.{bytes_eq}
use Rattle.std.proofs.Math.Bool.{or-false}
use Rattle.std.proofs.lemmas.Bool.{and_parts, false≢true, not-true, or_parts, true≢false}
use Rattle.std.proofs.lemmas.List.Folds.{list_any-append}
use Rattle.std.proofs.lemmas.Map.Views.{any-filter_same}
use Rattle.std.proofs.lemmas.Slice.Eq.{bytes_eq-Decides}
use Rattle.model_types.specs.declared.dependency.Dependency.{Dependency}
use Rattle.model_types.specs.declared.dependency.Exclusion.{Exclusion}
use Rattle.collector.specs.Excluding.{excludes, is_excluded, is_named}
use Rattle.collector.specs.Hashes.{hash_of, leads_right}
use Rattle.collector.specs.Nodes.{HasMore, HasSame, IsSplit, goes_right, is_same, stands}

-- a test that is passed by nothing, where a wider one isn't either
implied : (p q : Exclusion → Bool) → ((e : Exclusion) → q e ≡ true → p e ≡ true) → (xs : List Exclusion) → list_any p xs ≡ false → list_any q xs ≡ false
implied p q wider [] none = refl
implied p q wider (x ∷ xs) none = by (q x) refl (implied p q wider xs (or_parts (p x) (list_any p xs) none).1)
  where
    by : (b : Bool) → q x ≡ b → list_any q xs ≡ false → list_any q (x ∷ xs) ≡ false
    by true is rest = absurd (true≢false (sym (wider x is) ∙ (or_parts (p x) (list_any p xs) none).0))
    by false is rest = ap (λ b. b || list_any q xs) is ∙ rest

-- exclusions of the same texts have the same number
one_number : (group artifact : List ℕ) (e : Exclusion) → is_same group artifact e ≡ true → hash_of e.group e.artifact ≡ hash_of group artifact
one_number group artifact e same =
    let parts = and_parts (bytes_eq e.group group) (bytes_eq e.artifact artifact) same in
    ap (λ g. hash_of g e.artifact) ((bytes_eq-Decides e.group group).0 parts.0) ∙ ap (hash_of group) ((bytes_eq-Decides e.artifact artifact).0 parts.1)

-- where the number has the bit, they stand on the right alone
pub right_alone : (hash bit : ℕ) (group artifact : List ℕ) (left right : List Exclusion) → hash ≡ hash_of group artifact → IsSplit bit left right → leads_right hash bit ≡ true
    → list_any (is_same group artifact) right ≡ list_any (is_same group artifact) (left ++ right)
right_alone hash bit group artifact left right is split there =
    let none : list_any (is_same group artifact) left ≡ false =
    implied (goes_right bit) (is_same group artifact) (λ e same. ap (λ h. leads_right h bit) (one_number group artifact e same ∙ sym is) ∙ there) left split.left_lack in
    sym (list_any-append (is_same group artifact) left right ∙ ap (λ b. b || list_any (is_same group artifact) right) none)

-- where it lacks it, on the left
pub left_alone : (hash bit : ℕ) (group artifact : List ℕ) (left right : List Exclusion) → hash ≡ hash_of group artifact → IsSplit bit left right → leads_right hash bit ≡ false
    → list_any (is_same group artifact) left ≡ list_any (is_same group artifact) (left ++ right)
left_alone hash bit group artifact left right is split there =
    let none : list_any (is_same group artifact) right ≡ false =
    implied (λ e. not (goes_right bit e)) (is_same group artifact) (λ e same. ap (λ h. not (leads_right h bit)) (one_number group artifact e same ∙ sym is) ∙ ap not there) right split.right_have in
    sym (list_any-append (is_same group artifact) left right ∙ ap (λ b. list_any (is_same group artifact) left || b) none ∙ or-false _)

or_with_true : (b : Bool) → (b || true) ≡ true
or_with_true true = refl
or_with_true false = refl

-- with one more there are some
some : (old : List Exclusion) (one : Exclusion) (new : List Exclusion) → HasMore old one new → 0 < length new
some old one new more = by new (more (λ e. true))
  where
    by : (new : List Exclusion) → list_any (λ e. true) new ≡ (list_any (λ e. true) old || true) → 0 < length new
    by [] e = absurd (false≢true (e ∙ or_with_true (list_any (λ e. true) old)))
    by (x ∷ new) e = omega arith

-- one more on the right of a fork, and on the left
pub more_right : (hash bit : ℕ) (left right new : List Exclusion) (one : Exclusion) → hash ≡ hash_of one.group one.artifact → IsSplit bit left right → leads_right hash bit ≡ true → HasMore right one new → IsSplit bit left new
more_right hash bit left right new one is split there more = record {
  left_some = split.left_some;
  right_some = some right one new more;
  left_lack = split.left_lack;
  right_have = more (λ e. not (goes_right bit e)) ∙ ap (λ b. b || not (goes_right bit one)) split.right_have ∙ ap (λ h. not (leads_right h bit)) (sym is) ∙ ap not there;
}

pub more_left : (hash bit : ℕ) (left right new : List Exclusion) (one : Exclusion) → hash ≡ hash_of one.group one.artifact → IsSplit bit left right → leads_right hash bit ≡ false → HasMore left one new → IsSplit bit new right
more_left hash bit left right new one is split there more = record {
  left_some = some left one new more;
  right_some = split.right_some;
  left_lack = more (goes_right bit) ∙ ap (λ b. b || goes_right bit one) split.left_lack ∙ ap (λ h. leads_right h bit) (sym is) ∙ there;
  right_have = split.right_have;
}

grouped : (a b c : Bool) → (a || (b || c)) ≡ ((a || b) || c)
grouped true b c = refl
grouped false b c = refl

exchanged : (a b c : Bool) → ((a || b) || c) ≡ ((a || c) || b)
exchanged true b c = refl
exchanged false true true = refl
exchanged false true false = refl
exchanged false false true = refl
exchanged false false false = refl

-- the whole fork then has one more
pub whole_right : (old left right new whole : List Exclusion) (one : Exclusion) → left ++ right ≡ old → HasMore right one new → whole ≡ left ++ new → HasMore old one whole
whole_right old left right new whole one before more after = λ test.
    ap (list_any test) after ∙ list_any-append test left new ∙ ap (λ b. list_any test left || b) (more test) ∙ grouped (list_any test left) (list_any test right) (test one)
    ∙ ap (λ b. b || test one) (sym (list_any-append test left right) ∙ ap (list_any test) before)

pub whole_left : (old left right new whole : List Exclusion) (one : Exclusion) → left ++ right ≡ old → HasMore left one new → whole ≡ new ++ right → HasMore old one whole
whole_left old left right new whole one before more after = λ test.
    ap (list_any test) after ∙ list_any-append test new right ∙ ap (λ b. b || list_any test right) (more test) ∙ exchanged (list_any test left) (test one) (list_any test right)
    ∙ ap (λ b. b || test one) (sym (list_any-append test left right) ∙ ap (list_any test) before)

-- one more at the end of a list
pub behind : (items : List Exclusion) (one : Exclusion) → HasMore items one (items ++ one ∷ [])
behind items one = λ test. list_any-append test items (one ∷ []) ∙ ap (λ b. list_any test items || b) (or-false (test one))

filled : (xs : List Exclusion) → xs ≢ [] → 0 < length xs
filled [] some = absurd (some refl)
filled (x ∷ xs) some = omega arith

-- the two sides of a bit
pub split : (bit : ℕ) (items left right : List Exclusion) → left ≡ filter (stands bit false) items → right ≡ filter (stands bit true) items → left ≢ [] → right ≢ [] → IsSplit bit left right
split bit items left right lefts rights some_left some_right = record {
  left_some = filled left some_left;
  right_some = filled right some_right;
  left_lack = ap (list_any (goes_right bit)) lefts ∙ any-filter_same (goes_right bit) (stands bit false) false (λ e is. ap not is) items;
  right_have = ap (list_any (λ e. not (goes_right bit e))) rights ∙ any-filter_same (λ e. not (goes_right bit e)) (stands bit true) false (λ e is. not-true (goes_right bit e) is) items;
}

moved : (a b c : Bool) → (a || (b || c)) ≡ (b || (a || c))
moved true true c = refl
moved true false c = refl
moved false true c = refl
moved false false c = refl

-- a test is passed by some of the two sides where it is by some of all
both : (bit : ℕ) (test : Exclusion → Bool) (items : List Exclusion) → (list_any test (filter (stands bit false) items) || list_any test (filter (stands bit true) items)) ≡ list_any test items
both bit test [] = refl
both bit test (x ∷ items) = by (goes_right bit x) refl (both bit test items)
  where
    by : (b : Bool) → goes_right bit x ≡ b → (list_any test (filter (stands bit false) items) || list_any test (filter (stands bit true) items)) ≡ list_any test items
        → (list_any test (filter (stands bit false) (x ∷ items)) || list_any test (filter (stands bit true) (x ∷ items))) ≡ (test x || list_any test items)
    by true is rest =
        ap (λ b. list_any test (if not b then x ∷ filter (stands bit false) items else filter (stands bit false) items) || list_any test (if b then x ∷ filter (stands bit true) items else filter (stands bit true) items)) is
        ∙ moved (list_any test (filter (stands bit false) items)) (test x) (list_any test (filter (stands bit true) items)) ∙ ap (λ b. test x || b) rest
    by false is rest =
        ap (λ b. list_any test (if not b then x ∷ filter (stands bit false) items else filter (stands bit false) items) || list_any test (if b then x ∷ filter (stands bit true) items else filter (stands bit true) items)) is
        ∙ sym (grouped (test x) (list_any test (filter (stands bit false) items)) (list_any test (filter (stands bit true) items))) ∙ ap (λ b. test x || b) rest

pub sides : (bit : ℕ) (items left right whole : List Exclusion) → left ≡ filter (stands bit false) items → right ≡ filter (stands bit true) items → whole ≡ left ++ right → HasSame items whole
sides bit items left right whole lefts rights is = λ test. ap (list_any test) is ∙ list_any-append test left right ∙ (λ i. list_any test (lefts i) || list_any test (rights i)) ∙ both bit test items

-- exclusions of the same texts exclude the same
excludes_same : (d : Dependency) (one e : Exclusion) → is_same one.group one.artifact e ≡ true → excludes d e ≡ excludes d one
excludes_same d one e same =
    let parts = and_parts (bytes_eq e.group one.group) (bytes_eq e.artifact one.artifact) same in
    ap (λ g. is_named g d.group && is_named e.artifact d.artifact) ((bytes_eq-Decides e.group one.group).0 parts.0)
    ∙ ap (λ a. is_named one.group d.group && is_named a d.artifact) ((bytes_eq-Decides e.artifact one.artifact).0 parts.1)

-- one more of the same texts changes nothing
pub covered : (xs : List Exclusion) (one : Exclusion) (d : Dependency) → list_any (is_same one.group one.artifact) xs ≡ true → is_excluded xs d ≡ (is_excluded xs d || excludes d one)
covered xs one d there = by (is_excluded xs d) refl (excludes d one) refl
  where
    by : (b : Bool) → is_excluded xs d ≡ b → (c : Bool) → excludes d one ≡ c → b ≡ (b || c)
    by true some c is = refl
    by false none false is = refl
    by false none true is = absurd (false≢true (sym (implied (excludes d) (is_same one.group one.artifact) (λ e same. excludes_same d one e same ∙ is) xs none) ∙ there))
