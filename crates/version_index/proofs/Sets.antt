-- Ascending lists of versions: a list with one more, lists with the same versions, and that the order of entering is no matter.
use Rattle.std.proofs.Common.{◌≡◌, ℕ, Bool, true, false, ◌||◌, List, [], ◌∷◌, fold, refl, sym, ap, ◌∙◌}
use Rattle.std.specs.declared.cmp.Ordering.{Ordering}
use Rattle.std.specs.declared.cmp.Ordering.TheVariants.{Less, Equal, Greater}
use Rattle.std.specs.FinMap as finite
use Rattle.std.specs.Ordering.{eq_by_cmp, is_eq, nat_cmp, ordering_reverse}
use Rattle.std.specs.Cmp.Lexicographic.{nat_list_cmp_total, slice_cmp}
use Rattle.std.proofs.lemmas.Bool.{false≢true}
use Rattle.std.proofs.lemmas.Cmp.{eq_by_cmp_equiv}
use Rattle.version_index.specs.Sets.{IsAscending, IsUnder, has_version, put_by, put_version, version_set}

abbrev cmp : List ℕ → List ℕ → Ordering
cmp = slice_cmp nat_cmp

-- versions that are one by the order are equal
pub same_version : (v x : List ℕ) → eq_by_cmp (slice_cmp nat_cmp) v x ≡ true → v ≡ x
same_version v x is = finite.slice_cmp-IsAntisymmetric finite.nat_cmp-IsAntisymmetric v x (equal (cmp v x) is)
  where
    equal : (o : Ordering) → is_eq o ≡ true → o ≡ Equal
    equal Less e = absurd (false≢true e)
    equal Equal e = refl
    equal Greater e = absurd (false≢true e)

-- a version is itself
pub version_itself : (v : List ℕ) → eq_by_cmp (slice_cmp nat_cmp) v v ≡ true
version_itself v = (eq_by_cmp_equiv nat_list_cmp_total).refl v

-- what is below a lesser one is below all above it
pub under_less : (v x : List ℕ) (xs : List (List ℕ)) → cmp v x ≡ Less → IsUnder x xs → IsUnder v xs
under_less v x [] less under = tt
under_less v x (y ∷ xs) less under = (nat_list_cmp_total.trans v x y less under.0, under_less v x xs less under.1)

-- the other way round
turned : (v x : List ℕ) → cmp v x ≡ Greater → cmp x v ≡ Less
turned v x e = nat_list_cmp_total.antisymm x v ∙ ap ordering_reverse e

under_put : (y v : List ℕ) (xs : List (List ℕ)) → IsUnder y xs → cmp y v ≡ Less → IsUnder y (put_version xs v)
under_put y v [] under less = (less, tt)
under_put y v (x ∷ xs) under less = by (cmp v x) (under_put y v xs under.1 less)
  where
    by : (o : Ordering) → IsUnder y (put_version xs v) → IsUnder y (put_by o v x xs (put_version xs v))
    by Less again = (less, under)
    by Equal again = under
    by Greater again = (under.0, again)

-- with one more it still ascends
pub put_ascends : (xs : List (List ℕ)) (v : List ℕ) → IsAscending xs → IsAscending (put_version xs v)
put_ascends [] v up = (tt, tt)
put_ascends (x ∷ xs) v up = by (cmp v x) refl (put_ascends xs v up.1)
  where
    by : (o : Ordering) → cmp v x ≡ o → IsAscending (put_version xs v) → IsAscending (put_by o v x xs (put_version xs v))
    by Less e again = ((e, under_less v x xs e up.0), up)
    by Equal e again = up
    by Greater e again = (under_put x v xs up.0 (turned v x e), again)

-- and has that one more
pub has_put : (q v : List ℕ) (xs : List (List ℕ)) → has_version q (put_version xs v) ≡ (eq_by_cmp (slice_cmp nat_cmp) q v || has_version q xs)
has_put q v [] = refl
has_put q v (x ∷ xs) = by (cmp v x) refl (has_put q v xs)
  where
    same : cmp v x ≡ Equal → v ≡ x
    same e = same_version v x (ap is_eq e)

    twice : (a b : Bool) → (a || b) ≡ (a || (a || b))
    twice true b = refl
    twice false b = refl

    swap : (a b c : Bool) → (a || (b || c)) ≡ (b || (a || c))
    swap true true c = refl
    swap true false c = refl
    swap false b c = refl

    by : (o : Ordering) → cmp v x ≡ o → has_version q (put_version xs v) ≡ (eq_by_cmp cmp q v || has_version q xs)
        → has_version q (put_by o v x xs (put_version xs v)) ≡ (eq_by_cmp cmp q v || (eq_by_cmp cmp q x || has_version q xs))
    by Less e again = refl
    by Equal e again = twice (eq_by_cmp cmp q x) (has_version q xs) ∙ ap (λ y. eq_by_cmp cmp q y || (eq_by_cmp cmp q x || has_version q xs)) (sym (same e))
    by Greater e again = ap (λ b. eq_by_cmp cmp q x || b) again ∙ swap (eq_by_cmp cmp q x) (eq_by_cmp cmp q v) (has_version q xs)

-- ---- lists with the same versions are one

-- what is below all isn't there
under_not : (v : List ℕ) (xs : List (List ℕ)) → IsUnder v xs → has_version v xs ≡ false
under_not v [] under = refl
under_not v (x ∷ xs) under = ap (λ o. is_eq o || has_version v xs) under.0 ∙ under_not v xs under.1

-- the first isn't in a list that it is below
first_not : (v y : List ℕ) (ys : List (List ℕ)) → cmp v y ≡ Less → IsUnder y ys → has_version v (y ∷ ys) ≡ false
first_not v y ys less under = ap (λ o. is_eq o || has_version v ys) less ∙ under_not v ys (under_less v y ys less under)

has_first : (x : List ℕ) (xs : List (List ℕ)) → has_version x (x ∷ xs) ≡ true
has_first x xs = ap (λ b. b || has_version x xs) (version_itself x)

pub same_versions : (xs ys : List (List ℕ)) → IsAscending xs → IsAscending ys → ((q : List ℕ) → has_version q xs ≡ has_version q ys) → xs ≡ ys
same_versions [] [] up up' same = refl
same_versions [] (y ∷ ys) up up' same = absurd (false≢true (same y ∙ has_first y ys))
same_versions (x ∷ xs) [] up up' same = absurd (false≢true (sym (same x) ∙ has_first x xs))
same_versions (x ∷ xs) (y ∷ ys) up up' same = by (cmp x y) refl (same_versions xs ys up.1 up'.1)
  where
    tail : x ≡ y → (q : List ℕ) → has_version q xs ≡ has_version q ys
    tail e q = at (eq_by_cmp cmp q x) refl
      where
        at : (b : Bool) → eq_by_cmp cmp q x ≡ b → has_version q xs ≡ has_version q ys
        at true here =
            let qx = same_version q x here in
            ap (λ n. has_version n xs) qx ∙ under_not x xs up.0 ∙ sym (ap (λ n. has_version n ys) (qx ∙ e) ∙ under_not y ys up'.0)
        at false not_here = sym (ap (λ b. b || has_version q xs) not_here) ∙ same q ∙ ap (λ n. eq_by_cmp cmp q n || has_version q ys) (sym e) ∙ ap (λ b. b || has_version q ys) not_here

    by : (o : Ordering) → cmp x y ≡ o → (((q : List ℕ) → has_version q xs ≡ has_version q ys) → xs ≡ ys) → x ∷ xs ≡ y ∷ ys
    by Less e again = absurd (false≢true (sym (first_not x y ys e up'.0) ∙ sym (same x) ∙ has_first x xs))
    by Greater e again = absurd (false≢true (sym (first_not y x xs (turned x y e) up.0) ∙ same y ∙ has_first y ys))
    by Equal e again = let xy = same_version x y (ap is_eq e) in λ i. xy i ∷ again (tail xy) i

-- so the order of two enterings is no matter
pub put_swap : (xs : List (List ℕ)) (a b : List ℕ) → IsAscending xs → put_version (put_version xs a) b ≡ put_version (put_version xs b) a
put_swap xs a b up = same_versions (put_version (put_version xs a) b) (put_version (put_version xs b) a) (put_ascends (put_version xs a) b (put_ascends xs a up)) (put_ascends (put_version xs b) a (put_ascends xs b up))
    (λ q. has_put q b (put_version xs a) ∙ ap (λ t. eq_by_cmp cmp q b || t) (has_put q a xs) ∙ swap (eq_by_cmp cmp q b) (eq_by_cmp cmp q a) (has_version q xs)
    ∙ sym (has_put q a (put_version xs b) ∙ ap (λ t. eq_by_cmp cmp q a || t) (has_put q b xs)))
  where
    swap : (a b c : Bool) → (a || (b || c)) ≡ (b || (a || c))
    swap true true c = refl
    swap true false c = refl
    swap false b c = refl

-- ---- sets of versions

-- with many more
pub all_ascends : (more xs : List (List ℕ)) → IsAscending xs → IsAscending (fold put_version xs more)
all_ascends [] xs up = up
all_ascends (v ∷ more) xs up = all_ascends more (put_version xs v) (put_ascends xs v up)

pub has_all : (q : List ℕ) (more xs : List (List ℕ)) → has_version q (fold put_version xs more) ≡ (has_version q more || has_version q xs)
has_all q [] xs = refl
has_all q (v ∷ more) xs = has_all q more (put_version xs v) ∙ ap (λ t. has_version q more || t) (has_put q v xs) ∙ swap (has_version q more) (eq_by_cmp cmp q v) (has_version q xs)
  where
    swap : (a b c : Bool) → (a || (b || c)) ≡ ((b || a) || c)
    swap true true c = refl
    swap true false c = refl
    swap false true c = refl
    swap false false c = refl

pub set_ascends : (xs : List (List ℕ)) → IsAscending (version_set xs)
set_ascends xs = all_ascends xs [] tt

pub has_set : (q : List ℕ) (xs : List (List ℕ)) → has_version q (version_set xs) ≡ has_version q xs
has_set q xs = has_all q xs [] ∙ last (has_version q xs)
  where
    last : (b : Bool) → (b || false) ≡ b
    last true = refl
    last false = refl

-- an ascending list is its set
pub set_itself : (xs : List (List ℕ)) → IsAscending xs → version_set xs ≡ xs
set_itself xs up = same_versions (version_set xs) xs (set_ascends xs) up (λ q. has_set q xs)
