-- One module more is marked, and a list of them.
use Rattle.std.proofs.Common.{◌≡◌, ℕ, zero, suc, ◌+◌, ◌<◌, ◌≤◌, Bool, true, false, ◌==◌, ◌||◌, List, [], ◌∷◌, ◌++◌, length, get_or, set, take, replicate, refl, sym, ap, subst, ◌∙◌, length-append, arith}
use Rattle.std.proofs.lemmas.Grind.{get_or-set_at}
use Rattle.std.proofs.lemmas.List.{get_or-set_other, length-set, take-take, length-replicate}
use Rattle.std.proofs.lemmas.List.Folds.{list_any-append}
use Rattle.std.proofs.Math.Seq.{take-append_seam, take-length}
use Rattle.std.proofs.lemmas.Bool.Decides.{nat_tests}
use Rattle.reactor_order.specs.Graph.{has, AreBelow}
use Rattle.reactor_order.specs.Marks.{unmarked, AreFree, IsMarked, AreMarked}

pub has_push : (xs : List ℕ) (x m : ℕ) → has (xs ++ x ∷ []) m ≡ (has xs m || (x == m))
has_push [] x m = grind arith
has_push (y ∷ xs) x m = grind (arith, has_push xs x m)

pub unmarked_set : (marks : List Bool) (m : ℕ) → m < length marks → get_or marks m false ≡ false → unmarked (set marks m true) + 1 ≡ unmarked marks
unmarked_set [] m low free = omega (arith, low)
unmarked_set (true ∷ marks) zero low free = cc
unmarked_set (false ∷ marks) zero low free = omega arith
unmarked_set (true ∷ marks) (suc m) low free = unmarked_set marks m (omega (arith, low)) free
unmarked_set (false ∷ marks) (suc m) low free = omega (arith, unmarked_set marks m (omega (arith, low)) free)

or_true : (b : Bool) → (b || true) ≡ true
or_true true = refl
or_true false = refl

pub or_false : (b : Bool) → (b || false) ≡ b
or_false true = refl
or_false false = refl

or_later : (a b c : Bool) → ((a || b) || c) ≡ (a || (b || c))
or_later true b c = refl
or_later false b c = refl

get_set : (marks : List Bool) (m k : ℕ) → m < length marks → get_or (set marks m true) k false ≡ (get_or marks k false || (m == k))
get_set marks m k low = by (m == k) refl
  where
    by : (b : Bool) → (m == k) ≡ b → get_or (set marks m true) k false ≡ (get_or marks k false || (m == k))
    by true e =
        let same : k ≡ m = grind (arith, nat_tests, e) in
        rw e (get_or-set_at marks m k true false same low ∙ sym (or_true (get_or marks k false)))
    by false e =
        rw e (get_or-set_other marks m k true false (grind (arith, nat_tests, e)) ∙ sym (or_false (get_or marks k false)))

pub has_append : (xs ys : List ℕ) (m : ℕ) → has (xs ++ ys) m ≡ (has xs m || has ys m)
has_append xs ys m = list_any-append (λ x. x == m) xs ys

-- one more is marked
pub mark_one : (marks : List Bool) (found : List ℕ) (m : ℕ) → IsMarked marks found → m < length marks → get_or marks m false ≡ false → AreMarked (m ∷ []) marks (set marks m true) found (found ++ m ∷ [])
mark_one marks found m is low free = record {
  marked = record {
    same = λ k. has_append found (m ∷ []) k ∙ ap (λ b. b || has (m ∷ []) k) (is.same k) ∙ ap (λ b. get_or marks k false || b) (or_false (m == k)) ∙ sym (get_set marks m k low);
    count = omega (arith, is.count, unmarked_set marks m low free, length-append found (m ∷ []), length-set marks m true);
  };
  long = length-set marks m true;
  each = λ k. get_set marks m k low ∙ ap (λ b. get_or marks k false || b) (sym (or_false (m == k)));
  longer = omega (arith, length-append found (m ∷ []));
  front = take-append_seam found (m ∷ []);
}

take_shorter : (i j : ℕ) (xs : List ℕ) → i ≤ j → take i xs ≡ take i (take j xs)
take_shorter i j xs low = sym (take-take i j xs low)

pub has_at : (xs : List ℕ) (i d : ℕ) → i < length xs → has xs (get_or xs i d) ≡ true
has_at [] i d low = absurd (none low)
  where
    none : i < 0 → ⊥
    none low = omega (arith, low)
has_at (x ∷ xs) zero d low = grind arith
has_at (x ∷ xs) (suc i) d low = ap (λ b. (x == get_or xs i d) || b) (has_at xs i d (omega (arith, low))) ∙ or_true (x == get_or xs i d)

pub below_at : (xs : List ℕ) (n m i : ℕ) → AreBelow n xs → m ≡ n → i < length xs → get_or xs i 0 < m
below_at xs n m i below same low = subst (λ k. get_or xs i 0 < k) (sym same) (below (get_or xs i 0) (has_at xs i 0 low))

-- these are marked, and then those
pub mark_more : (xs ys : List ℕ) (a b c : List Bool) (f g h : List ℕ) → AreMarked xs a b f g → AreMarked ys b c g h → AreMarked (xs ++ ys) a c f h
mark_more xs ys a b c f g h p q = record {
  marked = q.marked;
  long = q.long ∙ p.long;
  each = λ k. q.each k ∙ ap (λ x. x || has ys k) (p.each k) ∙ or_later (get_or a k false) (has xs k) (has ys k) ∙ ap (λ x. get_or a k false || x) (sym (has_append xs ys k));
  longer = omega (arith, p.longer, q.longer);
  front = take_shorter (length f) (length g) h p.longer ∙ ap (take (length f)) q.front ∙ p.front;
}

pub mark_none : (marks : List Bool) (found : List ℕ) → IsMarked marks found → AreMarked [] marks marks found found
mark_none marks found is = record { marked = is; long = refl; each = λ k. sym (or_false (get_or marks k false)); longer = omega arith; front = take-length found }

get_free : (n m : ℕ) → get_or (replicate n false) m false ≡ false
get_free zero m = refl
get_free (suc n) zero = refl
get_free (suc n) (suc m) = get_free n m

unmarked_free : (n : ℕ) → unmarked (replicate n false) ≡ n
unmarked_free zero = refl
unmarked_free (suc n) = ap suc (unmarked_free n)

pub all_free : (n : ℕ) → AreFree n (replicate n false) []
all_free n = record {
  marked = record { same = λ m. sym (get_free n m); count = omega (arith, unmarked_free n, length-replicate n false) };
  long = length-replicate n false;
  free = get_free n;
  none = refl;
}
