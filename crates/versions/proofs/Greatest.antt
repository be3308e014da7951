-- The greatest version among one more.
use Rattle.std.proofs.Common.{◌≡◌, ℕ, ◌+◌, ◌<◌, Bool, true, false, List, [], get_or, nat_lt, Option, Some, None, Ordering, Less, Equal, Greater, refl, sym, ap, ◌∙◌, subst, arith}
use Rattle.std.proofs.lemmas.Bool.{false≢true}
use Rattle.std.proofs.lemmas.Bool.Decides.{nat_tests}
use Rattle.std.proofs.lemmas.Cmp.{tied_itself}
use Rattle.std.specs.Ordering.{is_gt, ordering_reverse}
use Rattle.versions.specs.Order.{version_cmp}
use Rattle.versions.specs.Laws.{version_cmp_total}
use Rattle.versions.specs.Highest.{IsHighest}

-- what holds below a number and at it holds below the next
each_more : (P : ℕ → Type 0) (n : ℕ) → ((i : ℕ) → i < n → P i) → P n → (i : ℕ) → i < n + 1 → P i
each_more P n below at i low = by (nat_lt i n) refl
  where
    by : (b : Bool) → nat_lt i n ≡ b → P i
    by true e = below i (grind (arith, nat_tests, e))
    by false e = let same : n ≡ i = grind (arith, nat_tests, e, low) in subst P same at

-- the next is not admitted
pub highest_passes : (f : List ℕ → Bool) (versions : List (List ℕ)) (n : ℕ) (best : Option ℕ) → f (get_or versions n []) ≡ false → IsHighest f versions n best → IsHighest f versions (n + 1) best
highest_passes f versions n None not h = each_more (λ i. f (get_or versions i []) ≡ false) n h not
highest_passes f versions n (Some p) not h = record {
  within = omega (arith, h.within);
  admits = h.admits;
  greatest = each_more (λ i. f (get_or versions i []) ≡ true → is_gt (version_cmp (get_or versions i []) (get_or versions p [])) ≡ false) n h.greatest (λ is. absurd (false≢true (sym not ∙ is)));
  first = h.first;
}

not_greater : (v : List ℕ) → is_gt (version_cmp v v) ≡ false
not_greater v = ap is_gt (tied_itself version_cmp_total v)

-- the next is the first that is admitted
pub highest_begins : (f : List ℕ → Bool) (versions : List (List ℕ)) (n : ℕ) → f (get_or versions n []) ≡ true → IsHighest f versions n None → IsHighest f versions (n + 1) (Some n)
highest_begins f versions n is h = record {
  within = omega arith;
  admits = is;
  greatest = each_more (λ i. f (get_or versions i []) ≡ true → is_gt (version_cmp (get_or versions i []) (get_or versions n [])) ≡ false) n (λ i low yes. absurd (false≢true (sym (h i low) ∙ yes))) (λ _. not_greater (get_or versions n []));
  first = λ i low yes. absurd (false≢true (sym (h i low) ∙ yes));
}

-- the next is no greater
pub highest_stays : (f : List ℕ → Bool) (versions : List (List ℕ)) (n p : ℕ) → is_gt (version_cmp (get_or versions n []) (get_or versions p [])) ≡ false → IsHighest f versions n (Some p) → IsHighest f versions (n + 1) (Some p)
highest_stays f versions n p low h = record {
  within = omega (arith, h.within);
  admits = h.admits;
  greatest = each_more (λ i. f (get_or versions i []) ≡ true → is_gt (version_cmp (get_or versions i []) (get_or versions p [])) ≡ false) n h.greatest (λ _. low);
  first = h.first;
}

is_greater : (o : Ordering) → is_gt o ≡ true → o ≡ Greater
is_greater Less e = cc
is_greater Equal e = cc
is_greater Greater e = refl

-- what is not greater than one that is less is less
below_greater : (a p n : List ℕ) (o : Ordering) → version_cmp a p ≡ o → is_gt o ≡ false → version_cmp n p ≡ Greater → version_cmp a n ≡ Less
below_greater a p n Less e not g = version_cmp_total.trans a p n e (version_cmp_total.antisymm p n ∙ ap ordering_reverse g)
below_greater a p n Equal e not g = version_cmp_total.congr a p n e ∙ version_cmp_total.antisymm p n ∙ ap ordering_reverse g
below_greater a p n Greater e not g = cc

-- the next is greater
pub highest_rises : (f : List ℕ → Bool) (versions : List (List ℕ)) (n p : ℕ) → f (get_or versions n []) ≡ true → is_gt (version_cmp (get_or versions n []) (get_or versions p [])) ≡ true → IsHighest f versions n (Some p) → IsHighest f versions (n + 1) (Some n)
highest_rises f versions n p is up h =
    let less : (i : ℕ) → i < n → f (get_or versions i []) ≡ true → version_cmp (get_or versions i []) (get_or versions n []) ≡ Less =
    λ i low yes. below_greater (get_or versions i []) (get_or versions p []) (get_or versions n []) (version_cmp (get_or versions i []) (get_or versions p [])) refl (h.greatest i low yes) (is_greater (version_cmp (get_or versions n []) (get_or versions p [])) up) in
    record {
      within = omega arith;
      admits = is;
      greatest = each_more (λ i. f (get_or versions i []) ≡ true → is_gt (version_cmp (get_or versions i []) (get_or versions n [])) ≡ false) n (λ i low yes. ap is_gt (less i low yes)) (λ _. not_greater (get_or versions n []));
      first = less;
    }
