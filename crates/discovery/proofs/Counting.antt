-- How many POMs are found.
use Rattle.std.proofs.Common.{◌≡◌, ◌≤◌, ◌+◌, ℕ, List, [], ◌∷◌, ◌++◌, length, sym, ap, subst, ◌∙◌, arith}
use Rattle.std.proofs.lemmas.List.{length-append}
use Rattle.mvn_base.specs.Limits.{most_modules}

-- one more
pub one_longer : {A : Type 0} (found more : List A) (x : A) → more ≡ found ++ x ∷ [] → length more ≡ length found + 1
one_longer found more x is = ap length is ∙ length-append found (x ∷ [])

-- so many were found besides the first ones
pub at_least : {A : Type 0} (list found first : List A) (at : ℕ) → list ≡ found → length found ≡ at + length first → length first ≤ length list
at_least list found first at is long = subst (λ l. length first ≤ length l) (sym is) (omega (arith, long))

pub at_most : {A : Type 0} (list found first : List A) (at : ℕ) → list ≡ found → length found ≡ at + length first → at ≤ most_modules → length list ≤ length first + most_modules
at_most list found first at is long low = subst (λ l. length l ≤ length first + most_modules) (sym is) (omega (arith, long, low))
