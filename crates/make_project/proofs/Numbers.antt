-- Lists that are built number by number, and how long a number is in binary digits.
use Rattle.std.proofs.Common.{◌≡◌, ◌∙◌, ℕ, zero, suc, ◌+◌, ◌*◌, ◌/◌, ◌^◌, ◌<◌, ◌≤◌, List, [], ◌∷◌, ◌++◌, length, refl, ap, subst, arith}
use Rattle.std.specs.Int.Digits.{digits_of}
use Rattle.std.proofs.lemmas.Int.Digits.{length-digits_of_step}
use Rattle.make_project.specs.Poms.{depth, numbers}
use Rattle.make_project.specs.Projects.{below}

-- one POM more is one module more
pub numbers_more : (n : ℕ) → 1 ≤ n → numbers (n + 1) ≡ numbers n ++ n ∷ []
numbers_more zero some = absurd (omega (arith, some))
numbers_more (suc n) some =
    let e : suc n + 1 ≡ suc (suc n) = omega arith in
    ap numbers e

pub below_more : (n : ℕ) → below (n + 1) ≡ below n ++ n ∷ []
below_more n =
    let e : n + 1 ≡ suc n = omega arith in
    ap below e

-- a number between two powers has so many binary digits
long : (k n : ℕ) → 2 ^ k ≤ n → n < 2 * 2 ^ k → length (digits_of 2 n) ≡ k + 1
long zero n least most =
    let one : 1 ≡ n = omega (arith, least, most) in
    subst (λ m. length (digits_of 2 m) ≡ 1) one refl
long (suc k) n least most =
    let power : 2 ^ suc k ≡ 2 * 2 ^ k = omega arith in
    let some : 0 < n = omega (arith, least, power) in
    length-digits_of_step 2 n (omega arith) some
    ∙ ap (λ m. m + 1) (long k (n / 2) (omega (arith, least, power)) (omega (arith, most, power)))
    ∙ omega arith

-- the logarithm to base 2 is the depth
pub depth_is : (k n : ℕ) → 2 ^ k ≤ n → n < 2 * 2 ^ k → k ≡ depth n
depth_is k n least most = omega (arith, long k n least most)

-- two items behind others, one after another
pub two_more : {A : Type 0} (xs : List A) (x y : A) → (xs ++ x ∷ []) ++ y ∷ [] ≡ xs ++ x ∷ y ∷ []
two_more [] x y = refl
two_more (z ∷ xs) x y = ap (λ r. z ∷ r) (two_more xs x y)
