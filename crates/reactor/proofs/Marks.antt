-- Numbers that are marked.
use Rattle.std.proofs.Common.{◌≡◌, ℕ, ◌<◌, Bool, true, false, ◌||◌, ◌==◌, List, [], ◌∷◌, length, get_or, set, refl, sym, ap, ◌∙◌, arith}
use Rattle.std.proofs.lemmas.Bool.Decides.{nat_tests}
use Rattle.std.proofs.lemmas.Grind.{get_or-set_at}
use Rattle.std.proofs.lemmas.List.{get_or-set_other}
use Rattle.reactor_order.specs.Graph.{has}

or_true : (b : Bool) → (b || true) ≡ true
or_true true = refl
or_true false = refl

-- once the first is marked, what is marked or stands in the rest is what was marked or stood in the whole
pub one_marked : (marks : List Bool) (x : ℕ) (rest : List ℕ) (m : ℕ) → x < length marks
    → (get_or (set marks x true) m false || has rest m) ≡ (get_or marks m false || has (x ∷ rest) m)
one_marked marks x rest m low = by (m == x) refl
  where
    by : (b : Bool) → (m == x) ≡ b → (get_or (set marks x true) m false || has rest m) ≡ (get_or marks m false || has (x ∷ rest) m)
    by true e =
        let same : m ≡ x = grind (arith, nat_tests, e) in
        let back : (x == m) ≡ true = grind (arith, nat_tests, e) in
        ap (λ b. b || has rest m) (get_or-set_at marks x m true false same low)
        ∙ sym (ap (λ b. get_or marks m false || (b || has rest m)) back ∙ or_true (get_or marks m false))
    by false e =
        let back : (x == m) ≡ false = grind (arith, nat_tests, e) in
        ap (λ b. b || has rest m) (get_or-set_other marks x m true false (grind (arith, nat_tests, e)))
        ∙ sym (ap (λ b. get_or marks m false || (b || has rest m)) back)
