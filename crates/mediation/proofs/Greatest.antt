-- The greatest admitted version, as it is found.
use Rattle.std.proofs.Common.{◌≡◌, ◌<◌, ℕ, zero, suc, Bool, true, false, not, ◌&&◌, ◌||◌, List, [], ◌∷◌, length, get_or, find, Some, None, Less, refl, sym, ap, subst, ◌∙◌, arith, cond}
use Rattle.std.specs.List.{list_any}
use Rattle.std.specs.Ordering.{is_gt, ordering_reverse}
use Rattle.std.proofs.lemmas.Bool.{false≢true}
use Rattle.std.proofs.lemmas.List.Folds.{list_any_at}
use Rattle.versions.specs.Order.{version_cmp}
use Rattle.versions.specs.Laws.{version_cmp_total}
use Rattle.versions.specs.Highest.{IsHighest}
use Rattle.versions.specs.Requirements.{admits}
use Rattle.versions.specs.declared.requirement.Requirement.{Requirement}
use Rattle.mediation.specs.Libraries.{highest, is_exceeded, is_greatest}

none_of : (t : List ℕ → Bool) (xs : List (List ℕ)) → ((i : ℕ) → i < length xs → t (get_or xs i []) ≡ false) → list_any t xs ≡ false
none_of t [] all = refl
none_of t (x ∷ xs) all = ap (λ b. b || list_any t xs) (all zero (omega arith)) ∙ none_of t xs (λ i low. all (suc i) (omega (arith, low)))

find_none : (t : List ℕ → Bool) (xs : List (List ℕ)) → ((i : ℕ) → i < length xs → t (get_or xs i []) ≡ false) → find t xs ≡ None
find_none t [] all = refl
find_none t (x ∷ xs) all = ap (λ b. cond b (Some x) (find t xs)) (all zero (omega arith)) ∙ find_none t xs (λ i low. all (suc i) (omega (arith, low)))

-- the first that passes a test
find_first : (t : List ℕ → Bool) (xs : List (List ℕ)) (p : ℕ) → p < length xs → t (get_or xs p []) ≡ true → ((i : ℕ) → i < p → t (get_or xs i []) ≡ false) → find t xs ≡ Some (get_or xs p [])
find_first t [] p low is before = absurd (never low)
  where
    never : p < 0 → ⊥
    never low = omega (arith, low)
find_first t (x ∷ xs) zero low is before = ap (λ b. cond b (Some x) (find t xs)) is
find_first t (x ∷ xs) (suc p) low is before =
    ap (λ b. cond b (Some x) (find t xs)) (before zero (omega arith))
    ∙ find_first t xs p (omega (arith, low)) is (λ i near. before (suc i) (omega (arith, near)))

-- an admitted version that one exceeds isn't the greatest
fails : (r : Requirement) (versions : List (List ℕ)) (v : List ℕ) → (admits r v ≡ true → is_exceeded r versions v ≡ true) → is_greatest r versions v ≡ false
fails r versions v over = by (admits r v) refl
  where
    by : (b : Bool) → admits r v ≡ b → (b && not (is_exceeded r versions v)) ≡ false
    by true is = ap not (over is)
    by false is = refl

under : (r : Requirement) (v w : List ℕ) → (admits r w ≡ true → is_gt (version_cmp w v) ≡ false) → (admits r w && is_gt (version_cmp w v)) ≡ false
under r v w low = by (admits r w) refl
  where
    by : (b : Bool) → admits r w ≡ b → (b && is_gt (version_cmp w v)) ≡ false
    by true is = low is
    by false is = refl

greater : (v w : List ℕ) → version_cmp v w ≡ Less → is_gt (version_cmp w v) ≡ true
greater v w less = ap is_gt (version_cmp_total.antisymm w v ∙ ap ordering_reverse less)

greatest_there : (r : Requirement) (versions : List (List ℕ)) (p : ℕ) → IsHighest (admits r) versions (length versions) (Some p) → highest r versions ≡ Some (get_or versions p [])
greatest_there r versions p h =
    find_first (is_greatest r versions) versions p h.within
    (ap (λ b. b && not (is_exceeded r versions (get_or versions p []))) h.admits
    ∙ ap not (none_of (λ v. admits r v && is_gt (version_cmp v (get_or versions p []))) versions (λ i low. under r (get_or versions p []) (get_or versions i []) (h.greatest i low))))
    (λ i low. fails r versions (get_or versions i []) (λ is.
    list_any_at (λ v. admits r v && is_gt (version_cmp v (get_or versions i []))) versions p [] h.within
    (ap (λ b. b && is_gt (version_cmp (get_or versions p []) (get_or versions i []))) h.admits ∙ greater (get_or versions i []) (get_or versions p []) (h.first i low is))))

greatest_missing : (r : Requirement) (versions : List (List ℕ)) → IsHighest (admits r) versions (length versions) None → highest r versions ≡ None
greatest_missing r versions h = find_none (is_greatest r versions) versions (λ i low. fails r versions (get_or versions i []) (λ is. absurd (false≢true (sym (h i low) ∙ is))))

-- the place of the highest version gives it
pub highest_there : (r : Requirement) (texts versions : List (List ℕ)) (p : ℕ) → versions ≡ texts → IsHighest (admits r) versions (length versions) (Some p) → Some (get_or texts p []) ≡ highest r texts
highest_there r texts versions p same h = sym (subst (λ l. highest r l ≡ Some (get_or l p [])) same (greatest_there r versions p h))

pub highest_missing : (r : Requirement) (texts versions : List (List ℕ)) → versions ≡ texts → IsHighest (admits r) versions (length versions) None → None ≡ highest r texts
highest_missing r texts versions same h = sym (subst (λ l. highest r l ≡ None) same (greatest_missing r versions h))
