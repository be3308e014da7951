-- Words that mean no module, and modules that are meant.
use Rattle.std.proofs.Common.{◌≡◌, ◌≢◌, ◌<◌, ◌≤◌, ◌+◌, ℕ, suc, Bool, true, false, ◌||◌, ◌==◌, List, [], ◌∷◌, ◌++◌, length, flat_map, Option, None, Some, refl, ap, sym, subst, ◌∙◌, arith, if◌then◌else◌}
use Rattle.std.proofs.lemmas.Bool.Decides.{nat_tests}
use Rattle.cli_words.specs.declared.command_line.Word.{Word}
use Rattle.model_types.specs.declared.model.Model.{Model}
use Rattle.reactor_order.specs.Graph.{AreBelow, has}
use Rattle.reactor.specs.Meaning.{is_meant, meant, meant_from}
use Rattle.reactor.specs.Selection.{chosen, or_unknown, unknown}

-- one word after others
pub last_word : (modules : List Model) (place : Option ℕ) (words : List Word) (w : Word) → unknown modules (unknown modules place words) (w ∷ []) ≡ unknown modules place (words ++ w ∷ [])
last_word modules place [] w = refl
last_word modules place (v ∷ words) w = last_word modules (or_unknown (meant modules v.text) place v) words w

-- a number that is meant is a module's
below_from : (text : List ℕ) (n : ℕ) (modules : List Model) (m : ℕ) → has (meant_from text n modules) m ≡ true → m < n + length modules
below_from text n [] m is = cc
below_from text n (module0 ∷ modules) m is =
    by (below_from text (suc n) modules m) (is_meant text module0) is
  where
    one : n + suc (length modules) ≡ suc n + length modules
    one = omega arith

    first : (same : Bool) → (n == m) ≡ same → (has (meant_from text (suc n) modules) m ≡ true → m < suc n + length modules) → (same || has (meant_from text (suc n) modules) m) ≡ true → m < suc n + length modules
    first true e rest or = let same : n ≡ m = grind (arith, nat_tests, e) in subst (λ k. k < suc n + length modules) same (omega arith)
    first false e rest or = rest or

    by : (has (meant_from text (suc n) modules) m ≡ true → m < suc n + length modules) → (means : Bool) → has (if means then n ∷ meant_from text (suc n) modules else meant_from text (suc n) modules) m ≡ true → m < n + length (module0 ∷ modules)
    by rest true or = subst (λ k. m < k) (sym one) (first (n == m) refl rest or)
    by rest false or = subst (λ k. m < k) (sym one) (rest or)

either : (xs ys : List ℕ) (m : ℕ) → has (xs ++ ys) m ≡ (has xs m || has ys m)
either [] ys m = refl
either (x ∷ xs) ys m = ap (λ b. (x == m) || b) (either xs ys m) ∙ or_assoc (x == m) (has xs m) (has ys m)
  where
    or_assoc : (a b c : Bool) → (a || (b || c)) ≡ ((a || b) || c)
    or_assoc true b c = refl
    or_assoc false b c = refl

pub all_below : (modules : List Model) (words : List Word) → AreBelow (length modules) (flat_map (λ (w : Word). meant modules w.text) words)
all_below modules [] m is = cc
all_below modules (w ∷ words) m is = by (has (meant modules w.text) m) refl (all_below modules words m) (sym (either (meant modules w.text) (flat_map (λ (v : Word). meant modules v.text) words) m) ∙ is)
  where
    by : (here : Bool) → has (meant modules w.text) m ≡ here → (has (flat_map (λ (v : Word). meant modules v.text) words) m ≡ true → m < length modules) → (has (meant modules w.text) m || has (flat_map (λ (v : Word). meant modules v.text) words) m) ≡ true → m < length modules
    by true e rest or = let zero_more : 0 + length modules ≡ length modules = omega arith in subst (λ k. m < k) zero_more (below_from w.text 0 modules m e)
    by false e rest or = rest (sym (ap (λ b. b || has (flat_map (λ (v : Word). meant modules v.text) words) m) e) ∙ or)

-- words that are chosen by
pub chosen_is : (modules : List Model) (words : List Word) → length words ≢ 0 → chosen modules words ≡ Some (flat_map (λ (w : Word). meant modules w.text) words)
chosen_is modules [] some = absurd (some refl)
chosen_is modules (w ∷ words) some = refl
