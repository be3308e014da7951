-- The numbers of the children that are there, against the finite map that contracts see.
use Rattle.std.proofs.Common.{◌≡◌, ℕ, Bool, true, false, ◌||◌, List, [], ◌∷◌, map, Option, Some, None, is_some, cond, refl, sym, ap, ◌∙◌}
use Rattle.std.specs.List.{list_any}
use Rattle.std.specs.Ordering.{nat_cmp}
use Rattle.std.specs.BTreeMap.{is_at}
use Rattle.mvn_outside.proofs.NumberMaps.{value_of, get_value, one_put, one_taken}
use Rattle.children.specs.Children.{is_there, with_child, without_child}
use Rattle.children.specs.Numbers.{numbers}
use Rattle.children.proofs.Children.{gone_again}

abbrev entries : List ℕ → List (ℕ × Unit {0})
entries keys = map (λ k. (k, tt)) keys

abbrev marked : Bool → Option (Unit {0})
marked b = cond b (Some tt) None

-- a number is among these
abbrev pub has : List ℕ → ℕ → Bool
has keys q = list_any (is_at (nat_cmp q)) keys

or_marked : (a b : Bool) → cond a (Some tt) (marked b) ≡ marked (a || b)
or_marked true b = refl
or_marked false b = refl

marked_cond : (a w b : Bool) → marked (cond a w b) ≡ cond a (marked w) (marked b)
marked_cond true w b = refl
marked_cond false w b = refl

some_marked : (b : Bool) → is_some (marked b) ≡ b
some_marked true = refl
some_marked false = refl

-- what these numbers have at one
value_in : (keys : List ℕ) (q : ℕ) → value_of (entries keys) q ≡ marked (has keys q)
value_in [] q = refl
value_in (k ∷ keys) q = ap (cond (is_at (nat_cmp q) k) (Some tt)) (value_in keys q) ∙ or_marked (is_at (nat_cmp q) k) (has keys q)

-- a child is there where its number is among these
pub there_has : (keys : List ℕ) (s : ℕ) → is_there (numbers keys) s ≡ has keys s
there_has keys s = ap is_some (get_value (entries keys) s ∙ value_in keys s) ∙ some_marked (has keys s)

-- one number more is one child more
pub one_added : (old new : List ℕ) (s : ℕ) → ((q : ℕ) → has new q ≡ cond (is_at (nat_cmp s) q) true (has old q)) → numbers new ≡ with_child (numbers old) s
one_added old new s h = one_put (entries old) (entries new) s tt (λ q.
    value_in new q ∙ ap marked (h q) ∙ marked_cond (is_at (nat_cmp s) q) true (has old q) ∙ ap (cond (is_at (nat_cmp s) q) (Some tt)) (sym (value_in old q)))

-- one number less is one child less
pub one_gone : (old new : List ℕ) (s : ℕ) → ((q : ℕ) → has new q ≡ cond (is_at (nat_cmp s) q) false (has old q)) → numbers new ≡ without_child (numbers old) s
one_gone old new s h = one_taken (entries old) (entries new) s (λ q.
    value_in new q ∙ ap marked (h q) ∙ marked_cond (is_at (nat_cmp s) q) false (has old q) ∙ ap (cond (is_at (nat_cmp s) q) None) (sym (value_in old q)))

-- a number that isn't among these is no child's
pub not_there : (keys : List ℕ) (s : ℕ) (b : Bool) → b ≡ has keys s → b ≡ false → is_there (numbers keys) s ≡ false
not_there keys s b e none = there_has keys s ∙ sym e ∙ none

-- a number that came and went leaves the others as they were
pub came_and_went : (old mid new : List ℕ) (s : ℕ) (b : Bool) → b ≡ has old s → b ≡ false → ((q : ℕ) → has mid q ≡ cond (is_at (nat_cmp s) q) true (has old q)) → ((q : ℕ) → has new q ≡ cond (is_at (nat_cmp s) q) false (has mid q))
    → numbers new ≡ numbers old
came_and_went old mid new s b e none came went =
    one_gone mid new s went ∙ ap (λ c. without_child c s) (one_added old mid s came) ∙ gone_again (numbers old) s (not_there old s b e none)
