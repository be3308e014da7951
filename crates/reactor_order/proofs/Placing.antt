-- One module more is placed.
use Rattle.std.proofs.Common.{◌≡◌, ◌⊎◌, inl, inr, ℕ, zero, suc, ◌+◌, ◌<◌, ◌≤◌, Bool, true, false, not, ◌&&◌, ◌||◌, ◌==◌, nat_lt, List, [], ◌∷◌, ◌++◌, get_or, find, Some, None, refl, sym, ap, subst, ◌∙◌, arith}
use Rattle.std.proofs.lemmas.Bool.{false≢true}
use Rattle.std.proofs.lemmas.Bool.Decides.{nat_tests}
use Rattle.std.specs.List.{list_all}
use Rattle.std.specs.BTreeSet.{BTreeSet}
use Rattle.reactor_order.specs.Graph.{Edges, has, upstreams, flipped}
use Rattle.reactor_order.specs.Ready.{is_in, TakesLeast}
use Rattle.reactor_order.specs.Order.{numbers, can_follow, next_module}
use Rattle.reactor_order.specs.Waiting.{missing, times, AreReleased, IsPlacing}
use Rattle.reactor_order.proofs.Marking.{has_push}
use Rattle.reactor_order.proofs.Reaching.{one_of}

-- an edge counts for its module as for its upstream
pub swapped : (edges : Edges) (m x : ℕ) → times m (upstreams (flipped edges) x) ≡ times x (upstreams edges m)
swapped [] m x = refl
swapped (e ∷ edges) m x = grind (arith, nat_tests, swapped edges m x)

missing_push : (placed : List ℕ) (x : ℕ) → has placed x ≡ false → (us : List ℕ) → missing (placed ++ x ∷ []) us + times x us ≡ missing placed us
missing_push placed x free [] = omega arith
missing_push placed x free (u ∷ us) = by (has placed u) (x == u) refl refl (missing_push placed x free us)
  where
    by : (h e : Bool) → has placed u ≡ h → (x == u) ≡ e → missing (placed ++ x ∷ []) us + times x us ≡ missing placed us → missing (placed ++ x ∷ []) (u ∷ us) + times x (u ∷ us) ≡ missing placed (u ∷ us)
    by true true h e rest = let same : u ≡ x = grind (arith, nat_tests, e) in absurd (false≢true (sym free ∙ ap (has placed) (sym same) ∙ h))
    by true false h e rest = grind (arith, nat_tests, h, e, has_push placed x u, rest)
    by false true h e rest = grind (arith, nat_tests, h, e, has_push placed x u, rest)
    by false false h e rest = grind (arith, nat_tests, h, e, has_push placed x u, rest)

all_is : (placed us : List ℕ) → list_all (has placed) us ≡ (missing placed us == 0)
all_is placed [] = grind (arith, nat_tests)
all_is placed (u ∷ us) = grind (arith, nat_tests, all_is placed us)

pub find_least : (p : ℕ → Bool) (from count x : ℕ) → from ≤ x → x < from + count → p x ≡ true → ((k : ℕ) → k < x → p k ≡ false) → find p (numbers from count) ≡ Some x
find_least p from zero x low high is least = absurd (none (omega (arith, low, high)))
  where
    none : ⊥ → ⊥
    none e = e
find_least p from (suc n) x low high is least = by (from == x) refl (find_least p (suc from) n x)
  where
    by : (b : Bool) → (from == x) ≡ b → (suc from ≤ x → x < suc from + n → p x ≡ true → ((k : ℕ) → k < x → p k ≡ false) → find p (numbers (suc from) n) ≡ Some x) → find p (numbers from (suc n)) ≡ Some x
    by true e rest = let same : from ≡ x = grind (arith, nat_tests, e) in rw same (rw is refl)
    by false e rest =
        let below : from < x = grind (arith, nat_tests, e, low) in
        rw (least from below) (rest (omega (arith, below)) (omega (arith, high)) is least)

pub find_none : (p : ℕ → Bool) (from count : ℕ) → ((k : ℕ) → k < from + count → p k ≡ false) → find p (numbers from count) ≡ None
find_none p from zero none = refl
find_none p from (suc n) none = rw (none from (omega arith)) (find_none p (suc from) n (λ k low. none k (omega (arith, low))))

-- what a set without members says
pub none_follows : (n : ℕ) (edges : Edges) (placed waits : List ℕ) (ready : BTreeSet ℕ) → IsPlacing n edges placed waits ready → ((m : ℕ) → is_in ready m ≡ false) → next_module n edges placed ≡ None
none_follows n edges placed waits ready is empty = find_none (can_follow edges placed) 0 n (λ k low. by k low (nat_lt k n) refl)
  where
    by : (k : ℕ) → k < 0 + n → (b : Bool) → nat_lt k n ≡ b → can_follow edges placed k ≡ false
    by k low true e = sym (ap (λ b. b && can_follow edges placed k) e) ∙ sym (is.can k) ∙ empty k
    by k low false e = absurd (above (grind (arith, nat_tests, e, low)))
      where
        above : ⊥ → ⊥
        above x = x

-- which test of can_follow is meant
pub follows_is : (edges : Edges) (placed : List ℕ) (m : ℕ) → can_follow edges placed m ≡ (not (has placed m) && (missing placed (upstreams edges m) == 0))
follows_is edges placed m = ap (λ b. not (has placed m) && b) (all_is placed (upstreams edges m))

-- a member is a module that is not placed, and waits for none
pub record Follows (n : ℕ) (edges : Edges) (placed : List ℕ) (x : ℕ) : Type 0 where
  pub within : x < n
  pub free : has placed x ≡ false
  pub none : missing placed (upstreams edges x) ≡ 0
  pub can : can_follow edges placed x ≡ true

pub follows : (n : ℕ) (edges : Edges) (placed : List ℕ) (x : ℕ) → (nat_lt x n && can_follow edges placed x) ≡ true → Follows n edges placed x
follows n edges placed x e = by (nat_lt x n) (has placed x) (missing placed (upstreams edges x) == 0) refl refl refl
  where
    whole : (nat_lt x n && (not (has placed x) && (missing placed (upstreams edges x) == 0))) ≡ true
    whole = sym (ap (λ b. nat_lt x n && b) (follows_is edges placed x)) ∙ e

    by : (l h z : Bool) → nat_lt x n ≡ l → has placed x ≡ h → (missing placed (upstreams edges x) == 0) ≡ z → Follows n edges placed x
    by true false true l h z = record { within = grind (arith, nat_tests, l); free = h; none = grind (arith, nat_tests, z); can = follows_is edges placed x ∙ rw (h, z) refl }
    by false h z l hh zz = absurd (false≢true (sym (ap (λ b. b && (not (has placed x) && (missing placed (upstreams edges x) == 0))) l) ∙ whole))
    by true true z l h zz = absurd (false≢true (rw (l, h) at whole))
    by true false false l h z = absurd (false≢true (rw (l, h, z) at whole))

-- how the tests of a module change when one is placed
combine : (l h e : Bool) (M M' T w : ℕ) → (h ≡ true → M ≡ 0) → (e ≡ true → M ≡ 0) → (l ≡ false → T ≡ 0) → (l ≡ true → w ≡ M') → M' + T ≡ M
    → (((l && (not h && (M == 0))) && not e) || (nat_lt 0 T && (w == 0))) ≡ (l && (not (h || e) && (M' == 0)))
combine true true e M M' T w hM eM lT lw sum = let m = hM refl in grind (arith, nat_tests, m, sum)
combine true false true M M' T w hM eM lT lw sum = let m = eM refl in grind (arith, nat_tests, m, sum)
combine true false false M M' T w hM eM lT lw sum = let k = lw refl in grind (arith, nat_tests, k, sum)
combine false h e M M' T w hM eM lT lw sum = let t = lT refl in grind (arith, nat_tests, t, sum)

-- the earliest that can follow is the least of the set
pub least_is_next : (n : ℕ) (edges : Edges) (placed waits : List ℕ) (before after : BTreeSet ℕ) (x : ℕ) → IsPlacing n edges placed waits before → TakesLeast before after (Some x) → next_module n edges placed ≡ Some x
least_is_next n edges placed waits before after x is takes =
    let f = follows n edges placed x (sym (is.can x) ∙ takes.0) in
    find_least (can_follow edges placed) 0 n x (omega arith) (omega (arith, f.within)) f.can (λ k low. by k (omega (arith, low, f.within)) (sym (is.can k) ∙ takes.1 k low))
  where
    by : (k : ℕ) → k < n → (nat_lt k n && can_follow edges placed k) ≡ false → can_follow edges placed k ≡ false
    by k low e = let l : nat_lt k n ≡ true = grind (arith, nat_tests, low) in sym (ap (λ b. b && can_follow edges placed k) l) ∙ e

-- each waits for as many upstreams as it has still, and more than once for none
pub waits_for : (n : ℕ) (edges : Edges) (placed waits : List ℕ) (ready : BTreeSet ℕ) (x : ℕ) → IsPlacing n edges placed waits ready → has placed x ≡ false → (m : ℕ) → times m (upstreams (flipped edges) x) ≤ get_or waits m 0
waits_for n edges placed waits ready x is free m = by (nat_lt m n) refl
  where
    by : (b : Bool) → nat_lt m n ≡ b → times m (upstreams (flipped edges) x) ≤ get_or waits m 0
    by true e = omega (arith, swapped edges m x, missing_push placed x free (upstreams edges m), is.waiting m (grind (arith, nat_tests, e)))
    by false e = omega (arith, swapped edges m x, ap (times x) (is.inside m (grind (arith, nat_tests, e))))

or_lazy : (a b : Bool) → (a || b || false) ≡ (a || b)
or_lazy true b = refl
or_lazy false true = refl
or_lazy false false = refl

-- one more is placed
pub place_one : (n : ℕ) (edges : Edges) (placed waits now : List ℕ) (before after ready : BTreeSet ℕ) (x : ℕ) → IsPlacing n edges placed waits before → TakesLeast before after (Some x)
    → AreReleased (upstreams (flipped edges) x) waits now after ready → IsPlacing n edges (placed ++ x ∷ []) now ready
place_one n edges placed waits now before after ready x is takes released = record {
  long = released.long ∙ is.long;
  waiting = λ m low. count_now m low;
  can = λ m. can_now m;
  settled = λ m there. settled_now m (one_of (has placed m) (x == m) (sym (has_push placed x m) ∙ there));
  inside = is.inside;
  below = λ m there. below_now m (one_of (has placed m) (x == m) (sym (has_push placed x m) ∙ there));
}
  where
    f : Follows n edges placed x
    f = follows n edges placed x (sym (is.can x) ∙ takes.0)

    sum : (m : ℕ) → missing (placed ++ x ∷ []) (upstreams edges m) + times x (upstreams edges m) ≡ missing placed (upstreams edges m)
    sum m = missing_push placed x f.free (upstreams edges m)

    itself : (m : ℕ) → (x == m) ≡ true → missing placed (upstreams edges m) ≡ 0
    itself m e = let same : x ≡ m = grind (arith, nat_tests, e) in ap (λ k. missing placed (upstreams edges k)) (sym same) ∙ f.none

    below_now : (m : ℕ) → (has placed m ≡ true) ⊎ ((x == m) ≡ true) → m < n
    below_now m (inl old) = is.below m old
    below_now m (inr new) = let same : x ≡ m = grind (arith, nat_tests, new) in subst (λ k. k < n) same f.within

    count_now : (m : ℕ) → m < n → get_or now m 0 ≡ missing (placed ++ x ∷ []) (upstreams edges m)
    count_now m low = omega (arith, released.fewer m, swapped edges m x, is.waiting m low, sum m)

    outside : (m : ℕ) → nat_lt m n ≡ false → times x (upstreams edges m) ≡ 0
    outside m e = ap (times x) (is.inside m (grind (arith, nat_tests, e)))

    settled_now : (m : ℕ) → (has placed m ≡ true) ⊎ ((x == m) ≡ true) → missing (placed ++ x ∷ []) (upstreams edges m) ≡ 0
    settled_now m (inl old) = omega (arith, sum m, is.settled m old)
    settled_now m (inr new) = omega (arith, sum m, itself m new)

    can_now : (m : ℕ) → is_in ready m ≡ (nat_lt m n && can_follow edges (placed ++ x ∷ []) m)
    can_now m =
        released.added m
        ∙ ap (λ k. is_in after m || (nat_lt 0 k && (get_or now m 0 == 0))) (swapped edges m x)
        ∙ ap (λ b. b || (nat_lt 0 (times x (upstreams edges m)) && (get_or now m 0 == 0))) (takes.2 m ∙ ap (λ b. b && not (x == m)) (is.can m ∙ ap (λ b. nat_lt m n && b) (follows_is edges placed m)))
        ∙ combine (nat_lt m n) (has placed m) (x == m) (missing placed (upstreams edges m)) (missing (placed ++ x ∷ []) (upstreams edges m)) (times x (upstreams edges m)) (get_or now m 0)
        (is.settled m) (itself m) (outside m) (λ l. count_now m (grind (arith, nat_tests, l))) (sum m)
        ∙ ap (λ b. nat_lt m n && (not b && (missing (placed ++ x ∷ []) (upstreams edges m) == 0))) (sym (has_push placed x m))
        ∙ ap (λ b. nat_lt m n && b) (sym (follows_is edges (placed ++ x ∷ []) m))

-- nothing is taken
pub place_none : (n : ℕ) (edges : Edges) (placed waits : List ℕ) (before after : BTreeSet ℕ) → IsPlacing n edges placed waits before → TakesLeast before after None → IsPlacing n edges placed waits after
place_none n edges placed waits before after is takes = record { long = is.long; waiting = is.waiting; can = λ m. takes.1 m ∙ is.can m; settled = is.settled; inside = is.inside; below = is.below }

pub is_free : (n : ℕ) (edges : Edges) (placed waits : List ℕ) (before after : BTreeSet ℕ) (x : ℕ) → IsPlacing n edges placed waits before → TakesLeast before after (Some x) → Follows n edges placed x
is_free n edges placed waits before after x is takes = follows n edges placed x (sym (is.can x) ∙ takes.0)
