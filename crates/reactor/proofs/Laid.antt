-- Lists in which each module stands behind its upstreams.
use Rattle.std.proofs.Common.{◌≡◌, ◌⊎◌, inl, inr, ℕ, zero, suc, ◌+◌, ◌<◌, ◌≤◌, Bool, true, false, ◌||◌, ◌==◌, List, [], ◌∷◌, ◌++◌, filter, length, get_or, map, nat_lt, Option, Some, None, append_assoc, refl, sym, ap, subst, ◌∙◌, arith, if◌then◌else◌}
use Rattle.std.proofs.lemmas.Bool.{false≢true}
use Rattle.std.proofs.lemmas.Bool.Decides.{nat_tests}
use Rattle.std.specs.Prelude.{nat_eq}
use Rattle.std.specs.List.{AllByRecursion, IsDistinct}
use Rattle.reactor_order.specs.Graph.{AreBelow, Edges, has, upstreams}
use Rattle.reactor_order.specs.Laws.{HasEachOnce, HasUpstreamsBefore, IsOrder}
use Rattle.reactor_order.specs.Select.{from_on}
use Rattle.reactor_order.specs.Waiting.{times}
use Rattle.reactor_order.proofs.Marking.{has_at}
use Rattle.reactor_order.proofs.Reaching.{one_of}
use Rattle.reactor.specs.Upstreams.{Ascends, all_upstreams, places_from, upstream_places}

-- ---- each number once, and behind its upstreams

abbrev pub Once : List ℕ → Type 0
Once [] = Unit {0}
Once (x ∷ xs) = (has xs x ≡ false) × Once xs

abbrev pub IsLaid : Edges → List ℕ → Type 0
IsLaid edges [] = Unit {0}
IsLaid edges (x ∷ xs) = ((u : ℕ) → has (upstreams edges x) u ≡ true → has (x ∷ xs) u ≡ false) × IsLaid edges xs

not_true : (b : Bool) → (b ≡ true → false ≡ true) → b ≡ false
not_true true none = sym (none refl)
not_true false none = refl

or_none : (a b : Bool) → (a || b) ≡ false → (a ≡ false) × (b ≡ false)
or_none true b e = absurd (false≢true (sym e))
or_none false b e = (refl, e)

same_number : (x : ℕ) → (x == x) ≡ true
same_number x = grind (arith, nat_tests)

is_same : (x m : ℕ) → (x == m) ≡ true → x ≡ m
is_same x m e = grind (arith, nat_tests, e)

-- ---- what stands in a part of a list

in_rest : (x : ℕ) (xs : List ℕ) (m : ℕ) → has xs m ≡ true → has (x ∷ xs) m ≡ true
in_rest x xs m is = by (x == m)
  where
    by : (b : Bool) → (b || has xs m) ≡ true
    by true = refl
    by false = is

in_filter : (keep : ℕ → Bool) (xs : List ℕ) (m : ℕ) → has (filter keep xs) m ≡ true → has xs m ≡ true
in_filter keep [] m is = is
in_filter keep (x ∷ xs) m is = by (keep x) refl (in_filter keep xs m)
  where
    by : (b : Bool) → keep x ≡ b → (has (filter keep xs) m ≡ true → has xs m ≡ true) → has (x ∷ xs) m ≡ true
    by true e rest = of (one_of (x == m) (has (filter keep xs) m) (sym (ap (λ b. has (if b then x ∷ filter keep xs else filter keep xs) m) e) ∙ is))
      where
        of : ((x == m) ≡ true) ⊎ (has (filter keep xs) m ≡ true) → has (x ∷ xs) m ≡ true
        of (inl here) = ap (λ b. b || has xs m) here
        of (inr there) = in_rest x xs m (rest there)
    by false e rest = in_rest x xs m (rest (sym (ap (λ b. has (if b then x ∷ filter keep xs else filter keep xs) m) e) ∙ is))

in_from : (from : Option ℕ) (xs : List ℕ) (m : ℕ) → has (from_on from xs) m ≡ true → has xs m ≡ true
in_from None xs m is = is
in_from (Some n) [] m is = is
in_from (Some n) (x ∷ xs) m is = by (x == n) refl (in_from (Some n) xs m)
  where
    by : (b : Bool) → (x == n) ≡ b → (has (from_on (Some n) xs) m ≡ true → has xs m ≡ true) → has (x ∷ xs) m ≡ true
    by true e rest = sym (ap (λ b. has (if b then x ∷ xs else from_on (Some n) xs) m) e) ∙ is
    by false e rest = in_rest x xs m (rest (sym (ap (λ b. has (if b then x ∷ xs else from_on (Some n) xs) m) e) ∙ is))

-- ---- a part of a list stands as the list does

none_in : (xs ys : List ℕ) (m : ℕ) → (has xs m ≡ true → has ys m ≡ true) → has ys m ≡ false → has xs m ≡ false
none_in xs ys m more none = not_true (has xs m) (λ is. sym none ∙ more is)

cons_in : (x : ℕ) (xs ys : List ℕ) (m : ℕ) → (has xs m ≡ true → has ys m ≡ true) → has (x ∷ xs) m ≡ true → has (x ∷ ys) m ≡ true
cons_in x xs ys m more is = of (one_of (x == m) (has xs m) is)
  where
    of : ((x == m) ≡ true) ⊎ (has xs m ≡ true) → has (x ∷ ys) m ≡ true
    of (inl here) = ap (λ b. b || has ys m) here
    of (inr there) = in_rest x ys m (more there)

once_filter : (keep : ℕ → Bool) (xs : List ℕ) → Once xs → Once (filter keep xs)
once_filter keep [] o = o
once_filter keep (x ∷ xs) o = by (keep x) refl (once_filter keep xs o.1)
  where
    by : (b : Bool) → keep x ≡ b → Once (filter keep xs) → Once (filter keep (x ∷ xs))
    by true e rest = rw e (none_in (filter keep xs) xs x (in_filter keep xs x) o.0, rest)
    by false e rest = rw e rest

laid_filter : (edges : Edges) (keep : ℕ → Bool) (xs : List ℕ) → IsLaid edges xs → IsLaid edges (filter keep xs)
laid_filter edges keep [] o = o
laid_filter edges keep (x ∷ xs) o = by (keep x) refl (laid_filter edges keep xs o.1)
  where
    by : (b : Bool) → keep x ≡ b → IsLaid edges (filter keep xs) → IsLaid edges (filter keep (x ∷ xs))
    by true e rest = rw e (λ u is. none_in (x ∷ filter keep xs) (x ∷ xs) u (cons_in x (filter keep xs) xs u (in_filter keep xs u)) (o.0 u is), rest)
    by false e rest = rw e rest

once_from : (from : Option ℕ) (xs : List ℕ) → Once xs → Once (from_on from xs)
once_from None xs o = o
once_from (Some n) [] o = o
once_from (Some n) (x ∷ xs) o = by (x == n) refl (once_from (Some n) xs o.1)
  where
    by : (b : Bool) → (x == n) ≡ b → Once (from_on (Some n) xs) → Once (from_on (Some n) (x ∷ xs))
    by true e rest = rw e o
    by false e rest = rw e rest

laid_from : (edges : Edges) (from : Option ℕ) (xs : List ℕ) → IsLaid edges xs → IsLaid edges (from_on from xs)
laid_from edges None xs o = o
laid_from edges (Some n) [] o = o
laid_from edges (Some n) (x ∷ xs) o = by (x == n) refl (laid_from edges (Some n) xs o.1)
  where
    by : (b : Bool) → (x == n) ≡ b → IsLaid edges (from_on (Some n) xs) → IsLaid edges (from_on (Some n) (x ∷ xs))
    by true e rest = rw e o
    by false e rest = rw e rest

-- ---- the order of all

times_less : (x : ℕ) (xs : List ℕ) → times x (x ∷ xs) ≡ suc (times x xs)
times_less x xs = rw (same_number x) refl

times_has : (xs : List ℕ) (m : ℕ) → times m xs ≡ 0 → has xs m ≡ false
times_has [] m e = refl
times_has (x ∷ xs) m e = by (x == m) refl (times_has xs m)
  where
    by : (b : Bool) → (x == m) ≡ b → (times m xs ≡ 0 → has xs m ≡ false) → has (x ∷ xs) m ≡ false
    by true eq rest =
        let more : suc (times m xs) ≡ 0 = sym (ap (λ b. if b then suc (times m xs) else times m xs) eq) ∙ e in
        absurd (omega (arith, more))
    by false eq rest = ap (λ b. b || has xs m) eq ∙ rest (sym (ap (λ b. if b then suc (times m xs) else times m xs) eq) ∙ e)

times_rest : (x m : ℕ) (xs : List ℕ) → times m xs ≤ times m (x ∷ xs)
times_rest x m xs = by (x == m) refl
  where
    by : (b : Bool) → (x == m) ≡ b → times m xs ≤ times m (x ∷ xs)
    by true e = rw e (omega arith)
    by false e = rw e (omega arith)

once_by : (xs : List ℕ) → ((m : ℕ) → times m xs ≤ 1) → Once xs
once_by [] few = tt
once_by (x ∷ xs) few =
    let none : times x xs ≡ 0 = omega (arith, few x, times_less x xs) in
    (times_has xs x none, once_by xs (λ m. let less = times_rest x m xs in let all = few m in omega (arith, less, all)))

back : (zs xs : List ℕ) (u : ℕ) → has (zs ++ xs) u ≡ false → has xs u ≡ false
back [] xs u e = e
back (z ∷ zs) xs u e = back zs xs u (or_none (z == u) (has (zs ++ xs) u) e).1

has_front : (front : List ℕ) (x : ℕ) (xs : List ℕ) (u : ℕ) → Once (front ++ x ∷ xs) → has front u ≡ true → has (x ∷ xs) u ≡ false
has_front [] x xs u o is = absurd (false≢true is)
has_front (y ∷ front) x xs u o is = of (one_of (y == u) (has front u) is) (has_front front x xs u o.1)
  where
    of : ((y == u) ≡ true) ⊎ (has front u ≡ true) → (has front u ≡ true → has (x ∷ xs) u ≡ false) → has (x ∷ xs) u ≡ false
    of (inl here) rest = back front (x ∷ xs) u (subst (λ k. has (front ++ x ∷ xs) k ≡ false) (is_same y u here) o.0)
    of (inr there) rest = rest there

laid_by : (edges : Edges) (all front xs : List ℕ) → all ≡ front ++ xs → Once all → HasUpstreamsBefore edges all → IsLaid edges xs
laid_by edges all front [] e o before = tt
laid_by edges all front (x ∷ xs) e o before = (
  λ u is. has_front front x xs u (subst Once e o) (before front xs x u e is),
  laid_by edges all (front ++ x ∷ []) xs (e ∙ sym (append_assoc front (x ∷ []) xs)) o before,
)

-- the modules of an order
pub record Stand (n : ℕ) (edges : Edges) (xs : List ℕ) : Type 0 where
  pub once : Once xs
  pub laid : IsLaid edges xs
  pub below : AreBelow n xs
  pub few : length xs ≤ n

filter_few : (keep : ℕ → Bool) (xs : List ℕ) → length (filter keep xs) ≤ length xs
filter_few keep [] = omega arith
filter_few keep (x ∷ xs) = by (keep x) (filter_few keep xs)
  where
    by : (b : Bool) → length (filter keep xs) ≤ length xs → length (if b then x ∷ filter keep xs else filter keep xs) ≤ suc (length xs)
    by true less = omega (arith, less)
    by false less = omega (arith, less)

from_few : (from : Option ℕ) (xs : List ℕ) → length (from_on from xs) ≤ length xs
from_few None xs = omega arith
from_few (Some n) [] = omega arith
from_few (Some n) (x ∷ xs) = by (x == n) (from_few (Some n) xs)
  where
    by : (b : Bool) → length (from_on (Some n) xs) ≤ length xs → length (if b then x ∷ xs else from_on (Some n) xs) ≤ suc (length xs)
    by true less = omega arith
    by false less = omega (arith, less)

no_times : (xs : List ℕ) (m : ℕ) → has xs m ≡ false → times m xs ≡ 0
no_times [] m e = refl
no_times (x ∷ xs) m e =
    let both = or_none (x == m) (has xs m) e in
    ap (λ b. if b then suc (times m xs) else times m xs) both.0 ∙ no_times xs m both.1

once_all : (n : ℕ) (xs : List ℕ) → HasEachOnce n xs → Once xs
once_all n xs each = once_by xs (λ m. by m (has xs m) refl)
  where
    by : (m : ℕ) (b : Bool) → has xs m ≡ b → times m xs ≤ 1
    by m true e = let one = each.once m (each.below m e) in omega (arith, one)
    by m false e = let none = no_times xs m e in omega (arith, none)

pub all_stand : (n : ℕ) (edges : Edges) (xs : List ℕ) → length xs ≡ n → HasEachOnce n xs → HasUpstreamsBefore edges xs → Stand n edges xs
all_stand n edges xs long each before = let o = once_all n xs each in record { once = o; laid = laid_by edges xs [] xs refl o before; below = each.below; few = omega (arith, long) }

pub filter_stand : (n : ℕ) (edges : Edges) (keep : ℕ → Bool) (xs : List ℕ) → Stand n edges xs → Stand n edges (filter keep xs)
filter_stand n edges keep xs s = record {
  once = once_filter keep xs s.once;
  laid = laid_filter edges keep xs s.laid;
  below = λ m is. s.below m (in_filter keep xs m is);
  few = let less = filter_few keep xs in omega (arith, less, s.few);
}

pub from_stand : (n : ℕ) (edges : Edges) (from : Option ℕ) (xs : List ℕ) → Stand n edges xs → Stand n edges (from_on from xs)
from_stand n edges from xs s = record {
  once = once_from from xs s.once;
  laid = laid_from edges from xs s.laid;
  below = λ m is. s.below m (in_from from xs m is);
  few = let less = from_few from xs in omega (arith, less, s.few);
}

-- ---- places

-- a place that is found
record Found (test : ℕ → Bool) (at : ℕ) (xs : List ℕ) (q : ℕ) : Type 0 where
  i : ℕ
  is : q ≡ at + i
  low : i < length xs
  passes : test (get_or xs i 0) ≡ true

found_more : (test : ℕ → Bool) (at x : ℕ) (xs : List ℕ) (q : ℕ) → Found test (suc at) xs q → Found test at (x ∷ xs) q
found_more test at x xs q f = record { i = suc f.i; is = omega (arith, f.is); low = omega (arith, f.low); passes = f.passes }

found : (test : ℕ → Bool) (at : ℕ) (xs : List ℕ) (q : ℕ) → has (places_from test at xs) q ≡ true → Found test at xs q
found test at [] q is = absurd (false≢true is)
found test at (x ∷ xs) q is = by (test x) refl (found test (suc at) xs q)
  where
    by : (b : Bool) → test x ≡ b → (has (places_from test (suc at) xs) q ≡ true → Found test (suc at) xs q) → Found test at (x ∷ xs) q
    by true e rest = of (one_of (at == q) (has (places_from test (suc at) xs) q) (sym (ap (λ b. has (if b then at ∷ places_from test (suc at) xs else places_from test (suc at) xs) q) e) ∙ is))
      where
        of : ((at == q) ≡ true) ⊎ (has (places_from test (suc at) xs) q ≡ true) → Found test at (x ∷ xs) q
        of (inl here) = let same = is_same at q here in record { i = 0; is = omega (arith, same); low = omega arith; passes = e }
        of (inr there) = found_more test at x xs q (rest there)
    by false e rest = found_more test at x xs q (rest (sym (ap (λ b. has (if b then at ∷ places_from test (suc at) xs else places_from test (suc at) xs) q) e) ∙ is))

-- an upstream that stands in the list stands before the module
before_at : (edges : Edges) (xs : List ℕ) → IsLaid edges xs → (p q : ℕ) → p < length xs → q < length xs → has (upstreams edges (get_or xs p 0)) (get_or xs q 0) ≡ true → q < p
before_at edges [] laid p q pl ql is = absurd (omega (arith, pl))
before_at edges (x ∷ xs) laid zero q pl ql is = absurd (false≢true (sym (laid.0 (get_or (x ∷ xs) q 0) is) ∙ has_at (x ∷ xs) q 0 ql))
before_at edges (x ∷ xs) laid (suc p) zero pl ql is = omega arith
before_at edges (x ∷ xs) laid (suc p) (suc q) pl ql is = let lower = before_at edges xs laid.1 p q (omega (arith, pl)) (omega (arith, ql)) is in omega (arith, lower)

at_map : (f : ℕ → List ℕ) (xs : List ℕ) (p : ℕ) → p < length xs → get_or (map f xs) p [] ≡ f (get_or xs p 0)
at_map f [] p low = absurd (omega (arith, low))
at_map f (x ∷ xs) zero low = refl
at_map f (x ∷ xs) (suc p) low = at_map f xs p (omega (arith, low))

past_map : (f : ℕ → List ℕ) (xs : List ℕ) (p : ℕ) → length xs ≤ p → get_or (map f xs) p [] ≡ []
past_map f [] p high = refl
past_map f (x ∷ xs) zero high = absurd (omega (arith, high))
past_map f (x ∷ xs) (suc p) high = past_map f xs p (omega (arith, high))

pub upstreams_before : (edges : Edges) (xs : List ℕ) → IsLaid edges xs → (p u : ℕ) → has (get_or (all_upstreams edges xs) p []) u ≡ true → u < p
unfolding upstream_places
upstreams_before edges xs laid p u is = by (nat_lt p (length xs)) refl
  where
    by : (b : Bool) → nat_lt p (length xs) ≡ b → u < p
    by true e =
        let low : p < length xs = grind (arith, nat_tests, e) in
        let f = found (has (upstreams edges (get_or xs p 0))) 0 xs u (sym (ap (λ l. has l u) (at_map (upstream_places edges xs) xs p low)) ∙ is) in
        let lower = before_at edges xs laid p f.i low f.low f.passes in
        omega (arith, f.is, lower)
    by false e =
        let high : length xs ≤ p = grind (arith, nat_tests, e) in
        absurd (false≢true (sym (ap (λ l. has l u) (past_map (upstream_places edges xs) xs p high)) ∙ is))

-- ---- and its places ascend

lower : (low high : ℕ) (xs : List ℕ) → low ≤ high → Ascends high xs → Ascends low xs
lower low high [] le c = c
lower low high (x ∷ xs) le c = (omega (arith, le, c.0), c.1)

ascend_from : (test : ℕ → Bool) (at : ℕ) (xs : List ℕ) → Ascends at (places_from test at xs)
ascend_from test at [] = tt
ascend_from test at (x ∷ xs) = by (test x) (ascend_from test (suc at) xs)
  where
    by : (b : Bool) → Ascends (suc at) (places_from test (suc at) xs) → Ascends at (if b then at ∷ places_from test (suc at) xs else places_from test (suc at) xs)
    by true rest = (omega arith, rest)
    by false rest = lower at (suc at) (places_from test (suc at) xs) (omega arith) rest

pub places_ascend : (edges : Edges) (xs : List ℕ) (p : ℕ) → Ascends 0 (get_or (all_upstreams edges xs) p [])
unfolding upstream_places
places_ascend edges xs p = by (nat_lt p (length xs)) refl
  where
    by : (b : Bool) → nat_lt p (length xs) ≡ b → Ascends 0 (get_or (all_upstreams edges xs) p [])
    by true e =
        let low : p < length xs = grind (arith, nat_tests, e) in
        subst (Ascends 0) (sym (at_map (upstream_places edges xs) xs p low)) (ascend_from (has (upstreams edges (get_or xs p 0))) 0 xs)
    by false e =
        let high : length xs ≤ p = grind (arith, nat_tests, e) in
        subst (Ascends 0) (sym (past_map (upstream_places edges xs) xs p high)) tt

-- ---- each number once, as std says it

apart : (x : ℕ) (xs : List ℕ) → has xs x ≡ false → AllByRecursion (λ y. nat_eq x y ≡ false) xs
apart x [] e = tt
apart x (y ∷ xs) e =
    let both = or_none (y == x) (has xs x) e in
    (grind (arith, nat_tests, both.0), apart x xs both.1)

pub distinct : (xs : List ℕ) → Once xs → IsDistinct nat_eq xs
unfolding IsDistinct
distinct [] o = tt
distinct (x ∷ xs) o = (apart x xs o.0, distinct xs o.1)
