-- Where one goes from a module, with one edge more.
use Rattle.std.proofs.Common.{◌≡◌, ℕ, ◌+◌, ◌<◌, Bool, true, false, ◌==◌, List, [], ◌∷◌, ◌++◌, length, get_or, set, take, fold, Option, Some, None, unwrap_or, if◌then◌else◌, append-nil, refl, sym, ap, subst, ◌∙◌, arith}
use Rattle.std.proofs.lemmas.Bool.Decides.{nat_tests}
use Rattle.std.proofs.lemmas.Grind.{get_or-set_at}
use Rattle.std.proofs.lemmas.List.{get_or-set_other, take_more, length-set}
use Rattle.reactor_order.specs.Graph.{Edges, has, upstreams}
use Rattle.reactor_order.specs.Cycle.{or_earlier, waits_on, goes_to}
use Rattle.reactor_order.specs.Walking.{earlier, Goes}
use Rattle.reactor_order.proofs.Adjacency.{upstreams_push}

-- what was found isn't the module itself
abbrev IsApart : ℕ → Option ℕ → Type 0
IsApart m None = Unit {0}
IsApart m (Some v) = (v == m) ≡ false

apart_more : (placed : List ℕ) (m u : ℕ) (found : Option ℕ) → IsApart m found → IsApart m (or_earlier placed m found u)
apart_more placed m u found apart = by (u == m) (has placed u) refl refl found apart
  where
    by : (e h : Bool) → (u == m) ≡ e → has placed u ≡ h → (found : Option ℕ) → IsApart m found → IsApart m (or_earlier placed m found u)
    by true h e hh found apart = rw e apart
    by false true e h found apart = rw (e, h) apart
    by false false e h None apart = rw (e, h) e
    by false false e h (Some v) apart = rw (e, h) (grind (arith, nat_tests, e, apart))

apart_all : (placed : List ℕ) (m : ℕ) (us : List ℕ) (found : Option ℕ) → IsApart m found → IsApart m (fold (or_earlier placed m) found us)
apart_all placed m [] found apart = apart
apart_all placed m (u ∷ us) found apart = apart_all placed m us (or_earlier placed m found u) (apart_more placed m u found apart)

fold_push : (placed : List ℕ) (m u : ℕ) (us : List ℕ) (found : Option ℕ) → fold (or_earlier placed m) found (us ++ u ∷ []) ≡ or_earlier placed m (fold (or_earlier placed m) found us) u
fold_push placed m u [] found = refl
fold_push placed m u (v ∷ us) found = fold_push placed m u us (or_earlier placed m found v)

earlier_is : (placed : List ℕ) (m u : ℕ) (found : Option ℕ) → IsApart m found → unwrap_or (or_earlier placed m found u) m ≡ earlier m (unwrap_or found m) u (has placed u)
earlier_is placed m u found apart = by (u == m) (has placed u) refl refl found apart
  where
    by : (e h : Bool) → (u == m) ≡ e → has placed u ≡ h → (found : Option ℕ) → IsApart m found → unwrap_or (or_earlier placed m found u) m ≡ earlier m (unwrap_or found m) u (has placed u)
    by true h e hh found apart = rw e refl
    by false true e h found apart = rw (e, h) refl
    by false false e h None apart = rw (e, h) (grind (arith, nat_tests))
    by false false e h (Some v) apart = rw (e, h, apart) refl

-- one upstream more of its own
goes_more : (edges : Edges) (placed : List ℕ) (m u : ℕ) → goes_to (edges ++ (m, u) ∷ []) placed m ≡ earlier m (goes_to edges placed m) u (has placed u)
goes_more edges placed m u =
    let own : upstreams (edges ++ (m, u) ∷ []) m ≡ upstreams edges m ++ u ∷ [] =
    let same : (m == m) ≡ true = grind (arith, nat_tests) in upstreams_push edges m u m ∙ ap (λ b. upstreams edges m ++ (if b then u ∷ [] else [])) same in
    ap (λ us. unwrap_or (fold (or_earlier placed m) None us) m) own
    ∙ ap (λ found. unwrap_or found m) (fold_push placed m u (upstreams edges m) None)
    ∙ earlier_is placed m u (waits_on edges placed m) (apart_all placed m (upstreams edges m) None tt)

-- or of another
goes_other : (edges : Edges) (placed : List ℕ) (a u m : ℕ) → (a == m) ≡ false → goes_to (edges ++ (a, u) ∷ []) placed m ≡ goes_to edges placed m
goes_other edges placed a u m other =
    ap (λ us. unwrap_or (fold (or_earlier placed m) None us) m) (upstreams_push edges a u m ∙ ap (λ b. upstreams edges m ++ (if b then u ∷ [] else [])) other ∙ append-nil (upstreams edges m))

earlier_below : (n m next u : ℕ) (p : Bool) → next < n → u < n → earlier m next u p < n
earlier_below n m next u p low ulow = grind (arith, nat_tests, low, ulow)

-- one edge more
pub goes_on : (n : ℕ) (edges : Edges) (placed nexts : List ℕ) (a u now : ℕ) → a < n → u < n → Goes n edges placed nexts → now ≡ earlier a (get_or nexts a 0) u (has placed u) → Goes n (edges ++ (a, u) ∷ []) placed (set nexts a now)
goes_on n edges placed nexts a u now alow ulow g is = record {
  long = length-set nexts a now ∙ g.long;
  each = λ m low. each_by m low (a == m) refl;
  below = λ m low. below_by m low (a == m) refl;
}
  where
    a_in : a < length nexts
    a_in = subst (λ k. a < k) (sym g.long) alow

    each_by : (m : ℕ) → m < n → (b : Bool) → (a == m) ≡ b → get_or (set nexts a now) m 0 ≡ goes_to (edges ++ (a, u) ∷ []) placed m
    each_by m low true e =
        let same : m ≡ a = grind (arith, nat_tests, e) in
        get_or-set_at nexts a m now 0 same a_in ∙ is ∙ ap (λ k. earlier a k u (has placed u)) (g.each a alow) ∙ sym (goes_more edges placed a u) ∙ ap (goes_to (edges ++ (a, u) ∷ []) placed) (sym same)
    each_by m low false e = get_or-set_other nexts a m now 0 (grind (arith, nat_tests, e)) ∙ g.each m low ∙ sym (goes_other edges placed a u m e)

    below_by : (m : ℕ) → m < n → (b : Bool) → (a == m) ≡ b → get_or (set nexts a now) m 0 < n
    below_by m low true e =
        let same : m ≡ a = grind (arith, nat_tests, e) in
        subst (λ k. k < n) (sym (get_or-set_at nexts a m now 0 same a_in ∙ is)) (earlier_below n a (get_or nexts a 0) u (has placed u) (g.below a alow) ulow)
    below_by m low false e = subst (λ k. k < n) (sym (get_or-set_other nexts a m now 0 (grind (arith, nat_tests, e)))) (g.below m low)

pub goes_nowhere : (n : ℕ) (placed nexts : List ℕ) → length nexts ≡ n → ((m : ℕ) → m < n → get_or nexts m 0 ≡ m) → Goes n [] placed nexts
goes_nowhere n placed nexts long itself = record { long = long; each = itself; below = λ m low. subst (λ k. k < n) (sym (itself m low)) low }

pub goes_take : (n i : ℕ) (edges : Edges) (placed nexts : List ℕ) → i < length edges → Goes n (take i edges ++ ((get_or edges i (0, 0)).0, (get_or edges i (0, 0)).1) ∷ []) placed nexts → Goes n (take (i + 1) edges) placed nexts
goes_take n i edges placed nexts low g = subst (λ es. Goes n es placed nexts) (sym (take_more edges i (0, 0) low)) g
