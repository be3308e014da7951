-- The cycle is one: each module has the next as an upstream, and the last has the first.
use Rattle.std.proofs.Common.{◌≡◌, ◌⊎◌, inl, inr, ℕ, zero, suc, ◌+◌, ◌<◌, ◌≤◌, min, Bool, true, false, not, ◌&&◌, ◌||◌, ◌==◌, nat_lt, List, [], ◌∷◌, ◌++◌, length, get_or, find, fold, Option, Some, None, Result, Ok, Err, unwrap_or, if◌then◌else◌, length-append, append-nil, append_assoc, refl, sym, ap, subst, ◌∙◌, arith}
use Rattle.std.proofs.lemmas.Bool.{false≢true}
use Rattle.std.proofs.lemmas.Bool.Decides.{nat_tests}
use Rattle.reactor_order.specs.Graph.{Edges, has, upstreams, AreEdgesBelow}
use Rattle.reactor_order.specs.Order.{numbers, can_follow, all_placed}
use Rattle.reactor_order.specs.Cycle.{or_earlier, waits_on, goes_to, from_first, walk, cycle_of, order}
use Rattle.reactor_order.specs.Marks.{unmarked}
use Rattle.reactor_order.specs.Waiting.{missing}
use Rattle.reactor_order.specs.Laws.{IsChain, IsCycle}
use Rattle.reactor_order.proofs.Marking.{has_push}
use Rattle.reactor_order.proofs.Reaching.{one_of, first_or, second_or}
use Rattle.reactor_order.proofs.Placing.{follows_is}
use Rattle.reactor_order.proofs.Orders.{MarksOf, marks_more, no_marks, full_marks, placed_marks, none_follows_all, find_passes, not_true}

-- a module where one can't stay
pub record IsStuck (edges : Edges) (placed : List ℕ) (m : ℕ) : Type 0 where
  pub free : has placed m ≡ false
  pub waits : (missing placed (upstreams edges m) == 0) ≡ false

-- what a fold over upstreams has found
Found : List ℕ → ℕ → List ℕ → Option ℕ → Type 0
Found placed m us None = (u : ℕ) → has us u ≡ true → has placed u ≡ false → u ≡ m
Found placed m us (Some v) = (has us v ≡ true) × (has placed v ≡ false)

found_more : (placed : List ℕ) (m u : ℕ) (us : List ℕ) (found : Option ℕ) → Found placed m us found → Found placed m (us ++ u ∷ []) (or_earlier placed m found u)
unfolding Found
found_more placed m u us found f = by (u == m) (has placed u) refl refl found f
  where
    old : (v : ℕ) → has us v ≡ true → has (us ++ u ∷ []) v ≡ true
    old v e = has_push us u v ∙ first_or (has us v) (u == v) e

    new : has (us ++ u ∷ []) u ≡ true
    new = let same : (u == u) ≡ true = grind (arith, nat_tests) in has_push us u u ∙ second_or (has us u) (u == u) same

    by : (e h : Bool) → (u == m) ≡ e → has placed u ≡ h → (found : Option ℕ) → Found placed m us found → Found placed m (us ++ u ∷ []) (or_earlier placed m found u)
    by true h e hh None f = rw e (λ v there free. last v free (one_of (has us v) (u == v) (sym (has_push us u v) ∙ there)))
      where
        last : (v : ℕ) → has placed v ≡ false → (has us v ≡ true) ⊎ ((u == v) ≡ true) → v ≡ m
        last v free (inl x) = f v x free
        last v free (inr x) = grind (arith, nat_tests, x, e)
    by true h e hh (Some v) f = rw e (old v f.0, f.1)
    by false true e h None f = rw (e, h) (λ v there free. last v free (one_of (has us v) (u == v) (sym (has_push us u v) ∙ there)))
      where
        last : (v : ℕ) → has placed v ≡ false → (has us v ≡ true) ⊎ ((u == v) ≡ true) → v ≡ m
        last v free (inl x) = f v x free
        last v free (inr x) = let same : u ≡ v = grind (arith, nat_tests, x) in absurd (false≢true (sym free ∙ ap (has placed) (sym same) ∙ h))
    by false true e h (Some v) f = rw (e, h) (old v f.0, f.1)
    by false false e h None f = rw (e, h) (new, h)
    by false false e h (Some v) f = rw (e, h) (lesser (nat_lt v u) refl)
      where
        lesser : (b : Bool) → nat_lt v u ≡ b → (has (us ++ u ∷ []) (min v u) ≡ true) × (has placed (min v u) ≡ false)
        lesser true x = let same : min v u ≡ v = grind (arith, nat_tests, x) in rw same (old v f.0, f.1)
        lesser false x = let same : min v u ≡ u = grind (arith, nat_tests, x) in rw same (new, h)

found_all : (placed : List ℕ) (m : ℕ) (us more : List ℕ) (found : Option ℕ) → Found placed m us found → Found placed m (us ++ more) (fold (or_earlier placed m) found more)
found_all placed m us [] found f = subst (λ l. Found placed m l found) (sym (append-nil us)) f
found_all placed m us (u ∷ more) found f =
    subst (λ l. Found placed m l (fold (or_earlier placed m) (or_earlier placed m found u) more)) (append_assoc us (u ∷ []) more)
    (found_all placed m (us ++ u ∷ []) more (or_earlier placed m found u) (found_more placed m u us found f))

-- one of these isn't placed
record Free (placed us : List ℕ) : Type 0 where
  one : ℕ
  there : has us one ≡ true
  free : has placed one ≡ false

some_free : (placed us : List ℕ) → (missing placed us == 0) ≡ false → Free placed us
some_free placed [] e = absurd (false≢true (sym e))
some_free placed (u ∷ us) e = by (has placed u) refl (some_free placed us)
  where
    by : (h : Bool) → has placed u ≡ h → ((missing placed us == 0) ≡ false → Free placed us) → Free placed (u ∷ us)
    by false h rest = let same : (u == u) ≡ true = grind (arith, nat_tests) in record { one = u; there = first_or (u == u) (has us u) same; free = h }
    by true h rest =
        let less : missing placed (u ∷ us) ≡ missing placed us = rw h refl in
        let r = rest (sym (ap (λ k. k == 0) less) ∙ e) in
        record { one = r.one; there = second_or (u == r.one) (has us r.one) r.there; free = r.free }

-- where one goes to is an upstream that isn't placed
record Goes (edges : Edges) (placed : List ℕ) (m : ℕ) : Type 0 where
  there : has (upstreams edges m) (goes_to edges placed m) ≡ true
  free : has placed (goes_to edges placed m) ≡ false

goes_is : (edges : Edges) (placed : List ℕ) (m : ℕ) → IsStuck edges placed m → Goes edges placed m
unfolding Found
goes_is edges placed m stuck = by (waits_on edges placed m) refl (found_all placed m [] (upstreams edges m) None (λ u there. absurd (false≢true there)))
  where
    by : (o : Option ℕ) → waits_on edges placed m ≡ o → Found placed m (upstreams edges m) (waits_on edges placed m) → Goes edges placed m
    by None e f =
        let one = some_free placed (upstreams edges m) stuck.waits in
        let same : one.one ≡ m = subst (Found placed m (upstreams edges m)) e f one.one one.there one.free in
        let itself : goes_to edges placed m ≡ m = ap (λ o. unwrap_or o m) e in
        record { there = ap (has (upstreams edges m)) (itself ∙ sym same) ∙ one.there; free = ap (has placed) itself ∙ stuck.free }
    by (Some v) e f =
        let g = subst (Found placed m (upstreams edges m)) e f in
        let itself : goes_to edges placed m ≡ v = ap (λ o. unwrap_or o m) e in
        record { there = ap (has (upstreams edges m)) itself ∙ g.0; free = ap (has placed) itself ∙ g.1 }

chain_push : (edges : Edges) (xs : List ℕ) (a b : ℕ) → IsChain edges (xs ++ a ∷ []) → has (upstreams edges a) b ≡ true → IsChain edges ((xs ++ a ∷ []) ++ b ∷ [])
chain_push edges [] a b c e = (e, tt)
chain_push edges (x ∷ []) a b c e = (c.0, (e, tt))
chain_push edges (x ∷ y ∷ xs) a b c e = (c.0, chain_push edges (y ∷ xs) a b c.1 e)

chain_rest : (edges : Edges) (front list : List ℕ) → IsChain edges (front ++ list) → IsChain edges list
chain_rest edges [] list c = c
chain_rest edges (x ∷ []) [] c = tt
chain_rest edges (x ∷ []) (y ∷ list) c = c.1
chain_rest edges (x ∷ y ∷ front) list c = chain_rest edges (y ∷ front) list c.1

-- a list from a module on
record Split (m : ℕ) (list : List ℕ) : Type 0 where
  front : List ℕ
  rest : List ℕ
  is : list ≡ front ++ m ∷ rest
  from : from_first m list ≡ m ∷ rest

splits : (m : ℕ) (list : List ℕ) → has list m ≡ true → Split m list
splits m [] e = absurd (false≢true e)
splits m (x ∷ list) e = by (x == m) refl (splits m list)
  where
    by : (b : Bool) → (x == m) ≡ b → (has list m ≡ true → Split m list) → Split m (x ∷ list)
    by true t rest = let same : x ≡ m = grind (arith, nat_tests, t) in record { front = []; rest = list; is = ap (λ k. k ∷ list) same; from = rw t (ap (λ k. k ∷ list) same) }
    by false t rest =
        let s = rest (sym (ap (λ b. b || has list m) t) ∙ e) in
        record { front = x ∷ s.front; rest = s.rest; is = ap (λ l. x ∷ l) s.is; from = ap (λ b. if b then x ∷ list else from_first m list) t ∙ s.from }

repeats : (edges : Edges) (seen : List ℕ) (m : ℕ) → IsChain edges (seen ++ m ∷ []) → has seen m ≡ true → IsCycle edges (from_first m seen)
repeats edges seen m chain again =
    let s = splits m seen again in
    subst (IsCycle edges) (sym s.from) (record {
      first = m;
      rest = s.rest;
      begins = refl;
      chain = chain_rest edges s.front ((m ∷ s.rest) ++ m ∷ []) (subst (IsChain edges) (ap (λ l. l ++ m ∷ []) s.is ∙ append_assoc s.front (m ∷ s.rest) (m ∷ [])) chain);
    })

-- one goes on among modules that are stuck
walk_is : (k n : ℕ) (edges : Edges) (placed seen : List ℕ) (m : ℕ) → ((x : ℕ) → x < n → has placed x ≡ false → IsStuck edges placed x) → ((x u : ℕ) → has (upstreams edges x) u ≡ true → u < n)
    → m < n → has placed m ≡ false → MarksOf n seen → k + length seen ≡ n → IsChain edges (seen ++ m ∷ []) → IsCycle edges (walk k edges placed seen m)
walk_is zero n edges placed seen m stuck inside low free marks count chain =
    repeats edges seen m chain (marks.marked.same m ∙ full_marks marks.marks m (omega (arith, marks.marked.count, marks.long, count)) (subst (λ k. m < k) (sym marks.long) low))
walk_is (suc k) n edges placed seen m stuck inside low free marks count chain = by (has seen m) refl (walk_is k n edges placed (seen ++ m ∷ []) (goes_to edges placed m) stuck inside)
  where
    goes : Goes edges placed m
    goes = goes_is edges placed m (stuck m low free)

    by : (b : Bool) → has seen m ≡ b
        → (goes_to edges placed m < n → has placed (goes_to edges placed m) ≡ false → MarksOf n (seen ++ m ∷ []) → k + length (seen ++ m ∷ []) ≡ n → IsChain edges ((seen ++ m ∷ []) ++ goes_to edges placed m ∷ []) → IsCycle edges (walk k edges placed (seen ++ m ∷ []) (goes_to edges placed m)))
        → IsCycle edges (walk (suc k) edges placed seen m)
    by true again rest = rw again (repeats edges seen m chain again)
    by false new rest =
        rw new (rest (inside m (goes_to edges placed m) goes.there) goes.free (marks_more n seen m low new marks) (omega (arith, count, length-append seen (m ∷ []))) (chain_push edges seen m (goes_to edges placed m) chain goes.there))

find_fails : (p : ℕ → Bool) (from count x : ℕ) → find p (numbers from count) ≡ None → from ≤ x → x < from + count → p x ≡ false
find_fails p from zero x none low high = absurd (never (omega (arith, low, high)))
  where
    never : ⊥ → ⊥
    never e = e
find_fails p from (suc n) x none low high = by (p from) refl (from == x) refl (find_fails p (suc from) n x)
  where
    is_there : Option ℕ → Bool
    is_there None = false
    is_there (Some v) = true

    by : (b : Bool) → p from ≡ b → (e : Bool) → (from == x) ≡ e → (find p (numbers (suc from) n) ≡ None → suc from ≤ x → x < suc from + n → p x ≡ false) → p x ≡ false
    by true is e eq rest = let there : find p (numbers from (suc n)) ≡ Some from = rw is refl in absurd (false≢true (sym (ap is_there none) ∙ ap is_there there))
    by false is true eq rest = let same : from ≡ x = grind (arith, nat_tests, eq) in ap p (sym same) ∙ is
    by false is false eq rest =
        let there : find p (numbers from (suc n)) ≡ find p (numbers (suc from) n) = rw is refl in
        let above : suc from ≤ x = grind (arith, nat_tests, eq, low) in
        rest (sym there ∙ none) above (omega (arith, high))

all_marked : (marks : List Bool) → ((m : ℕ) → m < length marks → get_or marks m false ≡ true) → unmarked marks ≡ 0
all_marked [] all = refl
all_marked (true ∷ marks) all = all_marked marks (λ m low. all (suc m) (omega (arith, low)))
all_marked (false ∷ marks) all = absurd (false≢true (all 0 (omega arith)))

edges_inside : (n : ℕ) (edges : Edges) → AreEdgesBelow n edges → (x u : ℕ) → has (upstreams edges x) u ≡ true → u < n
edges_inside n [] below x u e = absurd (false≢true e)
edges_inside n (edge ∷ edges) below x u e = by (edge.0 == x) refl (edges_inside n edges (λ i low. below (suc i) (omega (arith, low))) x u)
  where
    here : edge.1 < n
    here = (below 0 (omega arith)).1

    at_once : (has (upstreams edges x) u ≡ true → u < n) → (((edge.1 == u) ≡ true) ⊎ (has (upstreams edges x) u ≡ true)) → u < n
    at_once rest (inl t) = let same : edge.1 ≡ u = grind (arith, nat_tests, t) in subst (λ k. k < n) same here
    at_once rest (inr t) = rest t

    by : (b : Bool) → (edge.0 == x) ≡ b → (has (upstreams edges x) u ≡ true → u < n) → u < n
    by true t rest =
        let ups : upstreams (edge ∷ edges) x ≡ edge.1 ∷ upstreams edges x = ap (λ b. if b then edge.1 ∷ upstreams edges x else upstreams edges x) t in
        at_once rest (one_of (edge.1 == u) (has (upstreams edges x) u) (sym (ap (λ l. has l u) ups) ∙ e))
    by false t rest =
        let ups : upstreams (edge ∷ edges) x ≡ upstreams edges x = ap (λ b. if b then edge.1 ∷ upstreams edges x else upstreams edges x) t in
        rest (sym (ap (λ l. has l u) ups) ∙ e)

-- where modules are left, what is walked is a cycle
pub cycle_is : (n : ℕ) (edges : Edges) → AreEdgesBelow n edges → (length (all_placed n edges) == n) ≡ false → IsCycle edges (cycle_of n edges (all_placed n edges))
cycle_is n edges below short = by (find (λ m. not (has placed m)) (numbers 0 n)) refl
  where
    placed : List ℕ
    placed = all_placed n edges

    marks : MarksOf n placed
    marks = placed_marks n edges

    stuck : (x : ℕ) → x < n → has placed x ≡ false → IsStuck edges placed x
    stuck x low free =
        let fails = find_fails (can_follow edges placed) 0 n x (none_follows_all n edges short) (omega arith) (omega (arith, low)) in
        record { free = free; waits = sym (ap (λ b. not b && (missing placed (upstreams edges x) == 0)) free) ∙ sym (follows_is edges placed x) ∙ fails }

    by : (o : Option ℕ) → find (λ m. not (has placed m)) (numbers 0 n) ≡ o → IsCycle edges (cycle_of n edges placed)
    by None e =
        let full : unmarked marks.marks ≡ 0 = all_marked marks.marks (λ m low. sym (marks.marked.same m) ∙ all_there m (subst (λ k. m < k) marks.long low)) in
        let whole : (length placed == n) ≡ true = grind (arith, nat_tests, marks.marked.count, marks.long, full) in
        absurd (false≢true (sym short ∙ whole))
      where
        not_false : (b : Bool) → not b ≡ false → b ≡ true
        not_false true e = refl
        not_false false e = absurd (false≢true (sym e))

        all_there : (m : ℕ) → m < n → has placed m ≡ true
        all_there m low = not_false (has placed m) (find_fails (λ m. not (has placed m)) 0 n m e (omega arith) (omega (arith, low)))
    by (Some m) e =
        let p = find_passes (λ m. not (has placed m)) 0 n m e in
        let free = not_true (has placed m) p.0 in
        rw e (walk_is n n edges placed [] m stuck (edges_inside n edges below) (omega (arith, p.1)) free (no_marks n) (omega arith) tt)

err_inner : List ℕ → Result (List ℕ) (List ℕ) → List ℕ
err_inner other (Ok x) = other
err_inner other (Err x) = x

is_err : Result (List ℕ) (List ℕ) → Bool
is_err (Ok x) = false
is_err (Err x) = true

pub order_cycles : (n : ℕ) (edges : Edges) (list : List ℕ) → AreEdgesBelow n edges → order n edges ≡ Err list → IsCycle edges list
unfolding order err_inner is_err
order_cycles n edges list below e = by (length (all_placed n edges) == n) refl
  where
    by : (b : Bool) → (length (all_placed n edges) == n) ≡ b → IsCycle edges list
    by true whole = let is : order n edges ≡ Ok (all_placed n edges) = rw whole refl in absurd (false≢true (sym (ap is_err is) ∙ ap is_err e))
    by false short =
        let is : order n edges ≡ Err (cycle_of n edges (all_placed n edges)) = rw short refl in
        subst (IsCycle edges) (ap (err_inner list) (sym is ∙ e)) (cycle_is n edges below short)
