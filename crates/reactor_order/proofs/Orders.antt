-- What an order is, and that there is one at most.
use Rattle.std.proofs.Common.{◌≡◌, ◌↔◌, ◌⊎◌, inl, inr, ℕ, zero, suc, ◌+◌, ◌<◌, ◌≤◌, Bool, true, false, not, ◌&&◌, ◌||◌, ◌==◌, List, [], ◌∷◌, ◌++◌, length, get_or, set, replicate, find, Option, Some, None, Result, Ok, Err, append-nil, append_assoc, length-append, refl, sym, ap, subst, ◌∙◌, arith}
use Rattle.std.proofs.lemmas.Bool.{false≢true}
use Rattle.std.proofs.lemmas.Bool.Decides.{nat_tests}
use Rattle.std.specs.List.{list_all}
use Rattle.reactor_order.specs.Graph.{Edges, has, upstreams}
use Rattle.reactor_order.specs.Marks.{unmarked, IsMarked}
use Rattle.reactor_order.specs.Order.{numbers, can_follow, next_module, placed_from, all_placed}
use Rattle.reactor_order.specs.Cycle.{order, cycle_of}
use Rattle.reactor_order.specs.Waiting.{times}
use Rattle.reactor_order.specs.Laws.{GoesOn, IsOrder, HasEachOnce, HasUpstreamsBefore}
use Rattle.reactor_order.proofs.Marking.{mark_one, all_free}
use Rattle.reactor_order.proofs.Reaching.{one_of, marked_below}
use Rattle.reactor_order.proofs.Releasing.{times_append}

-- the turns place what goes on
placed_is : (rest : List ℕ) (n : ℕ) (edges : Edges) (front : List ℕ) → GoesOn n edges front rest → placed_from (length rest) n edges front ≡ front ++ rest
placed_is [] n edges front g = sym (append-nil front)
placed_is (m ∷ rest) n edges front g = rw g.0 (placed_is rest n edges (front ++ m ∷ []) g.1 ∙ append_assoc front (m ∷ []) rest)

-- and nothing else
record Placed (n : ℕ) (edges : Edges) (front : List ℕ) (list : List ℕ) : Type 0 where
  rest : List ℕ
  is : list ≡ front ++ rest
  goes : GoesOn n edges front rest

placed_goes : (turns n : ℕ) (edges : Edges) (front : List ℕ) → Placed n edges front (placed_from turns n edges front)
placed_goes zero n edges front = record { rest = []; is = sym (append-nil front); goes = tt }
placed_goes (suc turns) n edges front = by (next_module n edges front) refl (λ m. placed_goes turns n edges (front ++ m ∷ []))
  where
    by : (o : Option ℕ) → next_module n edges front ≡ o → ((m : ℕ) → Placed n edges (front ++ m ∷ []) (placed_from turns n edges (front ++ m ∷ []))) → Placed n edges front (placed_from (suc turns) n edges front)
    by None e more = rw e (record { rest = []; is = sym (append-nil front); goes = tt })
    by (Some m) e more = rw e (let p = more m in record { rest = m ∷ p.rest; is = p.is ∙ append_assoc front (m ∷ []) p.rest; goes = (e, p.goes) })

abbrev said : List ℕ → Result (List ℕ) (List ℕ)
said list = Ok list

abbrev refused : List ℕ → Result (List ℕ) (List ℕ)
refused list = Err list

ok_inner : (a b : List ℕ) → said a ≡ said b → a ≡ b
ok_inner a b e = ap (λ r. inner r) e
  where
    inner : Result (List ℕ) (List ℕ) → List ℕ
    inner (Ok x) = x
    inner (Err x) = a

is_order : (n : ℕ) (edges : Edges) (list : List ℕ) (b : Bool) → (length (all_placed n edges) == n) ≡ b → order n edges ≡ Ok list → IsOrder n edges list
unfolding order
is_order n edges list true e o =
    let same : all_placed n edges ≡ list = ok_inner (all_placed n edges) list (sym (rw e refl) ∙ o) in
    let p = placed_goes n n edges [] in
    record { all = ap length (sym same) ∙ grind (arith, nat_tests, e); goes_on = subst (GoesOn n edges []) (sym p.is ∙ same) p.goes }
is_order n edges list false e o = absurd (never (sym (rw e refl) ∙ o))
  where
    never : refused (cycle_of n edges (all_placed n edges)) ≡ said list → ⊥
    never e = cc

pub order_exactly : (n : ℕ) (edges : Edges) (list : List ℕ) → (order n edges ≡ Ok list) ↔ IsOrder n edges list
unfolding order
order_exactly n edges list = (is_order n edges list (length (all_placed n edges) == n) refl, back)
  where
    back : IsOrder n edges list → order n edges ≡ Ok list
    back is =
        let same : all_placed n edges ≡ list = subst (λ k. placed_from k n edges [] ≡ list) is.all (placed_is list n edges [] is.goes_on) in
        let whole : (length list == n) ≡ true = grind (arith, nat_tests, is.all) in
        rw (same, whole) refl

-- what a search finds passes
pub find_passes : (p : ℕ → Bool) (from count m : ℕ) → find p (numbers from count) ≡ Some m → (p m ≡ true) × (m < from + count)
find_passes p from zero m e = absurd (never e)
  where
    nothing : Option ℕ
    nothing = None

    never : nothing ≡ Some m → ⊥
    never e = cc
find_passes p from (suc n) m e = by (p from) refl (find_passes p (suc from) n m)
  where
    some_inner : (a b : ℕ) → Some a ≡ Some b → a ≡ b
    some_inner a b e = cc

    by : (b : Bool) → p from ≡ b → (find p (numbers (suc from) n) ≡ Some m → (p m ≡ true) × (m < suc from + n)) → (p m ≡ true) × (m < from + suc n)
    by true is rest = let same : from ≡ m = some_inner from m (sym (rw is refl) ∙ e) in (subst (λ k. p k ≡ true) same is, omega (arith, same))
    by false is rest = let r = rest (sym (rw is refl) ∙ e) in (r.0, omega (arith, r.1))

and_both : (a b : Bool) → (a && b) ≡ true → (a ≡ true) × (b ≡ true)
and_both true b e = (refl, e)
and_both false b e = absurd (false≢true e)

pub not_true : (a : Bool) → not a ≡ true → a ≡ false
not_true true e = absurd (false≢true e)
not_true false e = refl

all_have : (front us : List ℕ) (u : ℕ) → list_all (has front) us ≡ true → has us u ≡ true → has front u ≡ true
all_have front [] u all is = absurd (false≢true is)
all_have front (v ∷ us) u all is = by (one_of (v == u) (has us u) is) (all_have front us u (and_both (has front v) (list_all (has front) us) all).1)
  where
    by : ((v == u) ≡ true) ⊎ (has us u ≡ true) → (has us u ≡ true → has front u ≡ true) → has front u ≡ true
    by (inl e) rest = let same : v ≡ u = grind (arith, nat_tests, e) in subst (λ k. has front k ≡ true) same (and_both (has front v) (list_all (has front) us) all).0
    by (inr there) rest = rest there

-- what goes on at a place
at_place : (n : ℕ) (edges : Edges) (before front : List ℕ) (m : ℕ) (rest : List ℕ) → GoesOn n edges before (front ++ m ∷ rest) → next_module n edges (before ++ front) ≡ Some m
at_place n edges before [] m rest g = ap (next_module n edges) (append-nil before) ∙ g.0
at_place n edges before (x ∷ front) m rest g = ap (next_module n edges) (sym (append_assoc before (x ∷ []) front)) ∙ at_place n edges (before ++ x ∷ []) front m rest g.1

pub upstreams_before : (n : ℕ) (edges : Edges) (list : List ℕ) → IsOrder n edges list → HasUpstreamsBefore edges list
upstreams_before n edges list is front rest m u e there =
    let next = at_place n edges [] front m rest (subst (GoesOn n edges []) e is.goes_on) in
    let passes = find_passes (can_follow edges front) 0 n m next in
    all_have front (upstreams edges m) u (and_both (not (has front m)) (list_all (has front) (upstreams edges m)) passes.0).1 there

-- the marks of a list without repeats
pub record MarksOf (n : ℕ) (list : List ℕ) : Type 0 where
  pub marks : List Bool
  pub marked : IsMarked marks list
  pub long : length marks ≡ n
  pub once : (m : ℕ) → times m list ≤ 1

times_of : (front : List ℕ) (x m : ℕ) → has front x ≡ false → times x front ≡ 0
times_of [] x m e = refl
times_of (y ∷ front) x m e = by (y == x) refl (times_of front x m)
  where
    by : (b : Bool) → (y == x) ≡ b → (has front x ≡ false → times x front ≡ 0) → times x (y ∷ front) ≡ 0
    by true same rest = absurd (false≢true (sym e ∙ ap (λ b. b || has front x) same))
    by false other rest = rw other (rest (sym (ap (λ b. b || has front x) other) ∙ e))

pub marks_more : (n : ℕ) (front : List ℕ) (x : ℕ) → x < n → has front x ≡ false → MarksOf n front → MarksOf n (front ++ x ∷ [])
marks_more n front x low free is =
    let more = mark_one is.marks front x is.marked (subst (λ k. x < k) (sym is.long) low) (sym (is.marked.same x) ∙ free) in
    record { marks = set is.marks x true; marked = more.marked; long = more.long ∙ is.long; once = λ m. by m (x == m) refl }
  where
    by : (m : ℕ) → (b : Bool) → (x == m) ≡ b → times m (front ++ x ∷ []) ≤ 1
    by m true e =
        let same : x ≡ m = grind (arith, nat_tests, e) in
        let itself : times m (x ∷ []) ≡ 1 = rw e refl in
        omega (arith, itself, times_append m front (x ∷ []), ap (λ k. times k front) (sym same), times_of front x x free)
    by m false e =
        let other : times m (x ∷ []) ≡ 0 = rw e refl in
        omega (arith, other, times_append m front (x ∷ []), is.once m)

pub marks_all : (n : ℕ) (edges : Edges) (front rest : List ℕ) → GoesOn n edges front rest → MarksOf n front → MarksOf n (front ++ rest)
marks_all n edges front [] g is = subst (MarksOf n) (sym (append-nil front)) is
marks_all n edges front (x ∷ rest) g is =
    let passes = find_passes (can_follow edges front) 0 n x g.0 in
    let free = not_true (has front x) (and_both (not (has front x)) (list_all (has front) (upstreams edges x)) passes.0).0 in
    subst (MarksOf n) (append_assoc front (x ∷ []) rest) (marks_all n edges (front ++ x ∷ []) rest g.1 (marks_more n front x (omega (arith, passes.1)) free is))

pub no_marks : (n : ℕ) → MarksOf n []
no_marks n = record { marks = replicate n false; marked = (all_free n).marked; long = (all_free n).long; once = λ m. omega arith }

pub full_marks : (marks : List Bool) (m : ℕ) → unmarked marks ≡ 0 → m < length marks → get_or marks m false ≡ true
full_marks [] m none low = absurd (never (omega (arith, low)))
  where
    never : ⊥ → ⊥
    never e = e
full_marks (true ∷ marks) zero none low = refl
full_marks (true ∷ marks) (suc m) none low = full_marks marks m none (omega (arith, low))
full_marks (false ∷ marks) m none low = absurd (never (omega (arith, none)))
  where
    never : ⊥ → ⊥
    never e = e

times_some : (list : List ℕ) (m : ℕ) → has list m ≡ true → 1 ≤ times m list
times_some [] m is = absurd (false≢true is)
times_some (x ∷ list) m is = by (x == m) refl (times_some list m)
  where
    by : (b : Bool) → (x == m) ≡ b → (has list m ≡ true → 1 ≤ times m list) → 1 ≤ times m (x ∷ list)
    by true e rest = rw e (omega arith)
    by false e rest = rw e (rest (sym (ap (λ b. b || has list m) e) ∙ is))

pub each_once : (n : ℕ) (edges : Edges) (list : List ℕ) → IsOrder n edges list → HasEachOnce n list
each_once n edges list is = record {
  below = λ m there. subst (λ k. m < k) marks.long (marked_below marks.marks m (sym (marks.marked.same m) ∙ there));
  each = each;
  once = λ m low. omega (arith, marks.once m, times_some list m (each m low));
}
  where
    marks : MarksOf n list
    marks = marks_all n edges [] list is.goes_on (no_marks n)

    each : (m : ℕ) → m < n → has list m ≡ true
    each m low = marks.marked.same m ∙ full_marks marks.marks m (omega (arith, marks.marked.count, marks.long, is.all)) (subst (λ k. m < k) (sym marks.long) low)

-- what is placed has marks
pub placed_marks : (n : ℕ) (edges : Edges) → MarksOf n (all_placed n edges)
placed_marks n edges = let p = placed_goes n n edges [] in subst (MarksOf n) (sym p.is) (marks_all n edges [] p.rest p.goes (no_marks n))

-- the turns end with none that can follow, or each has placed one
full_or_none : (turns n : ℕ) (edges : Edges) (front : List ℕ) → (next_module n edges (placed_from turns n edges front) ≡ None) ⊎ (length (placed_from turns n edges front) ≡ turns + length front)
full_or_none zero n edges front = inr (omega arith)
full_or_none (suc turns) n edges front = by (next_module n edges front) refl (λ m. full_or_none turns n edges (front ++ m ∷ []))
  where
    longer : (m : ℕ) → (next_module n edges (placed_from turns n edges (front ++ m ∷ [])) ≡ None) ⊎ (length (placed_from turns n edges (front ++ m ∷ [])) ≡ turns + length (front ++ m ∷ [])) → (next_module n edges (placed_from turns n edges (front ++ m ∷ [])) ≡ None) ⊎ (length (placed_from turns n edges (front ++ m ∷ [])) ≡ suc turns + length front)
    longer m (inl none) = inl none
    longer m (inr full) = inr (omega (arith, full, length-append front (m ∷ [])))

    by : (o : Option ℕ) → next_module n edges front ≡ o → ((m : ℕ) → (next_module n edges (placed_from turns n edges (front ++ m ∷ [])) ≡ None) ⊎ (length (placed_from turns n edges (front ++ m ∷ [])) ≡ turns + length (front ++ m ∷ []))) → (next_module n edges (placed_from (suc turns) n edges front) ≡ None) ⊎ (length (placed_from (suc turns) n edges front) ≡ suc turns + length front)
    by None e more = let same : placed_from (suc turns) n edges front ≡ front = rw e refl in inl (ap (next_module n edges) same ∙ e)
    by (Some m) e more =
        let same : placed_from (suc turns) n edges front ≡ placed_from turns n edges (front ++ m ∷ []) = rw e refl in
        subst (λ l. (next_module n edges l ≡ None) ⊎ (length l ≡ suc turns + length front)) (sym same) (longer m (more m))

pub none_follows_all : (n : ℕ) (edges : Edges) → (length (all_placed n edges) == n) ≡ false → next_module n edges (all_placed n edges) ≡ None
none_follows_all n edges short = by (full_or_none n n edges [])
  where
    by : (next_module n edges (all_placed n edges) ≡ None) ⊎ (length (all_placed n edges) ≡ n + 0) → next_module n edges (all_placed n edges) ≡ None
    by (inl none) = none
    by (inr full) = let whole : (length (all_placed n edges) == n) ≡ true = grind (arith, nat_tests, full) in absurd (false≢true (sym short ∙ whole))
