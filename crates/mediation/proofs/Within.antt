-- What stands in lists of paths.
use Rattle.std.proofs.Common.{◌≡◌, inl, inr, ◌⊎◌, ◌<◌, ◌+◌, ℕ, zero, suc, Bool, true, false, ◌&&◌, List, [], ◌∷◌, ◌++◌, Contains, flat_map, find, length, map, slice_index_or, Some, None, unwrap_or, refl, sym, ap, subst, ◌∙◌, cond, if◌then◌else◌, arith}
use Rattle.std.specs.Str.{bytes_eq}
use Rattle.std.proofs.lemmas.List.Elements.{All-contains, Contains-append_left, Contains-append_right}
use Rattle.std.proofs.lemmas.Slice.Eq.{bytes_eq-Decides}
use Rattle.collector.specs.declared.edge.Edge.{Edge}
use Rattle.mvn_base.specs.declared.key.Key.{Key}
use Rattle.model_merge.specs.Keyed.{same_key}
use Rattle.collector.specs.Winners.{Graph, Path, SharesNone, ends_at, firsts, is_won, level, longer, next_edges, shares_end, winner_of, winners}

-- an item stands in a list
abbrev pub IsIn : {A : Type 0} → List A → A → Type 0
IsIn [] x = ⊥
IsIn (y ∷ ys) x = (y ≡ x) ⊎ IsIn ys x

each_in : {A : Type 0} (xs : List A) (k : ℕ) (d : A) → k < length xs → IsIn xs (slice_index_or xs k d)
each_in [] k d low = absurd (omega (arith, low))
each_in (x ∷ xs) zero d low = inl refl
each_in (x ∷ xs) (suc k) d low = inr (each_in xs k d (omega (arith, low)))

pub in_from : {A : Type 0} (xs : List A) (x : A) → Contains xs x → IsIn xs x
in_from xs x there = All-contains (λ y. IsIn xs y) xs x (each_in xs) there

pub in_to : {A : Type 0} (xs : List A) (x : A) → IsIn xs x → Contains xs x
in_to [] x there = absurd there
in_to (y ∷ ys) x (inl same) = Contains-append_left (y ∷ []) ys x (0, omega arith, same)
in_to (y ∷ ys) x (inr there) = Contains-append_right (y ∷ []) ys x (in_to ys x there)

in_left : (xs ys : List Path) (p : Path) → IsIn xs p → IsIn (xs ++ ys) p
in_left [] ys p there = absurd there
in_left (x ∷ xs) ys p (inl same) = inl same
in_left (x ∷ xs) ys p (inr there) = inr (in_left xs ys p there)

in_right : (xs ys : List Path) (p : Path) → IsIn ys p → IsIn (xs ++ ys) p
in_right [] ys p there = there
in_right (x ∷ xs) ys p there = inr (in_right xs ys p there)

in_either : (xs ys : List Path) (p : Path) → IsIn (xs ++ ys) p → IsIn xs p ⊎ IsIn ys p
in_either [] ys p there = inr there
in_either (x ∷ xs) ys p (inl same) = inl (inl same)
in_either (x ∷ xs) ys p (inr there) = by (in_either xs ys p there)
  where
    by : IsIn xs p ⊎ IsIn ys p → IsIn (x ∷ xs) p ⊎ IsIn ys p
    by (inl first) = inl (inr first)
    by (inr second) = inr second

-- what is found stands there
pub found_in : (test : Path → Bool) (xs : List Path) (p : Path) → find test xs ≡ Some p → IsIn xs p
found_in test [] p is = absurd (none is)
  where
    none : None ≡ Some p → ⊥
    none e = cc
found_in test (x ∷ xs) p is = by (test x) is (found_in test xs p)
  where
    by : (b : Bool) → cond b (Some x) (find test xs) ≡ Some p → (find test xs ≡ Some p → IsIn xs p) → IsIn (x ∷ xs) p
    by true is rest = inl (ap (λ o. unwrap_or o x) is)
    by false is rest = inr (rest is)

-- the first of each key stand among all
in_firsts : (won paths : List Path) (p : Path) → IsIn (firsts won paths) p → IsIn paths p
in_firsts won [] p there = there
in_firsts won (q ∷ paths) p there = by (is_won won q) there (in_firsts won paths p) (in_firsts (won ++ q ∷ []) paths p)
  where
    by : (b : Bool) → IsIn (if b then firsts won paths else q ∷ firsts (won ++ q ∷ []) paths) p → (IsIn (firsts won paths) p → IsIn paths p) → (IsIn (firsts (won ++ q ∷ []) paths) p → IsIn paths p) → IsIn (q ∷ paths) p
    by true there rest further = inr (rest there)
    by false (inl same) rest further = inl same
    by false (inr there) rest further = inr (further there)

-- the path above one, which stands among some, and the edge that it leads to
pub record HasFront (graph : Graph) (paths : List Path) (p : Path) : Type 0 where
  pub front : Path
  pub edge : Edge
  pub there : IsIn paths front
  pub leads : IsIn (next_edges graph front) edge
  pub is : edge ∷ front ≡ p

mapped_front : (graph : Graph) (paths : List Path) (front : Path) (edges : List Edge) (p : Path) → IsIn paths front → ((e : Edge) → IsIn edges e → IsIn (next_edges graph front) e) → IsIn (map (λ e. e ∷ front) edges) p → HasFront graph paths p
mapped_front graph paths front [] p there all at = absurd at
mapped_front graph paths front (e ∷ edges) p there all (inl same) = record { front = front; edge = e; there = there; leads = all e (inl refl); is = same }
mapped_front graph paths front (e ∷ edges) p there all (inr at) = mapped_front graph paths front edges p there (λ f within. all f (inr within)) at

front_more : (graph : Graph) (q : Path) (paths : List Path) (p : Path) → HasFront graph paths p → HasFront graph (q ∷ paths) p
front_more graph q paths p has = record { front = has.front; edge = has.edge; there = inr has.there; leads = has.leads; is = has.is }

front_of : (graph : Graph) (paths : List Path) (p : Path) → IsIn (flat_map (longer graph) paths) p → HasFront graph paths p
front_of graph [] p at = absurd at
front_of graph (q ∷ paths) p at = by (in_either (longer graph q) (flat_map (longer graph) paths) p at) (front_of graph paths p)
  where
    by : IsIn (longer graph q) p ⊎ IsIn (flat_map (longer graph) paths) p → (IsIn (flat_map (longer graph) paths) p → HasFront graph paths p) → HasFront graph (q ∷ paths) p
    by (inl first) rest = mapped_front graph (q ∷ paths) q (next_edges graph q) p (inl refl) (λ e within. within) first
    by (inr second) rest = front_more graph q paths p (rest second)

mapped_in : (front : Path) (edges : List Edge) (e : Edge) → IsIn edges e → IsIn (map (λ e. e ∷ front) edges) (e ∷ front)
mapped_in front [] e there = absurd there
mapped_in front (f ∷ edges) e (inl same) = inl (ap (λ g. g ∷ front) same)
mapped_in front (f ∷ edges) e (inr there) = inr (mapped_in front edges e there)

longer_in : (graph : Graph) (paths : List Path) (front : Path) (e : Edge) → IsIn paths front → IsIn (next_edges graph front) e → IsIn (flat_map (longer graph) paths) (e ∷ front)
longer_in graph [] front e there leads = absurd there
longer_in graph (q ∷ paths) front e (inl same) leads =
    in_left (longer graph q) (flat_map (longer graph) paths) (e ∷ front)
    (subst (λ r. IsIn (longer graph r) (e ∷ front)) (sym same) (mapped_in front (next_edges graph front) e leads))
longer_in graph (q ∷ paths) front e (inr there) leads =
    in_right (longer graph q) (flat_map (longer graph) paths) (e ∷ front) (longer_in graph paths front e there leads)

-- a path that wins at a length has a front that wins at the length before
pub level_front : (graph : Graph) (n : ℕ) (p : Path) → IsIn (level graph (suc n)) p → HasFront graph (level graph n) p
level_front graph n p at = front_of graph (level graph n) p (in_firsts (winners graph n) (flat_map (longer graph) (level graph n)) p at)

level_length : (graph : Graph) (n : ℕ) (p : Path) → IsIn (level graph n) p → length p ≡ n
level_length graph zero p (inl same) = sym (ap length same)
level_length graph zero p (inr at) = absurd at
level_length graph (suc n) p at =
    let has = level_front graph n p at in
    sym (ap length has.is) ∙ ap suc (level_length graph n has.front has.there)

-- a winner wins at its length
pub level_of : (graph : Graph) (n : ℕ) (p : Path) → IsIn (winners graph n) p → IsIn (level graph (length p)) p
level_of graph zero p at = absurd at
level_of graph (suc n) p at = by (in_either (winners graph n) (level graph (suc n)) p at) (level_of graph n p)
  where
    by : IsIn (winners graph n) p ⊎ IsIn (level graph (suc n)) p → (IsIn (winners graph n) p → IsIn (level graph (length p)) p) → IsIn (level graph (length p)) p
    by (inl first) rest = rest first
    by (inr second) rest = subst (λ m. IsIn (level graph m) p) (sym (level_length graph (suc n) p second)) second

pub winners_kept : (graph : Graph) (n k : ℕ) (p : Path) → IsIn (winners graph n) p → IsIn (winners graph (n + k)) p
winners_kept graph n zero p at =
    let same : n ≡ n + 0 = omega arith in
    subst (λ m. IsIn (winners graph m) p) same at
winners_kept graph n (suc k) p at =
    let next : suc (n + k) ≡ n + suc k = omega arith in
    subst (λ m. IsIn (winners graph m) p) next (in_left (winners graph (n + k)) (level graph (suc (n + k))) p (winners_kept graph n k p at))

pub level_wins : (graph : Graph) (n : ℕ) (p : Path) → IsIn (level graph (suc n)) p → IsIn (winners graph (suc n)) p
level_wins graph n p at = in_right (winners graph n) (level graph (suc n)) p at

-- what the winners of a length lead to counts
pub counts_next : (graph : Graph) (n : ℕ) (front : Path) (e : Edge) → IsIn (level graph n) front → IsIn (next_edges graph front) e → IsIn (flat_map (longer graph) (level graph n)) (e ∷ front)
counts_next graph n front e there leads = longer_in graph (level graph n) front e there leads

same_text : (t : List ℕ) → bytes_eq t t ≡ true
same_text t = (bytes_eq-Decides t t).1 refl

both : (a b : Bool) → a ≡ true → b ≡ true → (a && b) ≡ true
both a b x y = ap (λ c. c && b) x ∙ y

pub same_self : (k : Key) → same_key k k ≡ true
same_self k =
    both (bytes_eq k.group k.group) _ (same_text k.group)
    (both (bytes_eq k.artifact k.artifact) _ (same_text k.artifact)
    (both (bytes_eq k.kind k.kind) _ (same_text k.kind) (same_text k.classifier)))

all_in : (P : Path → Type 0) (xs : List Path) (p : Path) → ((k : ℕ) (d : Path) → k < length xs → P (slice_index_or xs k d)) → IsIn xs p → P p
all_in P [] p all at = absurd at
all_in P (x ∷ xs) p all (inl same) = subst P same (all 0 x (omega arith))
all_in P (x ∷ xs) p all (inr at) = all_in P xs p (λ k d low. all (suc k) d (omega (arith, low))) at

pairs_tail : (x : Path) (xs : List Path) → SharesNone (x ∷ xs) → SharesNone xs
pairs_tail x xs all i j d low within = all (suc i) (suc j) d (omega (arith, low)) (omega (arith, within))

-- of paths with keys of their own each is found by its key
pub found_alone : (xs : List Path) (e : Edge) (path : Path) → SharesNone xs → IsIn xs (e ∷ path) → winner_of xs e.key ≡ Some (e ∷ path)
found_alone [] e path apart at = absurd at
found_alone (x ∷ xs) e path apart (inl same) =
    ap (λ b. cond b (Some x) (winner_of xs e.key)) (ap (ends_at e.key) same ∙ same_self e.key) ∙ ap Some same
found_alone (x ∷ xs) e path apart (inr at) =
    ap (λ b. cond b (Some x) (winner_of xs e.key))
    (all_in (λ p. shares_end x p ≡ false) xs (e ∷ path) (λ k d low. apart 0 (suc k) d (omega arith) (omega (arith, low))) at)
    ∙ found_alone xs e path (pairs_tail x xs apart) at
