-- The upstreams of each module, edge by edge.
use Rattle.std.proofs.Common.{◌⊎◌, inl, inr, subst, ◌≡◌, ℕ, ◌+◌, ◌<◌, Bool, true, false, ◌==◌, List, [], ◌∷◌, ◌++◌, length, get_or, set, take, if◌then◌else◌, append-nil, refl, sym, ap, ◌∙◌, arith}
use Rattle.std.proofs.lemmas.Bool.Decides.{nat_tests}
use Rattle.std.proofs.lemmas.Grind.{get_or-set_at}
use Rattle.std.proofs.lemmas.List.{get_or-set_other, take_more, length-set}
use Rattle.std.proofs.lemmas.Bool.{false≢true}
use Rattle.reactor_order.specs.Graph.{Edges, has, upstreams, AreBelow, IsGraph}
use Rattle.reactor_order.specs.Marks.{AreReached}
use Rattle.reactor_order.proofs.Marking.{has_push}
use Rattle.reactor_order.proofs.Reaching.{one_of}

pub upstreams_push : (edges : Edges) (a u m : ℕ) → upstreams (edges ++ (a, u) ∷ []) m ≡ upstreams edges m ++ (if a == m then u ∷ [] else [])
upstreams_push [] a u m = grind (arith, nat_tests)
upstreams_push (e ∷ edges) a u m = by (e.0 == m) refl (upstreams_push edges a u m)
  where
    by : (b : Bool) → (e.0 == m) ≡ b → upstreams (edges ++ (a, u) ∷ []) m ≡ upstreams edges m ++ (if a == m then u ∷ [] else []) → upstreams (e ∷ edges ++ (a, u) ∷ []) m ≡ upstreams (e ∷ edges) m ++ (if a == m then u ∷ [] else [])
    by true eq rest = rw eq (ap (λ l. e.1 ∷ l) rest)
    by false eq rest = rw eq rest

-- one edge more
edge_more : (edges : Edges) (a u : ℕ) (lists : List (List ℕ)) (now : List ℕ) → a < length lists → now ≡ get_or lists a [] ++ u ∷ []
    → ((m : ℕ) → get_or lists m [] ≡ upstreams edges m)
    → (m : ℕ) → get_or (set lists a now) m [] ≡ upstreams (edges ++ (a, u) ∷ []) m
edge_more edges a u lists now low is so_far m = by (a == m) refl
  where
    right : upstreams (edges ++ (a, u) ∷ []) m ≡ upstreams edges m ++ (if a == m then u ∷ [] else [])
    right = upstreams_push edges a u m

    by : (b : Bool) → (a == m) ≡ b → get_or (set lists a now) m [] ≡ upstreams (edges ++ (a, u) ∷ []) m
    by true eq =
        let same : m ≡ a = grind (arith, nat_tests, eq) in
        get_or-set_at lists a m now [] same low ∙ is ∙ ap (λ k. get_or lists k [] ++ u ∷ []) (sym same) ∙ ap (λ l. l ++ u ∷ []) (so_far m)
        ∙ sym (right ∙ ap (λ b. upstreams edges m ++ (if b then u ∷ [] else [])) eq)
    by false eq =
        get_or-set_other lists a m now [] (grind (arith, nat_tests, eq)) ∙ so_far m ∙ sym (append-nil (upstreams edges m))
        ∙ sym (right ∙ ap (λ b. upstreams edges m ++ (if b then u ∷ [] else [])) eq)

below_more : (n : ℕ) (us vs : List ℕ) (a m u v : ℕ) → vs ≡ us ++ (if a == m then u ∷ [] else []) → u < n → (has us v ≡ true → v < n) → has vs v ≡ true → v < n
below_more n us vs a m u v e low so_far is = by (a == m) refl
  where
    whole : has (us ++ (if a == m then u ∷ [] else [])) v ≡ true
    whole = sym (ap (λ l. has l v) e) ∙ is

    last : (has us v ≡ true) ⊎ ((u == v) ≡ true) → v < n
    last (inl old) = so_far old
    last (inr new) = let same : u ≡ v = grind (arith, nat_tests, new) in subst (λ k. k < n) same low

    by : (b : Bool) → (a == m) ≡ b → v < n
    by true eq = last (one_of (has us v) (u == v) (sym (has_push us u v) ∙ sym (ap (λ b. has (us ++ (if b then u ∷ [] else [])) v) eq) ∙ whole))
    by false eq = so_far (sym (ap (λ l. has l v) (append-nil us)) ∙ sym (ap (λ b. has (us ++ (if b then u ∷ [] else [])) v) eq) ∙ whole)

pub graph_more : (n : ℕ) (edges : Edges) (a u : ℕ) (lists : List (List ℕ)) (now : List ℕ) → a < length lists → u < length lists → now ≡ get_or lists a [] ++ u ∷ []
    → IsGraph n edges lists → IsGraph n (edges ++ (a, u) ∷ []) (set lists a now)
graph_more n edges a u lists now low ulow is g = record {
  long = length-set lists a now ∙ g.long;
  each = edge_more edges a u lists now low is g.each;
  below = λ m v there. below_more n (upstreams edges m) (upstreams (edges ++ (a, u) ∷ []) m) a m u v (upstreams_push edges a u m) (subst (λ k. u < k) g.long ulow) (g.below m v) there;
}

-- with the next of a list of edges
pub graph_next : (n i : ℕ) (edges : Edges) (lists : List (List ℕ)) → i < length edges → IsGraph n (take i edges ++ ((get_or edges i (0, 0)).0, (get_or edges i (0, 0)).1) ∷ []) lists → IsGraph n (take (i + 1) edges) lists
graph_next n i edges lists low g = subst (λ es. IsGraph n es lists) (sym (take_more edges i (0, 0) low)) g

pub graph_below : (n : ℕ) (edges : Edges) (lists : List (List ℕ)) → IsGraph n edges lists → (m : ℕ) → AreBelow (length lists) (get_or lists m [])
graph_below n edges lists g m v is = subst (λ k. v < k) (sym g.long) (g.below m v (ap (λ l. has l v) (sym (g.each m)) ∙ is))

pub reached_by : (n : ℕ) (edges : Edges) (lists : List (List ℕ)) (starts : List ℕ) (marks : List Bool) → IsGraph n edges lists → AreReached (λ m. get_or lists m []) starts (length lists) marks → AreReached (upstreams edges) starts n marks
reached_by n edges lists starts marks g r = subst (λ k. AreReached (upstreams edges) starts k marks) g.long (subst (λ next. AreReached next starts (length lists) marks) (λ i m. g.each m i) r)

pub none_of : (n : ℕ) → (lists : List (List ℕ)) → length lists ≡ n → ((m : ℕ) → get_or lists m [] ≡ []) → IsGraph n [] lists
none_of n lists long empty = record { long = long; each = empty; below = λ m u is. absurd (false≢true is) }
