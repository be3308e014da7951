-- Before the first module is placed.
use Rattle.std.proofs.Common.{◌≡◌, ℕ, zero, suc, ◌<◌, ◌≤◌, ◌&&◌, ◌==◌, nat_lt, List, [], ◌∷◌, length, map, get_or, refl, sym, ap, subst, ◌∙◌, arith}
use Rattle.std.proofs.lemmas.Bool.{false≢true}
use Rattle.std.proofs.Math.ListN.{get_or-eq_default}
use Rattle.std.specs.BTreeSet.{BTreeSet}
use Rattle.reactor_order.specs.Graph.{Edges, upstreams, flipped, AreEdgesBelow, IsGraph}
use Rattle.reactor_order.specs.Ready.{is_in}
use Rattle.reactor_order.specs.Waiting.{missing, IsPlacing}
use Rattle.reactor_order.proofs.Placing.{follows_is}

flipped_at : (edges : Edges) (i : ℕ) → get_or (flipped edges) i (0, 0) ≡ ((get_or edges i (0, 0)).1, (get_or edges i (0, 0)).0)
flipped_at [] i = refl
flipped_at (e ∷ edges) zero = refl
flipped_at (e ∷ edges) (suc i) = flipped_at edges i

length_flipped : (edges : Edges) → length (flipped edges) ≡ length edges
length_flipped [] = refl
length_flipped (e ∷ edges) = ap suc (length_flipped edges)

pub flipped_below : (n : ℕ) (edges : Edges) → AreEdgesBelow n edges → AreEdgesBelow n (flipped edges)
flipped_below n edges below i low =
    let there = below i (subst (λ k. i < k) (length_flipped edges) low) in
    (subst (λ e. e.0 < n) (sym (flipped_at edges i)) there.1, subst (λ e. e.1 < n) (sym (flipped_at edges i)) there.0)

length_at : (lists : List (List ℕ)) (m : ℕ) → get_or (map length lists) m 0 ≡ length (get_or lists m [])
length_at [] m = refl
length_at (l ∷ lists) zero = refl
length_at (l ∷ lists) (suc m) = length_at lists m

pub waits_each : (n : ℕ) (edges : Edges) (lists : List (List ℕ)) (m : ℕ) → IsGraph n edges lists → get_or (map length lists) m 0 ≡ length (upstreams edges m)
waits_each n edges lists m g = length_at lists m ∙ ap length (g.each m)

length_map : (lists : List (List ℕ)) → length (map length lists) ≡ length lists
length_map [] = refl
length_map (l ∷ lists) = ap suc (length_map lists)

pub waits_long : (n : ℕ) (edges : Edges) (lists : List (List ℕ)) → IsGraph n edges lists → length (map length lists) ≡ n
waits_long n edges lists g = length_map lists ∙ g.long

missing_none : (us : List ℕ) → missing [] us ≡ length us
missing_none [] = refl
missing_none (u ∷ us) = ap suc (missing_none us)

none_long : (us : List ℕ) → length us ≡ 0 → us ≡ []
none_long [] e = refl
none_long (u ∷ us) e = absurd (never (omega (arith, e)))
  where
    never : ⊥ → ⊥
    never x = x

pub begins : (n : ℕ) (edges : Edges) (waits : List ℕ) (ready : BTreeSet ℕ) → length waits ≡ n → ((m : ℕ) → get_or waits m 0 ≡ length (upstreams edges m))
    → ((m : ℕ) → is_in ready m ≡ (nat_lt m n && (get_or waits m 0 == 0))) → IsPlacing n edges [] waits ready
begins n edges waits ready long each members = record {
  long = long;
  waiting = λ m low. each m ∙ sym (missing_none (upstreams edges m));
  can = λ m. members m ∙ ap (λ k. nat_lt m n && (k == 0)) (each m ∙ sym (missing_none (upstreams edges m))) ∙ ap (λ b. nat_lt m n && b) (sym (follows_is edges [] m));
  settled = λ m there. absurd (false≢true there);
  below = λ m there. absurd (false≢true there);
  inside = λ m high. none_long (upstreams edges m) (sym (each m) ∙ get_or-eq_default waits 0 (subst (λ k. k ≤ m) (sym long) high));
}
