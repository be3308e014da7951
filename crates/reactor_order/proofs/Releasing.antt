-- One module after another waits for one upstream less.
use Rattle.std.proofs.Common.{◌≡◌, ℕ, ◌+◌, ◌<◌, ◌≤◌, Bool, ◌&&◌, ◌||◌, ◌==◌, nat_lt, List, [], ◌∷◌, ◌++◌, length, get_or, take, drop, refl, sym, ap, subst, ◌∙◌, arith}
use Rattle.std.proofs.lemmas.Bool.Decides.{nat_tests}
use Rattle.std.proofs.lemmas.List.{take_more, take-append-drop}
use Rattle.std.specs.BTreeSet.{BTreeSet}
use Rattle.reactor_order.specs.Ready.{is_in}
use Rattle.reactor_order.specs.Waiting.{times, AreReleased}
use Rattle.reactor_order.proofs.Marking.{or_false}

pub times_append : (m : ℕ) (xs ys : List ℕ) → times m (xs ++ ys) ≡ times m xs + times m ys
times_append m [] ys = omega arith
times_append m (x ∷ xs) ys = grind (arith, times_append m xs ys)

-- none of a list
pub release_none : (waits : List ℕ) (ready : BTreeSet ℕ) → AreReleased [] waits waits ready ready
release_none waits ready = record { long = refl; fewer = λ m. omega arith; added = λ m. sym (or_false (is_in ready m)) }

-- how a count of one less and what is put in come together
joined : (r s t : Bool) (a b now then' was : ℕ) → t ≡ (s || (nat_lt 0 b && (then' == 0))) → s ≡ (r || (nat_lt 0 a && (now == 0))) → then' + b ≡ now → t ≡ (r || (nat_lt 0 (a + b) && (then' == 0)))
joined r s t a b now then' was e f g = grind (arith, nat_tests, e, f, g)

-- these, and then those
pub release_more : (xs ys : List ℕ) (a b c : List ℕ) (f g h : BTreeSet ℕ) → AreReleased xs a b f g → AreReleased ys b c g h → AreReleased (xs ++ ys) a c f h
release_more xs ys a b c f g h p q = record {
  long = q.long ∙ p.long;
  fewer = λ m. omega (arith, p.fewer m, q.fewer m, times_append m xs ys);
  added = λ m. joined (is_in f m) (is_in g m) (is_in h m) (times m xs) (times m ys) (get_or b m 0) (get_or c m 0) 0 (q.added m) (p.added m) (q.fewer m)
      ∙ ap (λ k. is_in f m || (nat_lt 0 k && (get_or c m 0 == 0))) (sym (times_append m xs ys));
}

times_front : (m i : ℕ) (xs : List ℕ) → times m (take i xs) ≤ times m xs
times_front m i xs = omega (arith, times_append m (take i xs) (drop i xs), ap (times m) (take-append-drop i xs))

-- the next of a list still has its turn
pub times_next : (i : ℕ) (xs : List ℕ) → i < length xs → times (get_or xs i 0) (take i xs) + 1 ≤ times (get_or xs i 0) xs
times_next i xs low =
    let m = get_or xs i 0 in
    let itself : times m (m ∷ []) ≡ 1 = grind (arith, nat_tests) in
    omega (arith, itself, times_append m (take i xs) (m ∷ []), ap (times m) (take_more xs i 0 low), times_front m (i + 1) xs)

pub release_next : (i : ℕ) (downs a b c : List ℕ) (f g h : BTreeSet ℕ) → i < length downs → AreReleased (take i downs) a b f g → AreReleased (get_or downs i 0 ∷ []) b c g h → AreReleased (take (i + 1) downs) a c f h
release_next i downs a b c f g h low p q = subst (λ xs. AreReleased xs a c f h) (sym (take_more downs i 0 low)) (release_more (take i downs) (get_or downs i 0 ∷ []) a b c f g h p q)
