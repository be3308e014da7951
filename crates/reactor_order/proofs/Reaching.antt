-- A search marks what one comes to, and no more.
use Rattle.std.proofs.Common.{◌≡◌, ℕ, zero, suc, ◌+◌, ◌<◌, ◌≤◌, Bool, true, false, ◌==◌, ◌||◌, List, [], ◌∷◌, length, get_or, take, nat_lt, refl, sym, ap, subst, ◌∙◌, arith, ◌⊎◌, inl, inr}
use Rattle.std.proofs.lemmas.Bool.{false≢true}
use Rattle.std.proofs.lemmas.Bool.Decides.{nat_tests}
use Rattle.reactor_order.specs.Graph.{has, Leads, here, onward, IsReached}
use Rattle.std.proofs.lemmas.List.{get_or-take}
use Rattle.reactor_order.specs.Marks.{AreFree, IsMarked, AreMarked, AreReached}
use Rattle.reactor_order.proofs.Marking.{has_at}

-- one step more
further : {next : ℕ → List ℕ} {a b : ℕ} (c : ℕ) → Leads next a b → has (next b) c ≡ true → Leads next a c
further c (here a) step = onward a c c step (here c)
further c (onward a d b first rest) step = onward a d c first (further c rest step)

-- which of two is true
pub one_of : (a b : Bool) → (a || b) ≡ true → (a ≡ true) ⊎ (b ≡ true)
one_of true b e = inl refl
one_of false b e = inr e

pub first_or : (a b : Bool) → a ≡ true → (a || b) ≡ true
first_or true b e = refl
first_or false b e = absurd (false≢true e)

pub second_or : (a b : Bool) → b ≡ true → (a || b) ≡ true
second_or true b e = refl
second_or false b e = e

-- what a list has stands somewhere in it
pub record Stands (xs : List ℕ) (m : ℕ) : Type 0 where
  pub place : ℕ
  pub within : place < length xs
  pub is : get_or xs place 0 ≡ m

pub stands : (xs : List ℕ) (m : ℕ) → has xs m ≡ true → Stands xs m
stands [] m e = absurd (false≢true e)
stands (x ∷ xs) m e = by (x == m) refl (stands xs m)
  where
    by : (b : Bool) → (x == m) ≡ b → (has xs m ≡ true → Stands xs m) → Stands (x ∷ xs) m
    by true same rest = record { place = 0; within = omega arith; is = grind (arith, nat_tests, same) }
    by false other rest =
        let there = rest (sym (ap (λ b. b || has xs m) other) ∙ e) in
        record { place = suc there.place; within = omega (arith, there.within); is = there.is }

-- what the search keeps: the marks and the list, that each marked one is reached, that the starts are marked, and all next
-- to those that were looked at
pub record Searches (next : ℕ → List ℕ) (starts : List ℕ) (n at : ℕ) (marks : List Bool) (found : List ℕ) : Type 0 where
  pub marked : IsMarked marks found
  pub long : length marks ≡ n
  pub no_further : at ≤ length found
  pub sound : (m : ℕ) → get_or marks m false ≡ true → IsReached next starts m
  pub begun : (m : ℕ) → has starts m ≡ true → get_or marks m false ≡ true
  pub closed : (i : ℕ) → i < at → (m : ℕ) → has (next (get_or found i 0)) m ≡ true → get_or marks m false ≡ true

pub search_begins : (next : ℕ → List ℕ) (starts : List ℕ) (n : ℕ) (none marks : List Bool) (nothing found : List ℕ)
    → AreFree n none nothing → AreMarked starts none marks nothing found → Searches next starts n 0 marks found
search_begins next starts n none marks nothing found free now = record {
  marked = now.marked;
  long = now.long ∙ free.long;
  no_further = omega arith;
  sound = λ m is. record { start = m; starts_there = sym (now.each m ∙ ap (λ b. b || has starts m) (free.free m)) ∙ is; path = here m };
  begun = λ m is. now.each m ∙ second_or (get_or none m false) (has starts m) is;
  closed = λ i low. absurd (below_none i low);
}
  where
    below_none : (i : ℕ) → i < 0 → ⊥
    below_none i low = omega (arith, low)

get_front : (k i : ℕ) (xs ys : List ℕ) → take k xs ≡ ys → i < k → get_or ys i 0 ≡ get_or xs i 0
get_front k i xs ys e low = sym (ap (λ zs. get_or zs i 0) e) ∙ get_or-take k xs i 0 low

pub marked_below : (marks : List Bool) (m : ℕ) → get_or marks m false ≡ true → m < length marks
marked_below [] m e = absurd (false≢true e)
marked_below (b ∷ marks) zero e = omega arith
marked_below (b ∷ marks) (suc m) e = omega (arith, marked_below marks m e)

-- what is looked at is a module
pub looks_at : (next : ℕ → List ℕ) (starts : List ℕ) (n at : ℕ) (marks : List Bool) (found : List ℕ) → Searches next starts n at marks found → at < length found → get_or found at 0 < n
looks_at next starts n at marks found is low =
    subst (λ k. get_or found at 0 < k) is.long (marked_below marks (get_or found at 0) (sym (is.marked.same (get_or found at 0)) ∙ has_at found at 0 low))

sound_more : (next : ℕ → List ℕ) (starts : List ℕ) (n at : ℕ) (marks : List Bool) (found : List ℕ) (m : ℕ) → Searches next starts n at marks found → at < length found
    → (get_or marks m false ≡ true) ⊎ (has (next (get_or found at 0)) m ≡ true) → IsReached next starts m
sound_more next starts n at marks found m was low (inl old) = was.sound m old
sound_more next starts n at marks found m was low (inr new) =
    let this = was.sound (get_or found at 0) (sym (was.marked.same (get_or found at 0)) ∙ has_at found at 0 low) in
    record { start = this.start; starts_there = this.starts_there; path = further m this.path new }

-- one more is looked at
pub search_goes_on : (next : ℕ → List ℕ) (starts : List ℕ) (n at : ℕ) (marks now : List Bool) (found founds : List ℕ)
    → Searches next starts n at marks found → at < length found → AreMarked (next (get_or found at 0)) marks now found founds → Searches next starts n (at + 1) now founds
search_goes_on next starts n at marks now found founds was low more =
    let this = get_or found at 0 in
    record {
      marked = more.marked;
      long = more.long ∙ was.long;
      no_further = omega (arith, low, more.longer);
      sound = λ m is. sound_more next starts n at marks found m was low (one_of (get_or marks m false) (has (next this) m) (sym (more.each m) ∙ is));
      begun = λ m is. more.each m ∙ first_or (get_or marks m false) (has (next this) m) (was.begun m is);
      closed = λ i below m is. closed_more i m below is (nat_lt i at) refl;
    }
  where
    closed_more : (i m : ℕ) → i < at + 1 → has (next (get_or founds i 0)) m ≡ true → (b : Bool) → nat_lt i at ≡ b → get_or now m false ≡ true
    closed_more i m below is true e =
        let before : i < at = grind (arith, nat_tests, e) in
        let same : get_or found i 0 ≡ get_or founds i 0 = get_front (length found) i founds found more.front (omega (arith, before, low)) in
        more.each m ∙ first_or (get_or marks m false) (has (next (get_or found at 0)) m) (was.closed i before m (ap (λ k. has (next k) m) same ∙ is))
    closed_more i m below is false e =
        let last : i ≡ at = grind (arith, nat_tests, e, below) in
        let same : get_or found at 0 ≡ get_or founds i 0 = ap (λ k. get_or found k 0) (sym last) ∙ get_front (length found) i founds found more.front (omega (arith, last, low)) in
        more.each m ∙ second_or (get_or marks m false) (has (next (get_or found at 0)) m) (ap (λ k. has (next k) m) same ∙ is)

-- what is next to a marked one is marked
next_marked : (next : ℕ → List ℕ) (starts : List ℕ) (n at : ℕ) (marks : List Bool) (found : List ℕ) (a b : ℕ) → Searches next starts n at marks found → length found ≤ at → get_or marks a false ≡ true → has (next a) b ≡ true → get_or marks b false ≡ true
next_marked next starts n at marks found a b is end marked step =
    let there = stands found a (is.marked.same a ∙ marked) in
    is.closed there.place (omega (arith, there.within, end)) b (ap (λ k. has (next k) b) there.is ∙ step)

-- at the end
pub search_ends : (next : ℕ → List ℕ) (starts : List ℕ) (n at : ℕ) (marks : List Bool) (found : List ℕ) → Searches next starts n at marks found → length found ≤ at → AreReached next starts n marks
search_ends next starts n at marks found is end = record { long = is.long; sound = is.sound; whole = λ m reached. marked_all reached.path (is.begun reached.start reached.starts_there) }
  where
    marked_all : {a m : ℕ} → Leads next a m → get_or marks a false ≡ true → get_or marks m false ≡ true
    marked_all (here a) marked = marked
    marked_all (onward a b c step rest) marked = marked_all rest (next_marked next starts n at marks found a b is end marked step)
