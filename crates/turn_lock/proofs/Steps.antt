-- Each step of a turn lock keeps its rule.
use Rattle.std.proofs.Common.{◌≡◌, ◌≢◌, ◌⊎◌, inl, inr, ℕ, zero, suc, ◌+◌, ◌*◌, ◌/◌, ◌%◌, ◌^◌, ◌<◌, ◌≤◌, Bool, true, false, List, [], ◌∷◌, ◌++◌, length, fold, set, get_or, Option, Some, None, unwrap_or, refl, arith, sym, ap, subst, ◌∙◌, if◌then◌else◌}
use Rattle.std.specs.Int.{bit_at}
use Rattle.std.specs.Int.RustNames.{bit_or}
use Rattle.std.specs.List.{list_all}
use Rattle.std.proofs.lemmas.Bool.{and_parts, cases_eq, cases_lt, eqb-true, false≢true, ne_eqb}
use Rattle.std.proofs.lemmas.List.{append-nil, append_assoc}
use Rattle.std.proofs.lemmas.List.Elements.{filter-append}
use Rattle.std.proofs.lemmas.Nat.Bits.{bit_at_lowest, bit_at_or, bit_at-suc, bit_at-zero, same_from_bits}
use mathlib.Core.Option as core
use mathlib.Core.Option.{some-injective, some-ne-none}
use lib.ListN.{get_elem?}
use Rattle.atomic_table.specs.Table.{Act, Me, State, Step, Valid, carried_after, gives, keeps, opening, put_back, rest, step, stepped, takes}
use Rattle.atomic_table.proofs.Lists.{at_set, set_again, set_else, set_here}
use Rattle.turn_lock.specs.declared.kept.Role.{Role}
use Rattle.turn_lock.specs.declared.kept.Role.TheVariants.{Nobody, Opens, GoesOn, Closes}
use Rattle.turn_lock.specs.declared.view.View.{View}
use Rattle.turn_lock.specs.Turns.{AddsOne, Begins, IsFresh, IsKnown, MayAdd, entries_of, given, is_nobodys, is_of, first_view, open_of, opened_by, with_turn}
use Rattle.turn_lock.specs.Rule.{AtHome, IsPass, IsTurned, asked, gave, looked, mark, took, weight_of, weights}

-- ---- the word

-- an even number, and an odd one, with the lowest bit
bit_one : (i : ℕ) → bit_at 1 (suc i) ≡ 0
bit_one i = bit_at-suc 1 i ∙ bit_at-zero i

pub even_or : (n : ℕ) → bit_or (2 * n) 1 ≡ 2 * n + 1
even_or n = same_from_bits (bit_or (2 * n) 1) (2 * n + 1) by
  where
    by : (i : ℕ) → bit_at (bit_or (2 * n) 1) i ≡ bit_at (2 * n + 1) i
    by zero = let a = bit_at_or (2 * n) 1 0 in let b = bit_at_lowest (2 * n) in let c = bit_at_lowest 1 in let d = bit_at_lowest (2 * n + 1) in omega (arith, a, b, c, d)
    by (suc i) =
        let a = bit_at_or (2 * n) 1 (suc i) in
        let b = bit_one i in
        let c = bit_at-suc (2 * n) i in
        let d = bit_at-suc (2 * n + 1) i in
        let e : (2 * n) / 2 ≡ (2 * n + 1) / 2 = omega arith in
        let f = ap (λ m. bit_at m i) e in
        omega (arith, a, b, c, d, f)

odd_or : (n : ℕ) → bit_or (2 * n + 1) 1 ≡ 2 * n + 1
odd_or n = same_from_bits (bit_or (2 * n + 1) 1) (2 * n + 1) by
  where
    by : (i : ℕ) → bit_at (bit_or (2 * n + 1) 1) i ≡ bit_at (2 * n + 1) i
    by zero = let a = bit_at_or (2 * n + 1) 1 0 in let b = bit_at_lowest (2 * n + 1) in let c = bit_at_lowest 1 in omega (arith, a, b, c)
    by (suc i) = let a = bit_at_or (2 * n + 1) 1 (suc i) in let b = bit_one i in omega (arith, a, b)

pub even_of : (n : ℕ) → (n % 2 ≡ 1 → ⊥) → n % 2 ≡ 0
even_of n isnt = by (cases_lt (n % 2) 1)
  where
    by : (n % 2 < 1) ⊎ (1 ≤ n % 2) → n % 2 ≡ 0
    by (inl low) = omega (arith, low)
    by (inr far) = absurd (isnt (omega (arith, far)))

-- ---- logs

pub begins_same : {E : Type 0} (log : List E) → Begins log log
begins_same log = ([], sym (append-nil log))

begins_more : {E : Type 0} (front log : List E) (more : List E) → Begins front log → Begins front (log ++ more)
begins_more front log more it = (it.0 ++ more, ap (λ t. t ++ more) it.1 ∙ append_assoc front it.0 more)

module _ {E : Type 0} (role : E → Role) where
  not_of : (k number : ℕ) (r : Role) → MayAdd role number r → (k ≡ number → ⊥) → is_of k r ≡ false
  not_of k number Nobody may other = refl
  not_of k number (Opens w m) (inl e) other = absurd (false≢true e)
  not_of k number (Opens w m) (inr e) other = ne_eqb w k (λ same. other (sym same ∙ eqb-true w number e))
  not_of k number (GoesOn w) (inl e) other = absurd (false≢true e)
  not_of k number (GoesOn w) (inr e) other = ne_eqb w k (λ same. other (sym same ∙ eqb-true w number e))
  not_of k number (Closes w) (inl e) other = absurd (false≢true e)
  not_of k number (Closes w) (inr e) other = ne_eqb w k (λ same. other (sym same ∙ eqb-true w number e))

  -- another worker's entries and open module are as they were
  others_entries : (k number : ℕ) (before log : List E) → AddsOne role number before log → (k ≡ number → ⊥) → entries_of role k log ≡ entries_of role k before
  others_entries k number before log (inl same) other = ap (entries_of role k) same
  others_entries k number before log (inr it) other =
      ap (entries_of role k) it.1
      ∙ filter-append (λ e. is_of k (role e)) before (it.0 ∷ [])
      ∙ ap (λ b. entries_of role k before ++ (if b then it.0 ∷ [] else [])) (not_of k number (role it.0) it.2 other)
      ∙ append-nil (entries_of role k before)

  fold_more : {A B : Type 0} (f : B → A → B) (xs : List A) (s : B) (x : A) → fold f s (xs ++ x ∷ []) ≡ f (fold f s xs) x
  fold_more f [] s x = refl
  fold_more f (y ∷ xs) s x = fold_more f xs (f s y) x

  others_open : (k number : ℕ) (before log : List E) → AddsOne role number before log → (k ≡ number → ⊥) → open_of role k log ≡ open_of role k before
  others_open k number before log (inl same) other = ap (open_of role k) same
  others_open k number before log (inr it) other =
      ap (open_of role k) it.1
      ∙ fold_more (λ was e. if is_of k (role e) then opened_by (role e) was else was) before None it.0
      ∙ ap (λ b. if b then opened_by (role it.0) (open_of role k before) else open_of role k before) (not_of k number (role it.0) it.2 other)

  grows : (number : ℕ) (before log front : List E) → AddsOne role number before log → Begins front before → Begins front log
  grows number before log front (inl same) it = subst (Begins front) (sym same) it
  grows number before log front (inr more) it = subst (Begins front) (sym more.1) (begins_more front before (more.0 ∷ []) it)

pub some_same : {A : Type 0} {a b : A} → Some a ≡ Some b → a ≡ b
some_same {A} {a} {b} e = ap (λ o. unwrap_or o a) e

-- ---- weights

pub weights_set : {F E : Type 0} (views : List (View F E)) (id : ℕ) (v w : View F E) → get_elem? views id ≡ core.some v → weights (set views id w) + weight_of v ≡ weights views + weight_of w
weights_set [] id v w e = absurd (some-ne-none v (sym e))
weights_set (x ∷ views) zero v w e = let is = ap weight_of (some-injective x v e) in omega (arith, is)
weights_set (x ∷ views) (suc id) v w e = let again = weights_set views id v w e in omega (arith, again)

-- ---- a view that changes

module _ {V F E : Type 0} (fixed_of : V → F) (log_of : V → List E) (count_of : V → ℕ) (role : E → Role) where
  -- the views after one is put in another's place that isn't spent and has the same reach
  pub record Changes (views : List (View F E)) (id : ℕ) (v w : View F E) : Type 0 where
    pub before : get_elem? views id ≡ core.some v
    pub there : v.spent ≡ false
    pub stays : w.spent ≡ false
    pub number : w.number ≡ v.number
    pub reach : w.reach ≡ v.reach
    pub weight : w.weight ≡ v.weight

  module _ (views : List (View F E)) (id : ℕ) (v w : View F E) (change : Changes views id v w) where
    pub at_same : IsPass fixed_of log_of count_of role (set views id w) id w
    at_same = (set_here views id w (inside views id v change.before), change.stays)
      where
        inside : {A : Type 0} (l : List A) (i : ℕ) (a : A) → get_elem? l i ≡ core.some a → i < length l
        inside [] i a e = absurd (some-ne-none a (sym e))
        inside (x ∷ xs) zero a e = omega arith
        inside (x ∷ xs) (suc i) a e = let rest = inside xs i a e in omega (arith, rest)

    pub at_other : (j : ℕ) (u : View F E) → j ≢ id → IsPass fixed_of log_of count_of role views j u → IsPass fixed_of log_of count_of role (set views id w) j u
    at_other j u other at = (set_else views id j w other ∙ at.0, at.1)

    -- a pass after the change was one before, with the same number and reach
    pub was : (j : ℕ) (u : View F E) → IsPass fixed_of log_of count_of role (set views id w) j u → ((j ≡ id) × (w ≡ u)) ⊎ ((j ≢ id) × IsPass fixed_of log_of count_of role views j u)
    was j u at = by (at_set views id j w u at.0)
      where
        by : ((j ≡ id) × (w ≡ u)) ⊎ ((j ≢ id) × (get_elem? views j ≡ core.some u)) → ((j ≡ id) × (w ≡ u)) ⊎ ((j ≢ id) × IsPass fixed_of log_of count_of role views j u)
        by (inl same) = inl same
        by (inr other) = inr (other.0, (other.1, at.1))

    pub old : (j : ℕ) (u : View F E) → IsPass fixed_of log_of count_of role (set views id w) j u → (o : View F E) × IsPass fixed_of log_of count_of role views j o × (u.number ≡ o.number) × (u.reach ≡ o.reach)
    old j u at = by (was j u at)
      where
        by : ((j ≡ id) × (w ≡ u)) ⊎ ((j ≢ id) × IsPass fixed_of log_of count_of role views j u) → (o : View F E) × IsPass fixed_of log_of count_of role views j o × (u.number ≡ o.number) × (u.reach ≡ o.reach)
        by (inl same) = (v, (subst (λ i. get_elem? views i ≡ core.some v) (sym same.0) change.before, change.there), sym (ap (λ x. x.number) same.1) ∙ change.number, sym (ap (λ x. x.reach) same.1) ∙ change.reach)
        by (inr other) = (u, other.1, refl, refl)

    pub apart_after : ((a b : ℕ) (x y : View F E) → a ≢ b → IsPass fixed_of log_of count_of role views a x → IsPass fixed_of log_of count_of role views b y → (x.reach ≤ y.number) ⊎ (y.reach ≤ x.number))
        → (a b : ℕ) (x y : View F E) → a ≢ b → IsPass fixed_of log_of count_of role (set views id w) a x → IsPass fixed_of log_of count_of role (set views id w) b y → (x.reach ≤ y.number) ⊎ (y.reach ≤ x.number)
    apart_after apart a b x y differ at_a at_b =
        let p = old a x at_a in
        let q = old b y at_b in
        by p.0 q.0 p.2 p.3 q.2 q.3 (apart a b p.0 q.0 differ p.1 q.1)
      where
        by : (p q : View F E) → x.number ≡ p.number → x.reach ≡ p.reach → y.number ≡ q.number → y.reach ≡ q.reach → (p.reach ≤ q.number) ⊎ (q.reach ≤ p.number) → (x.reach ≤ y.number) ⊎ (y.reach ≤ x.number)
        by p q a b c d (inl e) = inl (omega (arith, b, c, e))
        by p q a b c d (inr e) = inr (omega (arith, a, d, e))

    -- a worker in no reach after it was in none before
    pub out_before : (k : ℕ) → ((j : ℕ) (u : View F E) → IsPass fixed_of log_of count_of role (set views id w) j u → (k < u.number) ⊎ (u.reach ≤ k)) → (j : ℕ) (u : View F E) → IsPass fixed_of log_of count_of role views j u → (k < u.number) ⊎ (u.reach ≤ k)
    out_before k out j u at = by (cases_eq j id)
      where
        same_view : j ≡ id → v ≡ u
        same_view e = some-injective v u (sym change.before ∙ subst (λ i. get_elem? views i ≡ core.some u) e at.0)

        here : v ≡ u → (k < w.number) ⊎ (w.reach ≤ k) → (k < u.number) ⊎ (u.reach ≤ k)
        here e (inl low) = let a = change.number in let b = ap (λ x. x.number) e in inl (omega (arith, low, a, b))
        here e (inr far) = let a = change.reach in let b = ap (λ x. x.reach) e in inr (omega (arith, far, a, b))

        by : (j ≡ id) ⊎ (j ≢ id) → (k < u.number) ⊎ (u.reach ≤ k)
        by (inl e) = here (same_view e) (out id w at_same)
        by (inr other) = out j u (at_other j u other at)

    -- a log that a pass had seen is still seen, where the change keeps what was seen
    pub seen_after : (log : List E) → w.seen ≡ v.seen → (j : ℕ) × (u : View F E) × IsPass fixed_of log_of count_of role views j u × (u.seen ≡ log) → (j : ℕ) × (u : View F E) × IsPass fixed_of log_of count_of role (set views id w) j u × (u.seen ≡ log)
    seen_after log kept it = by (cases_eq it.0 id)
      where
        by : (it.0 ≡ id) ⊎ (it.0 ≢ id) → (j : ℕ) × (u : View F E) × IsPass fixed_of log_of count_of role (set views id w) j u × (u.seen ≡ log)
        by (inl e) = (id, w, at_same, kept ∙ ap (λ x. x.seen) (some-injective v it.1 (sym change.before ∙ subst (λ i. get_elem? views i ≡ core.some it.1) e it.2.0)) ∙ it.3)
        by (inr other) = (it.0, it.1, at_other it.0 it.1 other it.2, it.3)

    pub weights_after : weights (set views id w) ≡ weights views
    weights_after =
        let change_of = weights_set views id v w change.before in
        let a : weight_of v ≡ v.weight = ap (λ b. if b then 0 else v.weight) change.there in
        let b : weight_of w ≡ w.weight = ap (λ b. if b then 0 else w.weight) change.stays in
        omega (arith, change_of, a, b, change.weight)

  known_turn : (log : List E) (fixed : F) (workers : ℕ) (v : View F E) (turn : List E) → IsKnown role log fixed workers v → IsKnown role log fixed workers (with_turn v turn)
  known_turn log fixed workers v turn k = record { same = k.same; count = k.count; seen = k.seen; parts = k.parts; some_worker = k.some_worker; below = k.below; own = k.own; only = k.only; owes = k.owes; heavy = k.heavy }

  abbrev Own : Type 0
  Own = Me (Option V) (View F E)

  abbrev Holds : State (Option V) (View F E) → Type 0
  Holds = IsTurned fixed_of log_of count_of role

  -- ---- a turn taken

  module _ (id : ℕ) (m : Own) (free : m.0.turn ≡ None) (own : m.0.spent ≡ false) (s : State (Option V) (View F E)) (r : Holds s) (at : get_elem? s.views id ≡ core.some m.0) where
    first_word : (n : ℕ) → s.words ≡ n ∷ r.others → get_or s.words 0 0 ≡ n
    first_word n e = ap (λ ws. get_or ws 0 0) e

    taken : (x : V) → r.out ≡ false → s.homes ≡ core.some (Some x) ∷ [] → fixed_of x ≡ r.fixed → log_of x ≡ r.log → count_of x ≡ r.workers
        → Holds (stepped s 0 (bit_or (get_or s.words 0 0) 1) id m.1 (with_turn m.0 (log_of x)) (takes 0 (Some x)))
    taken x home homes fixed log count =
        let w = with_turn m.0 (log_of x) in
        let change : Changes s.views id m.0 w = record { before = at; there = own; stays = own; number = refl; reach = refl; weight = refl } in
        let word : s.words ≡ (2 * length r.log) ∷ r.others = r.word ∙ ap (λ b. (2 * length r.log + mark b) ∷ r.others) home ∙ ap (λ n. n ∷ r.others) (omega arith) in
        record {
          log = r.log;
          out = true;
          fixed = r.fixed;
          workers = r.workers;
          holder = id;
          others = r.others;
          word = ap (λ ws. set ws 0 (bit_or (get_or ws 0 0) 1)) word ∙ ap (λ n. n ∷ r.others) (even_or (length r.log));
          few = r.few;
          longest = seen_after s.views id m.0 w change r.log refl r.longest;
          home = ap (λ hs. set hs 0 core.none) homes;
          known = λ j u at_j. by_known w (was s.views id m.0 w change j u at_j);
          turns = λ j u turn at_j has. by_turn w log (was s.views id m.0 w change j u at_j) has;
          held = λ is. (w, at_same s.views id m.0 w change, ap (λ l. Some l) log);
          apart = apart_after s.views id m.0 w change r.apart;
          closed = λ k low out. r.closed k low (out_before s.views id m.0 w change k out);
          whole = weights_after s.views id m.0 w change ∙ r.whole;
        }
      where
        by_known : (w : View F E) → {j : ℕ} {u : View F E} → ((j ≡ id) × (with_turn m.0 (log_of x) ≡ u)) ⊎ ((j ≢ id) × IsPass fixed_of log_of count_of role s.views j u) → IsKnown role r.log r.fixed r.workers u
        by_known w (inl same) = subst (IsKnown role r.log r.fixed r.workers) same.1 (known_turn r.log r.fixed r.workers m.0 (log_of x) (r.known id m.0 (at, own)))
        by_known w {j} {u} (inr other) = r.known j u other.1

        none_out : (out : Bool) → out ≡ false → out ≡ true → ⊥
        none_out out a b = false≢true (sym a ∙ b)

        by_turn : (w : View F E) → log_of x ≡ r.log → {j : ℕ} {u : View F E} {turn : List E} → ((j ≡ id) × (with_turn m.0 (log_of x) ≡ u)) ⊎ ((j ≢ id) × IsPass fixed_of log_of count_of role s.views j u) → u.turn ≡ Some turn → (true ≡ true) × (j ≡ id) × (turn ≡ r.log)
        by_turn w log {j} {u} {turn} (inl same) has = (refl, same.0, sym (ap get_of (ap (λ v. v.turn) same.1 ∙ has)) ∙ log)
          where
            get_of : Option (List E) → List E
            get_of None = []
            get_of (Some l) = l
        by_turn w log {j} {u} {turn} (inr other) has = absurd (none_out r.out home (r.turns j u turn other.1 has).0)

    pub takes_turn : (get_or s.words 0 0) < 18446744073709551616 →
        (w : View F E) × (a : Act (Option V)) × Valid s.homes m.1 a × Holds (stepped s 0 (bit_or (get_or s.words 0 0) 1) id m.1 w a) × took fixed_of log_of count_of role (step 1 0 1 0 core.none) m (get_or s.words 0 0) (w, carried_after m.1 a)
    takes_turn small = by r.out refl r.home
      where
        by : (b : Bool) → r.out ≡ b → AtHome fixed_of log_of count_of role b s.homes r.log r.fixed r.workers
            → (w : View F E) × (a : Act (Option V)) × Valid s.homes m.1 a × Holds (stepped s 0 (bit_or (get_or s.words 0 0) 1) id m.1 w a) × took fixed_of log_of count_of role (step 1 0 1 0 core.none) m (get_or s.words 0 0) (w, carried_after m.1 a)
        by false home there =
            let x = there.0 in
            let word : get_or s.words 0 0 ≡ 2 * length r.log = first_word (2 * length r.log + mark r.out) r.word ∙ ap (λ b. 2 * length r.log + mark b) home ∙ (omega arith) in (
              with_turn m.0 (log_of x),
              takes 0 (Some x),
              ap (λ hs. get_elem? hs 0) there.1,
              taken x home there.1 there.2 there.3 there.4,
              (
                (λ even. (x, subst (λ l. IsKnown role l (fixed_of x) (count_of x) m.0) (sym there.3) (subst (λ f. IsKnown role r.log f (count_of x) m.0) (sym there.2) (subst (λ n. IsKnown role r.log r.fixed n m.0) (sym there.4) (r.known id m.0 (at, own)))), refl)),
                λ uneven. absurd (uneven (omega (arith, word))),
              ),
            )
        by true home there =
            let word : get_or s.words 0 0 ≡ 2 * length r.log + 1 = first_word (2 * length r.log + mark r.out) r.word ∙ ap (λ b. 2 * length r.log + mark b) home in
            let same_word : set s.words 0 (bit_or (get_or s.words 0 0) 1) ≡ s.words = ap (λ ws. set ws 0 (bit_or (get_or ws 0 0) 1)) r.word ∙ ap (λ n. n ∷ r.others) (ap (λ b. bit_or (2 * length r.log + mark b) 1) home ∙ odd_or (length r.log) ∙ ap (λ b. 2 * length r.log + mark b) (sym home)) ∙ sym r.word in (
              m.0,
              keeps,
              tt,
              subst Holds (λ i. record { words = sym same_word i; homes = s.homes; views = sym (set_again s.views id m.0 at) i }) r,
              ((λ even. absurd (omega (arith, word, even))), λ uneven. refl),
            )

  -- ---- a look changes nothing

  pub looks_only : (id : ℕ) (m : Own) → m.0.spent ≡ false → (s : State (Option V) (View F E)) → Holds s → get_elem? s.views id ≡ core.some m.0
      → (w : View F E) × (a : Act (Option V)) × Valid s.homes m.1 a × Holds (stepped s 0 (get_or s.words 0 0) id m.1 w a) × looked fixed_of log_of count_of role (step 1 0 0 0 core.none) m (get_or s.words 0 0) (w, carried_after m.1 a)
  looks_only id m own s r at =
      let same_word : set s.words 0 (get_or s.words 0 0) ≡ s.words = ap (λ ws. set ws 0 (get_or ws 0 0)) r.word ∙ sym r.word in
      (m.0, keeps, tt, subst Holds (λ i. record { words = sym same_word i; homes = s.homes; views = sym (set_again s.views id m.0 at) i }) r, (refl, (r.known id m.0 (at, own)).parts))

  -- ---- another word than the first

  -- what is so of a table is so where another word than the first is changed
  others_only : (i n : ℕ) (s : State (Option V) (View F E)) → Holds s → Holds record { words = set s.words (suc i) n; homes = s.homes; views = s.views }
  others_only i n s r = record {
    log = r.log;
    out = r.out;
    fixed = r.fixed;
    workers = r.workers;
    holder = r.holder;
    others = set r.others i n;
    word = ap (λ ws. set ws (suc i) n) r.word;
    few = r.few;
    longest = r.longest;
    home = r.home;
    known = r.known;
    turns = r.turns;
    held = r.held;
    apart = r.apart;
    closed = r.closed;
    whole = r.whole;
  }

  -- a step on it keeps the rule, and the pass is as it was
  pub asks_only : (i n found : ℕ) (did : Step (Option V)) (id : ℕ) (m : Own) (s : State (Option V) (View F E)) → 0 < i → Holds s → get_elem? s.views id ≡ core.some m.0
      → (w : View F E) × (a : Act (Option V)) × Valid s.homes m.1 a × Holds (stepped s i n id m.1 w a) × asked fixed_of log_of count_of role did m found (w, carried_after m.1 a)
  asks_only zero n found did id m s first r at = absurd (omega (arith, first))
  asks_only (suc i) n found did id m s first r at =
      (m.0, keeps, tt, subst Holds (λ j. record { words = set s.words (suc i) n; homes = s.homes; views = sym (set_again s.views id m.0 at) j }) (others_only i n s r), refl)

  -- ---- a turn given

  module _ (id : ℕ) (m : Own) (x : V) (n : ℕ) (before : List E) (entries : n ≡ length (log_of x)) (own : m.0.spent ≡ false) (out_with : m.0.turn ≡ Some before) (carried : m.1 ≡ (0, Some x) ∷ [])
      (adds : AddsOne role m.0.number before (log_of x)) (same_fixed : Some (fixed_of x) ≡ m.0.fixed) (same_count : count_of x ≡ m.0.workers) (short : length (log_of x) < 2 ^ 62)
      (s : State (Option V) (View F E)) (r : Holds s) (at : get_elem? s.views id ≡ core.some m.0) where
    mine : IsKnown role r.log r.fixed r.workers m.0
    mine = r.known id m.0 (at, own)

    the_turn : (r.out ≡ true) × (id ≡ r.holder) × (before ≡ r.log)
    the_turn = r.turns id m.0 before (at, own) out_with

    grown : AddsOne role m.0.number r.log (log_of x)
    grown = subst (λ l. AddsOne role m.0.number l (log_of x)) the_turn.2 adds

    abbrev next : View F E
    next = given role m.0 (log_of x)

    change : Changes s.views id m.0 next
    change = record { before = at; there = own; stays = own; number = refl; reach = refl; weight = refl }

    -- another pass's workers are others than the giver
    apart_from : (j : ℕ) (u : View F E) → j ≢ id → IsPass fixed_of log_of count_of role s.views j u → (k : ℕ) → u.number ≤ k → k < u.reach → k ≡ m.0.number → ⊥
    apart_from j u other at_j k low high e = by (r.apart j id u m.0 other at_j (at, own))
      where
        by : (u.reach ≤ m.0.number) ⊎ (m.0.reach ≤ u.number) → ⊥
        by (inl far) = omega (arith, far, high, e)
        by (inr far) = let some = mine.some_worker in omega (arith, far, low, e, some)

    known_after : (j : ℕ) (u : View F E) → ((j ≡ id) × (next ≡ u)) ⊎ ((j ≢ id) × IsPass fixed_of log_of count_of role s.views j u) → IsKnown role (log_of x) r.fixed r.workers u
    known_after j u (inr other) =
        let k = r.known j u other.1 in
        record {
          same = k.same;
          count = k.count;
          seen = grows role m.0.number r.log (log_of x) u.seen grown k.seen;
          parts = k.parts;
          some_worker = k.some_worker;
          below = k.below;
          own = λ n low high. others_entries role n m.0.number r.log (log_of x) grown (apart_from j u other.0 other.1 n low high) ∙ k.own n low high;
          only = k.only;
          owes = k.owes;
          heavy = k.heavy;
        }
    known_after j u (inl same) = subst (IsKnown role (log_of x) r.fixed r.workers) same.1 (record {
      same = mine.same;
      count = mine.count;
      seen = begins_same (log_of x);
      parts = tt;
      some_worker = mine.some_worker;
      below = mine.below;
      own = λ n low high. refl;
      only = λ n low high. others_entries role n m.0.number r.log (log_of x) grown (λ e. omega (arith, e, low)) ∙ mine.own n (omega (arith, low)) high ∙ mine.only n low high;
      owes = refl;
      heavy = mine.heavy;
    })

    no_turn : (j : ℕ) (u : View F E) (turn : List E) → ((j ≡ id) × (next ≡ u)) ⊎ ((j ≢ id) × IsPass fixed_of log_of count_of role s.views j u) → u.turn ≡ Some turn → ⊥
    no_turn j u turn (inl same) has = none_some (ap (λ v. v.turn) same.1 ∙ has)
      where
        is_there : Option (List E) → Bool
        is_there None = false
        is_there (Some l) = true

        none_some : None ≡ Some turn → ⊥
        none_some e = false≢true (ap is_there e)
    no_turn j u turn (inr other) has = other.0 ((r.turns j u turn other.1 has).1 ∙ sym the_turn.1)

    closed_after : (k : ℕ) → k < r.workers → ((j : ℕ) (u : View F E) → IsPass fixed_of log_of count_of role (set s.views id next) j u → (k < u.number) ⊎ (u.reach ≤ k)) → open_of role k (log_of x) ≡ None
    closed_after k low out =
        others_open role k m.0.number r.log (log_of x) grown (λ e. apart_own e (out id next (at_same s.views id m.0 next change)))
        ∙ r.closed k low (out_before s.views id m.0 next change k out)
      where
        apart_own : k ≡ m.0.number → (k < m.0.number) ⊎ (m.0.reach ≤ k) → ⊥
        apart_own e (inl less) = omega (arith, e, less)
        apart_own e (inr far) = let some = mine.some_worker in omega (arith, e, far, some)

    home_after : s.homes ≡ core.none ∷ [] → AtHome fixed_of log_of count_of role false (set s.homes 0 (core.some (Some x))) (log_of x) r.fixed r.workers
    home_after empty = (x, ap (λ hs. set hs 0 (core.some (Some x))) empty, some_same (same_fixed ∙ mine.same), refl, same_count ∙ mine.count)

    out_home : s.homes ≡ core.none ∷ []
    out_home = by r.out the_turn.0 r.home
      where
        by : (b : Bool) → b ≡ true → AtHome fixed_of log_of count_of role b s.homes r.log r.fixed r.workers → s.homes ≡ core.none ∷ []
        by true e there = there
        by false e there = absurd (false≢true e)

    back : Holds (stepped s 0 (2 * n) id m.1 next gives)
    back = record {
      log = log_of x;
      out = false;
      fixed = r.fixed;
      workers = r.workers;
      holder = r.holder;
      others = r.others;
      word = ap (λ ws. set ws 0 (2 * n)) r.word ∙ ap (λ k. k ∷ r.others) (omega (arith, entries));
      few = short;
      longest = (id, next, at_same s.views id m.0 next change, refl);
      home = subst (λ c. AtHome fixed_of log_of count_of role false (put_back s.homes c) (log_of x) r.fixed r.workers) (sym carried) (home_after out_home);
      known = λ j u at_j. known_after j u (was s.views id m.0 next change j u at_j);
      turns = λ j u turn at_j has. absurd (no_turn j u turn (was s.views id m.0 next change j u at_j) has);
      held = λ is. absurd (false≢true is);
      apart = apart_after s.views id m.0 next change r.apart;
      closed = closed_after;
      whole = weights_after s.views id m.0 next change ∙ r.whole;
    }

    pub gives_turn : (w : View F E) × (a : Act (Option V)) × Valid s.homes m.1 a × Holds (stepped s 0 (2 * n) id m.1 w a) × gave fixed_of log_of count_of role (step 1 0 (2 * n) 0 core.none) m (2 * n) (w, carried_after m.1 a)
    gives_turn = (next, gives, tt, back, λ y e. by y (sym carried ∙ e))
      where
        value_of : List (ℕ × Option V) → Option V
        value_of [] = None
        value_of (p ∷ ps) = p.1

        some_of : V → Option V → V
        some_of d None = d
        some_of d (Some v) = v

        by : (y : V) → ◌≡◌ {A = List (ℕ × Option V)} ((0, Some x) ∷ []) ((0, Some y) ∷ []) → ◌≡◌ {A = Own} (next, rest m.1) (given role m.0 (log_of y), [])
        by y e = let same = ap (λ l. some_of x (value_of l)) e in λ i. (given role m.0 (log_of (same i)), ap rest carried i)

  -- ---- at first

  nobodys_of : (k : ℕ) (r : Role) → is_nobodys r ≡ true → is_of k r ≡ false
  nobodys_of k Nobody e = refl
  nobodys_of k (Opens w m) e = absurd (false≢true e)
  nobodys_of k (GoesOn w) e = absurd (false≢true e)
  nobodys_of k (Closes w) e = absurd (false≢true e)

  fresh_entries : (k : ℕ) (log : List E) → IsFresh role log → entries_of role k log ≡ []
  fresh_entries k [] fresh = refl
  fresh_entries k (e ∷ log) fresh =
      let parts = and_parts (is_nobodys (role e)) (list_all (λ x. is_nobodys (role x)) log) fresh in
      ap (λ b. if b then e ∷ entries_of role k log else entries_of role k log) (nobodys_of k (role e) parts.0) ∙ fresh_entries k log parts.1

  fresh_fold : (k : ℕ) (log : List E) (start : Option ℕ) → IsFresh role log → fold (λ was e. if is_of k (role e) then opened_by (role e) was else was) start log ≡ start
  fresh_fold k [] start fresh = refl
  fresh_fold k (e ∷ log) start fresh =
      let parts = and_parts (is_nobodys (role e)) (list_all (λ x. is_nobodys (role x)) log) fresh in
      ap (λ b. fold (λ was x. if is_of k (role x) then opened_by (role x) was else was) (if b then opened_by (role e) start else start) log) (nobodys_of k (role e) parts.0) ∙ fresh_fold k log start parts.1

  pub first_rule : (x : V) (n : ℕ) → n ≡ length (log_of x) → 0 < count_of x → IsFresh role (log_of x) → length (log_of x) < 2 ^ 62 → Holds (opening (2 * n ∷ 0 ∷ 0 ∷ []) (Some x ∷ []) (first_view (log_of x) (fixed_of x) (count_of x)))
  first_rule x n entries some_worker fresh short = record {
    log = log_of x;
    out = false;
    fixed = fixed_of x;
    workers = count_of x;
    holder = 0;
    others = 0 ∷ 0 ∷ [];
    word = ap (λ k. k ∷ 0 ∷ 0 ∷ []) (omega (arith, entries));
    few = short;
    longest = (0, first_view (log_of x) (fixed_of x) (count_of x), (refl, refl), refl);
    home = (x, refl, refl, refl, refl);
    known = λ id v at. subst (IsKnown role (log_of x) (fixed_of x) (count_of x)) (only_one id v at.0).1 (record {
      same = refl;
      count = refl;
      seen = begins_same (log_of x);
      parts = tt;
      some_worker = some_worker;
      below = omega arith;
      own = λ k low high. refl;
      only = λ k low high. fresh_entries k (log_of x) fresh;
      owes = sym (fresh_fold 0 (log_of x) None fresh);
      heavy = omega arith;
    });
    turns = λ id v turn at has. absurd (none_some turn (ap (λ u. u.turn) (only_one id v at.0).1 ∙ has));
    held = λ is. absurd (false≢true is);
    apart = λ a b v w differ at_a at_b. absurd (differ ((only_one a v at_a.0).0 ∙ sym (only_one b w at_b.0).0));
    closed = λ k low out. fresh_fold k (log_of x) None fresh;
    whole = omega arith;
  }
    where
      only_one : (id : ℕ) (v : View F E) → get_elem? (first_view (log_of x) (fixed_of x) (count_of x) ∷ []) id ≡ core.some v → (id ≡ 0) × (first_view (log_of x) (fixed_of x) (count_of x) ≡ v)
      only_one zero v e = (refl, some-injective (first_view (log_of x) (fixed_of x) (count_of x)) v e)
      only_one (suc id) v e = absurd (some-ne-none v (sym e))

      is_there : Option (List E) → Bool
      is_there None = false
      is_there (Some l) = true

      none_some : (turn : List E) → None ≡ Some turn → ⊥
      none_some turn e = false≢true (ap is_there e)
