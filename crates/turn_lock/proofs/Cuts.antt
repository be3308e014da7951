-- A pass cut in two, two made one, and the last one.
use Rattle.std.proofs.Common.{◌≡◌, ◌≢◌, ◌⊎◌, inl, inr, ℕ, zero, suc, ◌+◌, ◌-◌, ◌<◌, ◌≤◌, Bool, true, false, nat_le, List, [], ◌∷◌, ◌++◌, length, fold, set, Option, Some, None, refl, arith, sym, ap, subst, ◌∙◌, if◌then◌else◌}
use Rattle.std.proofs.lemmas.Bool.{cases_eq, cases_lt, false≢true, le-leb, leb-false, leb-true, lt-leb}
use Rattle.std.proofs.lemmas.List.{append-nil, length-append, length-set}
use Rattle.std.proofs.lemmas.List.Elements.{filter-append}
use mathlib.Core.Option as core
use mathlib.Core.Option.{some-injective, some-ne-none}
use lib.ListN.{get_elem?}
use Rattle.atomic_table.specs.Table.{Final, Seen, State}
use Rattle.atomic_table.proofs.Lists.{at_last, at_longer, at_set, set_else, set_here}
use Rattle.turn_lock.specs.declared.kept.Role.{Role}
use Rattle.turn_lock.specs.declared.view.View.{View}
use Rattle.turn_lock.specs.Turns.{Begins, IsKnown, entries_of, half, is_of, joined, left_of, longer, open_of, opened_by, right_of, spent}
use Rattle.turn_lock.specs.Rule.{AtHome, IsPass, IsTurned, weight_of, weights}
use Rattle.turn_lock.proofs.Steps.{begins_same, weights_set}

-- ---- lists of views

at_end : {A : Type 0} (l : List A) (a b : A) (j : ℕ) → get_elem? (l ++ a ∷ []) j ≡ core.some b → ((j < length l) × (get_elem? l j ≡ core.some b)) ⊎ ((j ≡ length l) × (a ≡ b))
at_end [] a b zero e = inr (refl, some-injective a b e)
at_end [] a b (suc j) e = absurd (some-ne-none b (sym e))
at_end (x ∷ l) a b zero e = inl (omega arith, e)
at_end (x ∷ l) a b (suc j) e = by (at_end l a b j e)
  where
    by : ((j < length l) × (get_elem? l j ≡ core.some b)) ⊎ ((j ≡ length l) × (a ≡ b)) → ((suc j < length (x ∷ l)) × (get_elem? l j ≡ core.some b)) ⊎ ((suc j ≡ length (x ∷ l)) × (a ≡ b))
    by (inl it) = inl (omega (arith, it.0), it.1)
    by (inr it) = inr (ap suc it.0, it.1)

there_low : {A : Type 0} (l : List A) (i : ℕ) (a : A) → get_elem? l i ≡ core.some a → i < length l
there_low [] i a e = absurd (some-ne-none a (sym e))
there_low (x ∷ l) zero a e = omega arith
there_low (x ∷ l) (suc i) a e = let rest = there_low l i a e in omega (arith, rest)

weights_snoc : {F E : Type 0} (views : List (View F E)) (w : View F E) → weights (views ++ w ∷ []) ≡ weights views + weight_of w
weights_snoc [] w = omega arith
weights_snoc (v ∷ views) w = let again = weights_snoc views w in omega (arith, again)

weight_one : {F E : Type 0} (views : List (View F E)) (a : ℕ) (v : View F E) → get_elem? views a ≡ core.some v → weight_of v ≤ weights views
weight_one [] a v at = absurd (some-ne-none v (sym at))
weight_one (x ∷ views) zero v at = let is = ap weight_of (some-injective x v at) in omega (arith, is)
weight_one (x ∷ views) (suc a) v at = let rest = weight_one views a v at in omega (arith, rest)

weights_two : {F E : Type 0} (views : List (View F E)) (a b : ℕ) (v w : View F E) → get_elem? views a ≡ core.some v → get_elem? views b ≡ core.some w → a ≢ b → weight_of v + weight_of w ≤ weights views
weights_two [] a b v w at_a at_b differ = absurd (some-ne-none v (sym at_a))
weights_two (x ∷ views) zero zero v w at_a at_b differ = absurd (differ refl)
weights_two (x ∷ views) zero (suc b) v w at_a at_b differ = let is = ap weight_of (some-injective x v at_a) in let rest = weight_one views b w at_b in omega (arith, is, rest)
weights_two (x ∷ views) (suc a) zero v w at_a at_b differ = let is = ap weight_of (some-injective x w at_b) in let rest = weight_one views a v at_a in omega (arith, is, rest)
weights_two (x ∷ views) (suc a) (suc b) v w at_a at_b differ = let rest = weights_two views a b v w at_a at_b (λ e. differ (ap suc e)) in omega (arith, rest)

-- ---- logs

abbrev head_of : {E : Type 0} → E → List E → E
head_of d [] = d
head_of d (z ∷ zs) = z

abbrev tail_of : {E : Type 0} → List E → List E
tail_of [] = []
tail_of (z ∷ zs) = zs

begins_between : {E : Type 0} (a b log : List E) → Begins a log → Begins b log → length a ≤ length b → Begins a b
begins_between [] b log in_a in_b short = (b, refl)
begins_between (x ∷ a) [] log in_a in_b short = absurd (omega (arith, short))
begins_between (x ∷ a) (y ∷ b) log in_a in_b short =
    let same = sym in_a.1 ∙ in_b.1 in
    let heads : x ≡ y = ap (head_of x) same in
    let again = begins_between a b (a ++ in_a.0) (in_a.0, refl) (in_b.0, ap tail_of same) (omega (arith, short)) in
    (again.0, λ i. sym heads i ∷ again.1 i)

begins_both : {E : Type 0} (a b : List E) → Begins a b → Begins b a → a ≡ b
begins_both [] [] in_b in_a = refl
begins_both [] (y ∷ b) in_b in_a = absurd (let long = ap length in_a.1 in omega (arith, long))
begins_both (x ∷ a) [] in_b in_a = absurd (let long = ap length in_b.1 in omega (arith, long))
begins_both (x ∷ a) (y ∷ b) in_b in_a = let heads : y ≡ x = ap (head_of y) in_b.1 in let tails = begins_both a b (in_b.0, ap tail_of in_b.1) (in_a.0, ap tail_of in_a.1) in λ i. sym heads i ∷ tails i

pub second_longer : {E : Type 0} (a b : List E) → length a ≤ length b → longer a b ≡ b
second_longer a b short = ap (λ t. if t then b else a) (le-leb (length a) (length b) short)

pub first_longer : {E : Type 0} (a b : List E) → length b < length a → longer a b ≡ a
first_longer a b long = ap (λ t. if t then b else a) (lt-leb (length a) (length b) long)

module _ {E : Type 0} (role : E → Role) where
  fold_filter : (k : ℕ) (log : List E) (start : Option ℕ) → fold (λ was e. if is_of k (role e) then opened_by (role e) was else was) start log ≡ fold (λ was e. if is_of k (role e) then opened_by (role e) was else was) start (entries_of role k log)
  fold_filter k [] start = refl
  fold_filter k (e ∷ log) start = by (is_of k (role e)) refl (fold_filter k log)
    where
      step : Option ℕ → E → Option ℕ
      step was x = if is_of k (role x) then opened_by (role x) was else was

      by : (b : Bool) → is_of k (role e) ≡ b → ((s : Option ℕ) → fold step s log ≡ fold step s (entries_of role k log)) → fold step (step start e) log ≡ fold step start (if is_of k (role e) then e ∷ entries_of role k log else entries_of role k log)
      by true is again = again (step start e) ∙ sym (ap (λ c. fold step start (if c then e ∷ entries_of role k log else entries_of role k log)) is)
      by false is again = again (step start e) ∙ ap (λ c. fold step (if c then opened_by (role e) start else start) (entries_of role k log)) is ∙ sym (ap (λ c. fold step start (if c then e ∷ entries_of role k log else entries_of role k log)) is)

  pub open_same : (k : ℕ) (a b : List E) → entries_of role k a ≡ entries_of role k b → open_of role k a ≡ open_of role k b
  open_same k a b e = fold_filter k a None ∙ ap (fold (λ was x. if is_of k (role x) then opened_by (role x) was else was) None) e ∙ sym (fold_filter k b None)

  pub open_none : (k : ℕ) (a : List E) → entries_of role k a ≡ [] → open_of role k a ≡ None
  open_none k a e = fold_filter k a None ∙ ap (fold (λ was x. if is_of k (role x) then opened_by (role x) was else was) None) e

  -- a worker's entries in a log between two that have the same of it
  pub same_between : (k : ℕ) (a b log : List E) → Begins a b → Begins b log → entries_of role k log ≡ entries_of role k a → entries_of role k b ≡ entries_of role k a
  same_between k a b log a_b b_log same =
      let of_b : entries_of role k b ≡ entries_of role k a ++ entries_of role k a_b.0 = ap (entries_of role k) a_b.1 ∙ filter-append (λ e. is_of k (role e)) a a_b.0 in
      let of_log : entries_of role k log ≡ entries_of role k b ++ entries_of role k b_log.0 = ap (entries_of role k) b_log.1 ∙ filter-append (λ e. is_of k (role e)) b b_log.0 in
      let long = ap length of_b ∙ length-append (entries_of role k a) (entries_of role k a_b.0) in
      let longer_log = ap length of_log ∙ length-append (entries_of role k b) (entries_of role k b_log.0) in
      let same_long = ap length same in
      let none : length (entries_of role k a_b.0) ≡ 0 = omega (arith, long, longer_log, same_long) in
      of_b ∙ ap (λ t. entries_of role k a ++ t) (empty (entries_of role k a_b.0) none) ∙ append-nil (entries_of role k a)
    where
      empty : (xs : List E) → length xs ≡ 0 → xs ≡ []
      empty [] e = refl
      empty (x ∷ xs) e = absurd (omega (arith, e))

module _ {V F E : Type 0} (fixed_of : V → F) (log_of : V → List E) (count_of : V → ℕ) (role : E → Role) where
  abbrev Views : Type 0
  Views = List (View F E)

  abbrev At : Views → ℕ → View F E → Type 0
  At = IsPass fixed_of log_of count_of role

  abbrev Holds : State (Option V) (View F E) → Type 0
  Holds = IsTurned fixed_of log_of count_of role

  abbrev is_there : Option (List E) → Bool
  is_there None = false
  is_there (Some l) = true

  none_some : {turn : List E} → None ≡ Some turn → ⊥
  none_some {turn} e = false≢true (ap is_there e)

  -- ---- cut in two

  module _ (id : ℕ) (v : View F E) (own : v.spent ≡ false) (free : v.turn ≡ None) (clear : v.owed ≡ None) (wide : v.number + 2 ≤ v.reach)
      (s : State (Option V) (View F E)) (r : Holds s) (at : get_elem? s.views id ≡ core.some v) where
    abbrev L : View F E
    L = left_of v

    abbrev R : View F E
    R = right_of v

    abbrev cut : Views
    cut = set s.views id L ++ R ∷ []

    mine : IsKnown role r.log r.fixed r.workers v
    mine = r.known id v (at, own)

    -- the three kinds of passes
    abbrev Kind : ℕ → View F E → Type 0
    Kind j u = ((j ≡ id) × (L ≡ u)) ⊎ (((j ≢ id) × At s.views j u) ⊎ ((j ≡ length s.views) × (R ≡ u)))

    kind : (j : ℕ) (u : View F E) → At cut j u → Kind j u
    kind j u at_j = by (at_end (set s.views id L) R u j at_j.0)
      where
        inner : ((j ≡ id) × (L ≡ u)) ⊎ ((j ≢ id) × (get_elem? s.views j ≡ core.some u)) → Kind j u
        inner (inl same) = inl same
        inner (inr other) = inr (inl (other.0, (other.1, at_j.1)))

        by : ((j < length (set s.views id L)) × (get_elem? (set s.views id L) j ≡ core.some u)) ⊎ ((j ≡ length (set s.views id L)) × (R ≡ u)) → Kind j u
        by (inl it) = inner (at_set s.views id j L u it.1)
        by (inr it) = inr (inr (it.0 ∙ length-set s.views id L, it.1))

    at_left : At cut id L
    at_left = (at_longer (set s.views id L) (R ∷ []) id L (set_here s.views id L (there_low s.views id v at)), own)

    at_right : At cut (length s.views) R
    at_right = (at_last (set s.views id L) R (length s.views) (length-set s.views id L), own)

    at_others : (j : ℕ) (u : View F E) → j ≢ id → At s.views j u → At cut j u
    at_others j u other at_j = (at_longer (set s.views id L) (R ∷ []) j u (set_else s.views id j L other ∙ at_j.0), at_j.1)

    known_left : IsKnown role r.log r.fixed r.workers L
    known_left = let a = mine.below in let b = mine.heavy in record {
      same = mine.same;
      count = mine.count;
      seen = mine.seen;
      parts = mine.parts;
      some_worker = omega (arith, wide);
      below = omega (arith, a);
      own = λ k low high. mine.own k low (omega (arith, high));
      only = λ k low high. mine.only k low (omega (arith, high));
      owes = mine.owes;
      heavy = omega (arith, b, wide);
    }

    known_right : IsKnown role r.log r.fixed r.workers R
    known_right = record {
      same = mine.same;
      count = mine.count;
      seen = mine.seen;
      parts = mine.parts;
      some_worker = omega (arith, wide);
      below = mine.below;
      own = λ k low high. mine.own k (omega (arith, low, wide)) high;
      only = λ k low high. mine.only k (omega (arith, low, wide)) high;
      owes = sym (open_none role (v.reach - half v) v.seen (mine.only (v.reach - half v) (omega (arith, wide)) (omega (arith, wide))));
      heavy = omega (arith, wide);
    }

    known_cut : (j : ℕ) (u : View F E) → Kind j u → IsKnown role r.log r.fixed r.workers u
    known_cut j u (inl same) = subst (IsKnown role r.log r.fixed r.workers) same.1 known_left
    known_cut j u (inr (inl other)) = r.known j u other.1
    known_cut j u (inr (inr last)) = subst (IsKnown role r.log r.fixed r.workers) last.1 known_right

    turns_cut : (j : ℕ) (u : View F E) (turn : List E) → Kind j u → u.turn ≡ Some turn → (r.out ≡ true) × (j ≡ r.holder) × (turn ≡ r.log)
    turns_cut j u turn (inl same) has = absurd (none_some (sym free ∙ ap (λ x. x.turn) same.1 ∙ has))
    turns_cut j u turn (inr (inl other)) has = r.turns j u turn other.1 has
    turns_cut j u turn (inr (inr last)) has = absurd (none_some (ap (λ x. x.turn) last.1 ∙ has))

    held_cut : r.out ≡ true → (u : View F E) × At cut r.holder u × (u.turn ≡ Some r.log)
    held_cut is =
        let h = r.held is in
        (h.0, at_others r.holder h.0 (λ e. none_some (sym free ∙ ap (λ x. x.turn) (some-injective v h.0 (sym at ∙ subst (λ i. get_elem? s.views i ≡ core.some h.0) e h.1.0)) ∙ h.2)) h.1, h.2)

    abbrev Apart : View F E → View F E → Type 0
    Apart x y = (x.reach ≤ y.number) ⊎ (y.reach ≤ x.number)

    left_other : (u : View F E) → Apart v u → Apart L u
    left_other u (inl e) = inl (omega (arith, e))
    left_other u (inr e) = inr e

    right_other : (u : View F E) → Apart v u → Apart R u
    right_other u (inl e) = inl e
    right_other u (inr e) = inr (omega (arith, e, wide))

    turned : (x y : View F E) → Apart x y → Apart y x
    turned x y (inl e) = inr e
    turned x y (inr e) = inl e

    left_right : Apart L R
    left_right = inl (omega arith)

    apart_cut : (a b : ℕ) (x y : View F E) → a ≢ b → Kind a x → Kind b y → Apart x y
    apart_cut a b x y differ (inl p) (inl q) = absurd (differ (p.0 ∙ sym q.0))
    apart_cut a b x y differ (inl p) (inr (inl q)) = subst (λ z. Apart z y) p.1 (left_other y (r.apart id b v y (λ e. q.0 (sym e)) (at, own) q.1))
    apart_cut a b x y differ (inl p) (inr (inr q)) = subst (λ z. Apart z y) p.1 (subst (Apart L) q.1 left_right)
    apart_cut a b x y differ (inr (inl p)) (inl q) = subst (Apart x) q.1 (turned L x (left_other x (r.apart id a v x (λ e. p.0 (sym e)) (at, own) p.1)))
    apart_cut a b x y differ (inr (inl p)) (inr (inl q)) = r.apart a b x y differ p.1 q.1
    apart_cut a b x y differ (inr (inl p)) (inr (inr q)) = subst (Apart x) q.1 (turned R x (right_other x (r.apart id a v x (λ e. p.0 (sym e)) (at, own) p.1)))
    apart_cut a b x y differ (inr (inr p)) (inl q) = subst (λ z. Apart z y) p.1 (subst (Apart R) q.1 (turned L R left_right))
    apart_cut a b x y differ (inr (inr p)) (inr (inl q)) = subst (λ z. Apart z y) p.1 (right_other y (r.apart id b v y (λ e. q.0 (sym e)) (at, own) q.1))
    apart_cut a b x y differ (inr (inr p)) (inr (inr q)) = absurd (differ (p.0 ∙ sym q.0))

    closed_cut : (k : ℕ) → k < r.workers → ((j : ℕ) (u : View F E) → At cut j u → (k < u.number) ⊎ (u.reach ≤ k)) → open_of role k r.log ≡ None
    closed_cut k low out = r.closed k low (λ j u at_j. by j u at_j (cases_eq j id))
      where
        both : (k < v.number) ⊎ (v.reach - half v ≤ k) → (k < v.reach - half v) ⊎ (v.reach ≤ k) → (k < v.number) ⊎ (v.reach ≤ k)
        both (inl e) any = inl e
        both (inr e) (inl f) = absurd (omega (arith, e, f))
        both (inr e) (inr f) = inr f

        by : (j : ℕ) (u : View F E) → At s.views j u → (j ≡ id) ⊎ (j ≢ id) → (k < u.number) ⊎ (u.reach ≤ k)
        by j u at_j (inl e) = subst (λ x. (k < x.number) ⊎ (x.reach ≤ k)) (some-injective v u (sym at ∙ subst (λ i. get_elem? s.views i ≡ core.some u) e at_j.0)) (both (out id L at_left) (out (length s.views) R at_right))
        by j u at_j (inr other) = out j u (at_others j u other at_j)

    longest_cut : (j : ℕ) × (u : View F E) × At cut j u × (u.seen ≡ r.log)
    longest_cut = by (cases_eq r.longest.0 id)
      where
        by : (r.longest.0 ≡ id) ⊎ (r.longest.0 ≢ id) → (j : ℕ) × (u : View F E) × At cut j u × (u.seen ≡ r.log)
        by (inl e) = (id, L, at_left, ap (λ x. x.seen) (some-injective v r.longest.1 (sym at ∙ subst (λ i. get_elem? s.views i ≡ core.some r.longest.1) e r.longest.2.0)) ∙ r.longest.3)
        by (inr away) = (r.longest.0, r.longest.1, at_others r.longest.0 r.longest.1 away r.longest.2, r.longest.3)

    pub cuts : Holds record { words = s.words; homes = s.homes; views = cut }
    cuts = record {
      log = r.log;
      out = r.out;
      fixed = r.fixed;
      workers = r.workers;
      holder = r.holder;
      others = r.others;
      word = r.word;
      few = r.few;
      longest = longest_cut;
      home = r.home;
      known = λ j u at_j. known_cut j u (kind j u at_j);
      turns = λ j u turn at_j has. turns_cut j u turn (kind j u at_j) has;
      held = held_cut;
      apart = λ a b x y differ at_a at_b. apart_cut a b x y differ (kind a x at_a) (kind b y at_b);
      closed = closed_cut;
      whole =
          let a = weights_snoc (set s.views id L) R in
          let b = weights_set s.views id v L at in
          let c : weight_of v ≡ v.weight = ap (λ t. if t then 0 else v.weight) own in
          let d : weight_of L ≡ v.weight - half v = ap (λ t. if t then 0 else v.weight - half v) own in
          let e : weight_of R ≡ half v = ap (λ t. if t then 0 else half v) own in
          let f = mine.heavy in
          let w = r.whole in
          omega (arith, a, b, c, d, e, f, w, wide);
    }

  -- ---- two made one

  module _ (id other : ℕ) (v w : View F E) (own : v.spent ≡ false) (its : w.spent ≡ false) (free : v.turn ≡ None) (quiet : w.turn ≡ None) (clear : w.owed ≡ None)
      (s : State (Option V) (View F E)) (r : Holds s) (at : get_elem? s.views id ≡ core.some v) (differ : other ≢ id) (at_w : get_elem? s.views other ≡ core.some w) where
    abbrev J : View F E
    J = joined v w

    abbrev one : Views
    one = set (set s.views id J) other spent

    first : IsKnown role r.log r.fixed r.workers v
    first = r.known id v (at, own)

    second : IsKnown role r.log r.fixed r.workers w
    second = r.known other w (at_w, its)

    abbrev Kept : ℕ → View F E → Type 0
    Kept j u = (j ≢ other) × (((j ≡ id) × (J ≡ u)) ⊎ ((j ≢ id) × At s.views j u))

    kept : (j : ℕ) (u : View F E) → At one j u → Kept j u
    kept j u at_j = by (at_set (set s.views id J) other j spent u at_j.0)
      where
        inner : j ≢ other → ((j ≡ id) × (J ≡ u)) ⊎ ((j ≢ id) × (get_elem? s.views j ≡ core.some u)) → Kept j u
        inner away (inl same) = (away, inl same)
        inner away (inr it) = (away, inr (it.0, (it.1, at_j.1)))

        by : ((j ≡ other) × (spent ≡ u)) ⊎ ((j ≢ other) × (get_elem? (set s.views id J) j ≡ core.some u)) → Kept j u
        by (inl gone) = absurd (false≢true (sym at_j.1 ∙ sym (ap (λ x. x.spent) gone.1)))
        by (inr it) = inner it.0 (at_set s.views id j J u it.1)

    at_joined : At one id J
    at_joined = (set_else (set s.views id J) other id spent (λ e. differ (sym e)) ∙ set_here s.views id J (there_low s.views id v at), own)

    at_rest : (j : ℕ) (u : View F E) → j ≢ id → j ≢ other → At s.views j u → At one j u
    at_rest j u not_id not_other at_j = (set_else (set s.views id J) other j spent not_other ∙ set_else s.views id j J not_id ∙ at_j.0, at_j.1)

    -- the longer log begins the whole, and has the same of the workers in reach
    abbrev Whole : List E → Type 0
    Whole log = Begins log r.log × ((k : ℕ) → entries_of role k r.log ≡ entries_of role k v.seen → entries_of role k log ≡ entries_of role k v.seen)

    longer_whole : (b : Bool) → nat_le (length v.seen) (length w.seen) ≡ b → Whole (if b then w.seen else v.seen)
    longer_whole false e = (first.seen, λ k same. refl)
    longer_whole true e = (second.seen, λ k same. same_between role k v.seen w.seen r.log (begins_between v.seen w.seen r.log first.seen second.seen (leb-true (length v.seen) (length w.seen) e)) second.seen same)

    whole_log : Whole (longer v.seen w.seen)
    whole_log = longer_whole (nat_le (length v.seen) (length w.seen)) refl

    -- which begins with both
    longer_of : (b : Bool) → nat_le (length v.seen) (length w.seen) ≡ b → Begins v.seen (if b then w.seen else v.seen) × Begins w.seen (if b then w.seen else v.seen)
    longer_of true e = (begins_between v.seen w.seen r.log first.seen second.seen (leb-true (length v.seen) (length w.seen) e), begins_same w.seen)
    longer_of false e = (begins_same v.seen, begins_between w.seen v.seen r.log second.seen first.seen (let less = leb-false (length v.seen) (length w.seen) e in omega (arith, less)))

    parts_of : Begins v.seen (longer v.seen w.seen)
    parts_of = (longer_of (nat_le (length v.seen) (length w.seen)) refl).0

    parts_too : Begins w.seen (longer v.seen w.seen)
    parts_too = (longer_of (nat_le (length v.seen) (length w.seen)) refl).1

    known_joined : IsKnown role r.log r.fixed r.workers J
    known_joined =
        let a = first.heavy in
        record {
          same = first.same;
          count = first.count;
          seen = whole_log.0;
          parts = (parts_of, (parts_too, tt));
          some_worker = first.some_worker;
          below = first.below;
          own = λ k low high. let same = first.own k low high in same ∙ sym (whole_log.1 k same);
          only = λ k low high. whole_log.1 k (first.own k (omega (arith, low)) high) ∙ first.only k low high;
          owes = first.owes ∙ open_same role v.number v.seen (longer v.seen w.seen) (sym (whole_log.1 v.number (let few = first.some_worker in first.own v.number (omega arith) few)));
          heavy = omega (arith, a);
        }

    known_one : (j : ℕ) (u : View F E) → Kept j u → IsKnown role r.log r.fixed r.workers u
    known_one j u (away, inl same) = subst (IsKnown role r.log r.fixed r.workers) same.1 known_joined
    known_one j u (away, inr it) = r.known j u it.1

    turns_one : (j : ℕ) (u : View F E) (turn : List E) → Kept j u → u.turn ≡ Some turn → (r.out ≡ true) × (j ≡ r.holder) × (turn ≡ r.log)
    turns_one j u turn (away, inl same) has = absurd (none_some (sym free ∙ ap (λ x. x.turn) same.1 ∙ has))
    turns_one j u turn (away, inr it) has = r.turns j u turn it.1 has

    held_one : r.out ≡ true → (u : View F E) × At one r.holder u × (u.turn ≡ Some r.log)
    held_one is =
        let h = r.held is in (
          h.0,
          at_rest r.holder h.0
              (λ e. none_some (sym free ∙ ap (λ x. x.turn) (some-injective v h.0 (sym at ∙ subst (λ i. get_elem? s.views i ≡ core.some h.0) e h.1.0)) ∙ h.2))
              (λ e. none_some (sym quiet ∙ ap (λ x. x.turn) (some-injective w h.0 (sym at_w ∙ subst (λ i. get_elem? s.views i ≡ core.some h.0) e h.1.0)) ∙ h.2))
              h.1,
          h.2,
        )

    apart_one : (a b : ℕ) (x y : View F E) → a ≢ b → Kept a x → Kept b y → (x.reach ≤ y.number) ⊎ (y.reach ≤ x.number)
    apart_one a b x y far (away, inl p) (gone, inl q) = absurd (far (p.0 ∙ sym q.0))
    apart_one a b x y far (away, inl p) (gone, inr q) = subst (λ z. (z.reach ≤ y.number) ⊎ (y.reach ≤ z.number)) p.1 (r.apart id b v y (λ e. q.0 (sym e)) (at, own) q.1)
    apart_one a b x y far (away, inr p) (gone, inl q) = subst (λ z. (x.reach ≤ z.number) ⊎ (z.reach ≤ x.number)) q.1 (r.apart a id x v p.0 p.1 (at, own))
    apart_one a b x y far (away, inr p) (gone, inr q) = r.apart a b x y far p.1 q.1

    -- a worker of the spent pass has nothing open
    closed_spent : (k : ℕ) → w.number ≤ k → k < w.reach → open_of role k r.log ≡ None
    closed_spent k low high = by (cases_eq k w.number)
      where
        by : (k ≡ w.number) ⊎ (k ≢ w.number) → open_of role k r.log ≡ None
        by (inl e) = open_same role k r.log w.seen (second.own k low high) ∙ ap (λ n. open_of role n w.seen) e ∙ sym second.owes ∙ clear
        by (inr far) = open_none role k r.log (second.own k low high ∙ second.only k (more (cases_lt w.number k)) high)
          where
            more : (w.number < k) ⊎ (k ≤ w.number) → w.number < k
            more (inl less) = less
            more (inr back) = absurd (far (omega (arith, low, back)))

    closed_one : (k : ℕ) → k < r.workers → ((j : ℕ) (u : View F E) → At one j u → (k < u.number) ⊎ (u.reach ≤ k)) → open_of role k r.log ≡ None
    closed_one k low out = by (cases_lt k w.number) (cases_lt k w.reach)
      where
        outside : (k < w.number) ⊎ (w.reach ≤ k) → (j : ℕ) (u : View F E) → At s.views j u → (j ≡ id) ⊎ (j ≢ id) → (j ≡ other) ⊎ (j ≢ other) → (k < u.number) ⊎ (u.reach ≤ k)
        outside away j u at_j (inl e) any = subst (λ x. (k < x.number) ⊎ (x.reach ≤ k)) (some-injective v u (sym at ∙ subst (λ i. get_elem? s.views i ≡ core.some u) e at_j.0)) (out id J at_joined)
        outside away j u at_j (inr far) (inl e) = subst (λ x. (k < x.number) ⊎ (x.reach ≤ k)) (some-injective w u (sym at_w ∙ subst (λ i. get_elem? s.views i ≡ core.some u) e at_j.0)) away
        outside away j u at_j (inr far) (inr gone) = out j u (at_rest j u far gone at_j)

        by : (k < w.number) ⊎ (w.number ≤ k) → (k < w.reach) ⊎ (w.reach ≤ k) → open_of role k r.log ≡ None
        by (inl below) any = r.closed k low (λ j u at_j. outside (inl below) j u at_j (cases_eq j id) (cases_eq j other))
        by (inr above) (inl high) = closed_spent k above high
        by (inr above) (inr far) = r.closed k low (λ j u at_j. outside (inr far) j u at_j (cases_eq j id) (cases_eq j other))

    -- of two logs that begin the whole, the joined one is the whole where one is
    is_whole : (log : List E) → Begins log (longer v.seen w.seen) → log ≡ r.log → longer v.seen w.seen ≡ r.log
    is_whole log in_longer same = begins_both (longer v.seen w.seen) r.log whole_log.0 (subst (λ l. Begins l (longer v.seen w.seen)) same in_longer)

    longest_one : (j : ℕ) × (u : View F E) × At one j u × (u.seen ≡ r.log)
    longest_one = by (cases_eq r.longest.0 id) (cases_eq r.longest.0 other)
      where
        by : (r.longest.0 ≡ id) ⊎ (r.longest.0 ≢ id) → (r.longest.0 ≡ other) ⊎ (r.longest.0 ≢ other) → (j : ℕ) × (u : View F E) × At one j u × (u.seen ≡ r.log)
        by (inl e) any = (id, J, at_joined, is_whole v.seen parts_of (ap (λ x. x.seen) (some-injective v r.longest.1 (sym at ∙ subst (λ i. get_elem? s.views i ≡ core.some r.longest.1) e r.longest.2.0)) ∙ r.longest.3))
        by (inr away) (inl e) = (id, J, at_joined, is_whole w.seen parts_too (ap (λ x. x.seen) (some-injective w r.longest.1 (sym at_w ∙ subst (λ i. get_elem? s.views i ≡ core.some r.longest.1) e r.longest.2.0)) ∙ r.longest.3))
        by (inr away) (inr gone) = (r.longest.0, r.longest.1, at_rest r.longest.0 r.longest.1 away gone r.longest.2, r.longest.3)

    pub joins : Holds record { words = s.words; homes = s.homes; views = one }
    joins = record {
      log = r.log;
      out = r.out;
      fixed = r.fixed;
      workers = r.workers;
      holder = r.holder;
      others = r.others;
      word = r.word;
      few = r.few;
      longest = longest_one;
      home = r.home;
      known = λ j u at_j. known_one j u (kept j u at_j);
      turns = λ j u turn at_j has. turns_one j u turn (kept j u at_j) has;
      held = held_one;
      apart = λ a b x y far at_a at_b. apart_one a b x y far (kept a x at_a) (kept b y at_b);
      closed = closed_one;
      whole =
          let a = weights_set s.views id v J at in
          let b = weights_set (set s.views id J) other w spent (set_else s.views id other J differ ∙ at_w) in
          let c : weight_of v ≡ v.weight = ap (λ t. if t then 0 else v.weight) own in
          let d : weight_of w ≡ w.weight = ap (λ t. if t then 0 else w.weight) its in
          let e : weight_of J ≡ v.weight + w.weight = ap (λ t. if t then 0 else v.weight + w.weight) own in
          let f = r.whole in
          omega (arith, a, b, c, d, e, f);
    }

  -- ---- the last pass

  module _ (id : ℕ) (v : View F E) (own : v.spent ≡ false) (free : v.turn ≡ None) (whole : v.weight ≡ v.workers)
      (s : State (Option V) (View F E)) (r : Holds s) (at : get_elem? s.views id ≡ core.some v) where
    last_known : IsKnown role r.log r.fixed r.workers v
    last_known = r.known id v (at, own)

    -- there is no other pass
    alone : (j : ℕ) (u : View F E) → At s.views j u → j ≢ id → ⊥
    alone j u at_j away =
        let two = weights_two s.views id j v u at at_j.0 (λ e. away (sym e)) in
        let a : weight_of v ≡ v.weight = ap (λ t. if t then 0 else v.weight) own in
        let b : weight_of u ≡ u.weight = ap (λ t. if t then 0 else u.weight) at_j.1 in
        let k = r.known j u at_j in
        let c = k.heavy in
        let d = k.some_worker in
        let e = last_known.count in
        let f = r.whole in
        omega (arith, two, a, b, c, d, e, f, whole)

    same_view : (j : ℕ) (u : View F E) → At s.views j u → v ≡ u
    same_view j u at_j = by (cases_eq j id)
      where
        by : (j ≡ id) ⊎ (j ≢ id) → v ≡ u
        by (inl e) = some-injective v u (sym at ∙ subst (λ i. get_elem? s.views i ≡ core.some u) e at_j.0)
        by (inr away) = absurd (alone j u at_j away)

    is_home : r.out ≡ true → ⊥
    is_home is = let h = r.held is in none_some (sym free ∙ ap (λ x. x.turn) (same_view r.holder h.0 h.1) ∙ h.2)

    seen_whole : v.seen ≡ r.log
    seen_whole = ap (λ x. x.seen) (same_view r.longest.0 r.longest.1 r.longest.2) ∙ r.longest.3

    pub closes : (x : V) × (s.homes ≡ core.some (Some x) ∷ []) × (Some (fixed_of x) ≡ v.fixed) × (count_of x ≡ v.workers) × (log_of x ≡ v.seen)
    closes = by r.out refl r.home
      where
        by : (b : Bool) → r.out ≡ b → AtHome fixed_of log_of count_of role b s.homes r.log r.fixed r.workers → (x : V) × (s.homes ≡ core.some (Some x) ∷ []) × (Some (fixed_of x) ≡ v.fixed) × (count_of x ≡ v.workers) × (log_of x ≡ v.seen)
        by true is there = absurd (is_home is)
        by false is there = (there.0, there.1, ap (λ f. Some f) there.2 ∙ sym last_known.same, there.4 ∙ sym last_known.count, there.3 ∙ sym seen_whole)

  pub closed_value : (id : ℕ) (v : View F E) → v.spent ≡ false → v.turn ≡ None → v.weight ≡ v.workers → (words : List ℕ) (slots : List (Option V)) → Final (Seen Holds id v) words slots
      → (x : V) × (get_elem? slots 0 ≡ core.some (Some x)) × (Some (fixed_of x) ≡ v.fixed) × (count_of x ≡ v.workers) × (log_of x ≡ v.seen)
  closed_value id v own free whole words slots last =
      let it = closes id v own free whole last.0 last.1.0 last.1.1 in
      (it.0, last.4 0 (Some it.0) (ap (λ hs. get_elem? hs 0) it.1), it.2, it.3, it.4)
