-- What is read as a list of intervals is written as one.
use Rattle.std.proofs.Common.{◌≡◌, ℕ, zero, suc, ◌+◌, Bool, true, false, not, ◌&&◌, ◌==◌, List, [], ◌∷◌, ◌++◌, Option, Some, None, Result, Ok, Err, append_assoc, append-nil, refl, sym, ap, subst, ◌∙◌, arith}
use Rattle.std.proofs.lemmas.Bool.{false≢true}
use Rattle.std.proofs.lemmas.Bool.Decides.{nat_tests}
use Rattle.versions.specs.declared.interval.Bound.{Bound}
use Rattle.versions.specs.declared.interval.Interval.{Interval}
use Rattle.versions.specs.Intervals.{is_crossed}
use Rattle.versions.specs.Requirements.{Reading, before, lower, upper, behind, is_divider, bound, closed, exactly, next, read_on}
use Rattle.versions.specs.Spelling.{spaces, is_plain, opening, closing, Written, one, two, spelling, Means, exactly_one, between_two, Lists, first, further}
use Rattle.versions.proofs.Listed.{lower_grows, upper_grows}

-- a text that ends before an interval
pub data Begun : List ℕ → List Interval → Type 0 where
  at_first : (p : List ℕ) (n : ℕ) → p ≡ spaces n → Begun p []
  after_comma : (p front : List ℕ) (done : List Interval) (n : ℕ) → Lists front done → p ≡ front ++ 44 ∷ spaces n → Begun p done

-- a text that ends in the first word of an interval, and in the second
pub record InFirst (p : List ℕ) (done : List Interval) (square : Bool) (word : List ℕ) : Type 0 where
  pub begin : List ℕ
  pub begun : Begun begin done
  pub is : p ≡ begin ++ opening square ∷ word
  pub plain : is_plain word ≡ true

pub record InSecond (p : List ℕ) (done : List Interval) (low : Option Bound) (word : List ℕ) : Type 0 where
  pub square : Bool
  pub low_word : List ℕ
  pub front : List ℕ
  pub start : InFirst front done square low_word
  pub is : p ≡ front ++ 44 ∷ word
  pub low_is : low ≡ bound square low_word
  pub plain : is_plain word ≡ true

abbrev pub Reached : List ℕ → Reading → Type 0
Reached p (before done) = Begun p done
Reached p (lower done square word) = InFirst p done square word
Reached p (upper done low word) = InSecond p done low word
Reached p (behind done) = Lists p done

some_inner : (a b : Reading) → Some a ≡ Some b → a ≡ b
some_inner a b e = cc

abbrev nothing : Option Reading
nothing = None

never_some : (b : Reading) → nothing ≡ Some b → ⊥
never_some b e = false≢true (ap is_there e)
  where
    is_there : Option Reading → Bool
    is_there None = false
    is_there (Some r) = true

spaces_push : (n : ℕ) → spaces n ++ 32 ∷ [] ≡ spaces (suc n)
spaces_push zero = refl
spaces_push (suc n) = ap (λ l. 32 ∷ l) (spaces_push n)

plain_push : (word : List ℕ) (b : ℕ) → is_plain word ≡ true → is_divider b ≡ false → is_plain (word ++ b ∷ []) ≡ true
plain_push [] b plain e = rw e refl
plain_push (x ∷ word) b plain e = by (not (is_divider x)) refl (plain_push word b) plain
  where
    by : (t : Bool) → not (is_divider x) ≡ t → (is_plain word ≡ true → is_divider b ≡ false → is_plain (word ++ b ∷ []) ≡ true) → (not (is_divider x) && is_plain word) ≡ true → is_plain (x ∷ word ++ b ∷ []) ≡ true
    by true t rest all = rw t (rest (sym (ap (λ k. k && is_plain word) t) ∙ all) e)
    by false t rest all = absurd (false≢true (sym (ap (λ k. k && is_plain word) t) ∙ all))

-- an interval ends a text that began it
ends : {q : List ℕ} {done : List Interval} (text : List ℕ) (w : Written) (i : Interval) → Begun q done → Means w i → is_crossed i ≡ false → text ≡ q ++ spelling w → Lists text (done ++ i ∷ [])
ends text w i (at_first q n e) means straight is =
    first text n 0 w i means straight (is ∙ ap (λ l. l ++ spelling w) e ∙ sym (append-nil (spaces n ++ spelling w)))
ends text w i (after_comma q front done n rest e) means straight is =
    further text front done (done ++ i ∷ []) n 0 w i rest means straight (is ∙ ap (λ l. l ++ spelling w) e ∙ sym (append-nil ((front ++ 44 ∷ spaces n) ++ spelling w))) refl

-- a space more
begun_space : {p : List ℕ} {done : List Interval} → Begun p done → Begun (p ++ 32 ∷ []) done
begun_space (at_first p n e) = at_first (p ++ 32 ∷ []) (suc n) (ap (λ l. l ++ 32 ∷ []) e ∙ spaces_push n)
begun_space (after_comma p front done n rest e) =
    after_comma (p ++ 32 ∷ []) front done (suc n) rest (ap (λ l. l ++ 32 ∷ []) e ∙ append_assoc front (44 ∷ spaces n) (32 ∷ []) ∙ ap (λ l. front ++ 44 ∷ l) (spaces_push n))

lists_space : {p : List ℕ} {all : List Interval} → Lists p all → Lists (p ++ 32 ∷ []) all
lists_space (first p n m w i means straight e) =
    first (p ++ 32 ∷ []) n (suc m) w i means straight (ap (λ l. l ++ 32 ∷ []) e ∙ append_assoc (spaces n ++ spelling w) (spaces m) (32 ∷ []) ∙ ap (λ l. (spaces n ++ spelling w) ++ l) (spaces_push m))
lists_space (further p front done all n m w i rest means straight e same) =
    further (p ++ 32 ∷ []) front done all n (suc m) w i rest means straight
    (ap (λ l. l ++ 32 ∷ []) e ∙ append_assoc ((front ++ 44 ∷ spaces n) ++ spelling w) (spaces m) (32 ∷ []) ∙ ap (λ l. ((front ++ 44 ∷ spaces n) ++ spelling w) ++ l) (spaces_push m)) same

step_before : (p : List ℕ) (done : List Interval) (b : ℕ) (s : Reading) → Begun p done → next (before done) b ≡ Some s → Reached (p ++ b ∷ []) s
step_before p done b s begun e = by (b == 32) (b == 91) (b == 40) refl refl refl
  where
    by : (x y z : Bool) → (b == 32) ≡ x → (b == 91) ≡ y → (b == 40) ≡ z → Reached (p ++ b ∷ []) s
    by true y z ex ey ez =
        let same : b ≡ 32 = grind (arith, nat_tests, ex) in
        let there : next (before done) b ≡ Some (before done) = rw ex refl in
        subst (Reached (p ++ b ∷ [])) (some_inner (before done) s (sym there ∙ e)) (subst (λ k. Begun (p ++ k ∷ []) done) (sym same) (begun_space begun))
    by false true z ex ey ez =
        let same : b ≡ 91 = grind (arith, nat_tests, ey) in
        let there : next (before done) b ≡ Some (lower done true []) = rw (ex, ey) refl in
        subst (Reached (p ++ b ∷ [])) (some_inner (lower done true []) s (sym there ∙ e)) (record { begin = p; begun = begun; is = ap (λ k. p ++ k ∷ []) same; plain = refl })
    by false false true ex ey ez =
        let same : b ≡ 40 = grind (arith, nat_tests, ez) in
        let there : next (before done) b ≡ Some (lower done false []) = rw (ex, ey, ez) refl in
        subst (Reached (p ++ b ∷ [])) (some_inner (lower done false []) s (sym there ∙ e)) (record { begin = p; begun = begun; is = ap (λ k. p ++ k ∷ []) same; plain = refl })
    by false false false ex ey ez =
        let there : next (before done) b ≡ nothing = rw (ex, ey, ez) refl in
        absurd (never_some s (sym there ∙ e))

-- an interval that closes, in a text that ends so
closing_step : (q text : List ℕ) (done : List Interval) (w : Written) (i : Interval) (s : Reading) → Begun q done → Means w i → text ≡ q ++ spelling w → closed done i ≡ Some s → Reached text s
closing_step q text done w i s begun means is e = by (is_crossed i) refl
  where
    by : (c : Bool) → is_crossed i ≡ c → Reached text s
    by true c = let there : closed done i ≡ nothing = rw c refl in absurd (never_some s (sym there ∙ e))
    by false c =
        let there : closed done i ≡ Some (behind (done ++ i ∷ [])) = rw c refl in
        subst (Reached text) (some_inner (behind (done ++ i ∷ [])) s (sym there ∙ e)) (ends text w i begun means c is)

exact_step : (p : List ℕ) (done : List Interval) (word : List ℕ) (s : Reading) → InFirst p done true word → (o : Option Bound) → bound true word ≡ o → exactly done o ≡ Some s → Reached (p ++ 93 ∷ []) s
exact_step p done word s r None eq e = absurd (never_some s e)
exact_step p done word s r (Some v) eq e =
    closing_step r.begin (p ++ 93 ∷ []) done (one word) (record { lower = Some v; upper = Some v }) s r.begun (exactly_one word v r.plain eq)
    (ap (λ l. l ++ 93 ∷ []) r.is ∙ append_assoc r.begin (91 ∷ word) (93 ∷ [])) e

first_more : (p : List ℕ) (done : List Interval) (square : Bool) (word : List ℕ) (b : ℕ) → InFirst p done square word → is_divider b ≡ false → InFirst (p ++ b ∷ []) done square (word ++ b ∷ [])
first_more p done square word b r e = record {
  begin = r.begin;
  begun = r.begun;
  is = ap (λ l. l ++ b ∷ []) r.is ∙ append_assoc r.begin (opening square ∷ word) (b ∷ []);
  plain = plain_push word b r.plain e;
}

second_more : (p : List ℕ) (done : List Interval) (low : Option Bound) (word : List ℕ) (b : ℕ) → InSecond p done low word → is_divider b ≡ false → InSecond (p ++ b ∷ []) done low (word ++ b ∷ [])
second_more p done low word b r e = record {
  square = r.square;
  low_word = r.low_word;
  front = r.front;
  start = r.start;
  is = ap (λ l. l ++ b ∷ []) r.is ∙ append_assoc r.front (44 ∷ word) (b ∷ []);
  low_is = r.low_is;
  plain = plain_push word b r.plain e;
}

-- a byte that no word goes on with
divides : (b : ℕ) (k : ℕ) → b ≡ k → is_divider k ≡ true → is_divider b ≡ true
divides b k same e = ap is_divider same ∙ e

lower_none : (done : List Interval) (square : Bool) (word : List ℕ) (b : ℕ) → (b == 44) ≡ false → (b == 93) ≡ false → is_divider b ≡ true → next (lower done square word) b ≡ nothing
lower_none done square word b ex ey ed = grind (arith, nat_tests, ex, ey, ed)

step_lower : (p : List ℕ) (done : List Interval) (square : Bool) (word : List ℕ) (b : ℕ) (s : Reading) → InFirst p done square word → next (lower done square word) b ≡ Some s → Reached (p ++ b ∷ []) s
step_lower p done square word b s r e = by (b == 44) (b == 93) (is_divider b) refl refl refl
  where
    exact : (q : Bool) → square ≡ q → b ≡ 93 → Reached (p ++ b ∷ []) s
    exact true eq same =
        let there : next (lower done square word) b ≡ exactly done (bound true word) = ap (next (lower done square word)) same ∙ rw eq refl in
        subst (λ k. Reached (p ++ k ∷ []) s) (sym same) (exact_step p done word s (subst (λ k. InFirst p done k word) eq r) (bound true word) refl (sym there ∙ e))
    exact false eq same =
        let there : next (lower done square word) b ≡ nothing = ap (next (lower done square word)) same ∙ rw eq refl in absurd (never_some s (sym there ∙ e))

    by : (x y d : Bool) → (b == 44) ≡ x → (b == 93) ≡ y → is_divider b ≡ d → Reached (p ++ b ∷ []) s
    by true y d ex ey ed =
        let same : b ≡ 44 = grind (arith, nat_tests, ex) in
        let there : next (lower done square word) b ≡ Some (upper done (bound square word) []) = ap (next (lower done square word)) same in
        subst (Reached (p ++ b ∷ [])) (some_inner (upper done (bound square word) []) s (sym there ∙ e))
        (record { square = square; low_word = word; front = p; start = r; is = ap (λ k. p ++ k ∷ []) same; low_is = refl; plain = refl })
    by false true d ex ey ed = exact square refl (grind (arith, nat_tests, ey))
    by false false true ex ey ed = absurd (never_some s (sym (lower_none done square word b ex ey ed) ∙ e))
    by false false false ex ey ed =
        subst (Reached (p ++ b ∷ [])) (some_inner (lower done square (word ++ b ∷ [])) s (sym (lower_grows done square word b (ap not ed)) ∙ e)) (first_more p done square word b r ed)

upper_none : (done : List Interval) (low : Option Bound) (word : List ℕ) (b : ℕ) → (b == 93) ≡ false → (b == 41) ≡ false → is_divider b ≡ true → next (upper done low word) b ≡ nothing
upper_none done low word b ex ey ed = grind (arith, nat_tests, ex, ey, ed)

-- the text of an interval with two words
two_is : (p begin low word front : List ℕ) (square last : Bool) → p ≡ front ++ 44 ∷ word → front ≡ begin ++ opening square ∷ low → p ++ closing last ∷ [] ≡ begin ++ spelling (two square low word last)
two_is p begin low word front square last e f =
    ap (λ l. l ++ closing last ∷ []) (e ∙ ap (λ l. l ++ 44 ∷ word) f) ∙ append_assoc (begin ++ opening square ∷ low) (44 ∷ word) (closing last ∷ []) ∙ append_assoc begin (opening square ∷ low) (44 ∷ word ++ closing last ∷ [])
    ∙ ap (λ l. begin ++ opening square ∷ l) (sym (append_assoc low (44 ∷ word) (closing last ∷ [])))

two_step : (p : List ℕ) (done : List Interval) (low : Option Bound) (word : List ℕ) (last : Bool) (s : Reading) → InSecond p done low word → closed done (record { lower = low; upper = bound last word }) ≡ Some s → Reached (p ++ closing last ∷ []) s
two_step p done low word last s r e =
    closing_step r.start.begin (p ++ closing last ∷ []) done (two r.square r.low_word word last) (record { lower = bound r.square r.low_word; upper = bound last word }) s r.start.begun
    (between_two r.square r.low_word word last r.start.plain r.plain) (two_is p r.start.begin r.low_word word r.front r.square last r.is r.start.is)
    (ap (λ l. closed done (record { lower = l; upper = bound last word })) (sym r.low_is) ∙ e)

step_upper : (p : List ℕ) (done : List Interval) (low : Option Bound) (word : List ℕ) (b : ℕ) (s : Reading) → InSecond p done low word → next (upper done low word) b ≡ Some s → Reached (p ++ b ∷ []) s
step_upper p done low word b s r e = by (b == 93) (b == 41) (is_divider b) refl refl refl
  where
    by : (x y d : Bool) → (b == 93) ≡ x → (b == 41) ≡ y → is_divider b ≡ d → Reached (p ++ b ∷ []) s
    by true y d ex ey ed =
        let same : b ≡ 93 = grind (arith, nat_tests, ex) in
        subst (λ k. Reached (p ++ k ∷ []) s) (sym same) (two_step p done low word true s r (sym (ap (next (upper done low word)) same) ∙ e))
    by false true d ex ey ed =
        let same : b ≡ 41 = grind (arith, nat_tests, ey) in
        subst (λ k. Reached (p ++ k ∷ []) s) (sym same) (two_step p done low word false s r (sym (ap (next (upper done low word)) same) ∙ e))
    by false false true ex ey ed = absurd (never_some s (sym (upper_none done low word b ex ey ed) ∙ e))
    by false false false ex ey ed =
        subst (Reached (p ++ b ∷ [])) (some_inner (upper done low (word ++ b ∷ [])) s (sym (upper_grows done low word b (ap not ed)) ∙ e)) (second_more p done low word b r ed)

step_behind : (p : List ℕ) (done : List Interval) (b : ℕ) (s : Reading) → Lists p done → next (behind done) b ≡ Some s → Reached (p ++ b ∷ []) s
step_behind p done b s l e = by (b == 32) (b == 44) refl refl
  where
    by : (x y : Bool) → (b == 32) ≡ x → (b == 44) ≡ y → Reached (p ++ b ∷ []) s
    by true y ex ey =
        let same : b ≡ 32 = grind (arith, nat_tests, ex) in
        subst (Reached (p ++ b ∷ [])) (some_inner (behind done) s (sym (ap (next (behind done)) same) ∙ e)) (subst (λ k. Lists (p ++ k ∷ []) done) (sym same) (lists_space l))
    by false true ex ey =
        let same : b ≡ 44 = grind (arith, nat_tests, ey) in
        subst (Reached (p ++ b ∷ [])) (some_inner (before done) s (sym (ap (next (behind done)) same) ∙ e)) (after_comma (p ++ b ∷ []) p done 0 l (ap (λ k. p ++ k ∷ []) same))
    by false false ex ey = let there : next (behind done) b ≡ nothing = rw (ex, ey) refl in absurd (never_some s (sym there ∙ e))

step : (r s : Reading) (p : List ℕ) (b : ℕ) → Reached p r → next r b ≡ Some s → Reached (p ++ b ∷ []) s
step (before done) s p b reached e = step_before p done b s reached e
step (lower done square word) s p b reached e = step_lower p done square word b s reached e
step (upper done low word) s p b reached e = step_upper p done low word b s reached e
step (behind done) s p b reached e = step_behind p done b s reached e

-- what is read by a text is written in it
pub reached_by : (text : List ℕ) (r s : Reading) (p : List ℕ) (at : ℕ) → Reached p r → read_on at r text ≡ Ok s → Reached (p ++ text) s
reached_by [] r s p at reached e = subst (λ l. Reached l s) (sym (append-nil p)) (subst (Reached p) (ok_inner e) reached)
  where
    reading : Result Reading ℕ → Reading
    reading (Ok x) = x
    reading (Err n) = s

    ok_inner : read_on at r [] ≡ Ok s → r ≡ s
    ok_inner e = ap reading e
reached_by (b ∷ text) r s p at reached e = by (next r b) refl (λ t. reached_by text t s (p ++ b ∷ []) (at + 1))
  where
    is_ok : Result Reading ℕ → Bool
    is_ok (Ok x) = true
    is_ok (Err n) = false

    by : (o : Option Reading) → next r b ≡ o → ((t : Reading) → Reached (p ++ b ∷ []) t → read_on (at + 1) t text ≡ Ok s → Reached ((p ++ b ∷ []) ++ text) s) → Reached (p ++ b ∷ text) s
    by None n rest = let there : read_on at r (b ∷ text) ≡ Err at = rw n refl in absurd (false≢true (sym (ap is_ok there) ∙ ap is_ok e))
    by (Some t) n rest = subst (λ l. Reached l s) (append_assoc p (b ∷ []) text) (rest t (step r t p b reached n) (sym (rw n refl) ∙ e))
