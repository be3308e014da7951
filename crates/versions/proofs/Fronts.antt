-- Where a text stops being a list of intervals.
use Rattle.std.proofs.Common.{◌≡◌, ◌⊎◌, inl, inr, ℕ, zero, suc, ◌+◌, ◌-◌, ◌<◌, ◌≤◌, max, Bool, true, false, not, ◌==◌, ◌||◌, nat_lt, List, [], ◌∷◌, ◌++◌, length, take, drop, if◌then◌else◌, Option, Some, None, Result, Ok, Err, append_assoc, append-nil, length-append, refl, sym, ap, subst, ◌∙◌, arith}
use Rattle.std.proofs.lemmas.Bool.{false≢true}
use Rattle.std.proofs.lemmas.Bool.Decides.{nat_tests}
use Rattle.std.proofs.lemmas.List.{take-append-drop, take-take, take_all}
use Rattle.versions.specs.declared.interval.Bound.{Bound}
use Rattle.versions.specs.declared.interval.Interval.{Interval}
use Rattle.versions.specs.declared.requirement.Requirement.{Requirement}
use Rattle.versions.specs.declared.requirement.Requirement.TheVariants.{Soft, Hard}
use Rattle.versions.specs.Intervals.{is_crossed}
use Rattle.versions.specs.Requirements.{Reading, before, lower, upper, behind, is_divider, bound, closed, next, read_on, list_of, hard, divider_place, soft, hard_from, requirement}
use Rattle.versions.specs.Places.{GoesOn, EndsCrossed}

abbrev Read : Type 0
Read = Result Reading ℕ

abbrev read_err : ℕ → Read
read_err p = Err p

abbrev read_ok : Reading → Read
read_ok r = Ok r

abbrev required_ok : Requirement → Result Requirement ℕ
required_ok r = Ok r

abbrev required_err : ℕ → Result Requirement ℕ
required_err p = Err p

err_inner : (p q : ℕ) → read_err p ≡ read_err q → p ≡ q
err_inner p q e = cc

ok_inner : (r s : Reading) → read_ok r ≡ read_ok s → r ≡ s
ok_inner r s e = cc

-- one byte is read, or none goes on with it
goes : (at : ℕ) (r t : Reading) (b : ℕ) (text : List ℕ) → next r b ≡ Some t → read_on at r (b ∷ text) ≡ read_on (at + 1) t text
goes at r t b text n = rw n refl

halts : (at : ℕ) (r : Reading) (b : ℕ) (text : List ℕ) → next r b ≡ None → read_on at r (b ∷ text) ≡ Err at
halts at r b text n = rw n refl

-- a reading goes on behind a text
pub reads_on : (xs ys : List ℕ) (at : ℕ) (r s : Reading) → read_on at r xs ≡ Ok s → read_on at r (xs ++ ys) ≡ read_on (at + length xs) s ys
reads_on [] ys at r s e = ap (λ k. read_on k r ys) (nothing at) ∙ ap (λ t. read_on (at + 0) t ys) (ok_inner r s e)
  where
    nothing : (n : ℕ) → n ≡ n + 0
    nothing n = omega arith
reads_on (b ∷ xs) ys at r s e = by (next r b) refl (λ t. reads_on xs ys (at + 1) t s)
  where
    count : (n : ℕ) → at + 1 + n ≡ at + suc n
    count n = omega arith

    clash : read_err at ≡ read_ok s → ⊥
    clash e = cc

    by : (o : Option Reading) → next r b ≡ o → ((t : Reading) → read_on (at + 1) t xs ≡ Ok s → read_on (at + 1) t (xs ++ ys) ≡ read_on (at + 1 + length xs) s ys)
        → read_on at r (b ∷ xs ++ ys) ≡ read_on (at + length (b ∷ xs)) s ys
    by None n rest = absurd (clash (sym (halts at r b xs n) ∙ e))
    by (Some t) n rest = goes at r t b (xs ++ ys) n ∙ rest t (sym (goes at r t b xs n) ∙ e) ∙ ap (λ k. read_on k s ys) (count (length xs))

-- where a text stops, so does each that begins with it and the byte there
pub record Stops (text : List ℕ) (at p : ℕ) (r : Reading) : Type 0 where
  pub so_far : Reading
  pub after : at ≤ p
  pub before_end : p < at + length text
  pub reads : read_on at r (take (p - at) text) ≡ Ok so_far
  pub still : (rest : List ℕ) → read_on at r (take (p + 1 - at) text ++ rest) ≡ Err p

pub stops : (text : List ℕ) (at p : ℕ) (r : Reading) → read_on at r text ≡ Err p → Stops text at p r
stops [] at p r e = absurd (clash e)
  where
    clash : read_ok r ≡ read_err p → ⊥
    clash e = cc
stops (b ∷ text) at p r e = by (next r b) refl (λ t. stops text (at + 1) p t)
  where
    one : (n : ℕ) → n ≡ suc 0 → take n (b ∷ text) ≡ b ∷ []
    one n e = ap (λ k. take k (b ∷ text)) e

    by : (o : Option Reading) → next r b ≡ o → ((t : Reading) → read_on (at + 1) t text ≡ Err p → Stops text (at + 1) p t) → Stops (b ∷ text) at p r
    by None n rest =
        let here : at ≡ p = err_inner at p (sym (halts at r b text n) ∙ e) in
        let none : p - at ≡ 0 = omega (arith, here) in
        let first : p + 1 - at ≡ suc 0 = omega (arith, here) in
        record {
          so_far = r;
          after = omega (arith, here);
          before_end = omega (arith, here);
          reads = ap (λ k. read_on at r (take k (b ∷ text))) none;
          still = λ rest. ap (λ t. read_on at r (t ++ rest)) (one (p + 1 - at) first) ∙ halts at r b rest n ∙ ap Err here;
        }
    by (Some t) n rest =
        let further = rest t (sym (goes at r t b text n) ∙ e) in
        let more : p - at ≡ suc (p - (at + 1)) = omega (arith, further.after) in
        let still_more : p + 1 - at ≡ suc (p + 1 - (at + 1)) = omega (arith, further.after) in
        record {
          so_far = further.so_far;
          after = omega (arith, further.after);
          before_end = omega (arith, further.before_end);
          reads = ap (λ k. read_on at r (take k (b ∷ text))) more ∙ goes at r t b (take (p - (at + 1)) text) n ∙ further.reads;
          still = λ rest. ap (λ k. read_on at r (take k (b ∷ text) ++ rest)) still_more ∙ goes at r t b (take (p + 1 - (at + 1)) text ++ rest) n ∙ further.still rest;
        }

-- a divider stands behind, so that it isn't past the end
pub divided : (xs ys : List ℕ) → divider_place ys < length ys → divider_place (xs ++ ys) < length (xs ++ ys)
divided [] ys low = low
divided (b ∷ xs) ys low = by (is_divider b) refl (divided xs ys low)
  where
    by : (t : Bool) → is_divider b ≡ t → divider_place (xs ++ ys) < length (xs ++ ys) → divider_place (b ∷ xs ++ ys) < length (b ∷ xs ++ ys)
    by true e rest = rw e (omega arith)
    by false e rest = rw e (omega (arith, rest))

-- what reads as a list of intervals and has a divider is a requirement
pub required : (text : List ℕ) (all : List Interval) → divider_place text < length text → read_on 0 (before []) text ≡ Ok (behind all) → requirement text ≡ Ok (Hard all)
unfolding requirement
required text all low reads =
    let divides : (divider_place text == length text) ≡ false = grind (arith, nat_tests, low) in
    rw divides (ap (hard_from (divider_place text)) (ap (list_of (length text)) reads))

-- a front goes on by this
goes_by : (front rest : List ℕ) (r : Reading) (all : List Interval) → read_on 0 (before []) front ≡ Ok r → divider_place rest < length rest
    → read_on (0 + length front) r rest ≡ Ok (behind all) → GoesOn front
goes_by front rest r all reads low on = record {
  rest = rest;
  required = Hard all;
  is = required (front ++ rest) all (divided front rest low) (reads_on front rest 0 (before []) r reads ∙ on);
}

-- bounds of which the upper is absent don't cross
open_end : (low : Option Bound) → is_crossed (record { lower = low; upper = None }) ≡ false
open_end None = refl
open_end (Some low) = refl

-- each reading goes on, or stands in bounds that cross
pub front_goes : (front : List ℕ) (r : Reading) → read_on 0 (before []) front ≡ Ok r → GoesOn front ⊎ EndsCrossed front
front_goes front (before done) reads = inl (goes_by front (40 ∷ 44 ∷ 41 ∷ []) (before done) _ reads (omega arith) refl)
front_goes front (behind done) reads = inl (goes_by front (44 ∷ 40 ∷ 44 ∷ 41 ∷ []) (behind done) _ reads (omega arith) refl)
front_goes front (lower done square word) reads =
    inl (goes_by front (44 ∷ 41 ∷ []) (lower done square word) (done ++ (record { lower = bound square word; upper = None }) ∷ []) reads (omega arith) (rw (open_end (bound square word)) refl))
front_goes front (upper done low word) reads = by (is_crossed (record { lower = low; upper = bound true word })) refl
  where
    by : (t : Bool) → is_crossed (record { lower = low; upper = bound true word }) ≡ t → GoesOn front ⊎ EndsCrossed front
    by true e = inr (record { done = done; low = low; word = word; reads = reads; crossed = e })
    by false e = inl (goes_by front (93 ∷ []) (upper done low word) (done ++ (record { lower = low; upper = bound true word }) ∷ []) reads (omega arith) (rw e refl))

-- a text without a divider up to here is a version, where it isn't empty
no_divider : (text : List ℕ) (n : ℕ) → n ≤ divider_place text → divider_place (take n text) ≡ length (take n text)
no_divider [] zero low = refl
no_divider [] (suc n) low = refl
no_divider (b ∷ text) zero low = refl
no_divider (b ∷ text) (suc n) low = by (is_divider b) refl (no_divider text n)
  where
    by : (t : Bool) → is_divider b ≡ t → (n ≤ divider_place text → divider_place (take n text) ≡ length (take n text)) → divider_place (b ∷ take n text) ≡ length (b ∷ take n text)
    by true e rest =
        let none : divider_place (b ∷ text) ≡ 0 = rw e refl in
        absurd (omega (arith, low, none))
    by false e rest =
        let deep : divider_place (b ∷ text) ≡ suc (divider_place text) = rw e refl in
        rw e (ap suc (rest (omega (arith, low, deep))))

some_first : (text : List ℕ) (n : ℕ) → 0 < n → n ≤ length text → 0 < length (take n text)
some_first [] n some low = omega (arith, some, low)
some_first (b ∷ text) zero some low = absurd (omega (arith, some))
some_first (b ∷ text) (suc n) some low = omega arith

version_of : (text : List ℕ) → 0 < length text → divider_place text ≡ length text → requirement text ≡ Ok (Soft text)
unfolding requirement
version_of [] some same = absurd (omega (arith, some))
version_of (b ∷ text) some same =
    let divides : (divider_place (b ∷ text) == length (b ∷ text)) ≡ true = grind (arith, nat_tests, same) in
    rw divides refl

pub soft_front : (text : List ℕ) (n : ℕ) → 0 < n → n ≤ length text → n ≤ divider_place text → GoesOn (take n text)
soft_front text n some low first = record {
  rest = [];
  required = Soft (take n text);
  is = ap requirement (append-nil (take n text)) ∙ version_of (take n text) (some_first text n some low) (no_divider text n first);
}

pub empty_front : GoesOn []
empty_front = record { rest = 49 ∷ []; required = Soft (49 ∷ []); is = version_of (49 ∷ []) (omega arith) refl }

place_within : (text : List ℕ) → divider_place text ≤ length text
place_within [] = omega arith
place_within (b ∷ text) = by (is_divider b) refl (place_within text)
  where
    by : (t : Bool) → is_divider b ≡ t → divider_place text ≤ length text → divider_place (b ∷ text) ≤ length (b ∷ text)
    by true e rest = rw e (omega arith)
    by false e rest = rw e (omega (arith, rest))

-- a refused text: it is empty, or has a divider and its intervals stop at a place
pub data Refused (text : List ℕ) (place : ℕ) : Type 0 where
  empty : text ≡ [] → place ≡ 0 → Refused text place
  stopped : (p : ℕ) → divider_place text < length text → read_on 0 (before []) text ≡ Err p → place ≡ max p (divider_place text) → Refused text place
  unended : (r : Reading) → divider_place text < length text → read_on 0 (before []) text ≡ Ok r → place ≡ max (length text) (divider_place text) → Refused text place

soft_refused : (text : List ℕ) (place : ℕ) → soft text ≡ Err place → Refused text place
soft_refused [] place e = empty refl (inner e)
  where
    inner : required_err 0 ≡ required_err place → place ≡ 0
    inner e = cc
soft_refused (b ∷ text) place e = absurd (clash e)
  where
    clash : required_ok (Soft (b ∷ text)) ≡ required_err place → ⊥
    clash e = cc

hard_refused : (text : List ℕ) (place : ℕ) → divider_place text < length text → (o : Read) → read_on 0 (before []) text ≡ o → hard_from (divider_place text) (list_of (length text) o) ≡ Err place → Refused text place
hard_refused text place low (Err p) reads e = stopped p low reads (inner e)
  where
    inner : required_err (max p (divider_place text)) ≡ required_err place → place ≡ max p (divider_place text)
    inner e = cc
hard_refused text place low (Ok (behind done)) reads e = absurd (clash e)
  where
    clash : required_ok (Hard done) ≡ required_err place → ⊥
    clash e = cc
hard_refused text place low (Ok (before done)) reads e = unended (before done) low reads (inner e)
  where
    inner : required_err (max (length text) (divider_place text)) ≡ required_err place → place ≡ max (length text) (divider_place text)
    inner e = cc
hard_refused text place low (Ok (lower done square word)) reads e = unended (lower done square word) low reads (inner e)
  where
    inner : required_err (max (length text) (divider_place text)) ≡ required_err place → place ≡ max (length text) (divider_place text)
    inner e = cc
hard_refused text place low (Ok (upper done bounded word)) reads e = unended (upper done bounded word) low reads (inner e)
  where
    inner : required_err (max (length text) (divider_place text)) ≡ required_err place → place ≡ max (length text) (divider_place text)
    inner e = cc

pub refused : (text : List ℕ) (place : ℕ) → requirement text ≡ Err place → Refused text place
unfolding requirement
refused text place e = by (divider_place text == length text) refl
  where
    by : (t : Bool) → (divider_place text == length text) ≡ t → Refused text place
    by true d = soft_refused text place (sym (rw d refl) ∙ e)
    by false d = hard_refused text place (grind (arith, nat_tests, d, place_within text)) (read_on 0 (before []) text) refl (sym (rw d refl) ∙ e)

-- the first divider of a front that has it
divider_front : (text rest : List ℕ) (n : ℕ) → divider_place text < n → divider_place text < length text → (divider_place (take n text ++ rest) ≡ divider_place text) × (divider_place text < length (take n text ++ rest))
divider_front [] rest n low within = absurd (omega (arith, within))
divider_front (b ∷ text) rest zero low within = absurd (omega (arith, low))
divider_front (b ∷ text) rest (suc n) low within = by (is_divider b) refl (divider_front text rest n)
  where
    by : (t : Bool) → is_divider b ≡ t
        → (divider_place text < n → divider_place text < length text → (divider_place (take n text ++ rest) ≡ divider_place text) × (divider_place text < length (take n text ++ rest)))
        → (divider_place (b ∷ take n text ++ rest) ≡ divider_place (b ∷ text)) × (divider_place (b ∷ text) < length (b ∷ take n text ++ rest))
    by true e further = (rw e refl, rw e (omega arith))
    by false e further =
        let deep : divider_place (b ∷ text) ≡ suc (divider_place text) = rw e refl in
        let inner = further (omega (arith, low, deep)) (omega (arith, within, deep)) in
        (rw e (ap suc inner.0), rw e (omega (arith, inner.1)))

stopped_text : (text : List ℕ) (p d : ℕ) → divider_place text ≡ d → d < length text → read_on 0 (before []) text ≡ Err p → requirement text ≡ Err (max p d)
unfolding requirement
stopped_text text p d is low reads =
    let divides : (divider_place text == length text) ≡ false = grind (arith, nat_tests, is, low) in
    rw divides (ap (hard_from (divider_place text)) (ap (list_of (length text)) reads) ∙ ap (λ k. Err (max p k)) is)

pub no_further : (text rest : List ℕ) (place : ℕ) → Refused text place → place < length text → requirement (take (place + 1) text ++ rest) ≡ Err place
no_further text rest place (empty none zero_place) low = absurd (omega (arith, low, ap length none))
no_further text rest place (unended r divides reads is) low = absurd (omega (arith, low, is))
no_further text rest place (stopped p divides reads is) low =
    let s = stops text 0 p (before []) reads in
    let front = take (place + 1) text in
    let fronts : front ≡ take (p + 1) text ++ drop (p + 1) front = sym (take-append-drop (p + 1) front) ∙ ap (λ t. t ++ drop (p + 1) front) (take-take (p + 1) (place + 1) text (omega (arith, is))) in
    let whole : front ++ rest ≡ take (p + 1) text ++ (drop (p + 1) front ++ rest) = ap (λ t. t ++ rest) fronts ∙ append_assoc (take (p + 1) text) (drop (p + 1) front) rest in
    let place_is = divider_front text rest (place + 1) (omega (arith, is)) divides in
    let count : p + 1 ≡ p + 1 - 0 = omega arith in
    stopped_text (front ++ rest) p (divider_place text) place_is.0 place_is.1
    (ap (read_on 0 (before [])) whole ∙ ap (λ k. read_on 0 (before []) (take k text ++ (drop (p + 1) front ++ rest))) count ∙ s.still (drop (p + 1) front ++ rest)) ∙ ap Err (sym is)

pub so_far : (text : List ℕ) (place : ℕ) → Refused text place → GoesOn (take place text) ⊎ EndsCrossed (take place text)
so_far text place (empty none zero_place) = inl (subst GoesOn (sym (ap (take place) none ∙ ap (λ k. take k []) zero_place)) empty_front)
so_far text place (unended r divides reads is) =
    subst (λ t. GoesOn t ⊎ EndsCrossed t) (sym (take_all place text (omega (arith, is)))) (front_goes text r reads)
so_far text place (stopped p divides reads is) = by (nat_lt p (divider_place text)) refl
  where
    by : (t : Bool) → nat_lt p (divider_place text) ≡ t → GoesOn (take place text) ⊎ EndsCrossed (take place text)
    by true e =
        let before_it : p < divider_place text = grind (arith, nat_tests, e) in
        inl (soft_front text place (omega (arith, is, before_it)) (omega (arith, is, before_it, divides)) (omega (arith, is, before_it)))
    by false e =
        let behind_it : divider_place text ≤ p = grind (arith, nat_tests, e) in
        let same : place ≡ p - 0 = omega (arith, is, behind_it) in
        let s = stops text 0 p (before []) reads in
        front_goes (take place text) s.so_far (ap (λ k. read_on 0 (before []) (take k text)) same ∙ s.reads)
