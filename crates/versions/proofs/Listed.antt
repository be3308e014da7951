-- What is written as a list of intervals is read as it.
use Rattle.std.proofs.Common.{◌≡◌, ℕ, zero, suc, ◌+◌, Bool, true, false, not, ◌&&◌, List, [], ◌∷◌, ◌++◌, Option, Some, Ok, append_assoc, append-nil, refl, sym, ap, subst, ◌∙◌, arith}
use Rattle.std.proofs.lemmas.Bool.{false≢true}
use Rattle.std.proofs.lemmas.Bool.Decides.{nat_tests}
use Rattle.versions.specs.declared.interval.Bound.{Bound}
use Rattle.versions.specs.declared.interval.Interval.{Interval}
use Rattle.versions.specs.Intervals.{is_crossed}
use Rattle.versions.specs.Requirements.{Reading, before, lower, upper, behind, is_divider, bound, closed, exactly, next, read_on}
use Rattle.versions.specs.Spelling.{spaces, is_plain, opening, closing, Written, spelling, Means, exactly_one, between_two, Lists, first, further}

-- one comes from a reading to another by a text
pub data Comes : Reading → List ℕ → Reading → Type 0 where
  stays : (r : Reading) → Comes r [] r
  steps : (r s t : Reading) (b : ℕ) (text : List ℕ) → next r b ≡ Some s → Comes s text t → Comes r (b ∷ text) t

pub comes_reads : {r s : Reading} {text : List ℕ} → Comes r text s → (at : ℕ) → read_on at r text ≡ Ok s
comes_reads (stays r) at = refl
comes_reads (steps r s t b text e c) at = rw e (comes_reads c (at + 1))

comes_one : (r s : Reading) (b : ℕ) → next r b ≡ Some s → Comes r (b ∷ []) s
comes_one r s b e = steps r s s b [] e (stays s)

comes_both : {r s t : Reading} {xs : List ℕ} (ys : List ℕ) → Comes r xs s → Comes s ys t → Comes r (xs ++ ys) t
comes_both ys (stays r) d = d
comes_both ys (steps r u s x xs e c) d = steps r u _ x (xs ++ ys) e (comes_both ys c d)

before_spaces : (done : List Interval) (n : ℕ) → Comes (before done) (spaces n) (before done)
before_spaces done zero = stays (before done)
before_spaces done (suc n) = steps (before done) (before done) (before done) 32 (spaces n) refl (before_spaces done n)

behind_spaces : (done : List Interval) (n : ℕ) → Comes (behind done) (spaces n) (behind done)
behind_spaces done zero = stays (behind done)
behind_spaces done (suc n) = steps (behind done) (behind done) (behind done) 32 (spaces n) refl (behind_spaces done n)

pub and_first : (a b : Bool) → (a && b) ≡ true → a ≡ true
and_first true b e = refl
and_first false b e = absurd (false≢true e)

pub and_second : (a b : Bool) → (a && b) ≡ true → b ≡ true
and_second true b e = e
and_second false b e = absurd (false≢true e)

pub lower_grows : (done : List Interval) (square : Bool) (word : List ℕ) (b : ℕ) → not (is_divider b) ≡ true → next (lower done square word) b ≡ Some (lower done square (word ++ b ∷ []))
lower_grows done square word b plain = grind (arith, nat_tests, plain)

pub upper_grows : (done : List Interval) (low : Option Bound) (word : List ℕ) (b : ℕ) → not (is_divider b) ≡ true → next (upper done low word) b ≡ Some (upper done low (word ++ b ∷ []))
upper_grows done low word b plain = grind (arith, nat_tests, plain)

lower_word : (done : List Interval) (square : Bool) (word more : List ℕ) → is_plain more ≡ true → Comes (lower done square word) more (lower done square (word ++ more))
lower_word done square word [] plain = subst (λ w. Comes (lower done square word) [] (lower done square w)) (sym (append-nil word)) (stays (lower done square word))
lower_word done square word (b ∷ more) plain =
    subst (λ w. Comes (lower done square word) (b ∷ more) (lower done square w)) (append_assoc word (b ∷ []) more)
    (steps (lower done square word) (lower done square (word ++ b ∷ [])) (lower done square ((word ++ b ∷ []) ++ more)) b more
    (lower_grows done square word b (and_first (not (is_divider b)) (is_plain more) plain)) (lower_word done square (word ++ b ∷ []) more (and_second (not (is_divider b)) (is_plain more) plain)))

upper_word : (done : List Interval) (low : Option Bound) (word more : List ℕ) → is_plain more ≡ true → Comes (upper done low word) more (upper done low (word ++ more))
upper_word done low word [] plain = subst (λ w. Comes (upper done low word) [] (upper done low w)) (sym (append-nil word)) (stays (upper done low word))
upper_word done low word (b ∷ more) plain =
    subst (λ w. Comes (upper done low word) (b ∷ more) (upper done low w)) (append_assoc word (b ∷ []) more)
    (steps (upper done low word) (upper done low (word ++ b ∷ [])) (upper done low ((word ++ b ∷ []) ++ more)) b more
    (upper_grows done low word b (and_first (not (is_divider b)) (is_plain more) plain)) (upper_word done low (word ++ b ∷ []) more (and_second (not (is_divider b)) (is_plain more) plain)))

closes : (done : List Interval) (i : Interval) → is_crossed i ≡ false → closed done i ≡ Some (behind (done ++ i ∷ []))
closes done i e = rw e refl

opens : (done : List Interval) (square : Bool) → next (before done) (opening square) ≡ Some (lower done square [])
opens done true = refl
opens done false = refl

ends : (done : List Interval) (low : Option Bound) (word : List ℕ) (last : Bool) → next (upper done low word) (closing last) ≡ closed done (record { lower = low; upper = bound last word })
ends done low word true = refl
ends done low word false = refl

-- an interval is read as what it means
written_one : (done : List Interval) (w : Written) (i : Interval) → Means w i → is_crossed i ≡ false → Comes (before done) (spelling w) (behind (done ++ i ∷ []))
written_one done w i (exactly_one word b plain e) straight =
    steps (before done) (lower done true []) (behind (done ++ i ∷ [])) 91 (word ++ 93 ∷ []) refl
    (comes_both (93 ∷ []) (lower_word done true [] word plain)
    (comes_one (lower done true word) (behind (done ++ i ∷ [])) 93 (ap (exactly done) e ∙ closes done i straight)))
written_one done w i (between_two square low high last plain high_plain) straight =
    steps (before done) (lower done square []) (behind (done ++ i ∷ [])) (opening square) ((low ++ 44 ∷ high) ++ closing last ∷ []) (opens done square)
    (comes_both (closing last ∷ [])
    (comes_both (44 ∷ high) (lower_word done square [] low plain)
    (steps (lower done square low) (upper done (bound square low) []) (upper done (bound square low) high) 44 high refl (upper_word done (bound square low) [] high high_plain)))
    (comes_one (upper done (bound square low) high) (behind (done ++ i ∷ [])) (closing last) (ends done (bound square low) high last ∙ closes done i straight)))

-- what lists intervals is read as them
pub lists_comes : {text : List ℕ} {all : List Interval} → Lists text all → Comes (before []) text (behind all)
lists_comes (first text n m w i means straight e) =
    subst (λ t. Comes (before []) t (behind (i ∷ []))) (sym e)
    (comes_both (spaces m) (comes_both (spelling w) (before_spaces [] n) (written_one [] w i means straight)) (behind_spaces (i ∷ []) m))
lists_comes (further text front done all n m w i rest means straight e same) =
    subst (λ t. Comes (before []) t (behind all)) (sym e)
    (subst (λ l. Comes (before []) (((front ++ 44 ∷ spaces n) ++ spelling w) ++ spaces m) (behind l)) (sym same)
    (comes_both (spaces m)
    (comes_both (spelling w)
    (comes_both (44 ∷ spaces n) (lists_comes rest) (steps (behind done) (before done) (before done) 44 (spaces n) refl (before_spaces done n)))
    (written_one done w i means straight))
    (behind_spaces (done ++ i ∷ []) m)))
