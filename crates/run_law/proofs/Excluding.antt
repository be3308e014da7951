-- Who holds a name alone holds it alone.
use Rattle.std.proofs.Common.{◌≡◌, ℕ, zero, suc, ◌<◌, ◌⊎◌, inl, inr, Bool, true, false, ◌||◌, ◌&&◌, not, nat_eq, List, [], ◌∷◌, ◌++◌, replicate, Option, Some, None, is_some, refl, arith, sym, ap, subst, ◌∙◌}
use Rattle.std.proofs.lemmas.Bool.{eqb-true, false≢true}
use Rattle.build_core.specs.declared.event.Event.{Event}
use Rattle.build_core.specs.declared.event.Event.TheVariants as event
use Rattle.build_core.specs.declared.mode.Mode.{Mode}
use Rattle.build_core.specs.declared.mode.Mode.TheVariants.{Shared, Exclusive}
use Rattle.scripts.specs.declared.outline.Outline.{Outline}
use Rattle.event_core.specs.Enabled.{IsEnabled, IsRun}
use Rattle.build_core.specs.Locks.{Holds, below, blocker, blocks, excludes, hold, hold_in, with_hold}
use Rattle.scripts.specs.Outlines.{is_listed}
use Rattle.event_core.specs.Standing.{Standing, after, at_first, standing_of}
use Rattle.run_law.proofs.Complete.{IsStanding, by_events, standing_after, standing_first}
use Rattle.run_law.proofs.Ended.{find_gone}
use Rattle.event_core.proofs.Fits.{same_or_not}
use Rattle.event_core.proofs.LockRows.{row_in}
use Rattle.run_law.proofs.Once.{listed_first, listed_later}
use Rattle.event_core.proofs.Ties.{rows_other, rows_same}
use Rattle.event_core.proofs.Weights.{nothing_is}

-- of two workers that hold a name none holds it alone
abbrev pub IsExcluding : Outline → Standing → Type 0
IsExcluding o now = (n w v : ℕ) → w < o.workers → v < o.workers → hold now.locks n w ≡ Some Exclusive → is_some (hold now.locks n v) ≡ true → v ≡ w

-- a number is listed below a greater one
pub listed_below : (n k : ℕ) → k < n → is_listed k (below n) ≡ true
listed_below zero k low = absurd (omega (arith, low))
listed_below (suc n) k low = by (same_or_not k n) (listed_below n k)
  where
    last : (xs : List ℕ) (x : ℕ) → is_listed x (xs ++ x ∷ []) ≡ true
    last [] x = listed_first x []
    last (y ∷ xs) x = listed_later y x (xs ++ x ∷ []) (last xs x)

    front : (x : ℕ) (xs : List ℕ) (y : ℕ) → is_listed x xs ≡ true → is_listed x (xs ++ y ∷ []) ≡ true
    front x [] y l = absurd (false≢true l)
    front x (z ∷ xs) y l = more (nat_eq z x) l (front x xs y)
      where
        more : (b : Bool) → (b || is_listed x xs) ≡ true → (is_listed x xs ≡ true → is_listed x (xs ++ y ∷ []) ≡ true) → (b || is_listed x (xs ++ y ∷ [])) ≡ true
        more true l again = refl
        more false l again = again l

    by : (k ≡ n) ⊎ ((k ≡ n) → ⊥) → (k < n → is_listed k (below n) ≡ true) → is_listed k (below n ++ n ∷ []) ≡ true
    by (inl e) again = subst (λ j. is_listed j (below n ++ n ∷ []) ≡ true) (sym e) (last (below n) n)
    by (inr other) again = front k (below n) n (again (smaller other))
      where
        smaller : ((k ≡ n) → ⊥) → k < n
        smaller other = omega (arith, low, other)

-- where nothing blocks, each other hold goes with the mode
free_of : (table : Holds) (n w : ℕ) (mode : Mode) (workers : ℕ) → table.1 ≡ workers → blocker table n w mode ≡ None → (v : ℕ) → v < workers → (v ≡ w → ⊥) → excludes (hold table n v) mode ≡ false
free_of table n w mode workers same none v low other =
    let quiet : blocks table n w mode v ≡ false = find_gone (blocks table n w mode) (below table.1) none v (listed_below table.1 v (omega (arith, low, same))) in
    second (nat_eq v w) (apart (nat_eq v w) refl) quiet
  where
    apart : (b : Bool) → nat_eq v w ≡ b → b ≡ false
    apart false e = refl
    apart true e = absurd (other (eqb-true v w e))

    second : (b : Bool) → b ≡ false → (not b && excludes (hold table n v) mode) ≡ false → excludes (hold table n v) mode ≡ false
    second false e q = q
    second true e q = absurd (false≢true (sym e))

-- who takes alone excludes every holder
excludes_held : (h : Option Mode) → excludes h Exclusive ≡ false → is_some h ≡ true → ⊥
excludes_held None e some = false≢true some
excludes_held (Some Shared) e some = false≢true (sym e)
excludes_held (Some Exclusive) e some = false≢true (sym e)

-- who holds alone excludes every taker
excludes_alone : (h : Option Mode) (mode : Mode) → excludes h mode ≡ false → h ≡ Some Exclusive → ⊥
excludes_alone h mode e is = false≢true (sym e ∙ ap (λ x. excludes x mode) is)

abbrev mode_in : Option Mode → Mode
mode_in (Some mode) = mode
mode_in None = Shared

module _ (o : Outline) (now : Standing) (s : IsStanding o now) (old : IsExcluding o now) (w n : ℕ) (low : w < o.workers) (small : n < o.names) where
  -- what a worker holds behind a change of its hold
  held_new : (x : Option Mode) → hold (with_hold now.locks n w x) n w ≡ x
  held_new x = rows_same now.locks.2 n w x o.workers (omega (arith, small, s.tied.depth)) s.tied.width low

  -- and what stands elsewhere
  held_other : (x : Option Mode) (k v : ℕ) → (k ≡ n → v ≡ w → ⊥) → hold (with_hold now.locks n w x) k v ≡ hold now.locks k v
  held_other x k v other = rows_other now.locks.2 n w k v x other

  -- a place is the changed one or another
  cases : (k v : ℕ) → ((k ≡ n) × (v ≡ w)) ⊎ (k ≡ n → v ≡ w → ⊥)
  cases k v = by (same_or_not k n) (same_or_not v w)
    where
      by : (k ≡ n) ⊎ ((k ≡ n) → ⊥) → (v ≡ w) ⊎ ((v ≡ w) → ⊥) → ((k ≡ n) × (v ≡ w)) ⊎ (k ≡ n → v ≡ w → ⊥)
      by (inl a) (inl b) = inl (a, b)
      by (inl a) (inr b) = inr (λ x y. b y)
      by (inr a) c = inr (λ x y. a x)

  -- a take leaves each hold alone the only one
  taken : (mode : Mode) → blocker now.locks n w mode ≡ None → (k a b : ℕ) → a < o.workers → b < o.workers → hold (with_hold now.locks n w (Some mode)) k a ≡ Some Exclusive → is_some (hold (with_hold now.locks n w (Some mode)) k b) ≡ true → b ≡ a
  taken mode none k a b x y alone some = by (cases k a) (cases k b)
    where
      by : ((k ≡ n) × (a ≡ w)) ⊎ (k ≡ n → a ≡ w → ⊥) → ((k ≡ n) × (b ≡ w)) ⊎ (k ≡ n → b ≡ w → ⊥) → b ≡ a
      by (inl p) (inl q) = q.1 ∙ sym p.1
      by (inr p) (inr q) = old k a b x y (sym (held_other (Some mode) k a p) ∙ alone) (sym (ap is_some (held_other (Some mode) k b q)) ∙ some)
      by (inl p) (inr q) =
          let mine : mode ≡ Exclusive = ap mode_in (sym (held_new (Some mode)) ∙ subst (λ j. hold (with_hold now.locks n w (Some mode)) n j ≡ Some Exclusive) p.1 (subst (λ i. hold (with_hold now.locks n w (Some mode)) i a ≡ Some Exclusive) p.0 alone)) in
          let his : is_some (hold now.locks n b) ≡ true = subst (λ i. is_some (hold now.locks i b) ≡ true) p.0 (sym (ap is_some (held_other (Some mode) k b q)) ∙ some) in
          absurd (excludes_held (hold now.locks n b) (subst (λ m. excludes (hold now.locks n b) m ≡ false) mine (free_of now.locks n w mode o.workers s.fit.workers none b y (λ e. q p.0 e))) his)
      by (inr p) (inl q) =
          let his : hold now.locks n a ≡ Some Exclusive = subst (λ i. hold now.locks i a ≡ Some Exclusive) q.0 (sym (held_other (Some mode) k a p) ∙ alone) in
          absurd (excludes_alone (hold now.locks n a) mode (free_of now.locks n w mode o.workers s.fit.workers none a x (λ e. p q.0 e)) his)

  -- and so does a free
  freed : (k a b : ℕ) → a < o.workers → b < o.workers → hold (with_hold now.locks n w None) k a ≡ Some Exclusive → is_some (hold (with_hold now.locks n w None) k b) ≡ true → b ≡ a
  freed k a b x y alone some = by (cases k a) (cases k b)
    where
      none_at : (k a : ℕ) → (k ≡ n) × (a ≡ w) → hold (with_hold now.locks n w None) k a ≡ None
      none_at k a p = ap (λ i. hold (with_hold now.locks n w None) i a) p.0 ∙ ap (hold (with_hold now.locks n w None) n) p.1 ∙ held_new None

      by : ((k ≡ n) × (a ≡ w)) ⊎ (k ≡ n → a ≡ w → ⊥) → ((k ≡ n) × (b ≡ w)) ⊎ (k ≡ n → b ≡ w → ⊥) → b ≡ a
      by (inr p) (inr q) = old k a b x y (sym (held_other None k a p) ∙ alone) (sym (ap is_some (held_other None k b q)) ∙ some)
      by (inl p) q = absurd (nothing_is Exclusive (sym (none_at k a p) ∙ alone))
      by (inr p) (inl q) = absurd (false≢true (sym (ap is_some (none_at k b q)) ∙ some))

-- so does each event
pub excluding_after : (o : Outline) (now : Standing) (e : Event) → IsStanding o now → IsExcluding o now → IsEnabled o now e → IsExcluding o (after o now e)
unfolding after
excluding_after o now (event.Start w m) s old is = old
excluding_after o now (event.Skip m) s old is = old
excluding_after o now (event.Take w n mode) s old is = taken o now s old w n is.0 is.1 mode is.2
excluding_after o now (event.Free w n) s old is = freed o now s old w n is.0 is.1
excluding_after o now (event.Read w f) s old is = old
excluding_after o now (event.Publish w f) s old is = old
excluding_after o now (event.Answer w g) s old is = old
excluding_after o now (event.End w e) s old is = old

-- nobody holds in an empty row
none_in : (workers w : ℕ) → hold_in (replicate workers None) w ≡ None
none_in zero w = refl
none_in (suc k) zero = refl
none_in (suc k) (suc w) = none_in k w

-- nor in any row at first
rows_none : (names workers n w : ℕ) → hold_in (row_in (replicate names (replicate workers None)) n) w ≡ None
rows_none zero workers n w = refl
rows_none (suc k) workers zero w = none_in workers w
rows_none (suc k) workers (suc n) w = rows_none k workers n w

-- so at first no hold is alone
pub excluding_first : (o : Outline) → IsExcluding o (at_first o)
excluding_first o n w v low small alone some = absurd (free n (hold_none n w) alone)
  where
    hold_none : (n w : ℕ) → hold (at_first o).locks n w ≡ None
    hold_none n w = rows_none o.names o.workers n w

    free : (n : ℕ) → hold (at_first o).locks n w ≡ None → hold (at_first o).locks n w ≡ Some Exclusive → ⊥
    free n none alone = nothing_is Exclusive (sym none ∙ alone)

-- a hold alone is the only one behind every run
pub excluding : (o : Outline) (events : List Event) → IsRun o [] events → IsExcluding o (standing_of o events)
excluding o events run =
    (by_events o (λ now. IsStanding o now × IsExcluding o now) (λ now e both is. (standing_after o now e both.0 is, excluding_after o now e both.0 both.1 is)) [] events (standing_first o, excluding_first o) run).1
