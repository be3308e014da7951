-- How many modules ended so, by all workers together.
use Rattle.std.proofs.Common.{◌≡◌, ℕ, zero, suc, ◌+◌, ◌<◌, ◌≤◌, Bool, true, false, nat_eq, List, [], ◌∷◌, ◌++◌, filter, length, arith, refl, ap, ◌∙◌, if◌then◌else◌}
use Rattle.std.proofs.lemmas.Bool.{eqb-true}
use Rattle.std.proofs.lemmas.Bool.Decides.{nat_tests}
use Rattle.std.proofs.lemmas.List.{length-append}
use Rattle.std.proofs.lemmas.List.Elements.{filter-append, filter_map-append}
use Rattle.build_core.specs.Locks.{below}
use Rattle.build_core.specs.declared.ending.Ending.{Ending}
use Rattle.build_core.specs.declared.event.Event.{Event}
use Rattle.build_core.specs.declared.event.Event.TheVariants as event
use Rattle.build_core.specs.declared.plan.Plan.{Plan}
use Rattle.scripts.specs.Bounds.{total}
use Rattle.event_core.specs.Enabled.{IsEnabled}
use Rattle.scripts.specs.Outlines.{outline_of}
use Rattle.event_core.specs.Runs.{IsRunOf, standing_of_run}
use Rattle.event_core.specs.Standing.{Standing}
use Rattle.event_core.specs.declared.entry.Carried.{Carried}
use Rattle.event_core.specs.declared.entry.RunEntry.{RunEntry}
use Rattle.scripts.specs.declared.outline.Outline.{Outline}
use Rattle.crew_turns.specs.Endings.{ending_of, endings_of}
use Rattle.crew.specs.Counted.{count_by, count_by_all, ends_in, ends_so}
use Rattle.crew.proofs.Behind.{behind}
use Rattle.crew.proofs.Counts.{counted, counted_last, one_of}

-- ---- sums

pub total_append : {A : Type 0} (f : A → ℕ) (xs ys : List A) → total f (xs ++ ys) ≡ total f xs + total f ys
total_append f [] ys = omega arith
total_append f (x ∷ xs) ys = let again = total_append f xs ys in omega (arith, again)

-- of what is a sum in each place
total_plus : {A : Type 0} (f g h : A → ℕ) → ((x : A) → h x ≡ f x + g x) → (xs : List A) → total h xs ≡ total f xs + total g xs
total_plus f g h each [] = omega arith
total_plus f g h each (x ∷ xs) = let one = each x in let again = total_plus f g h each xs in omega (arith, one, again)

-- of nothing
total_none : {A : Type 0} (f : A → ℕ) → ((x : A) → f x ≡ 0) → (xs : List A) → total f xs ≡ 0
total_none f each [] = refl
total_none f each (x ∷ xs) = let one = each x in let again = total_none f each xs in omega (arith, one, again)

-- of what one number has alone
abbrev only : (w k v : ℕ) → ℕ
only w k v = if nat_eq w v then k else 0

only_here : (w k v : ℕ) → nat_eq w v ≡ true → only w k v ≡ k
only_here w k v e = rw e refl

only_there : (w k v : ℕ) → nat_eq w v ≡ false → only w k v ≡ 0
only_there w k v e = rw e refl

less : (w n : ℕ) → w < suc n → nat_eq w n ≡ false → w < n
less w n low e = grind (arith, nat_tests)

only_above : (w k n : ℕ) → n ≤ w → total (only w k) (below n) ≡ 0
only_above w k zero low = refl
only_above w k (suc n) low = by (nat_eq w n) refl (only_above w k n (omega (arith, low)))
  where
    by : (b : Bool) → nat_eq w n ≡ b → total (only w k) (below n) ≡ 0 → total (only w k) (below n ++ n ∷ []) ≡ 0
    by true e again = let same = eqb-true w n e in absurd (omega (arith, same, low))
    by false e again =
        let split = total_append (only w k) (below n) (n ∷ []) in
        let here = only_there w k n e in
        omega (arith, split, here, again)

only_below : (w k n : ℕ) → w < n → total (only w k) (below n) ≡ k
only_below w k zero low = absurd (omega (arith, low))
only_below w k (suc n) low = by (nat_eq w n) refl (only_below w k n)
  where
    by : (b : Bool) → nat_eq w n ≡ b → (w < n → total (only w k) (below n) ≡ k) → total (only w k) (below n ++ n ∷ []) ≡ k
    by true e again =
        let split = total_append (only w k) (below n) (n ∷ []) in
        let here = only_here w k n e in
        let same = eqb-true w n e in
        let none = only_above w k n (omega (arith, same)) in
        omega (arith, split, here, none)
    by false e again =
        let split = total_append (only w k) (below n) (n ∷ []) in
        let here = only_there w k n e in
        let rest = again (less w n low e) in
        omega (arith, split, here, rest)

-- ---- by one entry more

module _ (test : Ending → Bool) where
  -- what an event gives a worker
  abbrev gives : Event → ℕ → ℕ
  gives (event.End w x) v = only w (one_of (test x)) v
  gives other v = 0

  single : (x : Ending) → length (filter test (x ∷ [])) ≡ one_of (test x)
  single x = let one = counted test x [] in omega (arith, one)

  ones : (v : ℕ) (e : Event) (what : Carried) → length (filter test (endings_of v ((record { event = e; carried = what }) ∷ []))) ≡ gives e v
  ones v (event.Start w m) what = refl
  ones v (event.Skip m) what = refl
  ones v (event.Take w n mode) what = refl
  ones v (event.Free w n) what = refl
  ones v (event.Read w f) what = refl
  ones v (event.Publish w f) what = refl
  ones v (event.Answer w g) what = refl
  ones v (event.End w x) what = by (nat_eq w v) refl
    where
      by : (b : Bool) → nat_eq w v ≡ b → length (filter test (endings_of v ((record { event = event.End w x; carried = what }) ∷ []))) ≡ only w (one_of (test x)) v
      by true e = rw e (single x)
      by false e = rw e refl

  count_more : (past : List RunEntry) (e : RunEntry) (v : ℕ) → count_by test (past ++ e ∷ []) v ≡ count_by test past v + gives e.event v
  count_more past e v =
      let split = ap (λ (xs : List Ending). length (filter test xs)) (filter_map-append (λ (x : RunEntry). ending_of v x.event) past (e ∷ [])) in
      let parts = ap length (filter-append test (endings_of v past) (endings_of v (e ∷ []))) ∙ length-append (filter test (endings_of v past)) (filter test (endings_of v (e ∷ []))) in
      let one = ones v e.event e.carried in
      omega (arith, split, parts, one)

  -- an end is one worker's
  gives_one : (o : Outline) (now : Standing) (e : Event) → IsEnabled o now e → total (gives e) (below o.workers) ≡ one_of (ends_so test e)
  gives_one o now (event.Start w m) is = total_none (gives (event.Start w m)) (λ v. refl) (below o.workers)
  gives_one o now (event.Skip m) is = total_none (gives (event.Skip m)) (λ v. refl) (below o.workers)
  gives_one o now (event.Take w n mode) is = total_none (gives (event.Take w n mode)) (λ v. refl) (below o.workers)
  gives_one o now (event.Free w n) is = total_none (gives (event.Free w n)) (λ v. refl) (below o.workers)
  gives_one o now (event.Read w f) is = total_none (gives (event.Read w f)) (λ v. refl) (below o.workers)
  gives_one o now (event.Publish w f) is = total_none (gives (event.Publish w f)) (λ v. refl) (below o.workers)
  gives_one o now (event.Answer w g) is = total_none (gives (event.Answer w g)) (λ v. refl) (below o.workers)
  gives_one o now (event.End w x) is = only_below w (one_of (test x)) o.workers is.0

  -- as many of all workers as the run has
  pub workers : (plan : Plan) (run : List RunEntry) → IsRunOf plan run → count_by_all test run plan.workers ≡ ends_in test run
  workers plan = behind plan (λ past. count_by_all test past plan.workers ≡ ends_in test past)
      (λ past e before s holds is.
      let sum = total_plus (count_by test past) (gives e.event) (count_by test (past ++ e ∷ [])) (count_more past e) (below plan.workers) in
      let one = gives_one (outline_of plan) (standing_of_run plan past) e.event is in
      let more = counted_last (λ (x : RunEntry). ends_so test x.event) past e in
      omega (arith, sum, one, more, holds))
      (total_none (count_by test []) (λ v. refl) (below plan.workers))
