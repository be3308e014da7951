-- Judged modules stand in one way only.
use Rattle.std.proofs.Common.{◌≡◌, ℕ, zero, suc, ◌+◌, ◌<◌, Bool, true, false, not, ◌&&◌, ◌||◌, nat_eq, List, [], ◌∷◌, find, slice_get, Option, Some, None, refl, arith, sym, ap, ◌∙◌, if◌then◌else◌}
use Rattle.std.specs.List.{list_all}
use Rattle.std.proofs.lemmas.Bool.{false≢true}
use Rattle.goal_types.specs.declared.goal.OwnBytes.{OwnBytes}
use Rattle.build_core.specs.declared.plan.Plan.{Plan}
use Rattle.build_core.specs.declared.plan.PlanModule.{PlanModule}
use Rattle.build_core.specs.declared.plan.Entry.{Entry}
use Rattle.build_core.specs.declared.plan.Origin.{Origin}
use Rattle.build_core.specs.declared.plan.Origin.TheVariants as origin
use Rattle.build_core.specs.declared.ending.State.{State}
use Rattle.build_core.specs.OneThread.{Supply, bytes_len, is_built, output_of}
use Rattle.run_law.specs.Closed.{AreJudged, Verdict, judge, missing_of, origin_len, total_len, verdict_of_fetch, verdict_of_upstream}
use Rattle.scripts.specs.Outlines.{is_listed}
use Rattle.event_core.specs.SoundPlans.{is_backed}

-- a search is the same by two tests that agree on what is listed
pub find_same : (p q : ℕ → Bool) (xs : List ℕ) → ((x : ℕ) → is_listed x xs ≡ true → p x ≡ q x) → find p xs ≡ find q xs
find_same p q [] same = refl
find_same p q (x ∷ xs) same = ap (λ b. if b then Some x else find p xs) (same x (first x xs)) ∙ ap (λ o. if q x then Some x else o) (find_same p q xs (λ y is. same y (later x y xs is)))
  where
    first : (x : ℕ) (xs : List ℕ) → is_listed x (x ∷ xs) ≡ true
    first x xs = grind arith

    later : (x y : ℕ) (xs : List ℕ) → is_listed y xs ≡ true → is_listed y (x ∷ xs) ≡ true
    later x y xs is = by (nat_eq x y)
      where
        by : (b : Bool) → (b || is_listed y xs) ≡ true
        by true = refl
        by false = is

-- the first item of a list is listed
pub listed_first : (x : ℕ) (xs : List ℕ) → is_listed x (x ∷ xs) ≡ true
listed_first x xs = grind arith

-- so is each that follows
pub listed_later : (x y : ℕ) (xs : List ℕ) → is_listed y xs ≡ true → is_listed y (x ∷ xs) ≡ true
listed_later x y xs is = by (nat_eq x y)
  where
    by : (b : Bool) → (b || is_listed y xs) ≡ true
    by true = refl
    by false = is

-- the parts of what holds together
pub both : (a b : Bool) → (a && b) ≡ true → (a ≡ true) × (b ≡ true)
both true b is = (refl, is)
both false b is = absurd (false≢true is)

module _ (plan : Plan) (supply : Supply) (m : PlanModule) (one two : ℕ → List OwnBytes) (same : (u : ℕ) → is_listed u m.upstream ≡ true → one u ≡ two u) where
  -- an entry has the same length where upstreams keep the same
  origin_same : (o : Origin) → is_backed m o ≡ true → origin_len plan supply one o ≡ origin_len plan supply two o
  origin_same (origin.File file) is = refl
  origin_same (origin.Module u s) is = ap (λ own. bytes_len (output_of own s)) (same u is)
  origin_same origin.Nothing is = refl

  -- so has the classpath
  pub len_same : (entries : List Entry) → list_all (λ (e : Entry). is_backed m e.origin) entries ≡ true → total_len plan supply one entries ≡ total_len plan supply two entries
  len_same [] is = refl
  len_same (e ∷ entries) is =
      let parts = both (is_backed m e.origin) (list_all (λ (e : Entry). is_backed m e.origin) entries) is in
      ap (λ n. n + total_len plan supply one entries) (origin_same e.origin parts.0) ∙ ap (λ n. origin_len plan supply two e.origin + n) (len_same entries parts.1)

-- so is the verdict on the classpath
entries_same : (plan : Plan) (supply : Supply) (number : ℕ) (m : PlanModule) (outputs outputs' : ℕ → List OwnBytes) → total_len plan supply outputs m.entries ≡ total_len plan supply outputs' m.entries
    → (missing : Option ℕ) → verdict_of_fetch plan supply number m outputs missing ≡ verdict_of_fetch plan supply number m outputs' missing
entries_same plan supply number m outputs outputs' long None = rw long refl
entries_same plan supply number m outputs outputs' long (Some f) = refl

-- so is the verdict behind the upstreams
verdict_same : (plan : Plan) (supply : Supply) (number : ℕ) (m : PlanModule) (outputs outputs' : ℕ → List OwnBytes) → total_len plan supply outputs m.entries ≡ total_len plan supply outputs' m.entries
    → (unbuilt : Option ℕ) → verdict_of_upstream plan supply number m outputs unbuilt ≡ verdict_of_upstream plan supply number m outputs' unbuilt
verdict_same plan supply number m outputs outputs' long (Some u) = refl
verdict_same plan supply number m outputs outputs' long None = entries_same plan supply number m outputs outputs' long (missing_of plan supply m.fetch)

-- a verdict looks at upstreams alone
pub judge_same : (plan : Plan) (supply : Supply) (states states' : ℕ → State) (outputs outputs' : ℕ → List OwnBytes) (number : ℕ) (m : PlanModule)
    → list_all (λ (e : Entry). is_backed m e.origin) m.entries ≡ true
    → ((u : ℕ) → is_listed u m.upstream ≡ true → states u ≡ states' u) → ((u : ℕ) → is_listed u m.upstream ≡ true → outputs u ≡ outputs' u)
    → judge plan supply states outputs number m ≡ judge plan supply states' outputs' number m
unfolding judge
judge_same plan supply states states' outputs outputs' number m backed same kept =
    let found = find_same (λ u. not (is_built (states u))) (λ u. not (is_built (states' u))) m.upstream (λ u is. ap (λ s. not (is_built s)) (same u is)) in
    let long = len_same plan supply m outputs outputs' kept m.entries backed in
    ap (verdict_of_upstream plan supply number m outputs) found ∙ verdict_same plan supply number m outputs outputs' long (find (λ u. not (is_built (states' u))) m.upstream)

-- where P goes down to upstreams, two ways to stand that are judged are one on P
module _ (plan : Plan) (supply : Supply) (P : ℕ → Type 0) (states states' : ℕ → State) (outputs outputs' : ℕ → List OwnBytes)
    (low : (number u : ℕ) (m : PlanModule) → slice_get plan.modules number ≡ Some m → is_listed u m.upstream ≡ true → (u < number) × (P number → P u))
    (real : (number u : ℕ) (m : PlanModule) → slice_get plan.modules number ≡ Some m → u < number → (n : PlanModule) × (slice_get plan.modules u ≡ Some n))
    (backed : (number : ℕ) (m : PlanModule) → slice_get plan.modules number ≡ Some m → list_all (λ (e : Entry). is_backed m e.origin) m.entries ≡ true)
    (one : AreJudged plan supply P states outputs) (two : AreJudged plan supply P states' outputs') where
  -- modules below a place stand in one way
  up_to : (n number : ℕ) (m : PlanModule) → number < n → slice_get plan.modules number ≡ Some m → P number → (states number ≡ states' number) × (outputs number ≡ outputs' number)
  up_to zero number m less at holds = absurd (omega (arith, less))
  up_to (suc n) number m less at holds =
      let upward : (u : ℕ) → is_listed u m.upstream ≡ true → (states u ≡ states' u) × (outputs u ≡ outputs' u) = (λ u is.
      let l = low number u m at is in
      let r = real number u m at l.0 in
      up_to n u r.0 (omega (arith, l.0, less)) r.1 (l.1 holds)) in
      let v : ◌≡◌ {A = Verdict} (record { state = states number; outputs = outputs number }) (record { state = states' number; outputs = outputs' number }) =
      one number m at holds ∙ judge_same plan supply states states' outputs outputs' number m (backed number m at) (λ u is. (upward u is).0) (λ u is. (upward u is).1) ∙ sym (two number m at holds) in
      (ap (λ (x : Verdict). x.state) v, ap (λ (x : Verdict). x.outputs) v)

  -- so do all that P holds of
  pub judged_once : (number : ℕ) (m : PlanModule) → slice_get plan.modules number ≡ Some m → P number → (states number ≡ states' number) × (outputs number ≡ outputs' number)
  judged_once number m at holds = up_to (suc number) number m (omega arith) at holds
