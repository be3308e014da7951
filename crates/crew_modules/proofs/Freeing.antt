-- A worker frees its names one after another: behind the last it is at what the last free alone would have led to.
use Rattle.std.proofs.Common.{◌≡◌, ℕ, zero, suc, ◌+◌, ◌<◌, ◌≤◌, Bool, true, false, not, ◌||◌, nat_eq, List, [], ◌∷◌, ◌++◌, length, drop, get_or, Some, if◌then◌else◌, refl, arith, sym, ap, subst, ◌∙◌}
use Rattle.std.proofs.Math.Seq.{drop-cons}
use Rattle.std.proofs.lemmas.Bool.{eqb-true}
use Rattle.std.proofs.lemmas.List.{append-nil}
use Rattle.std.proofs.lemmas.List.Elements.{All-get_or}
use Rattle.build_core.specs.declared.event.Event.TheVariants as event
use Rattle.build_core.specs.declared.plan.Plan.{Plan}
use Rattle.event_core.specs.declared.entry.RunEntry.{RunEntry}
use Rattle.scripts.specs.declared.outline.Outline.{Outline}
use Rattle.scripts.specs.Climbing.{Climbs, but}
use Rattle.scripts.specs.Outlines.{is_empty, is_listed, outline_of}
use Rattle.event_core.specs.Runs.{IsRunOf, answers_in, events_of, goals_in, module_by, standing_of_run}
use Rattle.event_core.specs.Standing.{Course, Standing, after_free, course_of, held_by, module_of}
use Rattle.event_core.proofs.Ties.{free_module}
use Rattle.run_law.proofs.Complete.{IsStanding, standing}
use Rattle.run_law.proofs.Kept.{answers_more}
use Rattle.run_law.proofs.LaterMoments.{front}
use Rattle.run_law.proofs.Staying.{goals_stay}
use Rattle.run_law.proofs.Freeing.{last}
use Rattle.atomic_table.specs.Seated.{TableId}
use Rattle.crew_turns.specs.Seen.{AlwaysFits, Follows, IsOf, Steps, Told, course_by, names_by, seen_by, there_by}
use Rattle.crew_turns.specs.Tasks.{ModuleTask, stood_by}
use Rattle.crew_turns.proofs.Taken.{itself}
use Rattle.crew_turns.specs.Stops.{freed_course}
use Rattle.crew_modules.proofs.Stepping.{Freed, step_freed}
use Rattle.crew_modules.proofs.Taking.{fits_both, follows_both, follows_itself}

-- ---- names that ascend

-- names from one on don't have a lesser one
but_above : (n low : ℕ) (xs : List ℕ) → n < low → Climbs low xs → but n xs ≡ xs
but_above n low [] less climbs = refl
but_above n low (x ∷ xs) less climbs = let from = climbs.0 in by (omega (arith, less, from)) (nat_eq x n) refl (but_above n (suc x) xs (omega (arith, less, from)) climbs.1)
  where
    by : n < x → (b : Bool) → nat_eq x n ≡ b → but n xs ≡ xs → (if not (nat_eq x n) then x ∷ but n xs else but n xs) ≡ x ∷ xs
    by above true e again = let same = eqb-true x n e in absurd (omega (arith, same, above))
    by above false e again = ap (λ b. if not b then x ∷ but n xs else but n xs) e ∙ ap (λ ys. x ∷ ys) again

-- so without the first the others are left
but_first : (n : ℕ) (xs : List ℕ) → Climbs 0 (n ∷ xs) → but n (n ∷ xs) ≡ xs
but_first n xs climbs = ap (λ b. if not b then n ∷ but n xs else but n xs) (itself n) ∙ but_above n (suc n) xs (omega arith) climbs.1

drop_some : (xs : List ℕ) (n : ℕ) → n < length xs → is_empty (drop n xs) ≡ false
drop_some [] n low = absurd (omega (arith, low))
drop_some (x ∷ xs) zero low = refl
drop_some (x ∷ xs) (suc n) low = drop_some xs n (omega (arith, low))

pub drop_none : (xs : List ℕ) (n : ℕ) → length xs ≤ n → drop n xs ≡ []
drop_none [] zero far = refl
drop_none [] (suc n) far = refl
drop_none (x ∷ xs) zero far = absurd (omega (arith, far))
drop_none (x ∷ xs) (suc n) far = drop_none xs n (omega (arith, far))

drop_here : (xs : List ℕ) (n : ℕ) → n < length xs → drop n xs ≡ get_or xs n 0 ∷ drop (n + 1) xs
drop_here xs n low = let e : suc n ≡ n + 1 = omega arith in subst (λ k. drop n xs ≡ get_or xs n 0 ∷ drop k xs) e (drop-cons xs n 0 low)

pub listed_here : (xs : List ℕ) (n : ℕ) → n < length xs → is_listed (get_or xs n 0) (drop n xs) ≡ true
listed_here xs n low = ap (is_listed (get_or xs n 0)) (drop_here xs n low) ∙ ap (λ b. b || is_listed (get_or xs n 0) (drop (n + 1) xs)) (itself (get_or xs n 0))

-- ---- in a log

-- what is freed of some names leaves the module
pub freed_module : (o : Outline) (there : List Bool) (names : List ℕ) (course : Course) → module_of (freed_course o there names course) ≡ module_of course
freed_module o there [] course = refl
freed_module o there (n ∷ names) course = free_module o there [] course

-- behind the free of one name and more it is as if freed once
freed_some : (o : Outline) (there : List Bool) (names : List ℕ) (course : Course) (at : ℕ) → at < length names → freed_course o there names course ≡ after_free o there [] course
freed_some o there [] course at low = absurd (omega (arith, low))
freed_some o there (n ∷ names) course at low = refl

freed_none : (o : Outline) (there : List Bool) (names : List ℕ) (course : Course) → length names ≤ 0 → course ≡ freed_course o there names course
freed_none o there [] course far = refl
freed_none o there (n ∷ names) course far = absurd (omega (arith, far))

-- a worker that held these names and was at this has freed the first so many
pub record IsFreed (plan : Plan) (w : ℕ) (names : List ℕ) (first : Course) (at : ℕ) (log : List RunEntry) : Type 0 where
  pub held : held_by (standing_of_run plan log) w ≡ drop at names
  pub some : at < length names → (there : List Bool) → after_free (outline_of plan) there [] (course_of (standing_of_run plan log) w) ≡ after_free (outline_of plan) there [] first
  pub all : length names ≤ at → course_of (standing_of_run plan log) w ≡ freed_course (outline_of plan) (standing_of_run plan log).there names first

module _ (plan : Plan) (w : ℕ) (names : List ℕ) where
  abbrev o : Outline
  o = outline_of plan

  pub freed_first : (log : List RunEntry) → held_by (standing_of_run plan log) w ≡ names → IsFreed plan w names (course_of (standing_of_run plan log) w) 0 log
  freed_first log held = record {
    held = held;
    some = λ low there. refl;
    all = λ far. freed_none o (standing_of_run plan log).there names (course_of (standing_of_run plan log) w) far;
  }

  -- the names that a worker holds ascend
  climbing : (now : Standing) → IsStanding o now → w < plan.workers → Climbs 0 (held_by now w)
  climbing now s low = let rows = s.fit.rows in All-get_or (Climbs 0) now.held w [] (omega (arith, low, rows)) s.fit.climbing

  module _ (first : Course) (at : ℕ) (log later : List RunEntry) (low : at < length names) (s : IsStanding o (standing_of_run plan log)) (worker : w < plan.workers) (is : IsFreed plan w names first at log)
      (freed : Freed o (held_by (standing_of_run plan log) w) (course_of (standing_of_run plan log) w) w (get_or names at 0) (standing_of_run plan later)) where
    left : but (get_or names at 0) (held_by (standing_of_run plan log) w) ≡ drop (at + 1) names
    left =
        let here = is.held ∙ drop_here names at low in
        ap (but (get_or names at 0)) here ∙ but_first (get_or names at 0) (drop (at + 1) names) (subst (Climbs 0) here (climbing (standing_of_run plan log) s worker))

    course_left : course_of (standing_of_run plan later) w ≡ after_free o (standing_of_run plan later).there (drop (at + 1) names) (course_of (standing_of_run plan log) w)
    course_left = freed.0 ∙ ap (λ ns. after_free o (standing_of_run plan later).there ns (course_of (standing_of_run plan log) w)) left

    pub freed_more : IsFreed plan w names first (at + 1) later
    freed_more = record {
      held = freed.1 ∙ left;
      some = λ more there.
          ap (after_free o there []) course_left
          ∙ last o (standing_of_run plan later).there there (drop (at + 1) names) (course_of (standing_of_run plan log) w) (drop_some names (at + 1) more)
          ∙ is.some low there;
      all = λ far.
          course_left
          ∙ ap (λ ns. after_free o (standing_of_run plan later).there ns (course_of (standing_of_run plan log) w)) (drop_none names (at + 1) far)
          ∙ is.some low (standing_of_run plan later).there
          ∙ sym (freed_some o (standing_of_run plan later).there names first at low);
    }

-- ---- in a pass

pub record IsFreeing (t : ModuleTask) (lock : TableId) (names : List ℕ) (at : ℕ) (before pass : Told) : Type 0 where
  pub of : IsOf t.plan lock t.worker pass
  pub follows : Follows before pass
  pub fits : AlwaysFits t.plan t.worker before pass
  pub whose : module_by t.plan (seen_by pass) t.worker ≡ Some t.number
  pub goals : (stood_by t pass).goals ≡ (stood_by t before).goals
  pub freed : IsFreed t.plan t.worker names (course_by t.plan t.worker before) at (seen_by pass)

-- a worker that builds a module is one of the plan's
pub low_worker : (plan : Plan) (past : List RunEntry) (w number : ℕ) → IsRunOf plan past → module_by plan past w ≡ Some number → w < plan.workers
low_worker plan past w number run whose = let s = standing (outline_of plan) (events_of past) run in (s.tied.running number w (s.tied.busy w number whose)).0

module _ (t : ModuleTask) (lock : TableId) (names : List ℕ) (before : Told) where
  pub freeing_first : IsOf t.plan lock t.worker before → module_by t.plan (seen_by before) t.worker ≡ Some t.number → names_by t.plan t.worker before ≡ names → IsFreeing t lock names 0 before before
  freeing_first of whose held = record {
    of = of;
    follows = follows_itself t.plan lock t.worker before of;
    fits = λ told fits. fits;
    whose = whose;
    goals = refl;
    freed = freed_first t.plan t.worker names (seen_by before) held;
  }

  module _ (at : ℕ) (mid pass : Told) (low : at < length names) (is : IsFreeing t lock names at before mid) (step : Steps t.plan lock t.worker (event.Free t.worker (get_or names at 0)) mid pass) where
    abbrev out : List RunEntry
    out = seen_by mid ++ step.others

    abbrev entry : RunEntry
    entry = record { event = event.Free t.worker (get_or names at 0); carried = step.what }

    freed_step : Freed (outline_of t.plan) (names_by t.plan t.worker mid) (course_by t.plan t.worker mid) t.worker (get_or names at 0) (standing_of_run t.plan (seen_by pass))
    freed_step = step_freed t.plan lock t.worker (get_or names at 0) mid pass step

    -- its goals stand as they did
    goals_left : (stood_by t pass).goals ≡ (stood_by t mid).goals
    goals_left =
        let run : IsRunOf t.plan (out ++ entry ∷ []) = subst (IsRunOf t.plan) step.log step.of.run in
        ap (λ log. goals_in (answers_in t.plan log) t.number t.unit) step.log
        ∙ ap (λ kept. goals_in kept t.number t.unit) (answers_more t.plan out entry ∙ append-nil (answers_in t.plan out))
        ∙ goals_stay t.plan (seen_by mid) step.others t.worker t.number t.unit (front t.plan out (entry ∷ []) run).0 step.apart is.whose

    pub freeing_more : AlwaysFits t.plan t.worker mid pass → IsFreeing t lock names (at + 1) before pass
    freeing_more fits = record {
      of = step.of;
      follows = follows_both before mid pass is.follows step.follows;
      fits = fits_both t.plan t.worker before mid pass is.fits fits;
      whose = ap module_of freed_step.0 ∙ free_module (outline_of t.plan) (there_by t.plan pass) (but (get_or names at 0) (names_by t.plan t.worker mid)) (course_by t.plan t.worker mid) ∙ is.whose;
      goals = goals_left ∙ is.goals;
      freed =
          freed_more t.plan t.worker names (course_by t.plan t.worker before) at (seen_by mid) (seen_by pass) low (standing (outline_of t.plan) (events_of (seen_by mid)) is.of.run)
          (low_worker t.plan (seen_by mid) t.worker t.number is.of.run is.whose) is.freed freed_step;
    }

    pub listed : is_listed (get_or names at 0) (names_by t.plan t.worker mid) ≡ true
    listed = ap (is_listed (get_or names at 0)) is.freed.held ∙ listed_here names at low
