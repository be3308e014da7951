-- Passes of a crew, before the work and behind it, cut in two and made one.
use Rattle.std.proofs.Common.{◌≡◌, ℕ, ◌+◌, ◌-◌, ◌/◌, ◌<◌, Bool, true, false, nat_le, List, [], drop, length, None, option_and_then, option_map, if◌then◌else◌, refl, arith, sym, ap, subst, ◌∙◌}
use Rattle.std.proofs.lemmas.List.{append-nil}
use Rattle.mvn_outside.specs.Shelf.{files_now}
use Rattle.build_core.specs.declared.plan.Plan.{Plan}
use Rattle.event_core.specs.declared.entry.RunEntry.{RunEntry}
use Rattle.event_core.specs.Runs.{IsComplete, IsRunOf, module_by}
use Rattle.event_core.specs.SoundPlans.{IsSoundPlan}
use Rattle.event_core.specs.Standing.{module_of}
use Rattle.event_core.specs.Worlds.{HandTold}
use Rattle.event_core.proofs.Ties.{any_idle}
use Rattle.atomic_table.specs.Seated.{TableId}
use Rattle.turn_lock.specs.Passes.{lock_of, with_view}
use Rattle.turn_lock.specs.Turns.{Begins, entries_of, first_view, half, joined, left_of, longer, right_of}
use Rattle.board.specs.Logs.{role}
use Rattle.board.specs.declared.kept.Opened.{Opened}
use Rattle.run_law.proofs.Fitting as fitting
use Rattle.run_law.proofs.Staying.{course_stays}
use Rattle.run_law.specs.Hands.{OwnFit}
use Rattle.run_law.specs.Others.{AreOthers}
use Rattle.crew_modules.proofs.Ended.{begins_all, others_end_none}
use Rattle.crew_turns.specs.Endings.{endings_of, endings_since}
use Rattle.crew_turns.specs.Hands.{HandState, IsWorked}
use Rattle.crew_turns.proofs.Logs.{behind}
use Rattle.crew_turns.specs.Seen.{FitsHand, Follows, IsOf, Told, seen_by, start_by, view}
use Rattle.crew.specs.Crews.{HasLeft, IsDone, IsReady}

-- ---- one worker

module _ (opened : Opened) (lock : TableId) (first : ℕ) (pass : Told) (is : IsReady opened lock first 1 pass) where
  -- the first worker has no entry yet
  fresh : AreOthers first (seen_by pass)
  fresh = behind first [] (seen_by pass) (is.fresh first (omega arith) (omega arith))

  -- so it builds nothing
  idle : module_by opened.plan (seen_by pass) first ≡ None
  idle = ap module_of (course_stays opened.plan [] (seen_by pass) first fresh) ∙ ap module_of (any_idle opened.plan.workers first)

  -- the pass is its
  pub of : IsOf opened.plan lock first pass
  of = record {
    own = is.rest.own;
    quiet = is.rest.quiet;
    whose = is.rest.number;
    among = is.rest.among;
    opened = opened;
    fixed = is.over.fixed;
    over = refl;
    sound = is.over.sound;
    run = is.over.run;
    owes = is.rest.clear ∙ sym idle;
  }

  -- and its entries fit, whatever its hand tells
  pub fits : (told : HandTold) → FitsHand opened.plan first told pass
  fits told = fitting.others opened.plan (start_by pass) told first [] (seen_by pass) tt fresh

  module _ (later : Told) (again : IsOf opened.plan lock first later) (follows : Follows pass later) (complete : IsComplete opened.plan (seen_by later)) where
    -- when its work is done
    pub done : (view later).owed ≡ None → IsDone opened lock first 1 later
    done clear = record {
      rest = record {
        own = again.own;
        quiet = again.quiet;
        clear = clear;
        number = again.whose;
        to = follows.reach ∙ is.rest.to;
        heavy = follows.weight ∙ is.rest.heavy;
        among = again.among;
      };
      over = record { fixed = follows.fixed ∙ is.over.fixed; sound = is.over.sound; few = is.over.few; run = again.run };
      complete = complete;
    }

    -- what its log says of it
    pub left : (before now : HandState) → FitsHand opened.plan first before.told later → IsWorked before now (endings_since first (seen_by pass) (seen_by later)) → HasLeft opened first before now (seen_by later)
    left before now own worked = record {
      run = seen_by later;
      begins = ([], sym (append-nil (seen_by later)));
      complete = complete;
      fits = subst (λ start. OwnFit opened.plan start before.told first [] (seen_by later)) (ap (λ fixed. option_and_then (λ (o : Opened). option_map files_now o.told) fixed) (follows.fixed ∙ is.over.fixed)) own;
      worked = subst (IsWorked before now) (ap (λ es. drop (length es) (endings_of first (seen_by later))) (others_end_none first (seen_by pass) fresh)) worked;
    }

-- a longer log says it too
pub left_still : (opened : Opened) (worker : ℕ) (before now : HandState) (log more : List RunEntry) → HasLeft opened worker before now log → Begins log more → HasLeft opened worker before now more
left_still opened worker before now log more is begins = record { run = is.run; begins = begins_all is.run log more is.begins begins; complete = is.complete; fits = is.fits; worked = is.worked }

-- ---- cut in two

module _ (opened : Opened) (lock : TableId) (first left right : ℕ) (pass : Told) (is : IsReady opened lock first (left + right) pass) (whole : right ≡ (left + right) / 2) where
  -- half of the reach
  half_is : half (view pass) ≡ right
  half_is =
      let reach = is.rest.to in
      let number = is.rest.number in
      let wide : (view pass).reach - (view pass).number ≡ left + right = omega (arith, reach, number) in
      ap (λ n. n / 2) wide ∙ sym whole

  pub cut_left : (new : Told) → new ≡ with_view pass (left_of (view pass)) → IsReady opened lock first left new
  cut_left new cut = subst (IsReady opened lock first left) (sym cut) (
      record {
        rest = record {
          own = is.rest.own;
          quiet = is.rest.quiet;
          clear = is.rest.clear;
          number = is.rest.number;
          to = let h = half_is in let reach = is.rest.to in omega (arith, h, reach);
          heavy = let h = half_is in let weight = is.rest.heavy in omega (arith, h, weight);
          among = is.rest.among;
        };
        over = record { fixed = is.over.fixed; sound = is.over.sound; few = is.over.few; run = is.over.run };
        fresh = λ k from to. is.fresh k from (omega (arith, to));
      }
      )

  pub cut_right : (other : Told) → lock_of other ≡ lock_of pass → view other ≡ right_of (view pass) → IsReady opened lock (first + left) right other
  cut_right other own cut =
      let h = half_is in
      let reach = is.rest.to in
      let seen = ap (λ v. v.seen) cut in
      record {
        rest = record {
          own = own ∙ is.rest.own;
          quiet = ap (λ v. v.turn) cut;
          clear = ap (λ v. v.owed) cut;
          number = ap (λ v. v.number) cut ∙ (let at : (view pass).reach - half (view pass) ≡ first + left = omega (arith, h, reach) in at);
          to = ap (λ v. v.reach) cut ∙ (let at : (view pass).reach ≡ first + left + right = omega (arith, reach) in at);
          heavy = ap (λ v. v.weight) cut ∙ h;
          among = ap (λ v. v.workers) cut ∙ is.rest.among;
        };
        over = record {
          fixed = ap (λ v. v.fixed) cut ∙ is.over.fixed;
          sound = is.over.sound;
          few = is.over.few;
          run = subst (IsRunOf opened.plan) (sym seen) is.over.run;
        };
        fresh = λ k from to. ap (entries_of role k) seen ∙ is.fresh k (omega (arith, from)) (omega (arith, to));
      }

-- ---- made one

-- what holds of both of two logs holds of the longer
of_longer : (P : List RunEntry → Type 0) (a b : List RunEntry) → P a → P b → P (longer a b)
of_longer P a b one two = by (nat_le (length a) (length b))
  where
    by : (c : Bool) → P (if c then b else a)
    by true = two
    by false = one

pub made_one : (opened : Opened) (lock : TableId) (first left right : ℕ) (pass other new : Told) → IsDone opened lock first left pass → IsDone opened lock (first + left) right other → new ≡ with_view pass (joined (view pass) (view other)) → IsDone opened lock first (left + right) new
made_one opened lock first left right pass other new one two is = subst (IsDone opened lock first (left + right)) (sym is) (
    record {
      rest = record {
        own = one.rest.own;
        quiet = one.rest.quiet;
        clear = one.rest.clear;
        number = one.rest.number;
        to = one.rest.to;
        heavy = let a = one.rest.heavy in let b = two.rest.heavy in omega (arith, a, b);
        among = one.rest.among;
      };
      over = record { fixed = one.over.fixed; sound = one.over.sound; few = one.over.few; run = of_longer (IsRunOf opened.plan) (seen_by pass) (seen_by other) one.over.run two.over.run };
      complete = of_longer (IsComplete opened.plan) (seen_by pass) (seen_by other) one.complete two.complete;
    }
    )

-- ---- the first pass

-- over a board on which nothing has happened
pub ready_first : (opened : Opened) (lock : TableId) (count : ℕ) (pass : Told) → IsSoundPlan opened.plan → opened.plan.events < 4294967296 → lock_of pass ≡ lock → view pass ≡ first_view [] opened opened.plan.workers → count ≡ opened.plan.workers → IsReady opened lock 0 count pass
ready_first opened lock count pass sound few own is all =
    let seen = ap (λ v. v.seen) is in
    let reach = ap (λ v. v.reach) is in
    let weight = ap (λ v. v.weight) is in
    record {
      rest = record {
        own = own;
        quiet = ap (λ v. v.turn) is;
        clear = ap (λ v. v.owed) is;
        number = ap (λ v. v.number) is;
        to = omega (arith, reach, all);
        heavy = weight ∙ sym all;
        among = ap (λ v. v.workers) is;
      };
      over = record { fixed = ap (λ v. v.fixed) is; sound = sound; few = few; run = subst (IsRunOf opened.plan) (sym seen) tt };
      fresh = λ k from to. ap (entries_of role k) seen;
    }

-- as many hands as a plan has workers: one at least, and few
pub some_hand : (plan : Plan) (count : ℕ) → IsSoundPlan plan → count ≡ plan.workers → 0 < count
some_hand plan count sound all = let least = sound.workers.0 in omega (arith, least, all)

pub few_hands : (plan : Plan) (count : ℕ) → IsSoundPlan plan → count ≡ plan.workers → 0 + count < 4294967296
few_hands plan count sound all = let most = sound.workers.1 in omega (arith, most, all)
