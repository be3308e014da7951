-- A worker waits for a name and takes it: what it knew before the name was free it knows then.
use Rattle.std.proofs.Common.{◌≡◌, ℕ, Bool, true, false, not, nat_eq, nat_lt, List, [], ◌∷◌, ◌++◌, slice_get, Some, option_and_then, option_map, refl, sym, ap, subst, ◌∙◌}
use Rattle.std.specs.List.{list_all}
use Rattle.std.proofs.lemmas.Bool.{eqb-true, false≢true}
use Rattle.std.proofs.lemmas.List.{append-nil, append_assoc}
use Rattle.std.proofs.lemmas.List.Folds.{list_all-append}
use Rattle.mvn_outside.specs.Shelf.{files_now}
use Rattle.build_core.specs.declared.event.Event.{Event}
use Rattle.build_core.specs.declared.plan.Plan.{Plan}
use Rattle.build_core.specs.declared.plan.PlanModule.{PlanModule}
use Rattle.scripts.specs.declared.deed.Deed.{Deed}
use Rattle.event_core.specs.declared.entry.RunEntry.{RunEntry}
use Rattle.event_core.specs.Causes.{stage_at}
use Rattle.event_core.specs.Enabled.{is_due}
use Rattle.event_core.specs.Runs.{IsRunOf, module_by, standing_of_run}
use Rattle.scripts.specs.Scripts.{stage_of}
use Rattle.event_core.specs.Standing.{Course, course_of, idle, module_of, off_course, on_course}
use Rattle.event_core.specs.Worlds.{FitsTake, stood}
use Rattle.run_law.proofs.Basics.{and_is}
use Rattle.run_law.specs.Others.{is_of}
use Rattle.run_law.proofs.Staying.{course_stays}
use Rattle.run_law.proofs.Ending.{installable}
use Rattle.atomic_table.specs.Seated.{TableId}
use Rattle.turn_lock.specs.Turns.{Begins}
use Rattle.board.specs.declared.kept.Opened.{Opened}
use Rattle.crew_turns.specs.Seen.{AlwaysFits, Follows, IsOf, Sees, Steps, Told, course_by, seen_by, start_by}
use Rattle.crew_turns.proofs.Ends.{IsLate, has_all}

-- no entry of the worker came
pub record HasWaited (plan : Plan) (lock : TableId) (w : ℕ) (before pass : Told) : Type 0 where
  pub sees : Sees plan lock w before pass
  pub fits : AlwaysFits plan w before pass

-- ---- later passes

begins_both : (a b c : List RunEntry) → Begins a b → Begins b c → Begins a c
begins_both a b c first more = (first.0 ++ more.0, more.1 ∙ ap (λ l. l ++ more.0) first.1 ∙ append_assoc a first.0 more.0)

pub follows_both : (before mid pass : Told) → Follows before mid → Follows mid pass → Follows before pass
follows_both before mid pass a b = record {
  lock = b.lock ∙ a.lock;
  quiet = b.quiet;
  number = b.number ∙ a.number;
  reach = b.reach ∙ a.reach;
  weight = b.weight ∙ a.weight;
  workers = b.workers ∙ a.workers;
  fixed = b.fixed ∙ a.fixed;
  log = begins_both (seen_by before) (seen_by mid) (seen_by pass) a.log b.log;
}

pub follows_itself : (plan : Plan) (lock : TableId) (w : ℕ) (pass : Told) → IsOf plan lock w pass → Follows pass pass
follows_itself plan lock w pass of = record { lock = refl; quiet = of.quiet; number = refl; reach = refl; weight = refl; workers = refl; fixed = refl; log = ([], sym (append-nil (seen_by pass))) }

pub fits_both : (plan : Plan) (w : ℕ) (before mid pass : Told) → AlwaysFits plan w before mid → AlwaysFits plan w mid pass → AlwaysFits plan w before pass
fits_both plan w before mid pass a b = λ told fits. b told (a told fits)

-- the repository's files at the start stay
pub start_same : (before pass : Told) → Follows before pass → start_by pass ≡ start_by before
start_same before pass follows = ap (option_and_then (λ (o : Opened). option_map files_now o.told)) follows.fixed

others_both : (w : ℕ) (a b : List RunEntry) → list_all (λ (e : RunEntry). not (is_of w e.event)) a ≡ true → list_all (λ (e : RunEntry). not (is_of w e.event)) b ≡ true → list_all (λ (e : RunEntry). not (is_of w e.event)) (a ++ b) ≡ true
others_both w a b x y = list_all-append (λ (e : RunEntry). not (is_of w e.event)) a b ∙ and_is (list_all (λ (e : RunEntry). not (is_of w e.event)) a) (list_all (λ (e : RunEntry). not (is_of w e.event)) b) x y

module _ (plan : Plan) (lock : TableId) (w : ℕ) (before mid pass : Told) (a : Sees plan lock w before mid) where
  sees_both : Sees plan lock w mid pass → Sees plan lock w before pass
  sees_both b = record {
    of = b.of;
    follows = follows_both before mid pass a.follows b.follows;
    others = a.others ++ b.others;
    apart = others_both w a.others b.others a.apart b.apart;
    log = b.log ∙ ap (λ l. l ++ b.others) a.log ∙ append_assoc (seen_by before) a.others b.others;
  }

  -- a step behind others' entries
  pub steps_behind : (e : Event) → Steps plan lock w e mid pass → Steps plan lock w e before pass
  steps_behind e b =
      let entry : RunEntry = record { event = e; carried = b.what } in
      record {
        of = b.of;
        follows = follows_both before mid pass a.follows b.follows;
        others = a.others ++ b.others;
        apart = others_both w a.others b.others a.apart b.apart;
        what = b.what;
        log = b.log ∙ ap (λ l. l ++ b.others ++ entry ∷ []) a.log ∙ ap (λ l. l ++ entry ∷ []) (append_assoc (seen_by before) a.others b.others);
      }

pub waited_first : (plan : Plan) (lock : TableId) (w : ℕ) (pass : Told) → IsOf plan lock w pass → HasWaited plan lock w pass pass
waited_first plan lock w pass of = record {
  sees = record { of = of; follows = follows_itself plan lock w pass of; others = []; apart = refl; log = sym (append-nil (seen_by pass)) };
  fits = λ told fits. fits;
}

pub waited_more : (plan : Plan) (lock : TableId) (w : ℕ) (before mid pass : Told) → HasWaited plan lock w before mid → Sees plan lock w mid pass → AlwaysFits plan w mid pass → HasWaited plan lock w before pass
waited_more plan lock w before mid pass a sees fits = record { sees = sees_both plan lock w before mid pass a.sees sees; fits = fits_both plan w before mid pass a.fits fits }

-- ---- what it knew

six_late : (c : Course) → nat_eq (stage_at c) 6 ≡ true → IsLate c
six_late idle is = absurd (false≢true is)
six_late (on_course m script last) is = ap (nat_lt 3) (eqb-true (stage_of script) 6 is)
six_late (off_course m file all) is = absurd (false≢true is)

module _ (plan : Plan) (lock : TableId) (w : ℕ) (before mid : Told) (sees : Sees plan lock w before mid) where
  course_same : course_by plan w mid ≡ course_by plan w before
  course_same = ap (λ log. course_of (standing_of_run plan log) w) sees.log ∙ course_stays plan (seen_by before) sees.others w sees.apart

  pub whose_later : (number : ℕ) → module_by plan (seen_by before) w ≡ Some number → module_by plan (seen_by mid) w ≡ Some number
  whose_later number whose = ap module_of course_same ∙ whose

  pub due_later : (d : Deed) → is_due (course_by plan w before) d ≡ true → is_due (course_by plan w mid) d ≡ true
  due_later d due = ap (λ c. is_due c d) course_same ∙ due

  pub take_later : (number : ℕ) (m : PlanModule) → module_by plan (seen_by before) w ≡ Some number → slice_get plan.modules number ≡ Some m
      → FitsTake (nat_eq (stage_at (course_by plan w before)) 6) (stood plan (start_by before) (seen_by before) number m)
      → FitsTake (nat_eq (stage_at (course_by plan w mid)) 6) (stood plan (start_by mid) (seen_by mid) number m)
  take_later number m whose at fits =
      let run : IsRunOf plan (seen_by before ++ sees.others) = subst (IsRunOf plan) sees.log sees.of.run in
      subst (λ c. FitsTake (nat_eq (stage_at c) 6) (stood plan (start_by mid) (seen_by mid) number m)) (sym course_same)
      (subst (λ start. FitsTake (nat_eq (stage_at (course_by plan w before)) 6) (stood plan start (seen_by mid) number m)) (sym (start_same before mid sees.follows))
      (subst (λ log. FitsTake (nat_eq (stage_at (course_by plan w before)) 6) (stood plan (start_by before) log number m)) (sym sees.log)
      (by (nat_eq (stage_at (course_by plan w before)) 6) refl run fits)))
    where
      by : (s : Bool) → nat_eq (stage_at (course_by plan w before)) 6 ≡ s → IsRunOf plan (seen_by before ++ sees.others) → FitsTake s (stood plan (start_by before) (seen_by before) number m)
          → FitsTake s (stood plan (start_by before) (seen_by before ++ sees.others) number m)
      by true six run fits =
          installable plan (seen_by before) sees.others w number m sees.of.sound run whose at
          (has_all plan (seen_by before) sees.others w number m sees.of.sound run sees.apart whose at (six_late (course_by plan w before) six)) sees.apart (start_by before) fits
      by false six run fits = tt
