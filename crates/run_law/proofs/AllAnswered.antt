-- Each goal that a module's ending stands for is answered in the run.
use Rattle.std.proofs.Common.{◌≡◌, ℕ, ◌<◌, Bool, true, false, ◌&&◌, nat_eq, List, [], ◌∷◌, ◌++◌, length, find, slice_get, Some, None, is_some, refl, sym, ap, subst, ◌∙◌, if◌then◌else◌}
use Rattle.std.specs.Option.{option_map_or}
use Rattle.std.proofs.lemmas.Bool.{false≢true}
use Rattle.std.proofs.lemmas.Cmp.{nat_eq_equiv}
use Rattle.mvn_shared.specs.Files.{Files}
use Rattle.build_core.specs.declared.event.Answered.{Answered}
use Rattle.event_core.specs.declared.entry.Carried.{Carried}
use Rattle.event_core.specs.declared.entry.Carried.TheVariants as carried
use Rattle.build_core.specs.declared.ending.Ending.{Ending}
use Rattle.build_core.specs.declared.event.Event.TheVariants as event
use Rattle.build_core.specs.declared.plan.Plan.{Plan}
use Rattle.build_core.specs.declared.plan.PlanModule.{PlanModule}
use Rattle.event_core.specs.declared.module_steps.Progress.TheVariants.{Ended}
use Rattle.event_core.specs.declared.entry.RunEntry.{RunEntry}
use Rattle.event_core.specs.Enabled.{Enabled}
use Rattle.scripts.specs.Outlines.{module_outline, outline_of}
use Rattle.event_core.specs.Runs.{IsRunOf, answers_in, events_of, kept_by, module_by, standing_of_run}
use Rattle.event_core.specs.HowFar.{progress_of}
use Rattle.event_core.specs.Standing.{standing_of}
use Rattle.event_core.specs.Worlds.{AllFit, Fits, HandTold, is_told, is_told_by}
use Rattle.run_law.proofs.Complete.{by_entries, events_more}
use Rattle.event_core.proofs.Fits.{one_more}
use Rattle.run_law.proofs.Kept.{answers_more}
use Rattle.run_law.proofs.Paid.{ArePaid, paid_after, paid_first}
use Rattle.run_law.proofs.Stored.{get_map}
use Rattle.run_law.specs.Given.{is_answer, is_kept, reaches}

module _ (p : Answered → Bool) where
  -- what is found in the front of a list is found in the whole
  pub find_front : (xs ys : List Answered) → is_some (find p xs) ≡ true → is_some (find p (xs ++ ys)) ≡ true
  find_front [] ys is = absurd (false≢true is)
  find_front (x ∷ xs) ys is = by (p x) is (find_front xs ys)
    where
      by : (b : Bool) → is_some (if b then Some x else find p xs) ≡ true → (is_some (find p xs) ≡ true → is_some (find p (xs ++ ys)) ≡ true) → is_some (if b then Some x else find p (xs ++ ys)) ≡ true
      by true is again = refl
      by false is again = again is

  -- and what is found in its end
  find_back : (xs ys : List Answered) → is_some (find p ys) ≡ true → is_some (find p (xs ++ ys)) ≡ true
  find_back [] ys is = is
  find_back (x ∷ xs) ys is = by (p x) (find_back xs ys is)
    where
      by : (b : Bool) → is_some (find p (xs ++ ys)) ≡ true → is_some (if b then Some x else find p (xs ++ ys)) ≡ true
      by true again = refl
      by false again = again

-- an answer to a goal is found in the list of it alone
one_found : (number goal : ℕ) (a : Answered) → a.«module» ≡ number → a.goal ≡ goal → is_some (find (is_answer number goal) (a ∷ [])) ≡ true
one_found number goal a m g = ap (λ b. is_some (if b then Some a else None)) both
  where
    both : is_answer number goal a ≡ true
    both = ap (λ k. nat_eq k number && nat_eq a.goal goal) m ∙ ap (λ b. b && nat_eq a.goal goal) (nat_eq_equiv.refl number) ∙ ap (λ k. nat_eq k goal) g ∙ nat_eq_equiv.refl goal

-- the answer that an entry has to carry is kept
kept_new : (plan : Plan) (past : List RunEntry) (area : Bool) (w goal number : ℕ) (what : Carried) → module_by plan past w ≡ Some number → is_told area (event.Answer w goal) what ≡ true → is_kept (kept_by plan past (event.Answer w goal) what) number goal ≡ true
kept_new plan past area w goal number (carried.Answered answer) whose told =
    subst (λ found. is_kept (option_map_or (λ m. (record { «module» = m; goal = goal; answer = answer }) ∷ []) found []) number goal ≡ true) (sym whose) (one_found number goal (record { «module» = number; goal = goal; answer = answer }) refl refl)
kept_new plan past area w goal number carried.Nothing whose told = absurd (false≢true told)
kept_new plan past area w goal number (carried.Published bytes) whose told = absurd (false≢true told)

abbrev pub Paid : Plan → List RunEntry → Type 0
Paid plan past = ArePaid (outline_of plan) (is_kept (answers_in plan past)) (standing_of_run plan past)

-- that answers are kept goes on behind each entry that fits
pub step_paid : (plan : Plan) (start : Files) (hands : ℕ → HandTold) (past : List RunEntry) (e : RunEntry) → Paid plan past → Enabled (outline_of plan) (events_of past) e.event → Fits plan (Some start) hands past e → Paid plan (past ++ e ∷ [])
unfolding Enabled
step_paid plan start hands past e paid is fits =
    subst (ArePaid (outline_of plan) (is_kept (answers_in plan (past ++ e ∷ [])))) (sym (ap (standing_of (outline_of plan)) (events_more past e) ∙ one_more (outline_of plan) (events_of past) e.event))
    (paid_after (outline_of plan) (is_kept (answers_in plan past)) (is_kept (answers_in plan (past ++ e ∷ []))) grows (standing_of_run plan past) paid e.event is new)
  where
    more : answers_in plan (past ++ e ∷ []) ≡ answers_in plan past ++ kept_by plan past e.event e.carried
    more = answers_more plan past e

    grows : (number goal : ℕ) → is_kept (answers_in plan past) number goal ≡ true → is_kept (answers_in plan (past ++ e ∷ [])) number goal ≡ true
    grows number goal has = ap (λ kept. is_kept kept number goal) more ∙ find_front (is_answer number goal) (answers_in plan past) (kept_by plan past e.event e.carried) has

    new : (w goal number : ℕ) → e.event ≡ event.Answer w goal → module_by plan past w ≡ Some number → is_kept (answers_in plan (past ++ e ∷ [])) number goal ≡ true
    new w goal number same whose =
        ap (λ kept. is_kept kept number goal) more
        ∙ find_back (is_answer number goal) (answers_in plan past) (kept_by plan past e.event e.carried)
        (subst (λ x. is_kept (kept_by plan past x e.carried) number goal ≡ true) (sym same)
        (kept_new plan past (is_told_by (Some start) hands e.event) w goal number e.carried whose (subst (λ x. is_told (is_told_by (Some start) hands e.event) x e.carried ≡ true) same fits.0)))

-- each goal that a module's ending stands for is answered in the run
pub all_answered_in : (plan : Plan) (start : Files) (hands : ℕ → HandTold) (entries : List RunEntry) → IsRunOf plan entries → AllFit plan (Some start) hands [] entries → (number goal : ℕ) (m : PlanModule) (e : Ending) → slice_get plan.modules number ≡ Some m
    → progress_of (standing_of_run plan entries).progress number ≡ Ended e → goal < length m.goals → reaches e goal ≡ true → is_kept (answers_in plan entries) number goal ≡ true
all_answered_in plan start hands entries run fits number goal m e at ends less for =
    (by_entries plan start hands (Paid plan) (step_paid plan start hands) [] entries (paid_first (outline_of plan) (is_kept [])) run fits).over number (module_outline m) e (get_map module_outline plan.modules number m at) ends goal less for
