-- The answers of a run are those of its trace, each goal's once.
use Rattle.std.proofs.Common.{◌≡◌, ℕ, ◌⊎◌, inl, inr, Bool, true, false, nat_eq, List, [], ◌∷◌, ◌++◌, map, fold, Option, Some, None, Result, refl, sym, ap, subst, ◌∙◌, if◌then◌else◌}
use Rattle.std.specs.List.{IsDistinct}
use Rattle.std.specs.Option.{option_map_or}
use Rattle.std.proofs.lemmas.Bool.{false≢true}
use Rattle.std.proofs.lemmas.List.{append-nil, append_assoc, map-append}
use Rattle.mvn_shared.specs.Files.{Files}
use Rattle.build_core.specs.declared.event.Answered.{Answered}
use Rattle.build_core.specs.declared.event.Event.{Event}
use Rattle.build_core.specs.declared.event.Event.TheVariants as event
use Rattle.build_core.specs.declared.plan.Plan.{Plan}
use Rattle.scripts.specs.declared.deed.Deed.{Deed}
use Rattle.scripts.specs.declared.deed.Deed.TheVariants as deed
use Rattle.event_core.specs.declared.entry.Carried.{Carried}
use Rattle.event_core.specs.declared.entry.Carried.TheVariants as carried
use Rattle.event_core.specs.declared.entry.RunEntry.{RunEntry}
use Rattle.scripts.specs.declared.outline.Outline.{Outline}
use Rattle.event_core.specs.Enabled.{Enabled, IsRun, is_due}
use Rattle.scripts.specs.Outlines.{outline_of}
use Rattle.event_core.specs.Runs.{IsRunOf, answers_from, events_of, kept_by, module_by, standing_of_run}
use Rattle.event_core.specs.Standing.{Course, course_of, module_of}
use Rattle.event_core.specs.Worlds.{AllFit, HandTold, is_told, is_told_by}
use Rattle.run_law.proofs.Complete.{events_more}
use Rattle.run_law.proofs.Stored.{due_on}
use Rattle.turn_lock.specs.Turns.{is_of, open_of, opened_by}
use Rattle.board.specs.Logs.{role, role_of}
use Rattle.run_law.specs.Twice.{same_goal}
use Rattle.run_law.proofs.Answering.{answered_once}
use Rattle.crew_turns.proofs.Opening.{open_is}
use Rattle.cli_words.specs.declared.command_line.CommandLine.{CommandLine}
use Rattle.crew.specs.CrewOutcomes.{start_of, told_of}
use Rattle.build_outcome.specs.declared.outcome.Outcome.{Outcome}
use Rattle.call_plan.specs.Headline.{IsHistory}
use Rattle.call_plan.specs.Seen.{After, Seen, used}
use Rattle.call_laws.specs.Numbered.{AreKeptOnce, AreTheTraces, begins, begun_by, goal_by, goals_from, goals_of_trace, numbers_of}

-- ---- the module that a worker has open is the one that it began last

abbrev IsBehind : Option ℕ → Option ℕ → Type 0
IsBehind has begun = (has ≡ None) ⊎ (has ≡ begun)

-- the module that is open behind an entry
abbrev opens : ℕ → Event → Option ℕ → Option ℕ
opens w e before = if is_of w (role_of e) then opened_by (role_of e) before else before

goes_on : (b : Bool) (has begun : Option ℕ) → IsBehind has begun → IsBehind (if b then has else has) begun
goes_on true has begun is = is
goes_on false has begun is = is

one_more : (w : ℕ) (e : Event) (has begun : Option ℕ) → IsBehind has begun → IsBehind (opens w e has) (begins w begun e)
one_more w (event.Start v m) has begun is = by (nat_eq v w)
  where
    by : (b : Bool) → IsBehind (if b then Some m else has) (if b then Some m else begun)
    by true = inr refl
    by false = is
one_more w (event.Skip m) has begun is = is
one_more w (event.Take v n mode) has begun is = goes_on (nat_eq v w) has begun is
one_more w (event.Free v n) has begun is = goes_on (nat_eq v w) has begun is
one_more w (event.Read v f) has begun is = goes_on (nat_eq v w) has begun is
one_more w (event.Publish v f) has begun is = goes_on (nat_eq v w) has begun is
one_more w (event.Answer v g) has begun is = goes_on (nat_eq v w) has begun is
one_more w (event.End v x) has begun is = by (nat_eq v w)
  where
    by : (b : Bool) → IsBehind (if b then None else has) begun
    by true = inl refl
    by false = is

all_more : (w : ℕ) (log : List RunEntry) (has begun : Option ℕ) → IsBehind has begun
    → IsBehind (fold (λ before (e : RunEntry). opens w e.event before) has log) (fold (begins w) begun (events_of log))
all_more w [] has begun is = is
all_more w (e ∷ log) has begun is = all_more w log (opens w e.event has) (begins w begun e.event) (one_more w e.event has begun is)

none_some : (m : ℕ) → ◌≡◌ {A = Option ℕ} None (Some m) → ⊥
none_some m e = cc

begun_is : (w m : ℕ) (log : List RunEntry) → open_of role w log ≡ Some m → begun_by w (events_of log) ≡ Some m
begun_is w m log has = by (all_more w log None None (inl refl))
  where
    by : IsBehind (open_of role w log) (begun_by w (events_of log)) → begun_by w (events_of log) ≡ Some m
    by (inl none) = absurd (none_some m (sym none ∙ has))
    by (inr same) = sym same ∙ has

-- ---- what an event keeps

-- a worker with a deed that is due builds a module
module_there : (c : Course) (d : Deed) → is_due c d ≡ true → (m : ℕ) × (module_of c ≡ Some m)
module_there c d is = let at = due_on c d is in (at.0, ap module_of at.3)

one_kept : (plan : Plan) (past : List RunEntry) (told : Bool) (e : Event) (what : Carried) → IsRunOf plan past → Enabled (outline_of plan) (events_of past) e → is_told told e what ≡ true
    → numbers_of (kept_by plan past e what) ≡ goal_by (events_of past) e
unfolding Enabled
one_kept plan past told (event.Start w m) what run may is = refl
one_kept plan past told (event.Skip m) what run may is = refl
one_kept plan past told (event.Take w n mode) what run may is = refl
one_kept plan past told (event.Free w n) what run may is = refl
one_kept plan past told (event.Read w f) what run may is = refl
one_kept plan past told (event.Publish w f) what run may is = refl
one_kept plan past told (event.End w x) what run may is = refl
one_kept plan past told (event.Answer w goal) carried.Nothing run may is = absurd (false≢true is)
one_kept plan past told (event.Answer w goal) (carried.Published bytes) run may is = absurd (false≢true is)
one_kept plan past told (event.Answer w goal) (carried.Answered answer) run may is =
    let there = module_there (course_of (standing_of_run plan past) w) (deed.Answer goal) may.2 in
    let has : module_by plan past w ≡ Some there.0 = there.1 in
    let begun : begun_by w (events_of past) ≡ Some there.0 = begun_is w there.0 past (open_is plan w past run ∙ has) in
    ap (λ (o : Option ℕ). numbers_of (option_map_or (λ m. (record { «module» = m; goal = goal; answer = answer }) ∷ []) o [])) has
    ∙ sym (ap (λ (o : Option ℕ). option_map_or (λ m. (m, goal) ∷ []) o []) begun)

-- ---- what a run keeps

run_more : (o : Outline) (front es : List Event) (e : Event) → IsRun o front es → Enabled o (front ++ es) e → IsRun o front (es ++ e ∷ [])
run_more o front [] e run may = (subst (λ xs. Enabled o xs e) (append-nil front) may, tt)
run_more o front (x ∷ es) e run may = (run.0, run_more o (front ++ x ∷ []) es e run.1 (subst (λ xs. Enabled o xs e) (sym (append_assoc front (x ∷ []) es)) may))

module _ (plan : Plan) (start : Option Files) (hands : ℕ → HandTold) where
  numbered : (past rest : List RunEntry) → IsRunOf plan past → IsRun (outline_of plan) (events_of past) (events_of rest) → AllFit plan start hands past rest → numbers_of (answers_from plan past rest) ≡ goals_from (events_of past) (events_of rest)
  numbered past [] run more fits = refl
  numbered past (e ∷ rest) run more fits =
      let fit = fits.0 in
      let one = one_kept plan past (is_told_by start hands e.event) e.event e.carried run more.0 fit.0 in
      let next : IsRunOf plan (past ++ e ∷ []) = subst (IsRun (outline_of plan) []) (sym (events_more past e)) (run_more (outline_of plan) [] (events_of past) e.event run more.0) in
      let again = numbered (past ++ e ∷ []) rest next (subst (λ es. IsRun (outline_of plan) es (events_of rest)) (sym (events_more past e)) more.1) fits.1 in
      map-append (λ (a : Answered). (a.«module», a.goal)) (kept_by plan past e.event e.carried) (answers_from plan (past ++ e ∷ []) rest)
      ∙ ap (λ xs. xs ++ numbers_of (answers_from plan (past ++ e ∷ []) rest)) one
      ∙ ap (λ xs. goal_by (events_of past) e.event ++ xs) (again ∙ ap (λ es. goals_from es (events_of rest)) (events_more past e))

-- ---- a call

distinct_none : IsDistinct same_goal []
unfolding IsDistinct
distinct_none = tt

module _ (asked : Result CommandLine Outcome) (seen : Seen) (after : After) (trace : List Event) (answers : List Answered) where
  pub in_order : IsHistory asked seen after trace answers → numbers_of answers ≡ goals_of_trace trace
  in_order (inl idle) = ap numbers_of idle.1 ∙ sym (ap goals_of_trace idle.0)
  in_order (inr (line, p, run, is, found, call)) =
      let crew = call.crew in
      ap numbers_of call.kept
      ∙ numbered p.plan (start_of seen.outside.shelf) (told_of (used asked seen.outside).hands) [] run tt crew.follows crew.fits
      ∙ sym (ap goals_of_trace call.events)

  pub kept_once : IsHistory asked seen after trace answers → AreKeptOnce answers
  kept_once (inl idle) = subst AreKeptOnce (sym idle.1) distinct_none
  kept_once (inr (line, p, run, is, found, call)) = let crew = call.crew in subst AreKeptOnce (sym call.kept) (answered_once p.plan run crew.follows)

  -- both of a call's answers
  pub of_the_trace : IsHistory asked seen after trace answers → AreTheTraces trace answers
  of_the_trace history = record { order = in_order history; once = kept_once history }
