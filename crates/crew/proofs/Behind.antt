-- What holds behind runs, entry by entry.
use Rattle.std.proofs.Common.{◌≡◌, ℕ, List, [], ◌∷◌, ◌++◌, sym, ap, subst, ◌∙◌}
use Rattle.std.proofs.lemmas.List.{append-nil, append_assoc}
use Rattle.build_core.specs.declared.plan.Plan.{Plan}
use Rattle.event_core.specs.Enabled.{Enabled, IsEnabled, IsRun}
use Rattle.scripts.specs.Outlines.{outline_of}
use Rattle.event_core.specs.Runs.{IsRunOf, events_of, standing_of_run}
use Rattle.event_core.specs.Standing.{after, standing_of}
use Rattle.event_core.specs.declared.entry.RunEntry.{RunEntry}
use Rattle.event_core.proofs.Fits.{one_more}
use Rattle.run_law.proofs.Complete.{IsStanding, events_more, standing_after, standing_first}

-- where a build stands behind one entry more
pub stands_more : (plan : Plan) (past : List RunEntry) (e : RunEntry) → standing_of_run plan (past ++ e ∷ []) ≡ after (outline_of plan) (standing_of_run plan past) e.event
stands_more plan past e = ap (standing_of (outline_of plan)) (events_more past e) ∙ one_more (outline_of plan) (events_of past) e.event

-- the step of a claim: it holds behind one entry more, if it held before
abbrev pub Steps : Plan → (List RunEntry → Type 0) → Type 0
Steps plan Q = (past : List RunEntry) (e : RunEntry) → IsRunOf plan past → IsStanding (outline_of plan) (standing_of_run plan past) → Q past → IsEnabled (outline_of plan) (standing_of_run plan past) e.event → Q (past ++ e ∷ [])

-- a run with an entry more is a run
run_more : (plan : Plan) (past : List RunEntry) (e : RunEntry) (front : List RunEntry) → IsRun (outline_of plan) (events_of front) (events_of past) → IsEnabled (outline_of plan) (standing_of_run plan (front ++ past)) e.event → IsRun (outline_of plan) (events_of front) (events_of (past ++ e ∷ []))
unfolding Enabled
run_more plan [] e front run is = (subst (λ es. IsEnabled (outline_of plan) (standing_of_run plan es) e.event) (append-nil front) is, tt)
run_more plan (x ∷ past) e front run is = (
  run.0,
  subst (λ es. IsRun (outline_of plan) es (events_of (past ++ e ∷ []))) (events_more front x)
      (run_more plan past e (front ++ x ∷ []) (subst (λ es. IsRun (outline_of plan) es (events_of past)) (sym (events_more front x)) run.1)
      (subst (λ es. IsEnabled (outline_of plan) (standing_of_run plan es) e.event) (sym (append_assoc front (x ∷ []) past)) is)),
)

behind_from : (plan : Plan) (Q : List RunEntry → Type 0) → Steps plan Q → (past rest : List RunEntry) → IsRunOf plan past → IsStanding (outline_of plan) (standing_of_run plan past) → Q past → IsRun (outline_of plan) (events_of past) (events_of rest) → Q (past ++ rest)
unfolding Enabled
behind_from plan Q step past [] before s holds run = subst Q (sym (append-nil past)) holds
behind_from plan Q step past (e ∷ rest) before s holds run =
    subst Q (append_assoc past (e ∷ []) rest)
    (behind_from plan Q step (past ++ e ∷ []) rest (run_more plan past e [] before run.0)
    (subst (IsStanding (outline_of plan)) (sym (stands_more plan past e)) (standing_after (outline_of plan) (standing_of_run plan past) e.event s run.0))
    (step past e before s holds run.0) (subst (λ es. IsRun (outline_of plan) es (events_of rest)) (sym (events_more past e)) run.1))

-- what holds at first and stays by each entry holds behind every run
pub behind : (plan : Plan) (Q : List RunEntry → Type 0) → Steps plan Q → Q [] → (run : List RunEntry) → IsRunOf plan run → Q run
behind plan Q step first run is = behind_from plan Q step [] run tt (standing_first (outline_of plan)) first is
