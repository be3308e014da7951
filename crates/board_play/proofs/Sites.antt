-- A core that has the events of a board's log.
use Rattle.std.proofs.Common.{◌≡◌, ℕ, ◌<◌, true, List, [], ◌∷◌, ◌++◌, Some, sym, subst, ◌∙◌}
use Rattle.std.proofs.lemmas.List.{append-nil, append_assoc}
use Rattle.build_core.specs.declared.mode.Mode.{Mode}
use Rattle.build_core.specs.declared.event.Event.{Event}
use Rattle.build_core.specs.declared.event.Event.TheVariants as event
use Rattle.event_core.specs.Causes.{cause_now}
use Rattle.event_core.specs.Enabled.{Enabled, IsRun, is_due}
use Rattle.event_core.specs.Standing.{course_of, standing_of}
use Rattle.scripts.specs.declared.deed.Deed.TheVariants.{Take}
use Rattle.scripts.specs.declared.outline.Outline.{Outline}
use Rattle.event_core.specs.declared.refused.NotEnabled.{NotEnabled}
use Rattle.event_core.proofs.Law.{cause_none}
use Rattle.event_core.proofs.Weights.{nothing_is}
use Rattle.board.specs.Builds.{Build, MayCome, standing_at}

-- the last event of a run could follow those before it
pub last_came : (o : Outline) (past events : List Event) (e : Event) → IsRun o past (events ++ e ∷ []) → Enabled o (past ++ events) e
last_came o past [] e run = subst (λ t. Enabled o t e) (sym (append-nil past)) run.0
last_came o past (x ∷ events) e run = subst (λ t. Enabled o t e) (append_assoc past (x ∷ []) events) (last_came o (past ++ x ∷ []) events e run.1)

-- an event that may come has no cause
no_why : (o : Outline) (events : List Event) (e : Event) (why : NotEnabled) → Enabled o events e → cause_now o (standing_of o events) e ≡ Some why → ⊥
unfolding Enabled
no_why o events e why is because = nothing_is why (sym (cause_none o (standing_of o events) e is) ∙ because)

-- so the core takes an event that the board's log has more
pub never_refused : (o p : Outline) (events whole : List Event) (e : Event) (why : NotEnabled) → o ≡ p → whole ≡ events ++ e ∷ [] → IsRun p [] whole
    → cause_now o (standing_of o events) e ≡ Some why → ⊥
never_refused o p events whole e why same more run because =
    no_why o events e why (last_came o [] events e (subst (λ t. IsRun o [] t) more (subst (λ q. IsRun q [] whole) (sym same) run))) because

-- a name that may be taken is due
pub take_parts : {S : Type 0} (b : Build S) (w n : ℕ) (mode : Mode) → MayCome b (event.Take w n mode)
    → (w < b.plan.workers) × (is_due (course_of (standing_at b) w) (Take mode n) ≡ true)
unfolding Enabled
take_parts b w n mode is = (is.0, is.4)
