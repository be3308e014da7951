-- Runs that the checker computes: a list of events is a run where no event has a cause against it.
use Rattle.std.proofs.Common.{◌≡◌, Bool, true, ◌&&◌, List, [], ◌∷◌, ◌++◌, Option, Some, None, is_none, refl, sym, subst}
use Rattle.std.proofs.lemmas.Bool.{false≢true}
use Rattle.build_core.specs.declared.event.Event.{Event}
use Rattle.event_core.specs.declared.refused.NotEnabled.{NotEnabled}
use Rattle.scripts.specs.declared.outline.Outline.{Outline}
use Rattle.event_core.specs.Causes.{cause_now}
use Rattle.event_core.specs.Enabled.{Enabled, IsRun}
use Rattle.event_core.specs.Fitting.{IsFit}
use Rattle.event_core.specs.Standing.{Standing, after, at_first, standing_of}
use Rattle.scripts.proofs.Climbs.{both}
use Rattle.event_core.proofs.Fits.{fit_after, fit_first, one_more}
use Rattle.event_core.proofs.Law.{no_cause}

abbrev pub no_causes : Outline → Standing → List Event → Bool
no_causes o now [] = true
no_causes o now (e ∷ events) = is_none (cause_now o now e) && no_causes o (after o now e) events

-- an option without a value is none
none_is : (cause : Option NotEnabled) → is_none cause ≡ true → cause ≡ None
none_is None e = refl
none_is (Some x) e = absurd (false≢true e)

-- where no event has a cause against it, the events are a run
run_from : (o : Outline) (past events : List Event) → IsFit o (standing_of o past) → no_causes o (standing_of o past) events ≡ true → IsRun o past events
unfolding Enabled
run_from o past [] fit none = tt
run_from o past (e ∷ events) fit none =
    let parts = both (is_none (cause_now o (standing_of o past) e)) (no_causes o (after o (standing_of o past) e) events) none in
    let is = no_cause o (standing_of o past) e fit (none_is (cause_now o (standing_of o past) e) parts.0) in
    (is, run_from o (past ++ e ∷ []) events (subst (IsFit o) (sym (one_more o past e)) (fit_after o (standing_of o past) e fit is)) (subst (λ now. no_causes o now events ≡ true) (sym (one_more o past e)) parts.1))

-- so from the beginning
pub run_is : (o : Outline) (events : List Event) → no_causes o (at_first o) events ≡ true → IsRun o [] events
run_is o events none = run_from o [] events (fit_first o) none
